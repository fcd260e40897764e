-- The five calls: what each answers, and row and table after it. A call that is sent back leaves both as they stood.
use Rattle.std.specs.Prelude.{ℕ, ◌+◌, ◌-◌, Bool, true, false, cond, ◌&&◌, List, Some, None, Ok, Err, Option, Result, ◌==◌, nat_le}
use Rattle.protocol.specs.declared.numbers.Operation.{Operation}
use Rattle.protocol.specs.declared.numbers.Operation.TheVariants.{Enter, Change, Remove, Look}
use Rattle.protocol.specs.declared.numbers.Answer.{Answer}
use Rattle.protocol.specs.declared.numbers.Refusal.{Refusal}
use Rattle.protocol.specs.declared.numbers.Refusal.TheVariants.{Closed, NoSuchRunner, Busy, NoSuchOperation, NotAKey, BeingEntered, NumbersSpent, IdleRunner, AlreadyAnswered, StillOpen}
use Rattle.protocol.specs.declared.table.Stage.TheVariants.{Locating}
use Rattle.protocol.specs.declared.table.Activity.{Activity}
use Rattle.protocol.specs.declared.table.Activity.TheVariants.{Resting, Open, Waiting}
use Rattle.protocol.specs.declared.table.Runner.{Runner}
use Rattle.protocol.specs.declared.table.Table.{Table}
use Rattle.protocol.specs.declared.moves.Move.{Move}
use Rattle.protocol.specs.Numbers.{operation_of}
use Rattle.values.specs.ValueWord.{fresh_word}
use Rattle.protocol.specs.Fields.{idle_runner, runner_at, with_runner, activity}
use Rattle.protocol.specs.Search.{first_from, is_some}
use Rattle.protocol.specs.Plan.{planned}
use Rattle.protocol.specs.Settle.{performed, outcome, settled}
use Rattle.protocol.specs.Make.{made_row, made_table}
use Rattle.protocol.specs.Rebuild.{size_refusal, surveyed}

-- What a call answers that gives nothing more.
abbrev pub Said : Type 0
Said = Result (Unit {0}) Refusal

-- Make: refused for length or runners, else the row and the table of a new book.
abbrev pub made_unless : List ℕ → Table → ℕ → Option Refusal → List ℕ × Table × Said
made_unless ws t n (Some e) = (ws, t, Err e)
made_unless ws t n None = (made_row ws, made_table n, Ok tt)

abbrev pub made : List ℕ → Table → ℕ → List ℕ × Table × Said
made ws t n = made_unless ws t n (size_refusal ws n)

-- Rebuild: the table that is found in the row, with nothing stored.
abbrev pub rebuilt_as : Table → Result Table Refusal → Table × Said
rebuilt_as t (Err e) = (t, Err e)
rebuilt_as t (Ok u) = (u, Ok tt)

abbrev pub rebuilt : (ℕ → Bool) → (ℕ → ℕ → Bool) → List ℕ → Table → ℕ → Table × Said
rebuilt key before ws t n = rebuilt_as t (surveyed key before ws n)

-- Begin, step and collect want an open book, then a runner from 1 to the count given.
abbrev pub runner_refusal : Table → ℕ → Option Refusal
runner_refusal t r = cond t.opened (cond (nat_le 1 r && nat_le r t.count) None (Some NoSuchRunner)) (Some Closed)

-- Enter and change carry a value and draw a change number.
abbrev pub draws : Operation → Bool
draws Enter = true
draws Change = true
draws Remove = false
draws Look = false

abbrev pub is_enter : Operation → Bool
is_enter Enter = true
is_enter Change = false
is_enter Remove = false
is_enter Look = false

abbrev pub is_open : Activity → Bool
is_open Resting = false
is_open Open = true
is_open (Waiting a v) = false

abbrev pub is_resting : Activity → Bool
is_resting Resting = true
is_resting Open = false
is_resting (Waiting a v) = false

-- Whether runner i is an open enter of the key.
abbrev pub enters : Table → ℕ → ℕ → Bool
enters t k i = is_enter (runner_at t i).operation && (runner_at t i).key == k && is_open (activity (runner_at t i).stage)

-- The runner's record is set, and with it the change number drawn last.
abbrev pub started : Table → ℕ → Runner → ℕ → Table
started t i x last = record {
  opened = t.opened;
  count = t.count;
  runners = (with_runner t i x).runners;
  first = t.first;
  pages = t.pages;
  split = t.split;
  round = t.round;
  last = last;
}

-- The operation starts at locating; an enter's or a change's word has the next change number and the value, its mark clear.
abbrev pub begun_as : Table → ℕ → Operation → ℕ → ℕ → Table
begun_as t i o k v =
    cond (draws o)
    (started t i (record { operation = o; key = k; word = fresh_word (t.last + 1) v; stage = Locating }) (t.last + 1))
    (started t i (record { operation = o; key = k; word = 0; stage = Locating }) t.last)

-- A change number is left to draw, 2147483647 being the last.
abbrev pub begun_drawing : Table → ℕ → ℕ → ℕ → Operation → Table × Said
begun_drawing t i k v o = cond (draws o && nat_le 2147483647 t.last) (t, Err NumbersSpent) (begun_as t i o k v, Ok tt)

-- The key is a key, and an enter's is in no other open enter.
abbrev pub begun_with : (ℕ → Bool) → Table → ℕ → ℕ → ℕ → Operation → Table × Said
begun_with key t i k v o =
    cond (key k) (cond (is_enter o && is_some (first_from (enters t k) 0 8)) (t, Err BeingEntered) (begun_drawing t i k v o)) (t, Err NotAKey)

abbrev pub begun_for : (ℕ → Bool) → Table → ℕ → ℕ → ℕ → Option Operation → Table × Said
begun_for key t i k v None = (t, Err NoSuchOperation)
begun_for key t i k v (Some o) = begun_with key t i k v o

-- The runner is idle.
abbrev pub begun_unless : (ℕ → Bool) → Table → ℕ → ℕ → ℕ → ℕ → Option Refusal → Table × Said
begun_unless key t i o k v (Some e) = (t, Err e)
begun_unless key t i o k v None = cond (is_resting (activity (runner_at t i).stage)) (begun_for key t i k v (operation_of o)) (t, Err Busy)

-- Begin: runner r, counted from 1, starts operation number o with key k and value v.
abbrev pub begun : (ℕ → Bool) → Table → ℕ → ℕ → ℕ → ℕ → Table × Said
begun key t r o k v = begun_unless key t (r - 1) o k v (runner_refusal t r)

-- A move: its access is made, then the table settled by what it gave.
abbrev pub moved : List ℕ → Table → Move → List ℕ × Table × Said
moved ws t m = (performed ws m.access, settled t m (outcome ws m.access), Ok tt)

-- A step wants an open operation.
abbrev pub stepped_by : (ℕ → ℕ → Bool) → List ℕ → Table → ℕ → Activity → List ℕ × Table × Said
stepped_by before ws t i Resting = (ws, t, Err IdleRunner)
stepped_by before ws t i Open = moved ws t (planned before ws t i (runner_at t i))
stepped_by before ws t i (Waiting a v) = (ws, t, Err AlreadyAnswered)

abbrev pub stepped_unless : (ℕ → ℕ → Bool) → List ℕ → Table → ℕ → Option Refusal → List ℕ × Table × Said
stepped_unless before ws t i (Some e) = (ws, t, Err e)
stepped_unless before ws t i None = stepped_by before ws t i (activity (runner_at t i).stage)

-- Step: the next step of runner r, counted from 1.
abbrev pub stepped : (ℕ → ℕ → Bool) → List ℕ → Table → ℕ → List ℕ × Table × Said
stepped before ws t r = stepped_unless before ws t (r - 1) (runner_refusal t r)

-- A collect wants a waiting answer; the runner is then idle.
abbrev pub collected_by : Table → ℕ → Activity → Table × Result (Answer × ℕ) Refusal
collected_by t i Resting = (t, Err IdleRunner)
collected_by t i Open = (t, Err StillOpen)
collected_by t i (Waiting a v) = (with_runner t i idle_runner, Ok (a, v))

abbrev pub collected_unless : Table → ℕ → Option Refusal → Table × Result (Answer × ℕ) Refusal
collected_unless t i (Some e) = (t, Err e)
collected_unless t i None = collected_by t i (activity (runner_at t i).stage)

-- Collect: the answer of runner r, counted from 1, and its value.
abbrev pub collected : Table → ℕ → Table × Result (Answer × ℕ) Refusal
collected t r = collected_unless t (r - 1) (runner_refusal t r)
