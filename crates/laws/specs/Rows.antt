-- The five calls seen from the row: the accesses of each that could change it, and the row after it.
use Rattle.std.specs.Prelude.{◌≡◌, ℕ, ◌-◌, Bool, List, [], ◌∷◌, map, length, Some, None, Option}
use Rattle.protocol.specs.declared.numbers.Refusal.{Refusal}
use Rattle.protocol.specs.declared.table.Activity.{Activity}
use Rattle.protocol.specs.declared.table.Activity.TheVariants.{Resting, Open, Waiting}
use Rattle.protocol.specs.declared.table.Table.{Table}
use Rattle.protocol.specs.declared.moves.Access.{Access}
use Rattle.protocol.specs.declared.moves.Access.TheVariants.{Nothing, Store}
use Rattle.protocol.specs.Fields.{runner_at, activity}
use Rattle.protocol.specs.Plan.{planned}
use Rattle.protocol.specs.Settle.{performed}
use Rattle.protocol.specs.Make.{make_stores}
use Rattle.protocol.specs.Rebuild.{size_refusal}
use Rattle.protocol.specs.Calls.{made, stepped, runner_refusal}

-- A call with what it is given: make and rebuild a count of runners; begin a runner, an operation, a key and a value; step and collect a runner.
pub data Call : Type 0 where
  Make : ℕ → Call
  Rebuild : ℕ → Call
  Begin : ℕ → ℕ → ℕ → ℕ → Call
  Step : ℕ → Call
  Collect : ℕ → Call

-- The row after a call. Rebuild, begin and collect are defined on the table alone: they have no row to give, and the row stays.
abbrev pub row_after : (ℕ → ℕ → Bool) → List ℕ → Table → Call → List ℕ
row_after before ws t (Make n) = (made ws t n).0
row_after before ws t (Rebuild n) = ws
row_after before ws t (Begin r o k v) = ws
row_after before ws t (Step r) = (stepped before ws t r).0
row_after before ws t (Collect r) = ws

-- The access of a step is that of its move; a step that is sent back makes none.
abbrev pub step_access_by : (ℕ → ℕ → Bool) → List ℕ → Table → ℕ → Activity → Access
step_access_by before ws t i Resting = Nothing
step_access_by before ws t i Open = (planned before ws t i (runner_at t i)).access
step_access_by before ws t i (Waiting a v) = Nothing

abbrev pub step_access_unless : (ℕ → ℕ → Bool) → List ℕ → Table → ℕ → Option Refusal → Access
step_access_unless before ws t i (Some e) = Nothing
step_access_unless before ws t i None = step_access_by before ws t i (activity (runner_at t i).stage)

abbrev pub step_access : (ℕ → ℕ → Bool) → List ℕ → Table → ℕ → Access
step_access before ws t r = step_access_unless before ws t (r - 1) (runner_refusal t r)

abbrev pub store_of : ℕ × ℕ → Access
store_of s = Store s.0 s.1

-- Make's accesses are its stores in their order; a make that is sent back has none.
abbrev pub make_accesses : Option Refusal → List Access
make_accesses (Some e) = []
make_accesses None = map store_of make_stores

-- What a call does to the row, access by access. Free reads are left out.
abbrev pub accesses : (ℕ → ℕ → Bool) → List ℕ → Table → Call → List Access
accesses before ws t (Make n) = make_accesses (size_refusal ws n)
accesses before ws t (Rebuild n) = []
accesses before ws t (Begin r o k v) = []
accesses before ws t (Step r) = step_access before ws t r ∷ []
accesses before ws t (Collect r) = []

-- The row after some accesses.
unfoldable pub all_performed : List ℕ → List Access → List ℕ
all_performed ws [] = ws
all_performed ws (a ∷ rest) = all_performed (performed ws a) rest

-- The row after a call is what its accesses make of it.
abbrev pub RowsByAccesses : Type 0
RowsByAccesses = (before : ℕ → ℕ → Bool) (ws : List ℕ) (t : Table) (c : Call) → row_after before ws t c ≡ all_performed ws (accesses before ws t c)

-- No call changes the count of words.
abbrev pub RowsKeepLength : Type 0
RowsKeepLength = (before : ℕ → ℕ → Bool) (ws : List ℕ) (t : Table) (c : Call) → length (row_after before ws t c) ≡ length ws
