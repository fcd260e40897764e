-- Acting, pending, comparing and reading: what change, remove and look do at the page they hold.
use Rattle.std.specs.Prelude.{ℕ, Bool, List, Some, None, Option}
use Rattle.protocol.specs.declared.numbers.Operation.{Operation}
use Rattle.protocol.specs.declared.numbers.Operation.TheVariants.{Enter, Change, Remove, Look}
use Rattle.protocol.specs.declared.numbers.Answer.{Answer}
use Rattle.protocol.specs.declared.numbers.Answer.TheVariants.{Done, NotThere}
use Rattle.protocol.specs.declared.table.Stage.{Stage}
use Rattle.protocol.specs.declared.table.Stage.TheVariants.{Idle, Locating, WritingValue, WritingKey, Committing, Helping, Acting, PendingNew, PendingOld, PendingSwap, PendingRemove, Comparing, ComparingSwap, Reading, Answered}
use Rattle.protocol.specs.declared.table.Runner.{Runner}
use Rattle.protocol.specs.declared.table.Split.{Split}
use Rattle.protocol.specs.declared.table.Table.{Table}
use Rattle.protocol.specs.declared.moves.Access.TheVariants.{Load, Store, Swap}
use Rattle.protocol.specs.declared.moves.RunnerNext.TheVariants.{AnswerLoaded, CompareLoaded, JudgeLoaded, PendLoaded, WeighLoaded, BySwap}
use Rattle.protocol.specs.declared.moves.Move.{Move}
use Rattle.protocol.specs.Layout.{key_at, value_at}
use Rattle.protocol.specs.Fields.{page_at}
use Rattle.protocol.specs.Search.{found, new_page, new_slot}
use Rattle.values.specs.ValueWord.{cleared}
use Rattle.protocol.specs.Moves.{moves, goes, turns, answers, rests}

-- Found, with no split of the page or in its copy phase: change stores its word, remove stores 0 as key, look loads; each is done.
abbrev pub acting_found : ℕ → Runner → ℕ → ℕ → Operation → Move
acting_found r x p i Enter = rests r
acting_found r x p i Change = goes r (Store (value_at p i) x.word) (Answered Done 0)
acting_found r x p i Remove = goes r (Store (key_at p i) 0) (Answered Done 0)
acting_found r x p i Look = moves r (Load (value_at p i)) AnswerLoaded

-- Not found is answered not there.
abbrev pub acting_page : ℕ → Runner → ℕ → Option ℕ → Move
acting_page r x p None = answers r NotThere
acting_page r x p (Some i) = acting_found r x p i x.operation

abbrev pub acting : List ℕ → Table → ℕ → Runner → ℕ → Move
acting ws t r x p = acting_page r x p (found ws (page_at t p).committed p x.key)

-- Found in the sync phase: change and remove store in the old slot and become pending; look loads the old word and goes to comparing.
abbrev pub syncing_found : ℕ → Runner → ℕ → ℕ → Operation → Move
syncing_found r x p i Enter = rests r
syncing_found r x p i Change = goes r (Store (value_at p i) x.word) (PendingNew p i)
syncing_found r x p i Remove = goes r (Store (key_at p i) 0) (PendingRemove p)
syncing_found r x p i Look = moves r (Load (value_at p i)) (CompareLoaded p)

-- 0 is stored over the new key unless it is gone, and the runner is answered.
abbrev pub clearing_slot : ℕ → ℕ → Answer → Option ℕ → Move
clearing_slot r q a None = answers r a
clearing_slot r q a (Some n) = goes r (Store (key_at q n) 0) (Answered a 0)

abbrev pub clearing_new : (ℕ → ℕ → Bool) → List ℕ → Split → ℕ → ℕ → Answer → Move
clearing_new before ws s r k a = clearing_slot r (new_page before s k) a (new_slot before ws s k)

-- Not found in the sync phase: the new key is cleared, and the answer is not there.
abbrev pub syncing_page : (ℕ → ℕ → Bool) → List ℕ → Split → ℕ → Runner → ℕ → Option ℕ → Move
syncing_page before ws s r x p None = clearing_new before ws s r x.key NotThere
syncing_page before ws s r x p (Some i) = syncing_found r x p i x.operation

abbrev pub acting_in_sync : (ℕ → ℕ → Bool) → List ℕ → Table → Split → ℕ → Runner → ℕ → Move
acting_in_sync before ws t s r x p = syncing_page before ws s r x p (found ws (page_at t p).committed p x.key)

-- Reading: gone is answered not there, else the new word is loaded and its value answered.
abbrev pub reading_slot : ℕ → ℕ → Option ℕ → Move
reading_slot r q None = answers r NotThere
reading_slot r q (Some n) = moves r (Load (value_at q n)) AnswerLoaded

abbrev pub reading : (ℕ → ℕ → Bool) → List ℕ → Split → ℕ → Runner → Move
reading before ws s r x = reading_slot r (new_page before s x.key) (new_slot before ws s x.key)

-- In the link phase change and remove let go and turn to helping; look does a reading step.
abbrev pub linking_as : (ℕ → ℕ → Bool) → List ℕ → Split → ℕ → Runner → Operation → Move
linking_as before ws s r x Enter = rests r
linking_as before ws s r x Change = turns r Helping
linking_as before ws s r x Remove = turns r Helping
linking_as before ws s r x Look = reading before ws s r x

abbrev pub acting_in_link : (ℕ → ℕ → Bool) → List ℕ → Split → ℕ → Runner → Move
acting_in_link before ws s r x = linking_as before ws s r x x.operation

-- A pending change first loads the new word; it is done if its key is gone.
abbrev pub pending_new : ℕ → ℕ → ℕ → ℕ → Option ℕ → Move
pending_new r q p i None = answers r Done
pending_new r q p i (Some n) = moves r (Load (value_at q n)) (PendLoaded p i n)

-- A pending change loads the new word, then the old one from the slot that it stored in, then swaps the old word, mark clear, in for the new one. A pending remove clears the new key.
abbrev pub pending_at : (ℕ → ℕ → Bool) → List ℕ → Split → ℕ → Runner → Stage → Move
pending_at before ws s r x Idle = rests r
pending_at before ws s r x Locating = rests r
pending_at before ws s r x (WritingValue p i) = rests r
pending_at before ws s r x (WritingKey p i) = rests r
pending_at before ws s r x (Committing p i) = rests r
pending_at before ws s r x Helping = rests r
pending_at before ws s r x (Acting p) = rests r
pending_at before ws s r x (PendingNew p i) = pending_new r (new_page before s x.key) p i (new_slot before ws s x.key)
pending_at before ws s r x (PendingOld p i n w) = moves r (Load (value_at p i)) (WeighLoaded p i n w)
pending_at before ws s r x (PendingSwap p i n w o) =
    moves r (Swap (value_at (new_page before s x.key) n) w (cleared o)) (BySwap (Answered Done 0) (PendingNew p i))
pending_at before ws s r x (PendingRemove p) = clearing_new before ws s r x.key Done
pending_at before ws s r x (Comparing p o) = rests r
pending_at before ws s r x (ComparingSwap p n w o) = rests r
pending_at before ws s r x (Reading p) = rests r
pending_at before ws s r x (Answered a v) = rests r

abbrev pub pending : (ℕ → ℕ → Bool) → List ℕ → Split → ℕ → Runner → Move
pending before ws s r x = pending_at before ws s r x x.stage

-- A comparing look first loads the new word; it is not there if gone.
abbrev pub comparing_slot : ℕ → ℕ → ℕ → ℕ → Option ℕ → Move
comparing_slot r q p o None = answers r NotThere
comparing_slot r q p o (Some n) = moves r (Load (value_at q n)) (JudgeLoaded p n o)

abbrev pub comparing : (ℕ → ℕ → Bool) → List ℕ → Split → ℕ → Runner → ℕ → ℕ → Move
comparing before ws s r x p o = comparing_slot r (new_page before s x.key) p o (new_slot before ws s x.key)

-- Its second step swaps the old word, mark clear, in for the new one, and goes to reading.
abbrev pub comparing_swap : (ℕ → ℕ → Bool) → Split → ℕ → Runner → ℕ → ℕ → ℕ → ℕ → Move
comparing_swap before s r x p n w o = goes r (Swap (value_at (new_page before s x.key) n) w (cleared o)) (Reading p)
