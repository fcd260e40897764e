-- A runner's step: its own stage together with the phase of the split decide.
use Rattle.std.specs.Prelude.{ℕ, Bool, List, Some, None, Option}
use Rattle.protocol.specs.declared.numbers.Answer.TheVariants.{Done}
use Rattle.protocol.specs.declared.table.Stage.{Stage}
use Rattle.protocol.specs.declared.table.Stage.TheVariants.{Idle, Locating, WritingValue, WritingKey, Committing, Helping, Acting, PendingNew, PendingOld, PendingSwap, PendingRemove, Comparing, ComparingSwap, Reading, Answered}
use Rattle.protocol.specs.declared.table.Runner.{Runner}
use Rattle.protocol.specs.declared.table.Split.{Split}
use Rattle.protocol.specs.declared.table.Standing.{Standing}
use Rattle.protocol.specs.declared.table.Standing.TheVariants.{Whole, InCopy, InSync, InLink, Left}
use Rattle.protocol.specs.declared.table.Table.{Table}
use Rattle.protocol.specs.declared.moves.Access.TheVariants.{Nothing, Store}
use Rattle.protocol.specs.declared.moves.RunnerNext.TheVariants.{Go}
use Rattle.protocol.specs.declared.moves.TableNext.TheVariants.{Commit}
use Rattle.protocol.specs.declared.moves.Move.{Move}
use Rattle.protocol.specs.Layout.{key_at, value_at}
use Rattle.protocol.specs.Fields.{held, held_standing}
use Rattle.protocol.specs.Moves.{goes, turns, rests}
use Rattle.protocol.specs.Locate.{locating}
use Rattle.protocol.specs.Act.{acting, acting_in_sync, acting_in_link, pending, comparing, comparing_swap, reading}
use Rattle.protocol.specs.Split.{split_step}

-- Helping: one split step; with no split underway, a locating step.
abbrev pub helping : (ℕ → ℕ → Bool) → List ℕ → Table → ℕ → Runner → Option Split → Move
helping before ws t r x (Some s) = split_step before ws t r s
helping before ws t r x None = locating before ws t r x

-- The slot is committed and the enter is done.
abbrev pub commits : ℕ → ℕ → ℕ → Move
commits r p i = record { runner = r; access = Nothing; own = Go (Answered Done 0); rest = Commit p i }

-- Writing: if the page is splitting or has left the list, the step only lets go and turns to helping.
abbrev pub writing : ℕ → Move → Standing → Move
writing r m Whole = m
writing r m InCopy = turns r Helping
writing r m (InSync s) = turns r Helping
writing r m (InLink s) = turns r Helping
writing r m Left = turns r Helping

-- Acting, by how the page stands; a page that has left the list makes this a locating step.
abbrev pub acting_in : (ℕ → ℕ → Bool) → List ℕ → Table → ℕ → Runner → ℕ → Standing → Move
acting_in before ws t r x p Whole = acting ws t r x p
acting_in before ws t r x p InCopy = acting ws t r x p
acting_in before ws t r x p (InSync s) = acting_in_sync before ws t s r x p
acting_in before ws t r x p (InLink s) = acting_in_link before ws s r x
acting_in before ws t r x p Left = locating before ws t r x

-- Pending belongs to the sync and link phases of the page.
abbrev pub pending_in : (ℕ → ℕ → Bool) → List ℕ → Table → ℕ → Runner → Standing → Move
pending_in before ws t r x Whole = locating before ws t r x
pending_in before ws t r x InCopy = locating before ws t r x
pending_in before ws t r x (InSync s) = pending before ws s r x
pending_in before ws t r x (InLink s) = pending before ws s r x
pending_in before ws t r x Left = locating before ws t r x

-- Comparing becomes reading in the link phase, and locating once the page has left the list.
abbrev pub comparing_in : (ℕ → ℕ → Bool) → List ℕ → Table → ℕ → Runner → ℕ → ℕ → Standing → Move
comparing_in before ws t r x p o Whole = locating before ws t r x
comparing_in before ws t r x p o InCopy = locating before ws t r x
comparing_in before ws t r x p o (InSync s) = comparing before ws s r x p o
comparing_in before ws t r x p o (InLink s) = reading before ws s r x
comparing_in before ws t r x p o Left = locating before ws t r x

abbrev pub comparing_swap_in : (ℕ → ℕ → Bool) → List ℕ → Table → ℕ → Runner → ℕ → ℕ → ℕ → ℕ → Standing → Move
comparing_swap_in before ws t r x p n w o Whole = locating before ws t r x
comparing_swap_in before ws t r x p n w o InCopy = locating before ws t r x
comparing_swap_in before ws t r x p n w o (InSync s) = comparing_swap before s r x p n w o
comparing_swap_in before ws t r x p n w o (InLink s) = reading before ws s r x
comparing_swap_in before ws t r x p n w o Left = locating before ws t r x

-- Reading becomes locating once the page has left the list.
abbrev pub reading_in : (ℕ → ℕ → Bool) → List ℕ → Table → ℕ → Runner → Standing → Move
reading_in before ws t r x Whole = locating before ws t r x
reading_in before ws t r x InCopy = locating before ws t r x
reading_in before ws t r x (InSync s) = reading before ws s r x
reading_in before ws t r x (InLink s) = reading before ws s r x
reading_in before ws t r x Left = locating before ws t r x

-- The step of runner r with record x, by its stage and by how its held page stands.
abbrev pub planned_at : (ℕ → ℕ → Bool) → List ℕ → Table → ℕ → Runner → Stage → Standing → Move
planned_at before ws t r x Idle u = rests r
planned_at before ws t r x Locating u = locating before ws t r x
planned_at before ws t r x (WritingValue p i) u = writing r (goes r (Store (value_at p i) x.word) (WritingKey p i)) u
planned_at before ws t r x (WritingKey p i) u = writing r (goes r (Store (key_at p i) x.key) (Committing p i)) u
planned_at before ws t r x (Committing p i) u = writing r (commits r p i) u
planned_at before ws t r x Helping u = helping before ws t r x t.split
planned_at before ws t r x (Acting p) u = acting_in before ws t r x p u
planned_at before ws t r x (PendingNew p i) u = pending_in before ws t r x u
planned_at before ws t r x (PendingOld p i n w) u = pending_in before ws t r x u
planned_at before ws t r x (PendingSwap p i n w o) u = pending_in before ws t r x u
planned_at before ws t r x (PendingRemove p) u = pending_in before ws t r x u
planned_at before ws t r x (Comparing p o) u = comparing_in before ws t r x p o u
planned_at before ws t r x (ComparingSwap p n w o) u = comparing_swap_in before ws t r x p n w o u
planned_at before ws t r x (Reading p) u = reading_in before ws t r x u
planned_at before ws t r x (Answered a v) u = rests r

abbrev pub planned : (ℕ → ℕ → Bool) → List ℕ → Table → ℕ → Runner → Move
planned before ws t r x = planned_at before ws t r x x.stage (held_standing t (held x.stage))
