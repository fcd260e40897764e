-- Which word a step writes, if any, by the runner's stage and by how its held page stands to the split.
use Rattle.std.specs.Prelude.{◌≡◌, ℕ, ◌-◌, Bool, cond, List, Some, None, Option, ◌==◌, nat_lt}
use Rattle.protocol.specs.declared.numbers.Operation.{Operation}
use Rattle.protocol.specs.declared.numbers.Operation.TheVariants.{Enter, Change, Remove, Look}
use Rattle.protocol.specs.declared.numbers.Refusal.{Refusal}
use Rattle.protocol.specs.declared.table.Stage.{Stage}
use Rattle.protocol.specs.declared.table.Stage.TheVariants.{Idle, Locating, WritingValue, WritingKey, Committing, Helping, Acting, PendingNew, PendingOld, PendingSwap, PendingRemove, Comparing, ComparingSwap, Reading, Answered}
use Rattle.protocol.specs.declared.table.Activity.{Activity}
use Rattle.protocol.specs.declared.table.Activity.TheVariants.{Resting, Open, Waiting}
use Rattle.protocol.specs.declared.table.Runner.{Runner}
use Rattle.protocol.specs.declared.table.Progress.{Progress}
use Rattle.protocol.specs.declared.table.Progress.TheVariants.{Clearing, LeftNext, LeftLow, RightNext, RightLow, Copying, CopyingValue, CopyingKey, Syncing, SyncingNew, SyncingSwap, Linking, Finishing}
use Rattle.protocol.specs.declared.table.Split.{Split}
use Rattle.protocol.specs.declared.table.Standing.{Standing}
use Rattle.protocol.specs.declared.table.Standing.TheVariants.{Whole, InCopy, InSync, InLink, Left}
use Rattle.protocol.specs.declared.table.Table.{Table}
use Rattle.protocol.specs.declared.moves.Access.{Access}
use Rattle.protocol.specs.declared.moves.Access.TheVariants.{Nothing, Load, Store, Swap}
use Rattle.protocol.specs.Layout.{word, key_at}
use Rattle.protocol.specs.Fields.{runner_at, page_at, copy_at, held, held_standing, activity}
use Rattle.protocol.specs.Search.{found, new_page, new_slot, standing_from, first_pending, preceding}
use Rattle.protocol.specs.Split.{new_count}
use Rattle.protocol.specs.Plan.{planned}
use Rattle.protocol.specs.Calls.{runner_refusal}
use Rattle.laws.specs.Places.{Place, Head, Next, Low, Key, Value, place_at}
use Rattle.laws.specs.Rows.{step_access}

-- A writing enter writes its slot only while the page is whole.
abbrev pub writing_target : Place → Standing → Option Place
writing_target a Whole = Some a
writing_target a InCopy = None
writing_target a (InSync s) = None
writing_target a (InLink s) = None
writing_target a Left = None

-- In the slot where its key is found a change writes the value word, a remove the key word.
abbrev pub found_target : ℕ → ℕ → Operation → Option Place
found_target p i Enter = None
found_target p i Change = Some (Value p i)
found_target p i Remove = Some (Key p i)
found_target p i Look = None

-- A key that is to go has its key word written, unless it is gone.
abbrev pub clearing_target : ℕ → Option ℕ → Option Place
clearing_target q None = None
clearing_target q (Some n) = Some (Key q n)

abbrev pub new_key_target : (ℕ → ℕ → Bool) → List ℕ → Split → ℕ → Option Place
new_key_target before ws s k = clearing_target (new_page before s k) (new_slot before ws s k)

abbrev pub acting_target : Runner → ℕ → Option ℕ → Option Place
acting_target x p None = None
acting_target x p (Some i) = found_target p i x.operation

-- In the sync phase a key that is not found has its new key word written.
abbrev pub syncing_target : (ℕ → ℕ → Bool) → List ℕ → Split → Runner → ℕ → Option ℕ → Option Place
syncing_target before ws s x p None = new_key_target before ws s x.key
syncing_target before ws s x p (Some i) = found_target p i x.operation

-- Acting writes in the held page, or in the key's new page, and nothing from the link phase on.
abbrev pub acting_target_in : (ℕ → ℕ → Bool) → List ℕ → Table → Runner → ℕ → Standing → Option Place
acting_target_in before ws t x p Whole = acting_target x p (found ws (page_at t p).committed p x.key)
acting_target_in before ws t x p InCopy = acting_target x p (found ws (page_at t p).committed p x.key)
acting_target_in before ws t x p (InSync s) = syncing_target before ws s x p (found ws (page_at t p).committed p x.key)
acting_target_in before ws t x p (InLink s) = None
acting_target_in before ws t x p Left = None

-- A pending change swaps in the new slot's value word, and a pending remove writes the new key word.
abbrev pub pending_target_at : (ℕ → ℕ → Bool) → List ℕ → Split → ℕ → Stage → Option Place
pending_target_at before ws s k Idle = None
pending_target_at before ws s k Locating = None
pending_target_at before ws s k (WritingValue p i) = None
pending_target_at before ws s k (WritingKey p i) = None
pending_target_at before ws s k (Committing p i) = None
pending_target_at before ws s k Helping = None
pending_target_at before ws s k (Acting p) = None
pending_target_at before ws s k (PendingNew p i) = None
pending_target_at before ws s k (PendingOld p i n w) = None
pending_target_at before ws s k (PendingSwap p i n w o) = Some (Value (new_page before s k) n)
pending_target_at before ws s k (PendingRemove p) = new_key_target before ws s k
pending_target_at before ws s k (Comparing p o) = None
pending_target_at before ws s k (ComparingSwap p n w o) = None
pending_target_at before ws s k (Reading p) = None
pending_target_at before ws s k (Answered a v) = None

abbrev pub pending_target : (ℕ → ℕ → Bool) → List ℕ → Split → Runner → Option Place
pending_target before ws s x = pending_target_at before ws s x.key x.stage

abbrev pub pending_target_in : (ℕ → ℕ → Bool) → List ℕ → Runner → Standing → Option Place
pending_target_in before ws x Whole = None
pending_target_in before ws x InCopy = None
pending_target_in before ws x (InSync s) = pending_target before ws s x
pending_target_in before ws x (InLink s) = pending_target before ws s x
pending_target_in before ws x Left = None

-- A comparing look swaps in the new slot's value word, in the sync phase only.
abbrev pub comparing_target_in : (ℕ → ℕ → Bool) → ℕ → ℕ → Standing → Option Place
comparing_target_in before k n Whole = None
comparing_target_in before k n InCopy = None
comparing_target_in before k n (InSync s) = Some (Value (new_page before s k) n)
comparing_target_in before k n (InLink s) = None
comparing_target_in before k n Left = None

-- The new slot that an old slot was copied to has its key word written if the old key is 0.
abbrev pub levelling_target : List ℕ → Split → Option ℕ → Option Place
levelling_target ws s None = None
levelling_target ws s (Some i) = cond (word ws (key_at s.old i) == 0) (Some (Key (copy_at s i).page (copy_at s i).slot)) None

-- The link is the head, or the next word of the page before the old one.
abbrev pub link_place : Option ℕ → Place
link_place None = Head
link_place (Some q) = Next q

-- While a runner is pending on the old page, its word is written in place of the split's.
abbrev pub linking_target : (ℕ → ℕ → Bool) → List ℕ → Table → Split → Option Place → Option ℕ → Option Place
linking_target before ws t s a (Some q) = pending_target before ws s (runner_at t q)
linking_target before ws t s a None = a

-- A split writes the keys, next and low of its new pages, their slots, and at last the link.
abbrev pub split_target : (ℕ → ℕ → Bool) → List ℕ → Table → Split → Progress → Option Place
split_target before ws t s (Clearing n) = cond (nat_lt n 8) (Some (Key s.left n)) (Some (Key s.right (n - 8)))
split_target before ws t s LeftNext = Some (Next s.left)
split_target before ws t s LeftLow = Some (Low s.left)
split_target before ws t s RightNext = Some (Next s.right)
split_target before ws t s RightLow = Some (Low s.right)
split_target before ws t s (Copying i) = None
split_target before ws t s (CopyingValue i k w) = Some (Value (new_page before s k) (new_count before s k))
split_target before ws t s (CopyingKey i k) = Some (Key (new_page before s k) (new_count before s k))
split_target before ws t s (Syncing i) = levelling_target ws s (standing_from ws s i)
split_target before ws t s (SyncingNew i o) = None
split_target before ws t s (SyncingSwap i o w) = Some (Value (copy_at s i).page (copy_at s i).slot)
split_target before ws t s Linking = linking_target before ws t s (Some (link_place (preceding t s.old))) (first_pending t s.old)
split_target before ws t s Finishing = linking_target before ws t s None (first_pending t s.old)

abbrev pub helping_target : (ℕ → ℕ → Bool) → List ℕ → Table → Option Split → Option Place
helping_target before ws t (Some s) = split_target before ws t s s.progress
helping_target before ws t None = None

-- What each stage writes; all the others write nothing.
abbrev pub target_at : (ℕ → ℕ → Bool) → List ℕ → Table → Runner → Stage → Standing → Option Place
target_at before ws t x Idle u = None
target_at before ws t x Locating u = None
target_at before ws t x (WritingValue p i) u = writing_target (Value p i) u
target_at before ws t x (WritingKey p i) u = writing_target (Key p i) u
target_at before ws t x (Committing p i) u = None
target_at before ws t x Helping u = helping_target before ws t t.split
target_at before ws t x (Acting p) u = acting_target_in before ws t x p u
target_at before ws t x (PendingNew p i) u = pending_target_in before ws x u
target_at before ws t x (PendingOld p i n w) u = pending_target_in before ws x u
target_at before ws t x (PendingSwap p i n w o) u = pending_target_in before ws x u
target_at before ws t x (PendingRemove p) u = pending_target_in before ws x u
target_at before ws t x (Comparing p o) u = None
target_at before ws t x (ComparingSwap p n w o) u = comparing_target_in before x.key n u
target_at before ws t x (Reading p) u = None
target_at before ws t x (Answered a v) u = None

-- The word that the step of a runner with record x writes, if any.
abbrev pub target : (ℕ → ℕ → Bool) → List ℕ → Table → Runner → Option Place
target before ws t x = target_at before ws t x x.stage (held_standing t (held x.stage))

-- A step that is sent back writes none.
abbrev pub step_target_by : (ℕ → ℕ → Bool) → List ℕ → Table → ℕ → Activity → Option Place
step_target_by before ws t i Resting = None
step_target_by before ws t i Open = target before ws t (runner_at t i)
step_target_by before ws t i (Waiting a v) = None

abbrev pub step_target_unless : (ℕ → ℕ → Bool) → List ℕ → Table → ℕ → Option Refusal → Option Place
step_target_unless before ws t i (Some e) = None
step_target_unless before ws t i None = step_target_by before ws t i (activity (runner_at t i).stage)

-- The word that a step of runner r, counted from 1, writes, if any.
abbrev pub step_target : (ℕ → ℕ → Bool) → List ℕ → Table → ℕ → Option Place
step_target before ws t r = step_target_unless before ws t (r - 1) (runner_refusal t r)

-- The word number that an access writes, if any.
abbrev pub written_at : Access → Option ℕ
written_at Nothing = None
written_at (Load a) = None
written_at (Store a w) = Some a
written_at (Swap a e w) = Some a

abbrev pub number_of_place : Option Place → Option ℕ
number_of_place None = None
number_of_place (Some x) = Some (place_at x)

-- The access of a planned move writes the runner's word, and that of a step the step's.
pub record StepsWriteTargets : Type 0 where
  pub move : (before : ℕ → ℕ → Bool) (ws : List ℕ) (t : Table) (r : ℕ) (x : Runner) →
      written_at (planned before ws t r x).access ≡ number_of_place (target before ws t x)
  pub step : (before : ℕ → ℕ → Bool) (ws : List ℕ) (t : Table) (r : ℕ) → written_at (step_access before ws t r) ≡ number_of_place (step_target before ws t r)
