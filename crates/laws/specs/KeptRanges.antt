-- The table's page and slot numbers stay in range, whatever is called.
use Rattle.std.specs.Prelude.{◌≡◌, ℕ, ◌+◌, ◌<◌, ◌≤◌, Bool, true, cond, ◌≢◌, List, Some, ◌==◌}
use Rattle.protocol.specs.declared.table.Stage.{Stage}
use Rattle.protocol.specs.declared.table.Stage.TheVariants.{Idle, Locating, WritingValue, WritingKey, Committing, Helping, Acting, PendingNew, PendingOld, PendingSwap, PendingRemove, Comparing, ComparingSwap, Reading, Answered}
use Rattle.protocol.specs.declared.table.Progress.{Progress}
use Rattle.protocol.specs.declared.table.Progress.TheVariants.{Clearing, LeftNext, LeftLow, RightNext, RightLow, Copying, CopyingValue, CopyingKey, Syncing, SyncingNew, SyncingSwap, Linking, Finishing}
use Rattle.protocol.specs.declared.table.Split.{Split}
use Rattle.protocol.specs.declared.table.Table.{Table}
use Rattle.protocol.specs.Layout.{page_count}
use Rattle.protocol.specs.Fields.{runner_at, page_at, copy_at}
use Rattle.protocol.specs.Make.{closed_table}
use Rattle.protocol.specs.Calls.{made, rebuilt, begun, stepped, collected}
use Rattle.laws.specs.Ranges.{Page, InRange}

-- The slot that a stage is going to write, in this step or a later one, is 0 to 7.
abbrev pub SlotKept : Stage → Type 0
SlotKept Idle = Unit {0}
SlotKept Locating = Unit {0}
SlotKept (WritingValue p i) = i < 8
SlotKept (WritingKey p i) = i < 8
SlotKept (Committing p i) = Unit {0}
SlotKept Helping = Unit {0}
SlotKept (Acting p) = Unit {0}
SlotKept (PendingNew p i) = Unit {0}
SlotKept (PendingOld p i n w) = n < 8
SlotKept (PendingSwap p i n w o) = n < 8
SlotKept (PendingRemove p) = Unit {0}
SlotKept (Comparing p o) = Unit {0}
SlotKept (ComparingSwap p n w o) = n < 8
SlotKept (Reading p) = Unit {0}
SlotKept (Answered a v) = Unit {0}

-- How many slots the new pages have so far.
abbrev pub fill : Split → ℕ
fill s = s.lefts + s.rights

-- The split's next step clears one of the keys that there are, has a right page where it writes there, levels a copied slot, or has room for its copy: no more slots
-- are filled than old slots have been passed.
abbrev pub ProgressKept : Split → Progress → Type 0
ProgressKept s (Clearing n) = (n < cond (s.right == 0) 8 16) × (fill s ≤ 0)
ProgressKept s LeftNext = fill s ≤ 0
ProgressKept s LeftLow = fill s ≤ 0
ProgressKept s RightNext = (1 ≤ s.right) × (fill s ≤ 0)
ProgressKept s RightLow = (1 ≤ s.right) × (fill s ≤ 0)
ProgressKept s (Copying i) = fill s ≤ i
ProgressKept s (CopyingValue i k w) = (fill s ≤ i) × (i < 8)
ProgressKept s (CopyingKey i k) = (fill s ≤ i) × (i < 8)
ProgressKept s (Syncing i) = Unit {0}
ProgressKept s (SyncingNew i o) = (copy_at s i).page ≢ 0
ProgressKept s (SyncingSwap i o w) = (copy_at s i).page ≢ 0
ProgressKept s Linking = Unit {0}
ProgressKept s Finishing = Unit {0}

-- A split's new pages are pages of the book, and so are those that its copies are in.
pub record SplitKept (n : ℕ) (s : Split) : Type 0 where
  pub left : Page n s.left
  pub right : s.right ≤ n
  pub copies : (i : ℕ) → (copy_at s i).page ≢ 0 → Page n (copy_at s i).page × ((copy_at s i).slot < 8)
  pub progress : ProgressKept s s.progress

-- Listed pages are pages of the book, and stages and split are in range: what every call keeps.
pub record RangeKept (n : ℕ) (t : Table) : Type 0 where
  pub listed : (p : ℕ) → (page_at t p).listed ≡ true → Page n p
  pub runners : (i : ℕ) → SlotKept (runner_at t i).stage
  pub split : (s : Split) → t.split ≡ Some s → SplitKept n s

-- A closed book's table is in range, and every call leaves a table in range where it finds one, accepted or not. n is how many pages the row has; no call changes that.
-- Such a table is in range as a step needs it.
pub record CallsKeepRange : Type 0 where
  pub closed : (n : ℕ) → RangeKept n closed_table
  pub make : (ws : List ℕ) (t : Table) (r : ℕ) → RangeKept (page_count ws) t → RangeKept (page_count ws) (made ws t r).1
  pub rebuild : (key : ℕ → Bool) (before : ℕ → ℕ → Bool) (ws : List ℕ) (t : Table) (r : ℕ) → RangeKept (page_count ws) t → RangeKept (page_count ws) (rebuilt key before ws t r).0
  pub begin : (key : ℕ → Bool) (n : ℕ) (t : Table) (r o k v : ℕ) → RangeKept n t → RangeKept n (begun key t r o k v).0
  pub step : (before : ℕ → ℕ → Bool) (ws : List ℕ) (t : Table) (r : ℕ) → RangeKept (page_count ws) t → RangeKept (page_count ws) (stepped before ws t r).1
  pub collect : (n : ℕ) (t : Table) (r : ℕ) → RangeKept n t → RangeKept n (collected t r).0
  pub serves : (n : ℕ) (t : Table) → RangeKept n t → InRange n t
