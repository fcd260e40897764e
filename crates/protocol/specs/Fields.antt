-- The fields of the table: how each is read and written, whatever the number.
use Rattle.std.specs.Prelude.{ℕ, ◌+◌, ◌/◌, ◌%◌, ◌^◌, Bool, false, cond, ◌&&◌, Some, None, Option, ◌==◌, bit_or, nat_le, nat_lt, slice_index_or, slice_set}
use Rattle.protocol.specs.declared.numbers.Operation.TheVariants.{Enter}
use Rattle.protocol.specs.declared.table.Stage.{Stage}
use Rattle.protocol.specs.declared.table.Stage.TheVariants.{Idle, Locating, WritingValue, WritingKey, Committing, Helping, Acting, PendingNew, PendingOld, PendingSwap, PendingRemove, Comparing, ComparingSwap, Reading, Answered}
use Rattle.protocol.specs.declared.table.Activity.{Activity}
use Rattle.protocol.specs.declared.table.Activity.TheVariants.{Resting, Open, Waiting}
use Rattle.protocol.specs.declared.table.Runner.{Runner}
use Rattle.protocol.specs.declared.table.PageRow.{PageRow}
use Rattle.protocol.specs.declared.table.NewSlot.{NewSlot}
use Rattle.protocol.specs.declared.table.Phase.{Phase}
use Rattle.protocol.specs.declared.table.Phase.TheVariants.{Copy, Sync, Link}
use Rattle.protocol.specs.declared.table.Progress.{Progress}
use Rattle.protocol.specs.declared.table.Progress.TheVariants.{Clearing, LeftNext, LeftLow, RightNext, RightLow, Copying, CopyingValue, CopyingKey, Syncing, SyncingNew, SyncingSwap, Linking, Finishing}
use Rattle.protocol.specs.declared.table.Split.{Split}
use Rattle.protocol.specs.declared.table.Standing.{Standing}
use Rattle.protocol.specs.declared.table.Standing.TheVariants.{Whole, InCopy, InSync, InLink, Left}
use Rattle.protocol.specs.declared.table.Table.{Table}

-- An idle runner has no operation.
abbrev pub idle_runner : Runner
idle_runner = record { operation = Enter; key = 0; word = 0; stage = Idle }

-- Runners are numbered from 0 here; past the eighth everyone is idle.
abbrev pub runner_at : Table → ℕ → Runner
runner_at t i = cond (nat_lt i 8) (slice_index_or t.runners i idle_runner) idle_runner

abbrev pub with_runner : Table → ℕ → Runner → Table
with_runner t i x = record {
  opened = t.opened;
  count = t.count;
  runners = cond (nat_lt i 8) (slice_set t.runners i x) t.runners;
  first = t.first;
  pages = t.pages;
  split = t.split;
  round = t.round;
  last = t.last;
}

-- The runner goes on to a stage.
abbrev pub with_stage : Runner → Stage → Runner
with_stage x s = record { operation = x.operation; key = x.key; word = x.word; stage = s }

-- A page that is not in the list has nothing taken or committed.
abbrev pub no_page : PageRow
no_page = record { listed = false; next = 0; taken = 0; committed = 0 }

-- Pages are numbered from 1 to 64. Row 0 is nobody's, and past 64 there is no page.
abbrev pub page_at : Table → ℕ → PageRow
page_at t p = cond (nat_lt p 65) (slice_index_or t.pages p no_page) no_page

abbrev pub with_page : Table → ℕ → PageRow → Table
with_page t p x = record {
  opened = t.opened;
  count = t.count;
  runners = t.runners;
  first = t.first;
  pages = cond (nat_lt p 65) (slice_set t.pages p x) t.pages;
  split = t.split;
  round = t.round;
  last = t.last;
}

abbrev pub with_first : Table → ℕ → Table
with_first t p = record {
  opened = t.opened;
  count = t.count;
  runners = t.runners;
  first = p;
  pages = t.pages;
  split = t.split;
  round = t.round;
  last = t.last;
}

abbrev pub with_split : Table → Option Split → ℕ → Table
with_split t s round = record {
  opened = t.opened;
  count = t.count;
  runners = t.runners;
  first = t.first;
  pages = t.pages;
  split = s;
  round = round;
  last = t.last;
}

-- The page that a runner holds, if any.
abbrev pub held : Stage → Option ℕ
held Idle = None
held Locating = None
held (WritingValue p s) = Some p
held (WritingKey p s) = Some p
held (Committing p s) = Some p
held Helping = None
held (Acting p) = Some p
held (PendingNew p s) = Some p
held (PendingOld p s n w) = Some p
held (PendingSwap p s n w o) = Some p
held (PendingRemove p) = Some p
held (Comparing p o) = Some p
held (ComparingSwap p n w o) = Some p
held (Reading p) = Some p
held (Answered a v) = None

-- A runner is idle, open or answered.
abbrev pub activity : Stage → Activity
activity Idle = Resting
activity Locating = Open
activity (WritingValue p s) = Open
activity (WritingKey p s) = Open
activity (Committing p s) = Open
activity Helping = Open
activity (Acting p) = Open
activity (PendingNew p s) = Open
activity (PendingOld p s n w) = Open
activity (PendingSwap p s n w o) = Open
activity (PendingRemove p) = Open
activity (Comparing p o) = Open
activity (ComparingSwap p n w o) = Open
activity (Reading p) = Open
activity (Answered a v) = Waiting a v

-- A runner is pending on a page from its store in the old slot until its answer.
abbrev pub pending_on : Stage → ℕ → Bool
pending_on Idle q = false
pending_on Locating q = false
pending_on (WritingValue p s) q = false
pending_on (WritingKey p s) q = false
pending_on (Committing p s) q = false
pending_on Helping q = false
pending_on (Acting p) q = false
pending_on (PendingNew p s) q = p == q
pending_on (PendingOld p s n w) q = p == q
pending_on (PendingSwap p s n w o) q = p == q
pending_on (PendingRemove p) q = p == q
pending_on (Comparing p o) q = false
pending_on (ComparingSwap p n w o) q = false
pending_on (Reading p) q = false
pending_on (Answered a v) q = false

-- The phase that a split's next step belongs to.
abbrev pub phase : Progress → Phase
phase (Clearing n) = Copy
phase LeftNext = Copy
phase LeftLow = Copy
phase RightNext = Copy
phase RightLow = Copy
phase (Copying s) = Copy
phase (CopyingValue s k w) = Copy
phase (CopyingKey s k) = Copy
phase (Syncing s) = Sync
phase (SyncingNew s o) = Sync
phase (SyncingSwap s o w) = Sync
phase Linking = Link
phase Finishing = Link

abbrev pub in_phase : Split → Phase → Standing
in_phase s Copy = InCopy
in_phase s Sync = InSync s
in_phase s Link = InLink s

-- A listed page stands as the split's phase has it if it is the splitting page, else it is whole.
abbrev pub standing_in : Option Split → ℕ → Standing
standing_in None p = Whole
standing_in (Some s) p = cond (s.old == p) (in_phase s (phase s.progress)) Whole

abbrev pub standing : Table → ℕ → Standing
standing t p = cond (page_at t p).listed (standing_in t.split p) Left

-- How the page that a runner holds stands. The step of a runner that holds none asks of no page, so any standing serves there.
abbrev pub held_standing : Table → Option ℕ → Standing
held_standing t None = Left
held_standing t (Some p) = standing t p

-- Whether a slot's bit is set.
abbrev pub committed : ℕ → ℕ → Bool
committed bits s = nat_lt s 8 && bits / 2 ^ s % 2 == 1

-- At most eight slots are taken, and no slot at or above the taken count is committed.
abbrev pub sound : PageRow → Bool
sound p = nat_le p.taken 8 && nat_lt p.committed (2 ^ p.taken)

-- One more slot of the page is taken.
abbrev pub row_taken : PageRow → PageRow
row_taken p = cond (sound p && nat_lt p.taken 8) (record { listed = p.listed; next = p.next; taken = p.taken + 1; committed = p.committed }) p

-- A taken slot of the page is committed.
abbrev pub row_committed : PageRow → ℕ → PageRow
row_committed p s = cond (sound p && nat_lt s p.taken) (record { listed = p.listed; next = p.next; taken = p.taken; committed = bit_or p.committed (2 ^ s) }) p

-- A slot that was not copied.
abbrev pub not_copied : NewSlot
not_copied = record { page = 0; slot = 0 }

-- Where an old slot was copied to.
abbrev pub copy_at : Split → ℕ → NewSlot
copy_at s i = cond (nat_lt i 8) (slice_index_or s.copies i not_copied) not_copied

-- The split's next step is another, and all else stays.
abbrev pub with_progress : Split → Progress → Split
with_progress s p = record { old = s.old; left = s.left; right = s.right; key = s.key; progress = p; copies = s.copies; lefts = s.lefts; rights = s.rights }
