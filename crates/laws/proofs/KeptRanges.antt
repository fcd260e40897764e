-- A table in range as every call keeps it is in range as a step needs it.
use Rattle.std.proofs.Common.{ℕ, ◌<◌, ◌≤◌, Bool, arith}
use Rattle.std.proofs.lemmas.Bool.{cond_both}
use Rattle.protocol.specs.declared.table.Stage.{Stage}
use Rattle.protocol.specs.declared.table.Stage.TheVariants.{Idle, Locating, WritingValue, WritingKey, Committing, Helping, Acting, PendingNew, PendingOld, PendingSwap, PendingRemove, Comparing, ComparingSwap, Reading, Answered}
use Rattle.protocol.specs.declared.table.Progress.{Progress}
use Rattle.protocol.specs.declared.table.Progress.TheVariants.{Clearing, LeftNext, LeftLow, RightNext, RightLow, Copying, CopyingValue, CopyingKey, Syncing, SyncingNew, SyncingSwap, Linking, Finishing}
use Rattle.protocol.specs.declared.table.Split.{Split}
use Rattle.protocol.specs.declared.table.Table.{Table}
use Rattle.protocol.specs.Fields.{runner_at}
use Rattle.protocol.specs.Search.{on_right, new_page}
use Rattle.protocol.specs.Split.{new_count}
use Rattle.laws.specs.Ranges.{Page, SlotFits, ProgressFits, SplitFits, InRange}
use Rattle.laws.specs.KeptRanges.{SlotKept, fill, ProgressKept, SplitKept, RangeKept}
use Rattle.laws.proofs.Ranges.{new_page_fits}

slot_serves : (g : Stage) → SlotKept g → SlotFits g
slot_serves Idle h = tt
slot_serves Locating h = tt
slot_serves (WritingValue p i) h = h
slot_serves (WritingKey p i) h = h
slot_serves (Committing p i) h = tt
slot_serves Helping h = tt
slot_serves (Acting p) h = tt
slot_serves (PendingNew p i) h = tt
slot_serves (PendingOld p i n w) h = tt
slot_serves (PendingSwap p i n w o) h = h
slot_serves (PendingRemove p) h = tt
slot_serves (Comparing p o) h = tt
slot_serves (ComparingSwap p n w o) h = h
slot_serves (Reading p) h = tt
slot_serves (Answered a v) h = tt

progress_serves : (s : Split) (g : Progress) → ProgressKept s g → ProgressFits s g
progress_serves s (Clearing n) h = h.0
progress_serves s LeftNext h = tt
progress_serves s LeftLow h = tt
progress_serves s RightNext h = h.0
progress_serves s RightLow h = h.0
progress_serves s (Copying i) h = tt
progress_serves s (CopyingValue i k w) h = let l = h.0 in let m = h.1 in (omega arith, omega arith)
progress_serves s (CopyingKey i k) h = let l = h.0 in let m = h.1 in (omega arith, omega arith)
progress_serves s (Syncing i) h = tt
progress_serves s (SyncingNew i o) h = tt
progress_serves s (SyncingSwap i o w) h = h
progress_serves s Linking h = tt
progress_serves s Finishing h = tt

split_serves : (n : ℕ) (s : Split) → SplitKept n s → SplitFits n s
split_serves n s F = record { left = F.left; right = F.right; copies = F.copies; progress = progress_serves s s.progress F.progress }

pub range_serves : (n : ℕ) (t : Table) → RangeKept n t → InRange n t
range_serves n t R =
    record {
      listed = R.listed;
      runners = λ i. slot_serves (runner_at t i).stage (R.runners i);
      split = λ s e. split_serves n s (R.split s e);
    }

-- what a split in range has for a key: a page of the book, and room in it

pub new_page_kept : (before : ℕ → ℕ → Bool) (n : ℕ) (s : Split) (k : ℕ) → SplitKept n s → Page n (new_page before s k)
new_page_kept before n s k F = new_page_fits before n s k (split_serves n s F)

pub new_count_kept : (before : ℕ → ℕ → Bool) (s : Split) (k i : ℕ) → fill s ≤ i → i < 8 → new_count before s k < 8
new_count_kept before s k i l h = cond_both (on_right before s k) s.rights s.lefts (λ m. m < 8) (λ _. omega arith) (λ _. omega arith)
