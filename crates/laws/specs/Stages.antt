-- Stage and phase agree: a runner is pending only on a page that is splitting, in sync or before the link; and what it compares or reads is splitting, past the copy phase, or has left the list.
use Rattle.std.specs.Prelude.{◌≡◌, ℕ, Bool, true, false, not, ◌&&◌, ◌||◌, List, Some, None, Option, ◌==◌}
use Rattle.protocol.specs.declared.table.Stage.{Stage}
use Rattle.protocol.specs.declared.table.Stage.TheVariants.{Idle, Locating, WritingValue, WritingKey, Committing, Helping, Acting, PendingNew, PendingOld, PendingSwap, PendingRemove, Comparing, ComparingSwap, Reading, Answered}
use Rattle.protocol.specs.declared.table.Progress.{Progress}
use Rattle.protocol.specs.declared.table.Progress.TheVariants.{Clearing, LeftNext, LeftLow, RightNext, RightLow, Copying, CopyingValue, CopyingKey, Syncing, SyncingNew, SyncingSwap, Linking, Finishing}
use Rattle.protocol.specs.declared.table.Phase.{Phase}
use Rattle.protocol.specs.declared.table.Phase.TheVariants.{Copy, Sync, Link}
use Rattle.protocol.specs.declared.table.Split.{Split}
use Rattle.protocol.specs.declared.table.Standing.{Standing}
use Rattle.protocol.specs.declared.table.Standing.TheVariants.{Whole, InCopy, InSync, InLink, Left}
use Rattle.protocol.specs.declared.table.Table.{Table}
use Rattle.protocol.specs.Fields.{runner_at, held, phase, held_standing}
use Rattle.protocol.specs.Make.{closed_table}
use Rattle.protocol.specs.Calls.{made, rebuilt, begun, stepped, collected}
use Rattle.laws.specs.Lists.{listed, WellListed, ListedIfOpen}

-- The sync and the link phase.
abbrev pub after_copy : Phase → Bool
after_copy Copy = false
after_copy Sync = true
after_copy Link = true

abbrev pub past_copy : Progress → Bool
past_copy g = after_copy (phase g)

-- The same, up to the store that links the new pages.
abbrev pub unlinked : Progress → Bool
unlinked (Clearing n) = false
unlinked LeftNext = false
unlinked LeftLow = false
unlinked RightNext = false
unlinked RightLow = false
unlinked (Copying i) = false
unlinked (CopyingValue i k w) = false
unlinked (CopyingKey i k) = false
unlinked (Syncing i) = true
unlinked (SyncingNew i o) = true
unlinked (SyncingSwap i o w) = true
unlinked Linking = true
unlinked Finishing = false

-- Whether page p is splitting, and at such a step.
abbrev pub splits_at : (Progress → Bool) → Option Split → ℕ → Bool
splits_at f None p = false
splits_at f (Some s) p = s.old == p && f s.progress

abbrev pub may_pend : Option Split → ℕ → Bool
may_pend o p = splits_at unlinked o p

abbrev pub may_compare : Option Split → (ℕ → Bool) → ℕ → Bool
may_compare o in_list p = splits_at past_copy o p || not (in_list p)

abbrev pub agrees : Option Split → (ℕ → Bool) → Stage → Bool
agrees o in_list Idle = true
agrees o in_list Locating = true
agrees o in_list (WritingValue p i) = true
agrees o in_list (WritingKey p i) = true
agrees o in_list (Committing p i) = true
agrees o in_list Helping = true
agrees o in_list (Acting p) = true
agrees o in_list (PendingNew p i) = may_pend o p
agrees o in_list (PendingOld p i n w) = may_pend o p
agrees o in_list (PendingSwap p i n w v) = may_pend o p
agrees o in_list (PendingRemove p) = may_pend o p
agrees o in_list (Comparing p v) = may_compare o in_list p
agrees o in_list (ComparingSwap p n w v) = may_compare o in_list p
agrees o in_list (Reading p) = may_compare o in_list p
agrees o in_list (Answered a v) = true

abbrev pub AllAgree : Table → Type 0
AllAgree t = (i : ℕ) → agrees t.split (listed t) (runner_at t i).stage ≡ true

-- How the held page of a stage can stand: that of a pending runner is in sync or link, that of a comparing or reading one is so or has left the list.
abbrev pub in_sync_or_link : Standing → Bool
in_sync_or_link Whole = false
in_sync_or_link InCopy = false
in_sync_or_link (InSync s) = true
in_sync_or_link (InLink s) = true
in_sync_or_link Left = false

abbrev pub has_left : Standing → Bool
has_left Whole = false
has_left InCopy = false
has_left (InSync s) = false
has_left (InLink s) = false
has_left Left = true

abbrev pub meets : Stage → Standing → Bool
meets Idle u = true
meets Locating u = true
meets (WritingValue p i) u = true
meets (WritingKey p i) u = true
meets (Committing p i) u = true
meets Helping u = true
meets (Acting p) u = true
meets (PendingNew p i) u = in_sync_or_link u
meets (PendingOld p i n w) u = in_sync_or_link u
meets (PendingSwap p i n w v) u = in_sync_or_link u
meets (PendingRemove p) u = in_sync_or_link u
meets (Comparing p v) u = in_sync_or_link u || has_left u
meets (ComparingSwap p n w v) u = in_sync_or_link u || has_left u
meets (Reading p) u = in_sync_or_link u || has_left u
meets (Answered a v) u = true

-- So it is with a closed book, and every call keeps it so, where the list of an open book is well. A step then finds its held page standing as its stage has it.
pub record CallsKeepStages : Type 0 where
  pub closed : AllAgree closed_table
  pub make : (ws : List ℕ) (t : Table) (r : ℕ) → AllAgree t → AllAgree (made ws t r).1
  pub rebuild : (key : ℕ → Bool) (before : ℕ → ℕ → Bool) (ws : List ℕ) (t : Table) (r : ℕ) → AllAgree t → AllAgree (rebuilt key before ws t r).0
  pub begin : (key : ℕ → Bool) (t : Table) (r o k v : ℕ) → AllAgree t → AllAgree (begun key t r o k v).0
  pub step : (before : ℕ → ℕ → Bool) (ws : List ℕ) (t : Table) (r : ℕ) → ListedIfOpen t → AllAgree t → AllAgree (stepped before ws t r).1
  pub collect : (t : Table) (r : ℕ) → AllAgree t → AllAgree (collected t r).0
  pub standings : (t : Table) (i : ℕ) → WellListed t → AllAgree t → meets (runner_at t i).stage (held_standing t (held (runner_at t i).stage)) ≡ true
