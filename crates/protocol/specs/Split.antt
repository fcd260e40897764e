-- The steps of a split: copy, sync, link.
use Rattle.std.specs.Prelude.{ℕ, ◌+◌, ◌-◌, Bool, cond, List, Some, None, Option, ◌==◌, nat_le, nat_lt, slice_set}
use Rattle.protocol.specs.declared.table.Progress.{Progress}
use Rattle.protocol.specs.declared.table.Progress.TheVariants.{Clearing, LeftNext, LeftLow, RightNext, RightLow, Copying, CopyingValue, CopyingKey, Syncing, SyncingNew, SyncingSwap, Linking, Finishing}
use Rattle.protocol.specs.declared.table.Split.{Split}
use Rattle.protocol.specs.declared.table.Table.{Table}
use Rattle.protocol.specs.declared.moves.Access.TheVariants.{Nothing, Load, Store, Swap}
use Rattle.protocol.specs.declared.moves.TableNext.TheVariants.{Go, CopyLoaded, SyncLoaded, LevelLoaded, Finish}
use Rattle.protocol.specs.declared.moves.Move.{Move}
use Rattle.protocol.specs.Layout.{word, next_at, low_at, key_at, value_at}
use Rattle.protocol.specs.Fields.{runner_at, page_at, copy_at, with_progress}
use Rattle.protocol.specs.Search.{on_right, new_page, live_from, standing_from, first_pending, preceding}
use Rattle.values.specs.ValueWord.{marked, cleared}
use Rattle.protocol.specs.Moves.{splits}
use Rattle.protocol.specs.Act.{pending}

-- The slot after, and no further than 8.
abbrev pub slot_after : ℕ → ℕ
slot_after i = cond (nat_lt i 8) (i + 1) 8

-- The split goes on to its next step with no access.
abbrev pub steps : ℕ → Split → Progress → Move
steps r s p = splits r Nothing (Go (with_progress s p))

-- The split stores a word and goes on to its next step.
abbrev pub stores : ℕ → ℕ → ℕ → Split → Progress → Move
stores r a w s p = splits r (Store a w) (Go (with_progress s p))

-- The keys of left are cleared first, then those of right.
abbrev pub clearing_at : Split → ℕ → ℕ
clearing_at s n = cond (nat_lt n 8) (key_at s.left n) (key_at s.right (n - 8))

-- All keys are cleared after 8, or 16 when there is a right page.
abbrev pub clearing_after : Split → ℕ → Progress
clearing_after s n = cond (nat_le (cond (s.right == 0) 7 15) n) LeftNext (Clearing (n + 1))

-- The page after the old one in the list.
abbrev pub old_next : Table → Split → ℕ
old_next t s = (page_at t s.old).next

-- Left is followed by right, else by the old page's next.
abbrev pub left_next : Table → Split → ℕ
left_next t s = cond (s.right == 0) (old_next t s) s.right

-- The next committed slot with a nonzero key is copied; after the last one the sync phase opens.
abbrev pub copying : List ℕ → ℕ → Split → Option ℕ → Move
copying ws r s None = steps r s (Syncing 0)
copying ws r s (Some i) = splits r (Load (value_at s.old i)) (CopyLoaded s i (word ws (key_at s.old i)))

-- How many slots the key's new page has so far: the next one takes the copy.
abbrev pub new_count : (ℕ → ℕ → Bool) → Split → ℕ → ℕ
new_count before s k = cond (on_right before s k) s.rights s.lefts

-- Where a slot went is noted, and its new page has one slot more.
abbrev pub copied : (ℕ → ℕ → Bool) → Split → ℕ → ℕ → Split
copied before s i k = record {
  old = s.old;
  left = s.left;
  right = s.right;
  key = s.key;
  progress = Copying (slot_after i);
  copies = cond (nat_lt i 8) (slice_set s.copies i (record { page = new_page before s k; slot = new_count before s k })) s.copies;
  lefts = cond (on_right before s k) s.lefts (slot_after s.lefts);
  rights = cond (on_right before s k) (slot_after s.rights) s.rights;
}

-- A slot whose old key is 0 has 0 stored over its new key; any other has its old word loaded.
abbrev pub syncing_slot : List ℕ → ℕ → Split → ℕ → Move
syncing_slot ws r s i =
    cond (word ws (key_at s.old i) == 0)
    (stores r (key_at (copy_at s i).page (copy_at s i).slot) 0 s (Syncing (slot_after i)))
    (splits r (Load (value_at s.old i)) (SyncLoaded s i))

-- Slot after slot is brought level; after the last one the link phase opens.
abbrev pub syncing : List ℕ → ℕ → Split → Option ℕ → Move
syncing ws r s None = steps r s Linking
syncing ws r s (Some i) = syncing_slot ws r s i

-- The old page is reached from the head, or from the page before it.
abbrev pub link_at : Option ℕ → ℕ
link_at None = 0
link_at (Some q) = next_at q

-- While a runner is pending on the old page, the lowest such runner's own next step is taken instead.
abbrev pub linking : (ℕ → ℕ → Bool) → List ℕ → Table → Split → Move → Option ℕ → Move
linking before ws t s m (Some q) = pending before ws s q (runner_at t q)
linking before ws t s m None = m

-- The step that the split's progress names.
abbrev pub split_step_at : (ℕ → ℕ → Bool) → List ℕ → Table → ℕ → Split → Progress → Move
split_step_at before ws t r s (Clearing n) = stores r (clearing_at s n) 0 s (clearing_after s n)
split_step_at before ws t r s LeftNext = stores r (next_at s.left) (left_next t s) s LeftLow
split_step_at before ws t r s LeftLow = stores r (low_at s.left) (word ws (low_at s.old)) s (cond (s.right == 0) (Copying 0) RightNext)
split_step_at before ws t r s RightNext = stores r (next_at s.right) (old_next t s) s RightLow
split_step_at before ws t r s RightLow = stores r (low_at s.right) s.key s (Copying 0)
split_step_at before ws t r s (Copying i) = copying ws r s (live_from ws (page_at t s.old).committed s.old i)
split_step_at before ws t r s (CopyingValue i k w) = stores r (value_at (new_page before s k) (new_count before s k)) (marked w) s (CopyingKey i k)
split_step_at before ws t r s (CopyingKey i k) = splits r (Store (key_at (new_page before s k) (new_count before s k)) k) (Go (copied before s i k))
split_step_at before ws t r s (Syncing i) = syncing ws r s (standing_from ws s i)
split_step_at before ws t r s (SyncingNew i o) = splits r (Load (value_at (copy_at s i).page (copy_at s i).slot)) (LevelLoaded s i o)
split_step_at before ws t r s (SyncingSwap i o w) =
    splits r (Swap (value_at (copy_at s i).page (copy_at s i).slot) w (cleared o)) (Go (with_progress s (Syncing (slot_after i))))
split_step_at before ws t r s Linking = linking before ws t s (stores r (link_at (preceding t s.old)) s.left s Finishing) (first_pending t s.old)
split_step_at before ws t r s Finishing = linking before ws t s (splits r Nothing (Finish s)) (first_pending t s.old)

abbrev pub split_step : (ℕ → ℕ → Bool) → List ℕ → Table → ℕ → Split → Move
split_step before ws t r s = split_step_at before ws t r s s.progress
