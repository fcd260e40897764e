-- Split steps keep the range: no more slots are filled than old slots have been passed.
use Rattle.std.proofs.Common.{ℕ, zero, suc, ◌+◌, ◌-◌, ◌<◌, ◌≤◌, Bool, true, false, cond, not, ◌&&◌, eqb, ltb, leb, ◌≢◌, List, Some, None, Option, ⊎_elim, arith}
use Rattle.std.proofs.lemmas.Bool.{cond_both, and_parts, not-true, eqb-false}
use Rattle.std.proofs.lemmas.Bool.Decides.{nat_tests}
use Rattle.protocol.specs.declared.table.Progress.{Progress}
use Rattle.protocol.specs.declared.table.Progress.TheVariants.{Clearing, LeftNext, LeftLow, RightNext, RightLow, Copying, CopyingValue, CopyingKey, Syncing, SyncingNew, SyncingSwap, Linking, Finishing}
use Rattle.protocol.specs.declared.table.NewSlot.{NewSlot}
use Rattle.protocol.specs.declared.table.Split.{Split}
use Rattle.protocol.specs.declared.table.Table.{Table}
use Rattle.protocol.specs.declared.moves.Move.{Move}
use Rattle.protocol.specs.Layout.{word, key_at}
use Rattle.protocol.specs.Fields.{runner_at, page_at, not_copied, copy_at, with_progress}
use Rattle.protocol.specs.Search.{first_from, on_right, new_page, live, live_from, stands, standing_from, first_pending}
use Rattle.protocol.specs.Split.{slot_after, clearing_after, new_count, copied, copying, syncing_slot, syncing, linking, split_step_at}
use Rattle.protocol.specs.Settle.{levelled}
use Rattle.values.specs.ValueWord.{mark_of, same}
use Rattle.laws.specs.KeptRanges.{fill, ProgressKept, SplitKept, RangeKept}
use Rattle.laws.proofs.Ranges.{Found, first_found}
use Rattle.laws.proofs.KeptRanges.{new_page_kept, new_count_kept}
use Rattle.laws.proofs.Tables.{read_written}
use Rattle.laws.proofs.Fitting.{MoveFits}
use Rattle.laws.proofs.FittingAct.{pending_fits}

goes_on : (n : ℕ) (s : Split) (g : Progress) → SplitKept n s → ProgressKept (with_progress s g) g → SplitKept n (with_progress s g)
goes_on n s g F h = record { left = F.left; right = F.right; copies = F.copies; progress = h }

abbrev pub Above : ℕ → Option ℕ → Type 0
Above i None = Unit {0}
Above i (Some j) = i ≤ j

weaker : (i : ℕ) (o : Option ℕ) → Above (i + 1) o → Above i o
weaker i None h = tt
weaker i (Some j) h = omega arith

pub first_above : (f : ℕ → Bool) (i n : ℕ) → Above i (first_from f i n)
unfolding first_from
first_above f i zero = tt
first_above f i (suc n) =
    cond_both (f i) (Some i) (first_from f (i + 1) n) (Above i) (λ _. omega arith) (λ _. weaker i (first_from f (i + 1) n) (first_above f (i + 1) n))

clearing_after_fits : (s : Split) (m : ℕ) → m < cond (eqb s.right 0) 8 16 → fill s ≤ 0 → ProgressKept (with_progress s (clearing_after s m)) (clearing_after s m)
clearing_after_fits s m h f =
    cond_both (leb (cond (eqb s.right 0) 7 15) m) LeftNext (Clearing (m + 1)) (λ g. ProgressKept (with_progress s g) g)
    (λ _. f)
    (λ e. (grind (arith, nat_tests), f))

left_low_fits : (s : Split) → fill s ≤ 0 → ProgressKept (with_progress s (cond (eqb s.right 0) (Copying 0) RightNext)) (cond (eqb s.right 0) (Copying 0) RightNext)
left_low_fits s f =
    cond_both (eqb s.right 0) (Copying 0) RightNext (λ g. ProgressKept (with_progress s g) g)
    (λ _. f)
    (λ e. let z = eqb-false s.right 0 e in (omega arith, f))

copying_fits : (ws : List ℕ) (n r : ℕ) (s : Split) (i : ℕ) (f : ℕ → Bool) (o : Option ℕ) → SplitKept n s → fill s ≤ i → Found f (i + (8 - i)) o → Above i o →
    MoveFits n (copying ws r s o)
copying_fits ws n r s i f None F h g a = (tt, goes_on n s (Syncing 0) F tt)
copying_fits ws n r s i f (Some j) F h g a = (tt, λ w. goes_on n s (CopyingValue j _ w) F (omega arith, omega (arith, g.0)))

slot_after_below : (i : ℕ) → slot_after i ≤ i + 1
slot_after_below i = cond_both (ltb i 8) (i + 1) 8 (λ m. m ≤ i + 1) (λ _. omega arith) (λ e. grind (arith, nat_tests))

slot_after_next : (i : ℕ) → i < 8 → i + 1 ≤ slot_after i
slot_after_next i h = cond_both (ltb i 8) (i + 1) 8 (λ m. i + 1 ≤ m) (λ _. omega arith) (λ _. omega arith)

one_more : (b : Bool) (l r : ℕ) → cond b l (slot_after l) + cond b (slot_after r) r ≤ l + r + 1
one_more true l r = let h = slot_after_below r in omega arith
one_more false l r = let h = slot_after_below l in omega arith

copied_fits : (before : ℕ → ℕ → Bool) (n : ℕ) (s : Split) (i k : ℕ) → SplitKept n s → fill s ≤ i → i < 8 → SplitKept n (copied before s i k)
copied_fits before n s i k F h l =
    let x : NewSlot = record { page = new_page before s k; slot = new_count before s k } in
    record {
      left = F.left;
      right = F.right;
      copies = λ j ne.
          ⊎_elim
          (λ e. rw e (F.copies j (rw e at ne)))
          (λ e. rw e.1 (new_page_kept before n s k F, new_count_kept before s k i h l))
          (read_written not_copied (ltb j 8) (ltb i 8) s.copies i j x);
      progress = let a = one_more (on_right before s k) s.lefts s.rights in let b = slot_after_next i l in omega arith;
    }

syncing_slot_fits : (ws : List ℕ) (n r : ℕ) (s : Split) (i : ℕ) → SplitKept n s → (copy_at s i).page ≢ 0 → MoveFits n (syncing_slot ws r s i)
syncing_slot_fits ws n r s i F h =
    cond_both (eqb (word ws (key_at s.old i)) 0) _ _ (MoveFits n)
    (λ _. (tt, goes_on n s (Syncing (slot_after i)) F tt))
    (λ _. (tt, λ o. goes_on n s (SyncingNew i o) F h))

syncing_fits : (ws : List ℕ) (n r : ℕ) (s : Split) (m : ℕ) (o : Option ℕ) → SplitKept n s → Found (stands ws s) m o → MoveFits n (syncing ws r s o)
syncing_fits ws n r s m None F g = (tt, goes_on n s Linking F tt)
syncing_fits ws n r s m (Some i) F g =
    syncing_slot_fits ws n r s i F (eqb-false (copy_at s i).page 0 (not-true (eqb (copy_at s i).page 0) (and_parts _ _ g.1).0))

levelled_fits : (n : ℕ) (s : Split) (i o w : ℕ) → SplitKept n s → (copy_at s i).page ≢ 0 → SplitKept n (with_progress s (levelled i o w))
levelled_fits n s i o w F h =
    goes_on n s (levelled i o w) F
    (cond_both (mark_of w && not (same w o)) (SyncingSwap i o w) (Syncing (slot_after i)) (λ g. ProgressKept (with_progress s g) g) (λ _. h) (λ _. tt))

linking_fits : (before : ℕ → ℕ → Bool) (ws : List ℕ) (t : Table) (n : ℕ) (s : Split) (m : Move) (o : Option ℕ) → RangeKept n t → MoveFits n m → MoveFits n (linking before ws t s m o)
linking_fits before ws t n s m (Some q) R h = pending_fits before ws n s q (runner_at t q) (runner_at t q).stage (R.runners q)
linking_fits before ws t n s m None R h = h

pub split_step_fits : (before : ℕ → ℕ → Bool) (ws : List ℕ) (t : Table) (n r : ℕ) (s : Split) (g : Progress) → RangeKept n t → SplitKept n s → ProgressKept s g →
    MoveFits n (split_step_at before ws t r s g)
split_step_fits before ws t n r s (Clearing m) R F h = (tt, goes_on n s (clearing_after s m) F (clearing_after_fits s m h.0 h.1))
split_step_fits before ws t n r s LeftNext R F h = (tt, goes_on n s LeftLow F h)
split_step_fits before ws t n r s LeftLow R F h = (tt, goes_on n s _ F (left_low_fits s h))
split_step_fits before ws t n r s RightNext R F h = (tt, goes_on n s RightLow F h)
split_step_fits before ws t n r s RightLow R F h = (tt, goes_on n s (Copying 0) F h.1)
split_step_fits before ws t n r s (Copying i) R F h =
    let f = live ws (page_at t s.old).committed s.old in
    copying_fits ws n r s i f (live_from ws (page_at t s.old).committed s.old i) F h (first_found f i (8 - i)) (first_above f i (8 - i))
split_step_fits before ws t n r s (CopyingValue i k w) R F h = (tt, goes_on n s (CopyingKey i k) F h)
split_step_fits before ws t n r s (CopyingKey i k) R F h = (tt, copied_fits before n s i k F h.0 h.1)
split_step_fits before ws t n r s (Syncing i) R F h = syncing_fits ws n r s _ (standing_from ws s i) F (first_found (stands ws s) i (8 - i))
split_step_fits before ws t n r s (SyncingNew i o) R F h = (tt, λ w. levelled_fits n s i o w F h)
split_step_fits before ws t n r s (SyncingSwap i o w) R F h = (tt, goes_on n s (Syncing (slot_after i)) F tt)
split_step_fits before ws t n r s Linking R F h = linking_fits before ws t n s _ (first_pending t s.old) R (tt, goes_on n s Finishing F tt)
split_step_fits before ws t n r s Finishing R F h = linking_fits before ws t n s _ (first_pending t s.old) R (tt, F)
