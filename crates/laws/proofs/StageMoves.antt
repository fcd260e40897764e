-- The moves of every stage keep stage and phase in agreement.
use Rattle.std.proofs.Common.{◌≡◌, ℕ, ◌+◌, Bool, true, false, not, ◌&&◌, eqb, ltb, leb, List, Some, None, Option, refl, ⊎_elim, arith}
use Rattle.std.proofs.lemmas.Bool.{cond_both, and_from, both_ways, cases_lt}
use Rattle.std.proofs.lemmas.Bool.Decides.{nat_tests}
use Rattle.protocol.specs.declared.numbers.Operation.{Operation}
use Rattle.protocol.specs.declared.numbers.Operation.TheVariants.{Enter, Change, Remove, Look}
use Rattle.protocol.specs.declared.numbers.Answer.{Answer}
use Rattle.protocol.specs.declared.numbers.Answer.TheVariants.{Done, NotThere}
use Rattle.protocol.specs.declared.table.Stage.{Stage}
use Rattle.protocol.specs.declared.table.Stage.TheVariants.{Idle, Locating, WritingValue, WritingKey, Committing, Helping, Acting, PendingNew, PendingOld, PendingSwap, PendingRemove, Comparing, ComparingSwap, Reading, Answered}
use Rattle.protocol.specs.declared.table.Runner.{Runner}
use Rattle.protocol.specs.declared.table.Progress.{Progress}
use Rattle.protocol.specs.declared.table.Progress.TheVariants.{Clearing, LeftNext, LeftLow, RightNext, RightLow, Copying, CopyingValue, CopyingKey, Syncing, SyncingNew, SyncingSwap, Linking, Finishing}
use Rattle.protocol.specs.declared.table.Split.{Split}
use Rattle.protocol.specs.declared.table.Standing.{Standing}
use Rattle.protocol.specs.declared.table.Standing.TheVariants.{Whole, InCopy, InSync, InLink, Left}
use Rattle.protocol.specs.declared.table.Table.{Table}
use Rattle.protocol.specs.declared.moves.Move.{Move}
use Rattle.protocol.specs.Layout.{word, key_at, page_count}
use Rattle.protocol.specs.Fields.{held, pending_on, runner_at, page_at, standing, standing_in, held_standing, in_phase, phase, with_progress}
use Rattle.protocol.specs.Search.{found, new_page, new_slot, live_from, standing_from, pends, first_pending, covering}
use Rattle.protocol.specs.Locate.{free_from, into_one, into_second, into_two, live_keys, key_count, split_key, starting, takes, crowded, entering_page, entering, locating_page, locating}
use Rattle.protocol.specs.Act.{acting_found, acting_page, syncing_found, syncing_page, clearing_slot, reading_slot, reading, linking_as, pending_new, pending_at, comparing_slot}
use Rattle.protocol.specs.Split.{slot_after, clearing_after, copied, copying, syncing_slot, syncing, linking, split_step_at}
use Rattle.protocol.specs.Plan.{helping, writing, acting_in, pending_in, comparing_in, comparing_swap_in, reading_in, planned_at, planned}
use Rattle.protocol.specs.Settle.{levelled}
use Rattle.values.specs.ValueWord.{mark_of, same}
use Rattle.laws.specs.Lists.{listed, Apart, WellListed}
use Rattle.laws.specs.Stages.{past_copy, unlinked, may_pend, may_compare, agrees, AllAgree}
use Rattle.laws.proofs.ListFinish.{Missed, first_missed}
use Rattle.laws.proofs.ListStart.{idle_past}
use Rattle.laws.proofs.StageFrame.{Goes_on, MoveAgrees}

-- Locating: no stage of a split, and a split starts only where there is none.

one_agrees : (t : Table) (n r p k : ℕ) (b : Option ℕ) → t.split ≡ None → MoveAgrees t (into_one t n r p k b)
one_agrees t n r p k None e = (refl, tt)
one_agrees t n r p k (Some i) e = (refl, e)

second_agrees : (t : Table) (n r p k i : ℕ) (b : Option ℕ) → t.split ≡ None → MoveAgrees t (into_second t n r p k i b)
second_agrees t n r p k i None e = (refl, tt)
second_agrees t n r p k i (Some j) e = (refl, e)

two_agrees : (t : Table) (n r p k : ℕ) (b : Option ℕ) → t.split ≡ None → MoveAgrees t (into_two t n r p k b)
two_agrees t n r p k None e = (refl, tt)
two_agrees t n r p k (Some i) e = second_agrees t n r p k i (free_from t n (i + 1)) e

module _ (before : ℕ → ℕ → Bool) (ws : List ℕ) (t : Table) (r : ℕ) where
  starting_agrees : (p : ℕ) → t.split ≡ None → MoveAgrees t (starting before ws t r p)
  starting_agrees p e =
      let n = page_count ws in
      let ks = live_keys ws (page_at t p).committed p in
      cond_both (leb (key_count ks) 4) (into_one t n r p (split_key before ks) (free_from t n 0)) (into_two t n r p (split_key before ks) (free_from t n 0)) (MoveAgrees t)
      (λ _. one_agrees t n r p (split_key before ks) (free_from t n 0) e)
      (λ _. two_agrees t n r p (split_key before ks) (free_from t n 0) e)

  crowded_agrees : (p : ℕ) (b : Option Split) → t.split ≡ b → MoveAgrees t (crowded before ws t r p b)
  crowded_agrees p (Some s) e = (refl, tt)
  crowded_agrees p None e = starting_agrees p e

  entering_page_agrees : (p : ℕ) (b : Option ℕ) → MoveAgrees t (entering_page before ws t r p b)
  entering_page_agrees p (Some i) = (refl, tt)
  entering_page_agrees p None =
      cond_both (ltb (page_at t p).taken 8) (takes t r p) (crowded before ws t r p t.split) (MoveAgrees t) (λ _. (refl, tt)) (λ _. crowded_agrees p t.split refl)

  entering_agrees : (k p : ℕ) (u : Standing) → MoveAgrees t (entering before ws t r k p u)
  entering_agrees k p Whole = entering_page_agrees p (found ws (page_at t p).committed p k)
  entering_agrees k p InCopy = (refl, tt)
  entering_agrees k p (InSync s) = (refl, tt)
  entering_agrees k p (InLink s) = (refl, tt)
  entering_agrees k p Left = entering_page_agrees p (found ws (page_at t p).committed p k)

  locating_page_agrees : (k p : ℕ) (m : Operation) → MoveAgrees t (locating_page before ws t r k p m)
  locating_page_agrees k p Enter = entering_agrees k p (standing t p)
  locating_page_agrees k p Change = (refl, tt)
  locating_page_agrees k p Remove = (refl, tt)
  locating_page_agrees k p Look = (refl, tt)

  locating_agrees : (x : Runner) → MoveAgrees t (locating before ws t r x)
  locating_agrees x = locating_page_agrees x.key (covering before ws t x.key) x.operation

-- What a standing says of the split: in sync a page may be pended on and compared.

abbrev Says : Table → ℕ → Standing → Type 0
Says t p Whole = Unit {0}
Says t p InCopy = Unit {0}
Says t p (InSync s) = (may_pend t.split p ≡ true) × (may_compare t.split (listed t) p ≡ true)
Says t p (InLink s) = Unit {0}
Says t p Left = Unit {0}

phase_says : (t : Table) (p : ℕ) (s : Split) (g : Progress) → (unlinked g ≡ true → past_copy g ≡ true → (may_pend t.split p ≡ true) × (may_compare t.split (listed t) p ≡ true)) → Says t p (in_phase s (phase g))
phase_says t p s (Clearing n) h = tt
phase_says t p s LeftNext h = tt
phase_says t p s LeftLow h = tt
phase_says t p s RightNext h = tt
phase_says t p s RightLow h = tt
phase_says t p s (Copying i) h = tt
phase_says t p s (CopyingValue i k w) h = tt
phase_says t p s (CopyingKey i k) h = tt
phase_says t p s (Syncing i) h = h refl refl
phase_says t p s (SyncingNew i o) h = h refl refl
phase_says t p s (SyncingSwap i o w) h = h refl refl
phase_says t p s Linking h = tt
phase_says t p s Finishing h = tt

standing_in_says : (t : Table) (p : ℕ) (o : Option Split) → t.split ≡ o → Says t p (standing_in o p)
standing_in_says t p None e = tt
standing_in_says t p (Some s) e =
    cond_both (eqb s.old p) (in_phase s (phase s.progress)) Whole (Says t p)
    (λ d. phase_says t p s s.progress (λ u v.
    let a : may_pend (Some s) p ≡ true = and_from (eqb s.old p) (unlinked s.progress) d u in
    let b : may_compare (Some s) (listed t) p ≡ true = let c = and_from (eqb s.old p) (past_copy s.progress) d v in grind (arith, nat_tests) in
    (rw e a, rw e b)))
    (λ _. tt)

standing_says : (t : Table) (p : ℕ) → Says t p (standing t p)
standing_says t p = cond_both (listed t p) (standing_in t.split p) Left (Says t p) (λ _. standing_in_says t p t.split refl) (λ _. tt)

-- and of the page that a runner holds, if any
abbrev HeldSays : Table → Option ℕ → Standing → Type 0
HeldSays t None u = Unit {0}
HeldSays t (Some p) u = Says t p u

held_says : (t : Table) (h : Option ℕ) → HeldSays t h (held_standing t h)
held_says t None = tt
held_says t (Some p) = standing_says t p

-- The runner's own moves.

module _ (t : Table) (r : ℕ) where
  acting_found_agrees : (x : Runner) (p i : ℕ) (o : Operation) → MoveAgrees t (acting_found r x p i o)
  acting_found_agrees x p i Enter = (tt, tt)
  acting_found_agrees x p i Change = (refl, tt)
  acting_found_agrees x p i Remove = (refl, tt)
  acting_found_agrees x p i Look = (tt, tt)

  acting_page_agrees : (x : Runner) (p : ℕ) (o : Option ℕ) → MoveAgrees t (acting_page r x p o)
  acting_page_agrees x p None = (refl, tt)
  acting_page_agrees x p (Some i) = acting_found_agrees x p i x.operation

  clearing_agrees : (q : ℕ) (a : Answer) (o : Option ℕ) → MoveAgrees t (clearing_slot r q a o)
  clearing_agrees q a None = (refl, tt)
  clearing_agrees q a (Some n) = (refl, tt)

  syncing_found_agrees : (x : Runner) (p i : ℕ) (o : Operation) → (may_pend t.split p ≡ true) × (may_compare t.split (listed t) p ≡ true) → MoveAgrees t (syncing_found r x p i o)
  syncing_found_agrees x p i Enter h = (tt, tt)
  syncing_found_agrees x p i Change h = (h.0, tt)
  syncing_found_agrees x p i Remove h = (h.0, tt)
  syncing_found_agrees x p i Look h = (h.1, tt)

  syncing_page_agrees : (before : ℕ → ℕ → Bool) (ws : List ℕ) (s : Split) (x : Runner) (p : ℕ) (o : Option ℕ) → (may_pend t.split p ≡ true) × (may_compare t.split (listed t) p ≡ true) →
      MoveAgrees t (syncing_page before ws s r x p o)
  syncing_page_agrees before ws s x p None h = clearing_agrees (new_page before s x.key) NotThere (new_slot before ws s x.key)
  syncing_page_agrees before ws s x p (Some i) h = syncing_found_agrees x p i x.operation h

  reading_slot_agrees : (q : ℕ) (o : Option ℕ) → MoveAgrees t (reading_slot r q o)
  reading_slot_agrees q None = (refl, tt)
  reading_slot_agrees q (Some n) = (tt, tt)

  reading_agrees : (before : ℕ → ℕ → Bool) (ws : List ℕ) (s : Split) (x : Runner) → MoveAgrees t (reading before ws s r x)
  reading_agrees before ws s x = reading_slot_agrees (new_page before s x.key) (new_slot before ws s x.key)

  linking_as_agrees : (before : ℕ → ℕ → Bool) (ws : List ℕ) (s : Split) (x : Runner) (o : Operation) → MoveAgrees t (linking_as before ws s r x o)
  linking_as_agrees before ws s x Enter = (tt, tt)
  linking_as_agrees before ws s x Change = (refl, tt)
  linking_as_agrees before ws s x Remove = (refl, tt)
  linking_as_agrees before ws s x Look = reading_agrees before ws s x

  pending_new_agrees : (q p i : ℕ) (o : Option ℕ) → may_pend t.split p ≡ true → MoveAgrees t (pending_new r q p i o)
  pending_new_agrees q p i None h = (refl, tt)
  pending_new_agrees q p i (Some n) h = (h, tt)

  pending_agrees : (before : ℕ → ℕ → Bool) (ws : List ℕ) (s : Split) (x : Runner) (g : Stage) → agrees t.split (listed t) g ≡ true → MoveAgrees t (pending_at before ws s r x g)
  pending_agrees before ws s x Idle h = (tt, tt)
  pending_agrees before ws s x Locating h = (tt, tt)
  pending_agrees before ws s x (WritingValue p i) h = (tt, tt)
  pending_agrees before ws s x (WritingKey p i) h = (tt, tt)
  pending_agrees before ws s x (Committing p i) h = (tt, tt)
  pending_agrees before ws s x Helping h = (tt, tt)
  pending_agrees before ws s x (Acting p) h = (tt, tt)
  pending_agrees before ws s x (PendingNew p i) h = pending_new_agrees (new_page before s x.key) p i (new_slot before ws s x.key) h
  pending_agrees before ws s x (PendingOld p i n w) h = (h, tt)
  pending_agrees before ws s x (PendingSwap p i n w o) h = ((refl, h), tt)
  pending_agrees before ws s x (PendingRemove p) h = clearing_agrees (new_page before s x.key) Done (new_slot before ws s x.key)
  pending_agrees before ws s x (Comparing p o) h = (tt, tt)
  pending_agrees before ws s x (ComparingSwap p n w o) h = (tt, tt)
  pending_agrees before ws s x (Reading p) h = (tt, tt)
  pending_agrees before ws s x (Answered a v) h = (tt, tt)

  comparing_slot_agrees : (q p o : ℕ) (n : Option ℕ) → may_compare t.split (listed t) p ≡ true → MoveAgrees t (comparing_slot r q p o n)
  comparing_slot_agrees q p o None h = (refl, tt)
  comparing_slot_agrees q p o (Some n) h = (h, tt)

  writing_agrees : (m : Move) (u : Standing) → MoveAgrees t m → MoveAgrees t (writing r m u)
  writing_agrees m Whole h = h
  writing_agrees m InCopy h = (refl, tt)
  writing_agrees m (InSync s) h = (refl, tt)
  writing_agrees m (InLink s) h = (refl, tt)
  writing_agrees m Left h = (refl, tt)

-- Split steps.

module _ (t : Table) (s : Split) (here : t.split ≡ Some s) where
  -- a step in the copy phase, and one after it that does not link
  copies_on : (u : Split) → u.old ≡ s.old → past_copy s.progress ≡ false → unlinked s.progress ≡ false → Goes_on t u
  copies_on u o p n = record { from = s; here = here; old = o; past = λ h. absurd (both_ways _ p h); pend = λ i _ h. absurd (both_ways _ n h) }

  syncs_on : (u : Split) → u.old ≡ s.old → past_copy u.progress ≡ true → unlinked u.progress ≡ true → Goes_on t u
  syncs_on u o p n = record { from = s; here = here; old = o; past = λ _. p; pend = λ i _ _. n }

  -- nobody is pending
  nobody : (o : Option ℕ) → o ≡ None → Missed (pends t s.old) 0 8 o → (i : ℕ) → pending_on (runner_at t i).stage s.old ≡ false
  nobody None e m i = ⊎_elim (λ h. m i (omega arith) (omega arith)) (λ h. rw (idle_past t i h) refl) (cases_lt i 8)
  nobody (Some k) e m i = absurd (let z : ◌≡◌ {A = ℕ} 0 1 = cc in omega arith)

  links_on : (b : Option ℕ) → b ≡ None → Missed (pends t s.old) 0 8 b → Goes_on t (with_progress s Finishing)
  links_on b e m = record { from = s; here = here; old = refl; past = λ _. refl; pend = λ i h _. absurd (both_ways _ (nobody b e m i) h) }

  copying_agrees : (ws : List ℕ) (r i : ℕ) (o : Option ℕ) → s.progress ≡ Copying i → MoveAgrees t (copying ws r s o)
  copying_agrees ws r i None e = (tt, (refl, copies_on (with_progress s (Syncing 0)) refl (rw e refl) (rw e refl)))
  copying_agrees ws r i (Some j) e = (tt, (refl, λ w. copies_on _ refl (rw e refl) (rw e refl)))

  syncing_slot_agrees : (ws : List ℕ) (r i : ℕ) → MoveAgrees t (syncing_slot ws r s i)
  syncing_slot_agrees ws r i =
      cond_both (eqb (word ws (key_at s.old i)) 0) _ _ (MoveAgrees t) (λ _. (tt, (refl, syncs_on _ refl refl refl))) (λ _. (tt, (refl, λ v. syncs_on _ refl refl refl)))

  syncing_agrees : (ws : List ℕ) (r : ℕ) (o : Option ℕ) → MoveAgrees t (syncing ws r s o)
  syncing_agrees ws r None = (tt, (refl, syncs_on (with_progress s Linking) refl refl refl))
  syncing_agrees ws r (Some i) = syncing_slot_agrees ws r i

  levelled_on : (i v w : ℕ) → Goes_on t (with_progress s (levelled i v w))
  levelled_on i v w =
      cond_both (mark_of w && not (same w v)) (SyncingSwap i v w) (Syncing (slot_after i)) (λ g. Goes_on t (with_progress s g)) (λ _. syncs_on _ refl refl refl) (λ _. syncs_on _ refl refl refl)

  clearing_on : (n : ℕ) → past_copy s.progress ≡ false → unlinked s.progress ≡ false → Goes_on t (with_progress s (clearing_after s n))
  clearing_on n p u = copies_on (with_progress s (clearing_after s n)) refl p u

  linking_agrees : (before : ℕ → ℕ → Bool) (ws : List ℕ) (m : Move) (o : Option ℕ) → AllAgree t → (o ≡ None → MoveAgrees t m) → MoveAgrees t (linking before ws t s m o)
  linking_agrees before ws m (Some q) S h = pending_agrees t q before ws s (runner_at t q) (runner_at t q).stage (S q)
  linking_agrees before ws m None S h = h refl

  split_step_agrees : (before : ℕ → ℕ → Bool) (ws : List ℕ) (r : ℕ) (g : Progress) → s.progress ≡ g → Apart t s → AllAgree t → MoveAgrees t (split_step_at before ws t r s g)
  split_step_agrees before ws r (Clearing n) e A S = (tt, (refl, clearing_on n (rw e refl) (rw e refl)))
  split_step_agrees before ws r LeftNext e A S = (tt, (refl, copies_on _ refl (rw e refl) (rw e refl)))
  split_step_agrees before ws r LeftLow e A S = (tt, (refl, copies_on _ refl (rw e refl) (rw e refl)))
  split_step_agrees before ws r RightNext e A S = (tt, (refl, copies_on _ refl (rw e refl) (rw e refl)))
  split_step_agrees before ws r RightLow e A S = (tt, (refl, copies_on _ refl (rw e refl) (rw e refl)))
  split_step_agrees before ws r (Copying i) e A S = copying_agrees ws r i (live_from ws (page_at t s.old).committed s.old i) e
  split_step_agrees before ws r (CopyingValue i k w) e A S = (tt, (refl, copies_on _ refl (rw e refl) (rw e refl)))
  split_step_agrees before ws r (CopyingKey i k) e A S = (tt, (refl, copies_on (copied before s i k) refl (rw e refl) (rw e refl)))
  split_step_agrees before ws r (Syncing i) e A S = syncing_agrees ws r (standing_from ws s i)
  split_step_agrees before ws r (SyncingNew i v) e A S = (tt, (refl, λ w. levelled_on i v w))
  split_step_agrees before ws r (SyncingSwap i v w) e A S = (tt, (refl, syncs_on _ refl refl refl))
  split_step_agrees before ws r Linking e A S =
      linking_agrees before ws _ (first_pending t s.old) S (λ n. (tt, (refl, links_on (first_pending t s.old) n (first_missed (pends t s.old) 0 8))))
  split_step_agrees before ws r Finishing e A S = linking_agrees before ws _ (first_pending t s.old) S (λ n. (tt, (refl, here, A, rw e refl)))

-- The step that is planned.

helping_agrees : (before : ℕ → ℕ → Bool) (ws : List ℕ) (t : Table) (r : ℕ) (x : Runner) (o : Option Split) → t.split ≡ o → WellListed t → AllAgree t → MoveAgrees t (helping before ws t r x o)
helping_agrees before ws t r x (Some s) e G S = split_step_agrees t s e before ws r s.progress refl (G.apart s e) S
helping_agrees before ws t r x None e G S = locating_agrees before ws t r x

module _ (before : ℕ → ℕ → Bool) (ws : List ℕ) (t : Table) (r : ℕ) (x : Runner) where
  acting_in_agrees : (p : ℕ) (u : Standing) → Says t p u → MoveAgrees t (acting_in before ws t r x p u)
  acting_in_agrees p Whole h = acting_page_agrees t r x p (found ws (page_at t p).committed p x.key)
  acting_in_agrees p InCopy h = acting_page_agrees t r x p (found ws (page_at t p).committed p x.key)
  acting_in_agrees p (InSync s) h = syncing_page_agrees t r before ws s x p (found ws (page_at t p).committed p x.key) h
  acting_in_agrees p (InLink s) h = linking_as_agrees t r before ws s x x.operation
  acting_in_agrees p Left h = locating_agrees before ws t r x

  pending_in_agrees : (u : Standing) → agrees t.split (listed t) x.stage ≡ true → MoveAgrees t (pending_in before ws t r x u)
  pending_in_agrees Whole h = locating_agrees before ws t r x
  pending_in_agrees InCopy h = locating_agrees before ws t r x
  pending_in_agrees (InSync s) h = pending_agrees t r before ws s x x.stage h
  pending_in_agrees (InLink s) h = pending_agrees t r before ws s x x.stage h
  pending_in_agrees Left h = locating_agrees before ws t r x

  comparing_in_agrees : (p o : ℕ) (u : Standing) → may_compare t.split (listed t) p ≡ true → MoveAgrees t (comparing_in before ws t r x p o u)
  comparing_in_agrees p o Whole h = locating_agrees before ws t r x
  comparing_in_agrees p o InCopy h = locating_agrees before ws t r x
  comparing_in_agrees p o (InSync s) h = comparing_slot_agrees t r (new_page before s x.key) p o (new_slot before ws s x.key) h
  comparing_in_agrees p o (InLink s) h = reading_agrees t r before ws s x
  comparing_in_agrees p o Left h = locating_agrees before ws t r x

  comparing_swap_in_agrees : (p n w o : ℕ) (u : Standing) → may_compare t.split (listed t) p ≡ true → MoveAgrees t (comparing_swap_in before ws t r x p n w o u)
  comparing_swap_in_agrees p n w o Whole h = locating_agrees before ws t r x
  comparing_swap_in_agrees p n w o InCopy h = locating_agrees before ws t r x
  comparing_swap_in_agrees p n w o (InSync s) h = (h, tt)
  comparing_swap_in_agrees p n w o (InLink s) h = reading_agrees t r before ws s x
  comparing_swap_in_agrees p n w o Left h = locating_agrees before ws t r x

  reading_in_agrees : (u : Standing) → MoveAgrees t (reading_in before ws t r x u)
  reading_in_agrees Whole = locating_agrees before ws t r x
  reading_in_agrees InCopy = locating_agrees before ws t r x
  reading_in_agrees (InSync s) = reading_agrees t r before ws s x
  reading_in_agrees (InLink s) = reading_agrees t r before ws s x
  reading_in_agrees Left = locating_agrees before ws t r x

  planned_at_agrees : (g : Stage) → WellListed t → AllAgree t → agrees t.split (listed t) x.stage ≡ true → agrees t.split (listed t) g ≡ true → (u : Standing) → HeldSays t (held g) u →
      MoveAgrees t (planned_at before ws t r x g u)
  planned_at_agrees Idle G S k h u d = (tt, tt)
  planned_at_agrees Locating G S k h u d = locating_agrees before ws t r x
  planned_at_agrees (WritingValue p i) G S k h u d = writing_agrees t r _ u (refl, tt)
  planned_at_agrees (WritingKey p i) G S k h u d = writing_agrees t r _ u (refl, tt)
  planned_at_agrees (Committing p i) G S k h u d = writing_agrees t r _ u (refl, tt)
  planned_at_agrees Helping G S k h u d = helping_agrees before ws t r x t.split refl G S
  planned_at_agrees (Acting p) G S k h u d = acting_in_agrees p u d
  planned_at_agrees (PendingNew p i) G S k h u d = pending_in_agrees u k
  planned_at_agrees (PendingOld p i n w) G S k h u d = pending_in_agrees u k
  planned_at_agrees (PendingSwap p i n w o) G S k h u d = pending_in_agrees u k
  planned_at_agrees (PendingRemove p) G S k h u d = pending_in_agrees u k
  planned_at_agrees (Comparing p o) G S k h u d = comparing_in_agrees p o u h
  planned_at_agrees (ComparingSwap p n w o) G S k h u d = comparing_swap_in_agrees p n w o u h
  planned_at_agrees (Reading p) G S k h u d = reading_in_agrees u
  planned_at_agrees (Answered a v) G S k h u d = (tt, tt)

pub planned_agrees : (before : ℕ → ℕ → Bool) (ws : List ℕ) (t : Table) (r : ℕ) → WellListed t → AllAgree t → MoveAgrees t (planned before ws t r (runner_at t r))
planned_agrees before ws t r G S =
    planned_at_agrees before ws t r (runner_at t r) (runner_at t r).stage G S (S r) (S r) (held_standing t (held (runner_at t r).stage)) (held_says t (held (runner_at t r).stage))
