-- Stages and the split go on agreeing: the runner's own new stage, and every other stage as the split goes on.
use Rattle.std.proofs.Common.{◌≡◌, ℕ, Bool, true, false, cond, not, ◌||◌, eqb, ◌≢◌, Some, None, Option, sym, refl, ap, ◌∙◌, ⊎_elim, arith}
use Rattle.std.proofs.lemmas.Bool.{cond_both, and_parts, and_from, both_ways, eqb-true, eqb-false, eq-eqb}
use Rattle.std.proofs.lemmas.Bool.Decides.{nat_tests}
use Rattle.protocol.specs.declared.numbers.Answer.TheVariants.{Done}
use Rattle.protocol.specs.declared.table.Stage.{Stage}
use Rattle.protocol.specs.declared.table.Stage.TheVariants.{Idle, Locating, WritingValue, WritingKey, Committing, Helping, Acting, PendingNew, PendingOld, PendingSwap, PendingRemove, Comparing, ComparingSwap, Reading, Answered}
use Rattle.protocol.specs.declared.table.Runner.{Runner}
use Rattle.protocol.specs.declared.table.Progress.TheVariants.{CopyingValue, SyncingNew}
use Rattle.protocol.specs.declared.table.PageRow.{PageRow}
use Rattle.protocol.specs.declared.table.Split.{Split}
use Rattle.protocol.specs.declared.table.Table.{Table}
use Rattle.protocol.specs.declared.moves.Outcome.{Outcome}
use Rattle.protocol.specs.declared.moves.RunnerNext.{RunnerNext}
use Rattle.protocol.specs.declared.moves.RunnerNext.TheVariants as own
use Rattle.protocol.specs.declared.moves.TableNext.{TableNext}
use Rattle.protocol.specs.declared.moves.TableNext.TheVariants as rest
use Rattle.protocol.specs.declared.moves.Move.{Move}
use Rattle.values.specs.ValueWord.{mark_of, value_of, same}
use Rattle.protocol.specs.Fields.{held, pending_on, runner_at, with_runner, with_stage, no_page, page_at, with_page, row_taken, row_committed, with_progress}
use Rattle.protocol.specs.Search.{preceding}
use Rattle.protocol.specs.Settle.{loaded_word, did_swap, stage_after, levelled, filled, with_next, linked, with_new_pages, finished, table_after, settled}
use Rattle.laws.specs.Arrays.{WholeArrays}
use Rattle.laws.specs.Lists.{listed, Apart}
use Rattle.laws.specs.Stages.{past_copy, unlinked, may_pend, may_compare, agrees, AllAgree}
use Rattle.laws.proofs.Arrays.{linked_whole, new_pages_whole, runner_whole}
use Rattle.laws.proofs.Fitting.{taken_listed, committed_listed}
use Rattle.laws.proofs.ListFinish.{link_read, listed_row}
use Rattle.laws.proofs.ListHolds.{same_or_none, apart_runner, row_same, taken_next, committed_next}
use Rattle.laws.proofs.Tables.{page_with, runner_with}

-- the runner's own new stage

abbrev pub OwnAgrees : Option Split → (ℕ → Bool) → RunnerNext → Type 0
OwnAgrees o L own.Stay = Unit {0}
OwnAgrees o L (own.Go g) = agrees o L g ≡ true
OwnAgrees o L own.AnswerLoaded = Unit {0}
OwnAgrees o L (own.CompareLoaded p) = may_compare o L p ≡ true
OwnAgrees o L (own.JudgeLoaded p n v) = may_compare o L p ≡ true
OwnAgrees o L (own.PendLoaded p i n) = may_pend o p ≡ true
OwnAgrees o L (own.WeighLoaded p i n w) = may_pend o p ≡ true
OwnAgrees o L (own.BySwap a b) = (agrees o L a ≡ true) × (agrees o L b ≡ true)

pub stage_agrees : (o : Option Split) (L : ℕ → Bool) (g : Stage) (m : RunnerNext) (c : Outcome) → agrees o L g ≡ true → OwnAgrees o L m → agrees o L (stage_after g m c) ≡ true
stage_agrees o L g own.Stay c e h = e
stage_agrees o L g (own.Go n) c e h = h
stage_agrees o L g own.AnswerLoaded c e h = refl
stage_agrees o L g (own.CompareLoaded p) c e h = h
stage_agrees o L g (own.JudgeLoaded p n v) c e h =
    let w = loaded_word c in
    cond_both (not (mark_of w) || same w v) (Answered Done (value_of w)) (ComparingSwap p n w v) (λ k. agrees o L k ≡ true) (λ _. refl) (λ _. h)
stage_agrees o L g (own.PendLoaded p i n) c e h = h
stage_agrees o L g (own.WeighLoaded p i n w) c e h =
    cond_both (same (loaded_word c) w) (Answered Done 0) (PendingSwap p i n w (loaded_word c)) (λ k. agrees o L k ≡ true) (λ _. refl) (λ _. h)
stage_agrees o L g (own.BySwap a b) c e h = cond_both (did_swap c) a b (λ k. agrees o L k ≡ true) (λ _. h.0) (λ _. h.1)

eq_self : (n : ℕ) → eqb n n ≡ true
eq_self n = eq-eqb n n refl

-- A stage agrees with another split and list, where a page that could be pending on or compared can be still; a runner that is not pending on the old page is asked nothing of the first.
pub agrees_on : (o u : Option Split) (L M : ℕ → Bool) (old : ℕ) (g : Stage) → agrees o L g ≡ true →
    ((p : ℕ) → may_pend o p ≡ true → p ≡ old) →
    (pending_on g old ≡ true → may_pend u old ≡ true) →
    ((p : ℕ) → Some p ≡ held g → may_compare o L p ≡ true → may_compare u M p ≡ true) → agrees u M g ≡ true
agrees_on o u L M old Idle e a b c = refl
agrees_on o u L M old Locating e a b c = refl
agrees_on o u L M old (WritingValue p i) e a b c = refl
agrees_on o u L M old (WritingKey p i) e a b c = refl
agrees_on o u L M old (Committing p i) e a b c = refl
agrees_on o u L M old Helping e a b c = refl
agrees_on o u L M old (Acting p) e a b c = refl
agrees_on o u L M old (PendingNew p i) e a b c = let d = a p e in rw d (b (rw d (eq_self old)))
agrees_on o u L M old (PendingOld p i n w) e a b c = let d = a p e in rw d (b (rw d (eq_self old)))
agrees_on o u L M old (PendingSwap p i n w v) e a b c = let d = a p e in rw d (b (rw d (eq_self old)))
agrees_on o u L M old (PendingRemove p) e a b c = let d = a p e in rw d (b (rw d (eq_self old)))
agrees_on o u L M old (Comparing p v) e a b c = c p refl e
agrees_on o u L M old (ComparingSwap p n w v) e a b c = c p refl e
agrees_on o u L M old (Reading p) e a b c = c p refl e
agrees_on o u L M old (Answered d v) e a b c = refl

-- the same list by another function
agrees_same : (o : Option Split) (L M : ℕ → Bool) (g : Stage) → ((p : ℕ) → M p ≡ L p) → agrees o L g ≡ true → agrees o M g ≡ true
agrees_same o L M Idle l e = refl
agrees_same o L M Locating l e = refl
agrees_same o L M (WritingValue p i) l e = refl
agrees_same o L M (WritingKey p i) l e = refl
agrees_same o L M (Committing p i) l e = refl
agrees_same o L M Helping l e = refl
agrees_same o L M (Acting p) l e = refl
agrees_same o L M (PendingNew p i) l e = e
agrees_same o L M (PendingOld p i n w) l e = e
agrees_same o L M (PendingSwap p i n w v) l e = e
agrees_same o L M (PendingRemove p) l e = e
agrees_same o L M (Comparing p v) l e = rw (l p) e
agrees_same o L M (ComparingSwap p n w v) l e = rw (l p) e
agrees_same o L M (Reading p) l e = rw (l p) e
agrees_same o L M (Answered a v) l e = refl

-- who is pending on a page may be
pending_may : (o : Option Split) (L : ℕ → Bool) (q : ℕ) (g : Stage) → agrees o L g ≡ true → pending_on g q ≡ true → may_pend o q ≡ true
pending_may o L q Idle e h = absurd (both_ways false refl h)
pending_may o L q Locating e h = absurd (both_ways false refl h)
pending_may o L q (WritingValue p i) e h = absurd (both_ways false refl h)
pending_may o L q (WritingKey p i) e h = absurd (both_ways false refl h)
pending_may o L q (Committing p i) e h = absurd (both_ways false refl h)
pending_may o L q Helping e h = absurd (both_ways false refl h)
pending_may o L q (Acting p) e h = absurd (both_ways false refl h)
pending_may o L q (PendingNew p i) e h = rw (eqb-true p q h) at e
pending_may o L q (PendingOld p i n w) e h = rw (eqb-true p q h) at e
pending_may o L q (PendingSwap p i n w v) e h = rw (eqb-true p q h) at e
pending_may o L q (PendingRemove p) e h = rw (eqb-true p q h) at e
pending_may o L q (Comparing p v) e h = absurd (both_ways false refl h)
pending_may o L q (ComparingSwap p n w v) e h = absurd (both_ways false refl h)
pending_may o L q (Reading p) e h = absurd (both_ways false refl h)
pending_may o L q (Answered a v) e h = absurd (both_ways false refl h)

-- The split goes on: its old page is the same, it does not go back to copying, and it is linked only when nobody is pending.
pub record Goes_on (t : Table) (u : Split) : Type 0 where
  pub from : Split
  pub here : t.split ≡ Some from
  pub old : u.old ≡ from.old
  pub past : past_copy from.progress ≡ true → past_copy u.progress ≡ true
  pub pend : (i : ℕ) → pending_on (runner_at t i).stage from.old ≡ true → unlinked from.progress ≡ true → unlinked u.progress ≡ true

abbrev pub RestAgrees : Table → RunnerNext → TableNext → Type 0
RestAgrees t n rest.Stay = Unit {0}
RestAgrees t n (rest.Take p) = Unit {0}
RestAgrees t n (rest.Commit p i) = Unit {0}
RestAgrees t n (rest.Start s r) = t.split ≡ None
RestAgrees t n (rest.Go s) = (n ≡ own.Stay) × Goes_on t s
RestAgrees t n (rest.CopyLoaded s i k) = (n ≡ own.Stay) × ((w : ℕ) → Goes_on t (with_progress s (CopyingValue i k w)))
RestAgrees t n (rest.SyncLoaded s i) = (n ≡ own.Stay) × ((v : ℕ) → Goes_on t (with_progress s (SyncingNew i v)))
RestAgrees t n (rest.LevelLoaded s i v) = (n ≡ own.Stay) × ((w : ℕ) → Goes_on t (with_progress s (levelled i v w)))
RestAgrees t n (rest.Finish s) = (n ≡ own.Stay) × (t.split ≡ Some s) × Apart t s × (unlinked s.progress ≡ false)

abbrev pub MoveAgrees : Table → Move → Type 0
MoveAgrees t m = OwnAgrees t.split (listed t) m.own × RestAgrees t m.own m.rest

going_agrees : (t : Table) (L : ℕ → Bool) (u : Split) (i : ℕ) → Goes_on t u → agrees t.split L (runner_at t i).stage ≡ true → agrees (Some u) L (runner_at t i).stage ≡ true
going_agrees t L u i W e =
    let f = W.from in
    let g = (runner_at t i).stage in
    let d : agrees (Some f) L g ≡ true = rw W.here at e in
    let o = W.old in
    agrees_on (Some f) (Some u) L L f.old g d
    (λ p h. sym (eqb-true f.old p (and_parts _ _ h).0))
    (λ h. let m = pending_may (Some f) L f.old g d h in let k = W.pend i h (and_parts _ _ m).1 in and_from (eqb u.old f.old) (unlinked u.progress) (eq-eqb u.old f.old o) k)
    (λ p _ h. let k = W.past in grind (arith, nat_tests))

starting_agrees : (L : ℕ → Bool) (o : Option Split) (s : Split) (g : Stage) → o ≡ None → agrees o L g ≡ true → agrees (Some s) L g ≡ true
starting_agrees L o s g z e =
    let d : agrees None L g ≡ true = rw z at e in
    agrees_on None (Some s) L L 0 g d (λ p h. absurd (both_ways false refl h)) (λ h. absurd (both_ways false refl (pending_may None L 0 g d h))) (λ p _ h. grind (arith, nat_tests))

-- what is listed after the last step of a split, of a page that is none of its new ones

linked_listed : (t : Table) (l : ℕ) (o : Option ℕ) (p : ℕ) → listed (linked t l o) p ≡ listed t p
linked_listed t l None p = refl
linked_listed t l (Some q) p = ⊎_elim (λ s. ap (λ v. v.listed) s) (λ s. ap (λ v. v.listed) s.1 ∙ ap (listed t) (sym s.0)) (page_with t q (with_next (page_at t q) l) p)

other_listed : (t : Table) (q : ℕ) (x : PageRow) (p : ℕ) → p ≢ q → listed (with_page t q x) p ≡ listed t p
other_listed t q x p n = ⊎_elim (λ s. ap (λ v. v.listed) s) (λ s. absurd (n s.0)) (page_with t q x p)

new_pages_listed : (t : Table) (s : Split) (a p : ℕ) → p ≢ s.left → (s.right ≢ 0 → p ≢ s.right) → listed (with_new_pages t s a) p ≡ listed t p
new_pages_listed t s a p l r =
    let v = with_page t s.left (filled s.right s.lefts) in
    cond_both (eqb s.right 0) (with_page t s.left (filled a s.lefts)) (with_page v s.right (filled a s.rights)) (λ u. listed u p ≡ listed t p)
    (λ _. other_listed t s.left (filled a s.lefts) p l)
    (λ e. other_listed v s.right (filled a s.rights) p (r (eqb-false s.right 0 e)) ∙ other_listed t s.left (filled s.right s.lefts) p l)

finished_listed : (t : Table) (s : Split) (p : ℕ) → WholeArrays t → Apart t s → p ≢ s.left → (s.right ≢ 0 → p ≢ s.right) → listed (finished t s) p ≡ cond (eqb p s.old) false (listed t p)
finished_listed t s p W A l r =
    let a = (page_at t s.old).next in
    let b = preceding t s.old in
    let u = with_new_pages t s a in
    let V = linked_whole u s.left b (new_pages_whole t s a W) in
    (link_read (linked u s.left b) s.old no_page p V (listed_row t s.old A.old)).0
    ∙ ap (λ v. cond (eqb p s.old) false v) (linked_listed u s.left b p ∙ new_pages_listed t s a p l r)

finishing_agrees : (t : Table) (s : Split) (i : ℕ) → WholeArrays t → t.split ≡ Some s → Apart t s → unlinked s.progress ≡ false → agrees t.split (listed t) (runner_at t i).stage ≡ true →
    agrees None (listed (finished t s)) (runner_at t i).stage ≡ true
finishing_agrees t s i W here A f e =
    let g = (runner_at t i).stage in
    let d : agrees (Some s) (listed t) g ≡ true = rw here at e in
    agrees_on (Some s) None (listed t) (listed (finished t s)) s.old g d
    (λ p h. absurd (both_ways (unlinked s.progress) f (and_parts _ _ h).1))
    (λ h. absurd (both_ways (unlinked s.progress) f (and_parts _ _ (pending_may (Some s) (listed t) s.old g d h)).1))
    (λ p q h.
    let l = A.left.unheld i in
    let m = finished_listed t s p W A (λ z. l (sym q ∙ ap Some z)) (λ n z. (A.right n).unheld i (sym q ∙ ap Some z)) in
    grind (arith, nat_tests))

-- and the runners are as they were

new_pages_runner : (t : Table) (s : Split) (a i : ℕ) → runner_at (with_new_pages t s a) i ≡ runner_at t i
new_pages_runner t s a i =
    cond_both (eqb s.right 0) (with_page t s.left (filled a s.lefts)) (with_page (with_page t s.left (filled s.right s.lefts)) s.right (filled a s.rights)) (λ u. runner_at u i ≡ runner_at t i)
    (λ _. refl)
    (λ _. refl)

linked_runner : (t : Table) (l : ℕ) (o : Option ℕ) (i : ℕ) → runner_at (linked t l o) i ≡ runner_at t i
linked_runner t l None i = refl
linked_runner t l (Some q) i = refl

finished_runner : (t : Table) (s : Split) (i : ℕ) → runner_at (finished t s) i ≡ runner_at t i
finished_runner t s i =
    let a = (page_at t s.old).next in
    linked_runner (with_new_pages t s a) s.left (preceding t s.old) i ∙ new_pages_runner t s a i

all_finished : (t : Table) (s : Split) → WholeArrays t → t.split ≡ Some s → Apart t s → unlinked s.progress ≡ false → AllAgree t → AllAgree (finished t s)
all_finished t s W here A f S i = rw (finished_runner t s i) (finishing_agrees t s i W here A f (S i))

-- the table after the rest of a move

rest_agrees : (t : Table) (m : TableNext) (c : Outcome) → WholeArrays t → AllAgree t → RestAgrees t own.Stay m → AllAgree (table_after t m c)
rest_agrees t rest.Stay c W S h = S
rest_agrees t (rest.Take p) c W S h =
    λ i. agrees_same t.split (listed t) _ (runner_at t i).stage (λ q. (row_same t p (row_taken (page_at t p)) (taken_listed (page_at t p)) (taken_next (page_at t p)) q).0) (S i)
rest_agrees t (rest.Commit p k) c W S h =
    λ i. agrees_same t.split (listed t) _ (runner_at t i).stage (λ q. (row_same t p (row_committed (page_at t p) k) (committed_listed (page_at t p) k) (committed_next (page_at t p) k) q).0) (S i)
rest_agrees t (rest.Start s r) c W S h = λ i. starting_agrees (listed t) t.split s (runner_at t i).stage h (S i)
rest_agrees t (rest.Go s) c W S h = λ i. going_agrees t (listed t) s i h.1 (S i)
rest_agrees t (rest.CopyLoaded s j k) c W S h = λ i. going_agrees t (listed t) _ i (h.1 (loaded_word c)) (S i)
rest_agrees t (rest.SyncLoaded s j) c W S h = λ i. going_agrees t (listed t) _ i (h.1 (loaded_word c)) (S i)
rest_agrees t (rest.LevelLoaded s j v) c W S h = λ i. going_agrees t (listed t) _ i (h.1 (loaded_word c)) (S i)
rest_agrees t (rest.Finish s) c W S h = all_finished t s W h.1 h.2 h.3 S

-- the table after a move

-- where the runner's stage stays, all stages do
stays : (t : Table) (r : ℕ) (x : Runner) (i : ℕ) → x.stage ≡ (runner_at t r).stage → (runner_at (with_runner t r x) i).stage ≡ (runner_at t i).stage
stays t r x i e = ⊎_elim (λ s. ap (λ y. y.stage) s) (λ s. ap (λ y. y.stage) s.1 ∙ e ∙ ap (λ j. (runner_at t j).stage) (sym s.0)) (runner_with t r x i)

goes_with : (t : Table) (r : ℕ) (x : Runner) (u : Split) → x.stage ≡ (runner_at t r).stage → Goes_on t u → Goes_on (with_runner t r x) u
goes_with t r x u e W = record { from = W.from; here = W.here; old = W.old; past = W.past; pend = λ i h. W.pend i (rw (stays t r x i e) at h) }

apart_with : (t : Table) (r : ℕ) (x : Runner) (s : Split) → x.stage ≡ (runner_at t r).stage → Apart t s → Apart (with_runner t r x) s
apart_with t r x s e A = apart_runner t r x s (rw e (same_or_none t (held (runner_at t r).stage))) A

rest_with : (t : Table) (r : ℕ) (x : Runner) (n : RunnerNext) (m : TableNext) → (n ≡ own.Stay → x.stage ≡ (runner_at t r).stage) → RestAgrees t n m → RestAgrees (with_runner t r x) own.Stay m
rest_with t r x n rest.Stay f h = tt
rest_with t r x n (rest.Take p) f h = tt
rest_with t r x n (rest.Commit p i) f h = tt
rest_with t r x n (rest.Start s d) f h = h
rest_with t r x n (rest.Go s) f h = (refl, goes_with t r x s (f h.0) h.1)
rest_with t r x n (rest.CopyLoaded s i k) f h = (refl, λ w. goes_with t r x _ (f h.0) (h.1 w))
rest_with t r x n (rest.SyncLoaded s i) f h = (refl, λ w. goes_with t r x _ (f h.0) (h.1 w))
rest_with t r x n (rest.LevelLoaded s i v) f h = (refl, λ w. goes_with t r x _ (f h.0) (h.1 w))
rest_with t r x n (rest.Finish s) f h = (refl, h.1, apart_with t r x s (f h.0) h.2, h.3)

pub move_agrees : (t : Table) (m : Move) (c : Outcome) → WholeArrays t → AllAgree t → MoveAgrees t m → AllAgree (settled t m c)
move_agrees t m c W S h =
    let r = m.runner in
    let x : Runner = with_stage (runner_at t r) (stage_after (runner_at t r).stage m.own c) in
    let g = stage_agrees t.split (listed t) (runner_at t r).stage m.own c (S r) h.0 in
    rest_agrees (with_runner t r x) m.rest c (runner_whole t r x W)
    (λ i. ⊎_elim (λ s. rw s (S i)) (λ s. rw s.1 g) (runner_with t r x i))
    (rest_with t r x m.own m.rest (λ e. rw e refl) h.1)
