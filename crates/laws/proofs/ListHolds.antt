-- What a move must bring so that the page list stays well: a runner comes to hold no new page of the split, and the split's pages stay apart.
use Rattle.std.proofs.Common.{◌≡◌, ℕ, true, not, ◌&&◌, ◌||◌, ltb, ◌⊎◌, Some, None, Option, sym, refl, ap, ◌∙◌, inl, inr, ⊎_elim}
use Rattle.std.specs.Option.{unwrap_or}
use Rattle.std.proofs.lemmas.Bool.{cond_both, both_ways}
use Rattle.protocol.specs.declared.numbers.Answer.TheVariants.{Done}
use Rattle.protocol.specs.declared.table.Stage.{Stage}
use Rattle.protocol.specs.declared.table.Stage.TheVariants.{PendingSwap, ComparingSwap, Answered}
use Rattle.protocol.specs.declared.table.Runner.{Runner}
use Rattle.protocol.specs.declared.table.Progress.{Progress}
use Rattle.protocol.specs.declared.table.PageRow.{PageRow}
use Rattle.protocol.specs.declared.table.Split.{Split}
use Rattle.protocol.specs.declared.table.Table.{Table}
use Rattle.protocol.specs.declared.moves.Outcome.{Outcome}
use Rattle.protocol.specs.declared.moves.RunnerNext.{RunnerNext}
use Rattle.protocol.specs.declared.moves.RunnerNext.TheVariants as own
use Rattle.protocol.specs.declared.moves.TableNext.{TableNext}
use Rattle.protocol.specs.declared.moves.TableNext.TheVariants as rest
use Rattle.protocol.specs.declared.moves.Move.{Move}
use Rattle.values.specs.ValueWord.{mark_of, value_of, same}
use Rattle.protocol.specs.Fields.{held, runner_at, with_runner, with_stage, page_at, with_page, with_split, row_taken, row_committed, with_progress, sound}
use Rattle.protocol.specs.Settle.{loaded_word, did_swap, stage_after, table_after, settled}
use Rattle.laws.specs.Arrays.{WholeArrays}
use Rattle.laws.specs.Lists.{listed, next, Unused, Apart, WellListed}
use Rattle.laws.proofs.Arrays.{runner_whole}
use Rattle.laws.proofs.Fitting.{taken_listed, committed_listed, the_split, none_is_some}
use Rattle.laws.proofs.Links.{links_same}
use Rattle.laws.proofs.ListFinish.{finished_links}
use Rattle.laws.proofs.Tables.{page_with, runner_with}

-- A runner that held h may come to hold no page, a listed one, or what it held.

abbrev pub Hold : Table → Option ℕ → Option ℕ → Type 0
Hold t h None = Unit {0}
Hold t h (Some p) = (listed t p ≡ true) ⊎ (Some p ≡ h)

pub hold_same : (t : Table) (h : Option ℕ) → Hold t h h
hold_same t None = tt
hold_same t (Some p) = inr refl

-- The same where page 0 is none. So much is enough to keep the list.

abbrev pub HoldOrNone : Table → Option ℕ → Option ℕ → Type 0
HoldOrNone t h None = Unit {0}
HoldOrNone t h (Some p) = (p ≡ 0) ⊎ ((listed t p ≡ true) ⊎ (Some p ≡ h))

pub hold_none : (t : Table) (h o : Option ℕ) → unwrap_or o 0 ≡ 0 → HoldOrNone t h o
hold_none t h None e = tt
hold_none t h (Some p) e = inl e

pub hold_or_none : (t : Table) (h o : Option ℕ) → Hold t h o → HoldOrNone t h o
hold_or_none t h None k = tt
hold_or_none t h (Some p) k = inr k

pub same_or_none : (t : Table) (h : Option ℕ) → HoldOrNone t h h
same_or_none t h = hold_or_none t h h (hold_same t h)

-- What a runner may come to hold by a move is H.

abbrev pub OwnHoldsAs : (Option ℕ → Type 0) → RunnerNext → Type 0
OwnHoldsAs H own.Stay = Unit {0}
OwnHoldsAs H (own.Go g) = H (held g)
OwnHoldsAs H own.AnswerLoaded = Unit {0}
OwnHoldsAs H (own.CompareLoaded p) = H (Some p)
OwnHoldsAs H (own.JudgeLoaded p n o) = H (Some p)
OwnHoldsAs H (own.PendLoaded p i n) = H (Some p)
OwnHoldsAs H (own.WeighLoaded p i n w) = H (Some p)
OwnHoldsAs H (own.BySwap a b) = H (held a) × H (held b)

abbrev pub OwnHolds : Table → Option ℕ → RunnerNext → Type 0
OwnHolds t h = OwnHoldsAs (Hold t h)

abbrev pub OwnHoldsOrNone : Table → Option ℕ → RunnerNext → Type 0
OwnHoldsOrNone t h = OwnHoldsAs (HoldOrNone t h)

own_as : (G H : Option ℕ → Type 0) → ((o : Option ℕ) → G o → H o) → (m : RunnerNext) → OwnHoldsAs G m → OwnHoldsAs H m
own_as G H f own.Stay k = tt
own_as G H f (own.Go g) k = f (held g) k
own_as G H f own.AnswerLoaded k = tt
own_as G H f (own.CompareLoaded p) k = f (Some p) k
own_as G H f (own.JudgeLoaded p n o) k = f (Some p) k
own_as G H f (own.PendLoaded p i n) k = f (Some p) k
own_as G H f (own.WeighLoaded p i n w) k = f (Some p) k
own_as G H f (own.BySwap a b) k = (f (held a) k.0, f (held b) k.1)

stage_holds : (H : Option ℕ → Type 0) (g : Stage) (m : RunnerNext) (o : Outcome) → H None → H (held g) → OwnHoldsAs H m → H (held (stage_after g m o))
stage_holds H g own.Stay o n k h = k
stage_holds H g (own.Go a) o n k h = h
stage_holds H g own.AnswerLoaded o n k h = n
stage_holds H g (own.CompareLoaded p) o n k h = h
stage_holds H g (own.JudgeLoaded p i old) o n k h =
    let w = loaded_word o in
    cond_both (not (mark_of w) || same w old) (Answered Done (value_of w)) (ComparingSwap p i w old) (λ a. H (held a)) (λ _. n) (λ _. h)
stage_holds H g (own.PendLoaded p i j) o n k h = h
stage_holds H g (own.WeighLoaded p i j w) o n k h =
    cond_both (same (loaded_word o) w) (Answered Done 0) (PendingSwap p i j w (loaded_word o)) (λ a. H (held a)) (λ _. n) (λ _. h)
stage_holds H g (own.BySwap a b) o n k h = cond_both (did_swap o) a b (λ c. H (held c)) (λ _. h.0) (λ _. h.1)

-- The split's pages stay apart.

abbrev pub RestHolds : Table → TableNext → Type 0
RestHolds t rest.Stay = Unit {0}
RestHolds t (rest.Take p) = Unit {0}
RestHolds t (rest.Commit p i) = Unit {0}
RestHolds t (rest.Start s r) = Apart t s
RestHolds t (rest.Go s) = Apart t s
RestHolds t (rest.CopyLoaded s i k) = Apart t s
RestHolds t (rest.SyncLoaded s i) = Apart t s
RestHolds t (rest.LevelLoaded s i o) = Apart t s
RestHolds t (rest.Finish s) = Apart t s

abbrev pub MoveHolds : Table → Move → Type 0
MoveHolds t m = OwnHolds t (held (runner_at t m.runner).stage) m.own × RestHolds t m.rest

abbrev pub MoveHoldsOrNone : Table → Move → Type 0
MoveHoldsOrNone t m = OwnHoldsOrNone t (held (runner_at t m.runner).stage) m.own × RestHolds t m.rest

pub move_or_none : (t : Table) (m : Move) → MoveHolds t m → MoveHoldsOrNone t m
move_or_none t m h =
    let o = held (runner_at t m.runner).stage in
    (own_as (Hold t o) (HoldOrNone t o) (hold_or_none t o) m.own h.0, h.1)

-- after the runner's record is written

unused_runner : (t : Table) (i : ℕ) (x : Runner) (p : ℕ) → HoldOrNone t (held (runner_at t i).stage) (held x.stage) → Unused t p → Unused (with_runner t i x) p
unused_runner t i x p h U =
    record {
      real = U.real;
      row = U.row;
      off = U.off;
      unheld = λ j.
          ⊎_elim
          (λ s. rw s (U.unheld j))
          (λ s. rw s.1 (λ e. ⊎_elim U.real (⊎_elim (λ l. both_ways (listed t p) U.off l) (λ k. U.unheld i (sym k))) (rw e at h)))
          (runner_with t i x j);
    }

pub apart_runner : (t : Table) (i : ℕ) (x : Runner) (s : Split) → HoldOrNone t (held (runner_at t i).stage) (held x.stage) → Apart t s → Apart (with_runner t i x) s
apart_runner t i x s h A =
    record { old = A.old; left = unused_runner t i x s.left h A.left; right = λ n. unused_runner t i x s.right h (A.right n); two = A.two }

rest_runner : (t u : Table) (m : TableNext) → ((s : Split) → Apart t s → Apart u s) → RestHolds t m → RestHolds u m
rest_runner t u rest.Stay f h = tt
rest_runner t u (rest.Take p) f h = tt
rest_runner t u (rest.Commit p i) f h = tt
rest_runner t u (rest.Start s r) f h = f s h
rest_runner t u (rest.Go s) f h = f s h
rest_runner t u (rest.CopyLoaded s i k) f h = f s h
rest_runner t u (rest.SyncLoaded s i) f h = f s h
rest_runner t u (rest.LevelLoaded s i o) f h = f s h
rest_runner t u (rest.Finish s) f h = f s h

-- in another table with the same pages listed and the same runners

unused_as : (t u : Table) (p : ℕ) → ((q : ℕ) → listed u q ≡ listed t q) → ((i : ℕ) → runner_at u i ≡ runner_at t i) → Unused t p → Unused u p
unused_as t u p l r U = record { real = U.real; row = U.row; off = l p ∙ U.off; unheld = λ i. rw (r i) (U.unheld i) }

pub apart_as : (t u : Table) (s : Split) → ((q : ℕ) → listed u q ≡ listed t q) → ((i : ℕ) → runner_at u i ≡ runner_at t i) → Apart t s → Apart u s
apart_as t u s l r A = record { old = l s.old ∙ A.old; left = unused_as t u s.left l r A.left; right = λ n. unused_as t u s.right l r (A.right n); two = A.two }

-- after a row is written that keeps its links

module _ (t : Table) (p : ℕ) (x : PageRow) (a : x.listed ≡ listed t p) (b : x.next ≡ next t p) where
  pub row_same : (q : ℕ) → (listed (with_page t p x) q ≡ listed t q) × (next (with_page t p x) q ≡ next t q)
  row_same q =
      ⊎_elim
      (λ s. (ap (λ v. v.listed) s, ap (λ v. v.next) s))
      (λ s. (ap (λ v. v.listed) s.1 ∙ a ∙ ap (listed t) (sym s.0), ap (λ v. v.next) s.1 ∙ b ∙ ap (next t) (sym s.0)))
      (page_with t p x q)

  apart_row : (s : Split) → Apart t s → Apart (with_page t p x) s
  apart_row s A = apart_as t (with_page t p x) s (λ q. (row_same q).0) (λ i. refl) A

  pub row_listed : WellListed t → WellListed (with_page t p x)
  row_listed G =
      record {
        place = G.place;
        prev = G.prev;
        links = links_same (listed t) (listed (with_page t p x)) (next t) (next (with_page t p x)) t.first t.first G.place G.prev (λ q. (row_same q).0) (λ q _. (row_same q).1) refl G.links;
        apart = λ s e. apart_row s (G.apart s e);
      }

-- after the rest of the table is settled

with_one : (t : Table) (s : Split) (r : ℕ) → WellListed t → Apart t s → WellListed (with_split t (Some s) r)
with_one t s r G A =
    record {
      place = G.place;
      prev = G.prev;
      links = G.links;
      apart = λ u e. let d : s ≡ u = ap (the_split s) e in apart_as t (with_split t (Some s) r) u (λ p. refl) (λ i. refl) (rw d at A);
    }

pub apart_on : (t : Table) (s : Split) (g : Progress) → Apart t s → Apart t (with_progress s g)
apart_on t s g A = record { old = A.old; left = A.left; right = A.right; two = A.two }

pub taken_next : (p : PageRow) → (row_taken p).next ≡ p.next
taken_next p = cond_both (sound p && ltb p.taken 8) _ p (λ q. q.next ≡ p.next) (λ _. refl) (λ _. refl)

pub committed_next : (p : PageRow) (i : ℕ) → (row_committed p i).next ≡ p.next
committed_next p i = cond_both (sound p && ltb i p.taken) _ p (λ q. q.next ≡ p.next) (λ _. refl) (λ _. refl)

rest_listed : (t : Table) (m : TableNext) (o : Outcome) → WholeArrays t → WellListed t → RestHolds t m → WellListed (table_after t m o)
rest_listed t rest.Stay o W G h = G
rest_listed t (rest.Take p) o W G h = row_listed t p (row_taken (page_at t p)) (taken_listed (page_at t p)) (taken_next (page_at t p)) G
rest_listed t (rest.Commit p i) o W G h = row_listed t p (row_committed (page_at t p) i) (committed_listed (page_at t p) i) (committed_next (page_at t p) i) G
rest_listed t (rest.Start s r) o W G h = with_one t s r G h
rest_listed t (rest.Go s) o W G h = with_one t s t.round G h
rest_listed t (rest.CopyLoaded s i k) o W G h = with_one t _ t.round G (apart_on t s _ h)
rest_listed t (rest.SyncLoaded s i) o W G h = with_one t _ t.round G (apart_on t s _ h)
rest_listed t (rest.LevelLoaded s i old) o W G h = with_one t _ t.round G (apart_on t s _ h)
rest_listed t (rest.Finish s) o W G h =
    let H = finished_links t s G.place G.prev G.links W h in
    record { place = H.place; prev = H.prev; links = H.links; apart = λ u e. none_is_some e }

pub move_listed : (t : Table) (m : Move) (o : Outcome) → WholeArrays t → WellListed t → MoveHoldsOrNone t m → WellListed (settled t m o)
move_listed t m o W G h =
    let i = m.runner in
    let g = (runner_at t i).stage in
    let x : Runner = with_stage (runner_at t i) (stage_after g m.own o) in
    let k = stage_holds (HoldOrNone t (held g)) g m.own o tt (same_or_none t (held g)) h.0 in
    let u = with_runner t i x in
    let to : (s : Split) → Apart t s → Apart u s = λ s. apart_runner t i x s k in
    rest_listed u m.rest o (runner_whole t i x W) (record { place = G.place; prev = G.prev; links = G.links; apart = λ s e. to s (G.apart s e) }) (rest_runner t u m.rest to h.1)
