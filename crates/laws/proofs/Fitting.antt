-- What a move must bring so that the table stays in range, and that it then does.
use Rattle.std.proofs.Common.{◌≡◌, ℕ, ◌<◌, true, false, not, ◌||◌, eqb, Some, None, Option, sym, refl, ap, ◌∙◌, ⊎_elim, arith}
use Rattle.std.proofs.lemmas.Bool.{cond_both, eqb-false, both_ways}
use Rattle.protocol.specs.declared.numbers.Answer.TheVariants.{Done}
use Rattle.protocol.specs.declared.table.Stage.{Stage}
use Rattle.protocol.specs.declared.table.Stage.TheVariants.{PendingSwap, ComparingSwap, Answered}
use Rattle.protocol.specs.declared.table.Runner.{Runner}
use Rattle.protocol.specs.declared.table.Progress.TheVariants.{CopyingValue, SyncingNew}
use Rattle.protocol.specs.declared.table.PageRow.{PageRow}
use Rattle.protocol.specs.declared.table.Split.{Split}
use Rattle.protocol.specs.declared.table.Table.{Table}
use Rattle.protocol.specs.declared.moves.Outcome.{Outcome}
use Rattle.protocol.specs.declared.moves.RunnerNext.{RunnerNext}
use Rattle.protocol.specs.declared.moves.RunnerNext.TheVariants as own
use Rattle.protocol.specs.declared.moves.TableNext.{TableNext}
use Rattle.protocol.specs.declared.moves.TableNext.TheVariants as rest
use Rattle.protocol.specs.declared.moves.Move.{Move}
use Rattle.protocol.specs.Fields.{runner_at, with_runner, no_page, page_at, with_page, with_split, row_taken, row_committed, with_progress}
use Rattle.protocol.specs.Search.{is_some, preceding}
use Rattle.protocol.specs.Settle.{loaded_word, did_swap, stage_after, levelled, with_next, linked, with_new_pages, table_after, settled}
use Rattle.values.specs.ValueWord.{mark_of, value_of, same}
use Rattle.laws.specs.Ranges.{Page}
use Rattle.laws.specs.KeptRanges.{SlotKept, SplitKept, RangeKept}
use Rattle.laws.proofs.Tables.{page_with, runner_with}

-- a table in range after a write

abbrev ListedFit : ℕ → Table → Type 0
ListedFit n t = (p : ℕ) → (page_at t p).listed ≡ true → Page n p

pub listed_kept : (n : ℕ) (t : Table) (p : ℕ) (x : PageRow) → ListedFit n t → (x.listed ≡ true → Page n p) → ListedFit n (with_page t p x)
listed_kept n t p x L h q e =
    ⊎_elim
    (λ s. L q (sym (ap (λ v. v.listed) s) ∙ e))
    (λ s. rw s.0 (h (sym (ap (λ v. v.listed) s.1) ∙ e)))
    (page_with t p x q)

pub page_kept : (n : ℕ) (t : Table) (p : ℕ) (x : PageRow) → RangeKept n t → (x.listed ≡ true → Page n p) → RangeKept n (with_page t p x)
page_kept n t p x R h = record { listed = listed_kept n t p x R.listed h; runners = R.runners; split = R.split }

pub runners_kept : (t : Table) (i : ℕ) (x : Runner) → ((j : ℕ) → SlotKept (runner_at t j).stage) → SlotKept x.stage → (j : ℕ) → SlotKept (runner_at (with_runner t i x) j).stage
runners_kept t i x L h j = ⊎_elim (λ s. rw s (L j)) (λ s. rw s.1 h) (runner_with t i x j)

pub runner_kept : (n : ℕ) (t : Table) (i : ℕ) (x : Runner) → RangeKept n t → SlotKept x.stage → RangeKept n (with_runner t i x)
runner_kept n t i x R h = record { listed = R.listed; runners = runners_kept t i x R.runners h; split = R.split }

abbrev pub the_split : Split → Option Split → Split
the_split d (Some s) = s
the_split d None = d

split_kept : (n : ℕ) (t : Table) (s : Split) (r : ℕ) → RangeKept n t → SplitKept n s → RangeKept n (with_split t (Some s) r)
split_kept n t s r R h = record { listed = R.listed; runners = R.runners; split = λ u e. let d : s ≡ u = ap (the_split s) e in rw d at h }

pub none_is_some : {A : Type 0} {s : Split} → None ≡ Some s → A
none_is_some e = absurd (both_ways false refl (ap is_some e))

split_ended : (n : ℕ) (t : Table) (r : ℕ) → RangeKept n t → RangeKept n (with_split t None r)
split_ended n t r R = record { listed = R.listed; runners = R.runners; split = λ u e. none_is_some e }

-- what becomes of the runner

abbrev OwnFits : RunnerNext → Type 0
OwnFits own.Stay = Unit {0}
OwnFits (own.Go g) = SlotKept g
OwnFits own.AnswerLoaded = Unit {0}
OwnFits (own.CompareLoaded p) = Unit {0}
OwnFits (own.JudgeLoaded p n o) = n < 8
OwnFits (own.PendLoaded p i n) = n < 8
OwnFits (own.WeighLoaded p i n w) = n < 8
OwnFits (own.BySwap g h) = SlotKept g × SlotKept h

stage_kept : (g : Stage) (m : RunnerNext) (o : Outcome) → SlotKept g → OwnFits m → SlotKept (stage_after g m o)
stage_kept g own.Stay o f h = f
stage_kept g (own.Go s) o f h = h
stage_kept g own.AnswerLoaded o f h = tt
stage_kept g (own.CompareLoaded p) o f h = tt
stage_kept g (own.JudgeLoaded p n old) o f h =
    let w = loaded_word o in
    cond_both (not (mark_of w) || same w old) (Answered Done (value_of w)) (ComparingSwap p n w old) SlotKept (λ _. tt) (λ _. h)
stage_kept g (own.PendLoaded p i n) o f h = h
stage_kept g (own.WeighLoaded p i n w) o f h =
    cond_both (same (loaded_word o) w) (Answered Done 0) (PendingSwap p i n w (loaded_word o)) SlotKept (λ _. tt) (λ _. h)
stage_kept g (own.BySwap a b) o f h = cond_both (did_swap o) a b SlotKept (λ _. h.0) (λ _. h.1)

-- what becomes of the rest of the table

abbrev RestFits : ℕ → TableNext → Type 0
RestFits n rest.Stay = Unit {0}
RestFits n (rest.Take p) = Unit {0}
RestFits n (rest.Commit p i) = Unit {0}
RestFits n (rest.Start s r) = SplitKept n s
RestFits n (rest.Go s) = SplitKept n s
RestFits n (rest.CopyLoaded s i k) = (w : ℕ) → SplitKept n (with_progress s (CopyingValue i k w))
RestFits n (rest.SyncLoaded s i) = (o : ℕ) → SplitKept n (with_progress s (SyncingNew i o))
RestFits n (rest.LevelLoaded s i o) = (w : ℕ) → SplitKept n (with_progress s (levelled i o w))
RestFits n (rest.Finish s) = SplitKept n s

pub taken_listed : (p : PageRow) → (row_taken p).listed ≡ p.listed
taken_listed p = cond_both _ _ p (λ q. q.listed ≡ p.listed) (λ _. refl) (λ _. refl)

pub committed_listed : (p : PageRow) (i : ℕ) → (row_committed p i).listed ≡ p.listed
committed_listed p i = cond_both _ _ p (λ q. q.listed ≡ p.listed) (λ _. refl) (λ _. refl)

new_pages_kept : (n : ℕ) (t : Table) (s : Split) (a : ℕ) → RangeKept n t → SplitKept n s → RangeKept n (with_new_pages t s a)
new_pages_kept n t s a R F =
    cond_both (eqb s.right 0) _ _ (RangeKept n)
    (λ _. page_kept n t s.left _ R (λ _. F.left))
    (λ e. let z = eqb-false s.right 0 e in page_kept n _ s.right _ (page_kept n t s.left _ R (λ _. F.left)) (λ _. (omega arith, F.right)))

linked_kept : (n : ℕ) (t : Table) (l : ℕ) (o : Option ℕ) → RangeKept n t → RangeKept n (linked t l o)
linked_kept n t l None R = record { listed = R.listed; runners = R.runners; split = R.split }
linked_kept n t l (Some q) R = page_kept n t q (with_next (page_at t q) l) R (λ e. R.listed q e)

rest_kept : (n : ℕ) (t : Table) (m : TableNext) (o : Outcome) → RangeKept n t → RestFits n m → RangeKept n (table_after t m o)
rest_kept n t rest.Stay o R h = R
rest_kept n t (rest.Take p) o R h = page_kept n t p (row_taken (page_at t p)) R (λ e. R.listed p (sym (taken_listed (page_at t p)) ∙ e))
rest_kept n t (rest.Commit p i) o R h = page_kept n t p (row_committed (page_at t p) i) R (λ e. R.listed p (sym (committed_listed (page_at t p) i) ∙ e))
rest_kept n t (rest.Start s r) o R h = split_kept n t s r R h
rest_kept n t (rest.Go s) o R h = split_kept n t s t.round R h
rest_kept n t (rest.CopyLoaded s i k) o R h = split_kept n t _ t.round R (h (loaded_word o))
rest_kept n t (rest.SyncLoaded s i) o R h = split_kept n t _ t.round R (h (loaded_word o))
rest_kept n t (rest.LevelLoaded s i old) o R h = split_kept n t _ t.round R (h (loaded_word o))
rest_kept n t (rest.Finish s) o R h =
    split_ended n _ t.round (page_kept n _ s.old no_page (linked_kept n _ s.left (preceding t s.old) (new_pages_kept n t s _ R h)) (λ e. absurd (both_ways false refl e)))

-- a move that keeps the range

abbrev pub MoveFits : ℕ → Move → Type 0
MoveFits n m = OwnFits m.own × RestFits n m.rest

pub move_kept : (n : ℕ) (t : Table) (m : Move) (o : Outcome) → RangeKept n t → MoveFits n m → RangeKept n (settled t m o)
move_kept n t m o R h =
    rest_kept n _ m.rest o (runner_kept n t m.runner _ R (stage_kept (runner_at t m.runner).stage m.own o (R.runners m.runner) h.0)) h.1
