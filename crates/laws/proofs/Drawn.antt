-- Every call keeps the change numbers of the runners' words drawn, and each its runner's own.
use Rattle.std.proofs.Common.{◌≡◌, ℕ, ◌+◌, ◌-◌, ◌<◌, Bool, true, false, ◌&&◌, eqb, leb, ◌≢◌, ◌⊎◌, Some, None, Option, sym, refl, ap, ◌∙◌, inl, inr, ⊎_elim, arith}
use Rattle.std.proofs.lemmas.Bool.{cond_both, lt-leb}
use Rattle.std.proofs.lemmas.Bool.Decides.{nat_tests}
use Rattle.protocol.specs.declared.numbers.Operation.{Operation}
use Rattle.protocol.specs.declared.table.Runner.{Runner}
use Rattle.protocol.specs.declared.table.Split.{Split}
use Rattle.protocol.specs.declared.table.Table.{Table}
use Rattle.protocol.specs.declared.moves.Outcome.{Outcome}
use Rattle.protocol.specs.declared.moves.TableNext.{TableNext}
use Rattle.protocol.specs.declared.moves.TableNext.TheVariants as rest
use Rattle.protocol.specs.declared.moves.Move.{Move}
use Rattle.values.specs.ValueWord.{mark_of, number_of, fresh_word}
use Rattle.protocol.specs.Fields.{idle_runner, runner_at, with_runner, with_stage}
use Rattle.protocol.specs.Search.{preceding}
use Rattle.protocol.specs.Plan.{planned}
use Rattle.protocol.specs.Settle.{linked, with_new_pages, stage_after, table_after, settled}
use Rattle.protocol.specs.Make.{bare_table, made_table}
use Rattle.protocol.specs.Calls.{draws, started, begun_as}
use Rattle.laws.specs.Drawn.{word_at, NumbersOwn, CallsKeepNumbers}
use Rattle.laws.proofs.Calls.{begun_keeps, collected_keeps, stepped_keeps, made_keeps, chained_keeps, rebuilt_keeps}
use Rattle.laws.proofs.Tables.{runner_with, bare_runner}

-- tables with the same words and the same last number

pub record SameWords (t u : Table) : Type 0 where
  pub words : (j : ℕ) → word_at u j ≡ word_at t j
  pub last : u.last ≡ t.last

numbers_same : (t u : Table) → SameWords t u → NumbersOwn t → NumbersOwn u
numbers_same t u S N =
    record {
      drawn = λ i ne. rw (S.words i, S.last) (N.drawn i (rw (S.words i) at ne));
      clear = λ i. rw (S.words i) (N.clear i);
      own = λ i j a b e. N.own i j (rw (S.words i) at a) (rw (S.words j) at b) (rw (S.words i, S.words j) at e);
    }

-- a step changes no word and draws no number

new_pages_same : (t : Table) (s : Split) (a : ℕ) → SameWords t (with_new_pages t s a)
new_pages_same t s a = cond_both (eqb s.right 0) _ _ (SameWords t) (λ _. record { words = λ j. refl; last = refl }) (λ _. record { words = λ j. refl; last = refl })

linked_same : (t u : Table) (l : ℕ) (o : Option ℕ) → SameWords t u → SameWords t (linked u l o)
linked_same t u l None S = record { words = S.words; last = S.last }
linked_same t u l (Some q) S = record { words = S.words; last = S.last }

rest_same : (t : Table) (m : TableNext) (o : Outcome) → SameWords t (table_after t m o)
rest_same t rest.Stay o = record { words = λ j. refl; last = refl }
rest_same t (rest.Take p) o = record { words = λ j. refl; last = refl }
rest_same t (rest.Commit p i) o = record { words = λ j. refl; last = refl }
rest_same t (rest.Start s r) o = record { words = λ j. refl; last = refl }
rest_same t (rest.Go s) o = record { words = λ j. refl; last = refl }
rest_same t (rest.CopyLoaded s i k) o = record { words = λ j. refl; last = refl }
rest_same t (rest.SyncLoaded s i) o = record { words = λ j. refl; last = refl }
rest_same t (rest.LevelLoaded s i old) o = record { words = λ j. refl; last = refl }
rest_same t (rest.Finish s) o =
    let S = linked_same t _ s.left (preceding t s.old) (new_pages_same t s _) in record { words = S.words; last = S.last }

staged_same : (t : Table) (i : ℕ) (x : Runner) → x.word ≡ word_at t i → SameWords t (with_runner t i x)
staged_same t i x e =
    record {
      words = λ j. ⊎_elim (λ s. ap (λ y. y.word) s) (λ s. ap (λ y. y.word) s.1 ∙ e ∙ ap (word_at t) (sym s.0)) (runner_with t i x j);
      last = refl;
    }

same_trans : (t u v : Table) → SameWords t u → SameWords u v → SameWords t v
same_trans t u v S T = record { words = λ j. T.words j ∙ S.words j; last = T.last ∙ S.last }

settled_same : (t : Table) (m : Move) (o : Outcome) → SameWords t (settled t m o)
settled_same t m o =
    let i = m.runner in
    let x : Runner = with_stage (runner_at t i) (stage_after (runner_at t i).stage m.own o) in
    same_trans t (with_runner t i x) (settled t m o) (staged_same t i x refl) (rest_same (with_runner t i x) m.rest o)

-- begin draws the number after the last

word_with : (t : Table) (i : ℕ) (x : Runner) (l j : ℕ) → (word_at (started t i x l) j ≡ word_at t j) ⊎ ((j ≡ i) × (word_at (started t i x l) j ≡ x.word))
word_with t i x l j = ⊎_elim (λ s. inl (ap (λ y. y.word) s)) (λ s. inr (s.0, ap (λ y. y.word) s.1)) (runner_with t i x j)

fresh_number : (n v : ℕ) → n < 2147483648 → v < 4294967296 → number_of (fresh_word n v) ≡ n
fresh_number n v h l = omega arith

fresh_clear : (n v : ℕ) → n < 2147483648 → v < 4294967296 → mark_of (fresh_word n v) ≡ false
fresh_clear n v h l = lt-leb 9223372036854775808 (fresh_word n v) (omega arith)

module _ (t : Table) (i : ℕ) (x : Runner) (N : NumbersOwn t) where
  -- a word with the next number is drawn
  drawn_so : x.word ≢ 0 → number_of x.word ≡ t.last + 1 → mark_of x.word ≡ false → NumbersOwn (started t i x (t.last + 1))
  drawn_so some e c =
      record {
        drawn = λ j ne.
            ⊎_elim
            (λ s. let d = N.drawn j (rw s at ne) in rw s (d.0, omega (arith, d.1)))
            (λ s. rw s.1 (omega arith, omega arith))
            (word_with t i x (t.last + 1) j);
        clear = λ j. ⊎_elim (λ s. rw s (N.clear j)) (λ s. rw s.1 c) (word_with t i x (t.last + 1) j);
        own = λ j k a b q.
            ⊎_elim
            (λ s. ⊎_elim
            (λ u. N.own j k (rw s at a) (rw u at b) (ap (λ w. number_of w) (sym s) ∙ q ∙ ap (λ w. number_of w) u))
            (λ u. let d = (N.drawn j (rw s at a)).1 in let f : number_of (word_at t j) ≡ t.last + 1 = ap (λ w. number_of w) (sym s) ∙ q ∙ ap (λ w. number_of w) u.1 ∙ e in absurd (omega arith))
            (word_with t i x (t.last + 1) k))
            (λ s. ⊎_elim
            (λ u. let d = (N.drawn k (rw u at b)).1 in let f : number_of (word_at t k) ≡ t.last + 1 = ap (λ w. number_of w) (sym u) ∙ sym q ∙ ap (λ w. number_of w) s.1 ∙ e in absurd (omega arith))
            (λ u. s.0 ∙ sym u.0)
            (word_with t i x (t.last + 1) k))
            (word_with t i x (t.last + 1) j);
      }

  -- a runner without a word
  blank_so : x.word ≡ 0 → NumbersOwn (started t i x t.last)
  blank_so z =
      record {
        drawn = λ j ne. ⊎_elim (λ s. rw s (N.drawn j (rw s at ne))) (λ s. absurd (ne (s.1 ∙ z))) (word_with t i x t.last j);
        clear = λ j. ⊎_elim (λ s. rw s (N.clear j)) (λ s. rw (s.1, z) refl) (word_with t i x t.last j);
        own = λ j k a b q.
            ⊎_elim
            (λ s. ⊎_elim (λ u. N.own j k (rw s at a) (rw u at b) (ap (λ w. number_of w) (sym s) ∙ q ∙ ap (λ w. number_of w) u)) (λ u. absurd (b (u.1 ∙ z))) (word_with t i x t.last k))
            (λ s. absurd (a (s.1 ∙ z)))
            (word_with t i x t.last j);
      }

begun_so : (t : Table) (i : ℕ) (o : Operation) (k v : ℕ) → v < 4294967296 → NumbersOwn t → (draws o && leb 2147483647 t.last) ≡ false → NumbersOwn (begun_as t i o k v)
begun_so t i o k v h N e =
    cond_both (draws o) _ _ NumbersOwn
    (λ d.
    let l : t.last + 1 < 2147483648 = grind (arith, nat_tests) in
    let n = fresh_number (t.last + 1) v l h in
    drawn_so t i _ N (λ z. absurd (let y : number_of (fresh_word (t.last + 1) v) ≡ 0 = rw z refl in omega arith)) n (fresh_clear (t.last + 1) v l h))
    (λ _. blank_so t i _ N refl)

-- tables without any word

abbrev Wordless : Table → Type 0
Wordless t = (j : ℕ) → word_at t j ≡ 0

wordless_so : (t : Table) → Wordless t → NumbersOwn t
wordless_so t z =
    record {
      drawn = λ i ne. absurd (ne (z i));
      clear = λ i. rw (z i) refl;
      own = λ i j a b e. absurd (a (z i));
    }

bare_wordless : (b : Bool) (c f : ℕ) → Wordless (bare_table b c f)
bare_wordless b c f j = ap (λ y. y.word) (bare_runner b c f j)

pub calls_keep_numbers : CallsKeepNumbers
calls_keep_numbers =
    record {
      closed = wordless_so _ (bare_wordless false 0 0);
      make = λ ws t r N. made_keeps NumbersOwn ws t r N (λ _. wordless_so (made_table r) (bare_wordless true r 1));
      rebuild = λ key before ws t r N. rebuilt_keeps Wordless NumbersOwn ws (λ u p a _ z. z) wordless_so key before t r (chained_keeps Wordless ws (bare_wordless true) (λ u p q _ z. z) r) N;
      begin = λ key t r o k v h N. begun_keeps NumbersOwn key t r o k v N (λ m e. begun_so t (r - 1) m k v h N e);
      step = λ before ws t r N. stepped_keeps NumbersOwn before ws t r N (λ _. numbers_same t _ (settled_same t (planned before ws t (r - 1) (runner_at t (r - 1))) _) N);
      collect = λ t r N. collected_keeps NumbersOwn t r N (let B = blank_so t (r - 1) idle_runner N refl in record { drawn = B.drawn; clear = B.clear; own = B.own });
    }
