-- Locating and the start of a split: the covering page is listed, and the pages that a split takes are unused, and two.
use Rattle.std.proofs.Common.{◌≡◌, ℕ, zero, suc, ◌+◌, ◌-◌, ◌*◌, ◌/◌, ◌%◌, ◌<◌, ◌≤◌, Bool, true, false, ltb, leb, ◌≢◌, List, Some, None, Option, sym, refl, ap, ◌∙◌, inl, ⊎_elim, mul-le-mul_left, mul-suc, arith}
use native.Mathlib.Nat.{mod-add-div}
use Rattle.std.proofs.lemmas.Nat.{mod_below}
use Rattle.std.proofs.lemmas.Bool.{cond_both, and_parts, not-true, both_ways, cases_lt, eq-eqb}
use Rattle.std.proofs.lemmas.Bool.Decides.{nat_tests}
use Rattle.std.proofs.lemmas.Option.{none-some}
use Rattle.protocol.specs.declared.numbers.Operation.{Operation}
use Rattle.protocol.specs.declared.numbers.Operation.TheVariants.{Enter, Change, Remove, Look}
use Rattle.protocol.specs.declared.table.Runner.{Runner}
use Rattle.protocol.specs.declared.table.Split.{Split}
use Rattle.protocol.specs.declared.table.Standing.{Standing}
use Rattle.protocol.specs.declared.table.Standing.TheVariants.{Whole, InCopy, InSync, InLink, Left}
use Rattle.protocol.specs.declared.table.Table.{Table}
use Rattle.protocol.specs.Layout.{page_count}
use Rattle.protocol.specs.Fields.{held, runner_at, idle_runner, page_at, standing}
use Rattle.protocol.specs.Search.{first_from, is_some, found, ends_before, cover_from, covering}
use Rattle.protocol.specs.Locate.{holds_page, free, free_at, free_from, round_page, into_one, into_second, into_two, live_keys, key_count, split_key, starting, takes, crowded, entering_page, entering, locating_page, locating}
use Rattle.laws.specs.Lists.{listed, next, Unused, WellListed}
use Rattle.laws.proofs.FittingLocate.{free_found}
use Rattle.laws.proofs.FittingSplit.{Above, first_above}
use Rattle.laws.proofs.ListFinish.{Missed, first_missed}
use Rattle.laws.proofs.ListHolds.{MoveHolds}
use Rattle.laws.proofs.Ranges.{Found}

-- the covering page is listed

cover_listed : (before : ℕ → ℕ → Bool) (ws : List ℕ) (t : Table) (k : ℕ) → WellListed t → (n p : ℕ) → listed t p ≡ true → listed t (cover_from before ws t k p n) ≡ true
unfolding cover_from
cover_listed before ws t k G zero p h = h
cover_listed before ws t k G (suc n) p h =
    cond_both (ends_before before ws k (next t p)) p (cover_from before ws t k (next t p) n) (λ q. listed t q ≡ true)
    (λ _. h)
    (λ e. cover_listed before ws t k G n (next t p) (G.links.follows p h (λ z. grind (arith, nat_tests))).0)

pub covering_listed : (before : ℕ → ℕ → Bool) (ws : List ℕ) (t : Table) (k : ℕ) → WellListed t → listed t (covering before ws t k) ≡ true
covering_listed before ws t k G = cover_listed before ws t k G 64 t.first G.links.begins

-- a free page is unused

unheld_as : (t : Table) (p : ℕ) (o : Option ℕ) → is_some o ≡ false → Missed (holds_page t p) 0 8 o → (i : ℕ) → i < 8 → held (runner_at t i).stage ≢ Some p
unheld_as t p None e m i h z = both_ways (holds_page t p i) (m i (omega arith) (omega arith)) (rw z (eq-eqb p p refl))
unheld_as t p (Some k) e m i h z = both_ways true e refl

pub idle_past : (t : Table) (i : ℕ) → 8 ≤ i → runner_at t i ≡ idle_runner
idle_past t i h = cond_both (ltb i 8) _ idle_runner (λ x. x ≡ idle_runner) (λ e. absurd (grind (arith, nat_tests))) (λ _. refl)

free_unused : (t : Table) (p : ℕ) → free t p ≡ true → p ≢ 0 → p < 65 → Unused t p
free_unused t p e z r =
    let a = and_parts _ _ e in
    let b = and_parts _ _ a.0 in
    record {
      real = z;
      row = r;
      off = not-true (listed t p) b.0;
      unheld = λ i.
          ⊎_elim
          (λ h. unheld_as t p (first_from (holds_page t p) 0 8) (not-true (is_some (first_from (holds_page t p) 0 8)) a.1) (first_missed (holds_page t p) 0 8) i h)
          (λ h q. none-some p (sym (ap (λ x. held x.stage) (idle_past t i h)) ∙ q))
          (cases_lt i 8);
    }

-- the pages going round are different ones

round_apart : (n a i j : ℕ) → i < j → j < n → (a + i) % n ≢ (a + j) % n
round_apart n a i j h l e =
    let p = (a + i) / n in
    let q = (a + j) / n in
    let f : (a + i) % n + n * p ≡ a + i = mod-add-div (a + i) n in
    let g : (a + j) % n + n * q ≡ a + j = mod-add-div (a + j) n in
    ⊎_elim
    (λ less. let m : n * suc p ≤ n * q = mul-le-mul_left n less in let d : n * suc p ≡ n * p + n = mul-suc n p in absurd (omega arith))
    (λ more. let m : n * q ≤ n * p = mul-le-mul_left n more in absurd (omega arith))
    (cases_lt p q)

module _ (t : Table) (n r p k : ℕ) (few : n ≤ 64) (o : listed t p ≡ true) where
  round_row : (i : ℕ) → i < n → round_page n t.round i < 65
  round_row i h = let m = mod_below (t.round - 1 + i) n (omega arith) in omega arith

  round_unused : (i : ℕ) → i < n → free_at t n i ≡ true → Unused t (round_page n t.round i)
  round_unused i h e = free_unused t (round_page n t.round i) e (λ z. absurd (omega arith)) (round_row i h)

  one_holds : (b : Option ℕ) → Found (free_at t n) n b → MoveHolds t (into_one t n r p k b)
  one_holds None f = (tt, tt)
  one_holds (Some i) f =
      (tt, record { old = o; left = round_unused i f.0 f.1; right = λ z. absurd (z refl); two = λ z. absurd (omega arith) })

  second_holds : (i : ℕ) (b : Option ℕ) → i < n → free_at t n i ≡ true → Found (free_at t n) n b → Above (i + 1) b → MoveHolds t (into_second t n r p k i b)
  second_holds i None h e f a = (tt, tt)
  second_holds i (Some j) h e f a = (
    tt,
    record {
      old = o;
      left = round_unused i h e;
      right = λ _. round_unused j f.0 f.1;
      two = λ z. round_apart n (t.round - 1) i j (omega arith) f.0 (omega arith);
    },
  )

  two_holds : (b : Option ℕ) → Found (free_at t n) n b → MoveHolds t (into_two t n r p k b)
  two_holds None f = (tt, tt)
  two_holds (Some i) f = second_holds i (free_from t n (i + 1)) f.0 f.1 (free_found t n (i + 1) (omega (arith, f.0))) (first_above (free_at t n) (i + 1) (n - (i + 1)))

module _ (before : ℕ → ℕ → Bool) (ws : List ℕ) (t : Table) (G : WellListed t) (r : ℕ) where
  starting_holds : (p : ℕ) → listed t p ≡ true → MoveHolds t (starting before ws t r p)
  starting_holds p o =
      let n = page_count ws in
      let ks = live_keys ws (page_at t p).committed p in
      let few : n ≤ 64 = omega arith in
      let f = free_found t n 0 (omega arith) in
      cond_both (leb (key_count ks) 4) (into_one t n r p (split_key before ks) (free_from t n 0)) (into_two t n r p (split_key before ks) (free_from t n 0)) (MoveHolds t)
      (λ _. one_holds t n r p (split_key before ks) few o (free_from t n 0) f)
      (λ _. two_holds t n r p (split_key before ks) few o (free_from t n 0) f)

  crowded_holds : (p : ℕ) (b : Option Split) → listed t p ≡ true → MoveHolds t (crowded before ws t r p b)
  crowded_holds p (Some s) o = (tt, tt)
  crowded_holds p None o = starting_holds p o

  entering_page_holds : (p : ℕ) (b : Option ℕ) → listed t p ≡ true → MoveHolds t (entering_page before ws t r p b)
  entering_page_holds p (Some i) o = (tt, tt)
  entering_page_holds p None o =
      cond_both (ltb (page_at t p).taken 8) (takes t r p) (crowded before ws t r p t.split) (MoveHolds t)
      (λ _. (inl o, tt))
      (λ _. crowded_holds p t.split o)

  entering_holds : (k p : ℕ) (u : Standing) → listed t p ≡ true → MoveHolds t (entering before ws t r k p u)
  entering_holds k p Whole o = entering_page_holds p (found ws (page_at t p).committed p k) o
  entering_holds k p InCopy o = (tt, tt)
  entering_holds k p (InSync s) o = (tt, tt)
  entering_holds k p (InLink s) o = (tt, tt)
  entering_holds k p Left o = entering_page_holds p (found ws (page_at t p).committed p k) o

  locating_page_holds : (k p : ℕ) (m : Operation) → listed t p ≡ true → MoveHolds t (locating_page before ws t r k p m)
  locating_page_holds k p Enter o = entering_holds k p (standing t p) o
  locating_page_holds k p Change o = (inl o, tt)
  locating_page_holds k p Remove o = (inl o, tt)
  locating_page_holds k p Look o = (inl o, tt)

  pub locating_holds : (x : Runner) → MoveHolds t (locating before ws t r x)
  locating_holds x = locating_page_holds x.key (covering before ws t x.key) x.operation (covering_listed before ws t x.key G)
