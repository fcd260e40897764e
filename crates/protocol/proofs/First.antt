-- The first number that passes a test, one number on: the step and the end of every search loop; and what the library's `find` gives over a range.
use denote.Param.Members.{Mut}
use denote.Ref.{Bor}
use Rattle.std.specs.Bool.{⊤, MatchBool}
use Rattle.std.specs.Fn.{Called, CalledAt}
use Rattle.std.specs.Iterator.{YieldsThen}
use Rattle.std.specs.List.{FoldsTo, HoldsAt, AllWithin, range_with_len}
use Rattle.std.specs.Option.{is_some}
use Rattle.std.specs.declared.ops.Range.{Range}
use Rattle.std.proofs.iter.Yields.{nat_range_steps}
use Rattle.std.proofs.lemmas.Iterator.{first_from_Range, cases_from_any, YieldsList-from_range}
use Rattle.std.proofs.lemmas.List.FromFn.{length-range_with_len, get_or-range_with_len}
use Rattle.std.proofs.Common.{◌≡◌, ◌≢◌, ℕ, zero, suc, ◌+◌, ◌-◌, ◌<◌, ◌≤◌, Bool, true, false, cond, Some, None, Option, MatchOption, List, length, get_or, refl, sym, ap, ◌∙◌, true≢false, arith}
use Rattle.protocol.specs.Search.{first_from}

pub first_more : (f : ℕ → Bool) (i n : ℕ) → i < n → first_from f i (n - i) ≡ cond (f i) (Some i) (first_from f (i + 1) (n - (i + 1)))
unfolding first_from
first_more f i n h = let e : n - i ≡ suc (n - (i + 1)) = omega arith in rw e refl

pub first_none : (f : ℕ → Bool) (i n : ℕ) → n ≤ i → first_from f i (n - i) ≡ None
unfolding first_from
first_none f i n h = let e : n - i ≡ 0 = omega arith in rw e refl

-- What a search from a up to b says of its result.
abbrev pub IsFirst : (ℕ → Bool) → ℕ → ℕ → Option ℕ → Type 0
IsFirst p a b r = MatchOption r ((k : ℕ) → a ≤ k → k < b → p k ≡ false) (λ i. (a ≤ i) × (i < b) × (p i ≡ true) × ((k : ℕ) → a ≤ k → k < i → p k ≡ false))

-- A number that does not pass is not the one that is found.
later : (p : ℕ → Bool) (a i : ℕ) → p a ≡ false → p i ≡ true → a ≤ i → a + 1 ≤ i
later p a i f t l = let ne : a ≢ i = λ e. true≢false (sym t ∙ ap p (sym e) ∙ f) in omega (arith, ne)

first_step : (p : ℕ → Bool) (n a b : ℕ) (r : Option ℕ) (c : Bool)
    → p a ≡ c → b - a ≡ suc n → IsFirst p a b r → (IsFirst p (a + 1) b r → r ≡ first_from p (a + 1) n) → r ≡ cond c (Some a) (first_from p (a + 1) n)
first_step p n a b None true q e h go = absurd (true≢false (sym q ∙ h a (omega arith) (omega (arith, e))))
first_step p n a b None false q e h go = go (λ k l m. h k (omega (arith, l)) m)
first_step p n a b (Some i) true q e h go =
    let past : a < i → ⊥ = λ l. true≢false (sym q ∙ h.3 a (omega arith) l) in let same : i ≡ a = omega (arith, past, h.0) in ap Some same
first_step p n a b (Some i) false q e h go = go (later p a i q (h.2) (h.0), h.1, h.2, λ k l m. h.3 k (omega (arith, l)) m)

-- It is then the first number from a on that passes.
pub first_is : (p : ℕ → Bool) (a b : ℕ) (r : Option ℕ) → IsFirst p a b r → r ≡ first_from p a (b - a)
unfolding first_from
first_is p a b r h = by (b - a) a r refl h
  where
    by : (n a : ℕ) (r : Option ℕ) → b - a ≡ n → IsFirst p a b r → r ≡ first_from p a n
    by zero a None e h = refl
    by zero a (Some i) e h = absurd (omega (arith, e, h.0, h.1))
    by (suc n) a r e h = first_step p n a b r (p a) refl e h (by n (a + 1) r (omega (arith, e)))

-- What `find` gives over a range.
pub found : {F : Type 0} {g : Mut F (Bor ℕ × Unit {0}) Bool} (s u : Range ℕ) (f : F) (r : Option ℕ) (p : ℕ → Bool)
    → (xs : List ℕ) × (j : F) × YieldsThen nat_range_steps s xs r u × FoldsTo (λ p x q. CalledAt g p x false q) f xs j × MatchOption r ⊤ (λ x. (h : F) × CalledAt g j x true h)
    → ((x : ℕ) (q : F) → CalledAt g f x true q → p x ≡ true) → ((x : ℕ) (q : F) → CalledAt g f x false q → (q ≡ f) × (p x ≡ false))
    → r ≡ first_from p s.start (s.end - s.start)
found s u f r p ran pass fail = first_is p s.start s.end r (first_from_Range s u f r (λ x. p x ≡ true) (λ x. p x ≡ false) ran pass fail)

-- Whether one of the n numbers from a on passes, as `any` says it.
abbrev AnyOf : (ℕ → Bool) → ℕ → ℕ → Bool → Type 0
AnyOf p a n r = MatchBool r ((k : ℕ) × (k < n) × (p (a + k) ≡ true)) ((k : ℕ) → k < n → p (a + k) ≡ false)

any_step : (p : ℕ → Bool) (a n : ℕ) (r c : Bool)
    → p a ≡ c → AnyOf p a (suc n) r → (AnyOf p (a + 1) n r → r ≡ is_some (first_from p (a + 1) n)) → r ≡ is_some (cond c (Some a) (first_from p (a + 1) n))
any_step p a n true true q h go = refl
any_step p a n true false q (zero, l, t) go = absurd (true≢false (sym t ∙ ap p (omega arith) ∙ q))
any_step p a n true false q (suc k, l, t) go = go (k, omega (arith, l), ap p (omega arith) ∙ t)
any_step p a n false true q h go = absurd (true≢false (sym q ∙ ap p (omega arith) ∙ h 0 (omega arith)))
any_step p a n false false q h go = go (λ k l. ap p (omega arith) ∙ h (k + 1) (omega (arith, l)))

any_is : (p : ℕ → Bool) (a n : ℕ) (r : Bool) → AnyOf p a n r → r ≡ is_some (first_from p a n)
unfolding first_from
any_is p a zero true h = absurd (omega (arith, h.1))
any_is p a zero false h = refl
any_is p a (suc n) r h = any_step p a n r (p a) refl h (any_is p (a + 1) n r)

-- What `any` gives over a range.
pub any_found : {F : Type 0} {g : Mut F (ℕ × Unit {0}) Bool} (s u : Range ℕ) (f : F) (r : Bool) (p : ℕ → Bool)
    → (xs : List ℕ) × (o : Option ℕ) × (j : F) × YieldsThen nat_range_steps s xs o u × FoldsTo (λ p x q. Called g p (x, tt) false q) f xs j × MatchOption o (r ≡ false) (λ x. (r ≡ true) × ((h : F) × Called g j (x, tt) true h))
    → ((x : ℕ) (q : F) → Called g f (x, tt) true q → p x ≡ true) → ((x : ℕ) (q : F) → Called g f (x, tt) false q → (q ≡ f) × (p x ≡ false))
    → r ≡ is_some (first_from p s.start (s.end - s.start))
any_found s u f r p ran pass fail = any_is p s.start (s.end - s.start) r (by r (cases_from_any u f r (λ x. p x ≡ true) (λ x. p x ≡ false) ran (YieldsList-from_range s.start s.end _ refl refl) pass fail))
  where
    all : List ℕ
    all = range_with_len s.start (s.end - s.start)

    long : length all ≡ s.end - s.start
    long = length-range_with_len s.start (s.end - s.start)

    read : (k : ℕ) → k < s.end - s.start → get_or all k 0 ≡ s.start + k
    read k l = get_or-range_with_len s.start (s.end - s.start) k 0 l

    by : (c : Bool) → MatchBool c ((k : ℕ) × (k < length all) × HoldsAt (λ x. p x ≡ true) all k) (AllWithin (λ x. p x ≡ false) all 0 (length all))
        → AnyOf p s.start (s.end - s.start) c
    by true h = (h.0, omega (arith, long, h.1), ap p (sym (read h.0 (omega (arith, long, h.1)))) ∙ h.2 0)
    by false h = λ k l. ap p (sym (read k l)) ∙ h k 0 (omega arith) (omega (arith, long, l))
