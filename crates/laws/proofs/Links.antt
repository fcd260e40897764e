-- Edits of a list by links: a page takes another's place, and a page is put after another.
use Rattle.std.proofs.Common.{◌≡◌, ℕ, ◌+◌, Bool, true, false, cond, ◌&&◌, eqb, ltb, ◌≢◌, sym, ap, ◌∙◌, arith}
use Rattle.std.proofs.lemmas.Bool.Decides.{nat_tests}
use Rattle.laws.specs.Lists.{Links}

-- page `new` in the place of page `old`

abbrev pub LInstead : (ℕ → Bool) → ℕ → ℕ → ℕ → Bool
LInstead L old new p = cond (eqb p old) false (cond (eqb p new) true (L p))

abbrev pub XInstead : (ℕ → Bool) → (ℕ → ℕ) → ℕ → ℕ → ℕ → ℕ
XInstead L X old new p = cond (eqb p new) (X old) (cond (L p && eqb (X p) old) new (X p))

abbrev pub f_instead : ℕ → ℕ → ℕ → ℕ
f_instead f old new = cond (eqb f old) new f

abbrev pub place_instead : (ℕ → ℕ) → ℕ → ℕ → ℕ → ℕ
place_instead place old new p = cond (eqb p new) (place old) (place p)

abbrev pub prev_instead : (ℕ → ℕ) → ℕ → ℕ → ℕ → ℕ
prev_instead prev old new p = cond (eqb p new) (prev old) (cond (eqb (prev p) old) new (prev p))

-- page `new` after page `at`

abbrev pub LAfter : (ℕ → Bool) → ℕ → ℕ → Bool
LAfter L new p = cond (eqb p new) true (L p)

abbrev pub XAfter : (ℕ → ℕ) → ℕ → ℕ → ℕ → ℕ
XAfter X at new p = cond (eqb p new) (X at) (cond (eqb p at) new (X p))

abbrev pub place_after : (ℕ → ℕ) → ℕ → ℕ → ℕ → ℕ
place_after place at new p = cond (eqb p new) (place at + 1) (cond (ltb (place at) (place p)) (place p + 1) (place p))

abbrev pub prev_after : (ℕ → ℕ) → ℕ → ℕ → ℕ → ℕ
prev_after prev at new p = cond (eqb p new) at (cond (eqb (prev p) at) new (prev p))

module _ (L : ℕ → Bool) (X : ℕ → ℕ) (f : ℕ) (place prev : ℕ → ℕ) (K : Links L X f place prev) where
  -- what follows a page leads back to it alone
  pub one_before : (p q : ℕ) → L p ≡ true → L q ≡ true → X p ≡ X q → X p ≢ 0 → p ≡ q
  one_before p q a b e n =
      let c = K.follows p a n in
      let d = K.follows q b (λ z. n (e ∙ z)) in
      K.own p q a b (let g = ap place e in omega arith)

  -- a page that is not in the list takes the place of one that is
  pub links_instead : (old new : ℕ) → L old ≡ true → L new ≡ false → new ≢ 0 →
      Links (LInstead L old new) (XInstead L X old new) (f_instead f old new) (place_instead place old new) (prev_instead prev old new)
  links_instead old new o n z =
      record {
        begins = let b = K.begins in grind (arith, nat_tests);
        origin = let b = K.origin in let c = K.begins in grind (arith, nat_tests);
        follows = λ p a e. let c = K.follows p in let d = K.follows old o in grind (arith, nat_tests);
        precedes = λ p a e. let c = K.precedes p in let d = K.precedes old o in let g = K.follows (prev old) in grind (arith, nat_tests);
        own = λ p q a b e. let c = K.own p q in let d = K.own old q in let g = K.own p old in grind (arith, nat_tests);
        real = λ p a. let c = K.real p in grind (arith, nat_tests);
      }

  -- a page that is not in the list is put after one that is
  pub links_after : (at new : ℕ) → L at ≡ true → L new ≡ false → new ≢ 0 → Links (LAfter L new) (XAfter X at new) f (place_after place at new) (prev_after prev at new)
  links_after at new o n z =
      record {
        begins = let b = K.begins in grind (arith, nat_tests);
        origin = let b = K.origin in let c = K.begins in grind (arith, nat_tests);
        follows = λ p a e. let c = K.follows p in let d = K.follows at o in let g = K.own p at in grind (arith, nat_tests);
        precedes = λ p a e. let c = K.precedes p in grind (arith, nat_tests);
        own = λ p q a b e. let c = K.own p q in grind (arith, nat_tests);
        real = λ p a. let c = K.real p in grind (arith, nat_tests);
      }

-- the same list by other functions that agree on it
pub links_same : (L M : ℕ → Bool) (X Y : ℕ → ℕ) (f g : ℕ) (place prev : ℕ → ℕ) → ((p : ℕ) → M p ≡ L p) → ((p : ℕ) → L p ≡ true → Y p ≡ X p) → g ≡ f →
    Links L X f place prev → Links M Y g place prev
links_same L M X Y f g place prev l x e K =
    let to : (p : ℕ) → L p ≡ true → M p ≡ true = λ p h. l p ∙ h in
    let back : (p : ℕ) → M p ≡ true → L p ≡ true = λ p h. sym (l p) ∙ h in
    record {
      begins = rw e (to f K.begins);
      origin = rw e K.origin;
      follows = λ p a n. let h = back p a in let c = K.follows p h (λ z. n (x p h ∙ z)) in rw (x p h) (to (X p) c.0, c.1);
      precedes = λ p a n. let c = K.precedes p (back p a) (λ z. n (z ∙ sym e)) in (to (prev p) c.0, x (prev p) c.0 ∙ c.1);
      own = λ p q a b d. K.own p q (back p a) (back q b) d;
      real = λ p a. K.real p (back p a);
    }
