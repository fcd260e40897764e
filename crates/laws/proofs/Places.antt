-- Places and word numbers.
use Rattle.std.proofs.Common.{◌≡◌, ℕ, ◌+◌, ◌-◌, ◌*◌, ◌/◌, ◌%◌, ◌<◌, true, List, length, refl, ap, ⊎_elim, arith}
use Rattle.std.proofs.lemmas.Bool.{cases_eq, cases_order}
use Rattle.std.proofs.lemmas.Bool.Decides.{nat_tests}
use Rattle.protocol.specs.Layout.{page_count, right_length}
use Rattle.laws.specs.Places.{Place, Head, Next, Low, Key, Value, place_at, Within, PlacesAreWords}

counted : (ws : List ℕ) → right_length ws ≡ true → length ws ≡ 1 + 18 * page_count ws
counted ws h = grind (arith, nat_tests)

inside : (n : ℕ) (x : Place) → Within n x → place_at x < 1 + 18 * n
inside n Head h = omega arith
inside n (Next p) h = omega arith
inside n (Low p) h = omega arith
inside n (Key p s) h = omega arith
inside n (Value p s) h = omega arith

-- the word at place r of page p + 1
named_in : (n p r : ℕ) → p < n → r < 18 → (x : Place) × Within n x × (place_at x ≡ 18 * p + 1 + r)
named_in n p r h l =
    ⊎_elim
    (λ e. (Next (p + 1), (omega arith, omega arith), omega arith))
    (λ e. ⊎_elim
    (λ f. (Low (p + 1), (omega arith, omega arith), omega arith))
    (λ f. ⊎_elim
    (λ g. (Key (p + 1) (r / 2 - 1), (omega arith, omega arith, omega arith), omega arith))
    (λ g. (Value (p + 1) (r / 2 - 1), (omega arith, omega arith, omega arith), omega arith))
    (cases_eq (r % 2) 0))
    (cases_eq r 1))
    (cases_eq r 0)

named : (n a : ℕ) → a < 1 + 18 * n → (x : Place) × Within n x × (place_at x ≡ a)
named n a h =
    ⊎_elim
    (λ e. (Head, tt, omega arith))
    (λ e. let f : 18 * ((a - 1) / 18) + 1 + (a - 1) % 18 ≡ a = omega arith in
    rw f at (named_in n ((a - 1) / 18) ((a - 1) % 18) (omega arith) (omega arith)))
    (cases_eq a 0)

apart : (n : ℕ) (x y : Place) → Within n x → Within n y → place_at x ≡ place_at y → x ≡ y
apart n Head Head h k e = refl
apart n Head (Next q) h k e = absurd (omega arith)
apart n Head (Low q) h k e = absurd (omega arith)
apart n Head (Key q u) h k e = absurd (omega arith)
apart n Head (Value q u) h k e = absurd (omega arith)
apart n (Next p) Head h k e = absurd (omega arith)
apart n (Next p) (Next q) h k e = let f : p ≡ q = omega arith in ap Next f
apart n (Next p) (Low q) h k e = absurd (omega (arith, cases_order p q))
apart n (Next p) (Key q u) h k e = absurd (omega (arith, cases_order p q))
apart n (Next p) (Value q u) h k e = absurd (omega (arith, cases_order p q))
apart n (Low p) Head h k e = absurd (omega arith)
apart n (Low p) (Next q) h k e = absurd (omega (arith, cases_order p q))
apart n (Low p) (Low q) h k e = let f : p ≡ q = omega arith in ap Low f
apart n (Low p) (Key q u) h k e = absurd (omega (arith, cases_order p q))
apart n (Low p) (Value q u) h k e = absurd (omega (arith, cases_order p q))
apart n (Key p s) Head h k e = absurd (omega arith)
apart n (Key p s) (Next q) h k e = absurd (omega (arith, cases_order p q))
apart n (Key p s) (Low q) h k e = absurd (omega (arith, cases_order p q))
apart n (Key p s) (Key q u) h k e = let f : p ≡ q = omega (arith, cases_order p q) in let g : s ≡ u = omega (arith, cases_order p q) in cc
apart n (Key p s) (Value q u) h k e = absurd (omega (arith, cases_order p q))
apart n (Value p s) Head h k e = absurd (omega arith)
apart n (Value p s) (Next q) h k e = absurd (omega (arith, cases_order p q))
apart n (Value p s) (Low q) h k e = absurd (omega (arith, cases_order p q))
apart n (Value p s) (Key q u) h k e = absurd (omega (arith, cases_order p q))
apart n (Value p s) (Value q u) h k e = let f : p ≡ q = omega (arith, cases_order p q) in let g : s ≡ u = omega (arith, cases_order p q) in cc

pub places_are_words : PlacesAreWords
places_are_words = record { counted = counted; inside = inside; named = named; apart = apart }
