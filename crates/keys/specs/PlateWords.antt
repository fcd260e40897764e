-- A text comes back from its word, and a word from its text.
use Rattle.std.specs.Prelude.{◌≡◌, ℕ, zero, suc, ◌+◌, ◌*◌, ◌/◌, ◌%◌, ◌^◌, ◌<◌, ◌≤◌, true, false, ◌&&◌, List, [], ◌∷◌, length, drop, ◌==◌, nat_eq, slice_index, refl}
use Rattle.std.proofs.Common.{⊎_elim, sym, ap, ◌∙◌, pow-suc, mul-le-mul_right, arith}
use Rattle.std.proofs.lemmas.Nat.{mul-add-lt, div-mul-add, mod-mul-add, div-add-mod', mod_below}
use Rattle.std.proofs.lemmas.List.{at_drop_more}
use Rattle.std.proofs.lemmas.Bool.{and_parts, eq-eqb, ne_eqb, cond-true, cond-false, cases_lt}
use Rattle.std.proofs.lemmas.Bool.Decides.{nat_tests}
use Rattle.keys.specs.PlateWord.{byte_good, bytes_good, word_of, text_of}

-- a good byte is a byte, and not 0
good_range : (b : ℕ) → byte_good b ≡ true → (1 ≤ b) × (b < 256)
good_range b h = (grind (arith, nat_tests), grind (arith, nat_tests))

-- n bytes are a number above 0
pub bytes_pos : (n : ℕ) → 0 < 256 ^ n
bytes_pos zero = omega arith
bytes_pos (suc n) = omega (arith, bytes_pos n, pow-suc 256 n)

pub word_small : (n : ℕ) (bs : List ℕ) → bytes_good bs ≡ true → word_of n bs < 256 ^ n
unfolding word_of bytes_good
word_small zero bs h = omega arith
word_small (suc n) [] h = bytes_pos (suc n)
word_small (suc n) (b ∷ bs) h =
    let g = and_parts (byte_good b) (bytes_good bs) h in
    omega (arith, mul-add-lt b (256 ^ n) (word_of n bs) 256 (good_range b g.0).1 (word_small n bs g.1), pow-suc 256 n)

-- a text that is not too long comes back from its word
pub text_back : (n : ℕ) (bs : List ℕ) → length bs ≤ n → bytes_good bs ≡ true → text_of n (word_of n bs) ≡ bs
unfolding word_of text_of bytes_good
text_back zero [] l h = refl
text_back zero (b ∷ bs) l h = let f : ⊥ = omega arith in absurd f
text_back (suc n) [] l h = refl
text_back (suc n) (b ∷ bs) l h =
    let k = 256 ^ n in
    let r = word_of n bs in
    let g = and_parts (byte_good b) (bytes_good bs) h in
    let s : r < k = word_small n bs g.1 in
    let some : nat_eq (b * k + r) 0 ≡ false =
    ne_eqb (b * k + r) 0 (λ e. omega (arith, mul-le-mul_right {m = 1} {n = b} k (good_range b g.0).0, bytes_pos n)) in
    cond-false (b * k + r == 0) [] ((b * k + r) / k ∷ text_of n ((b * k + r) % k)) some
    ∙ (λ i. div-mul-add b k r s i ∷ text_of n (mod-mul-add b k r s i))
    ∙ ap (λ t. b ∷ t) (text_back n bs (omega arith) g.1)

-- the bytes from i on are good if byte i is and those behind it are
pub bytes_more : (bs : List ℕ) (i : ℕ) → i < length bs → bytes_good (drop i bs) ≡ (byte_good (slice_index bs i) && bytes_good (drop (i + 1) bs))
unfolding bytes_good
bytes_more bs i h = at_drop_more bytes_good bs i 0 h

-- the text of 0, and of a word above 0
pub text_none : (n w : ℕ) → w ≡ 0 → text_of n w ≡ []
unfolding text_of
text_none zero w e = refl
text_none (suc n) w e = cond-true (w == 0) [] (w / 256 ^ n ∷ text_of n (w % 256 ^ n)) (eq-eqb w 0 e)

pub text_more : (n w : ℕ) → 0 < w → text_of (suc n) w ≡ w / 256 ^ n ∷ text_of n (w % 256 ^ n)
unfolding text_of
text_more n w h = cond-false (w == 0) [] (w / 256 ^ n ∷ text_of n (w % 256 ^ n)) (ne_eqb w 0 (λ e. omega arith))

-- a word of n bytes comes back from its text
pub word_back : (n w : ℕ) → w < 256 ^ n → word_of n (text_of n w) ≡ w
unfolding word_of
word_back zero w h = omega arith
word_back (suc n) w h =
    let k = 256 ^ n in
    ⊎_elim
    (λ (some : 0 < w). rw (text_more n w some, word_back n (w % k) (mod_below w k (bytes_pos n))) (div-add-mod' w k))
    (λ (none : w ≤ 0). let z : w ≡ 0 = omega arith in rw (text_none (suc n) w z) (sym z))
    (cases_lt 0 w)
