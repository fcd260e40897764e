-- How long the text in a word is, and that its zeros are those at the end of the word.
use Rattle.std.proofs.Common.{◌≡◌, ℕ, zero, suc, ◌-◌, ◌*◌, ◌/◌, ◌%◌, ◌^◌, ◌<◌, ◌≤◌, List, [], ◌∷◌, ◌==◌, length, get_or, sym, refl, ap, ◌∙◌, ⊎_elim, arith}
use Rattle.std.specs.List.{suffix_len}
use Rattle.std.proofs.lemmas.Nat.{div-add-mod', mod_below}
use Rattle.std.proofs.lemmas.Bool.{cases_lt, eq-eqb, ne_eqb}
use Rattle.std.proofs.lemmas.List.{get_or_past}
use Rattle.std.proofs.lemmas.List.Sums.{suffix_len_is}
use Rattle.keys.specs.PlateWord.{word_of, text_of, padded}
use Rattle.keys.specs.PlateWords.{bytes_pos, text_none, text_more, word_back}
use Rattle.keys.proofs.PlateBytes.{word_none, padded_at, length_padded}

pub length_text : (n w : ℕ) → length (text_of n w) ≤ n
unfolding text_of
length_text zero w = omega arith
length_text (suc n) w =
    ⊎_elim
    (λ (some : 0 < w). omega (arith, ap length (text_more n w some), length_text n (w % 256 ^ n)))
    (λ (none : w ≤ 0). omega (arith, ap length (text_none (suc n) w (omega arith))))
    (cases_lt 0 w)

-- a byte and a text end as the text does, or with the byte
ends : (q : ℕ) (t : List ℕ) → (t ≡ [] → 0 < q) → (0 < length t → 0 < get_or t (length t - 1) 0) → 0 < get_or (q ∷ t) (length t) 0
ends q [] one more = one refl
ends q (x ∷ xs) one more = let e : length (x ∷ xs) - 1 ≡ length xs = omega arith in rw e at (more (omega arith))

-- the last byte of a text is not 0
last_byte : (n w : ℕ) → 0 < length (text_of n w) → 0 < get_or (text_of n w) (length (text_of n w) - 1) 0
last_byte zero w h = absurd (omega (arith, length_text zero w))
last_byte (suc n) w h =
    let k = 256 ^ n in
    let r = w % k in
    ⊎_elim
    (λ (some : 0 < w).
    let one : text_of n r ≡ [] → 0 < w / k = λ e.
    let z : r ≡ 0 = sym (word_back n r (mod_below w k (bytes_pos n))) ∙ ap (word_of n) e ∙ word_none n in
    ⊎_elim (λ (l : 0 < w / k). l) (λ (l : w / k ≤ 0). let f : w / k * k ≡ 0 * k = ap (λ x. x * k) (omega arith) in absurd (omega (arith, div-add-mod' w k))) (cases_lt 0 (w / k)) in
    let e : length (w / k ∷ text_of n r) - 1 ≡ length (text_of n r) = omega arith in
    rw (text_more n w some, e) (ends (w / k) (text_of n r) one (last_byte n r)))
    (λ (none : w ≤ 0). absurd (omega (arith, ap length (text_none (suc n) w (omega arith)))))
    (cases_lt 0 w)

-- the zeros at the end of a word are those that follow its text
pub zeros_text : (n w : ℕ) → suffix_len (λ b. b == 0) (padded n (text_of n w)) ≡ n - length (text_of n w)
zeros_text n w =
    let t = text_of n w in
    let l : length t ≤ n = length_text n w in
    suffix_len_is (λ b. b == 0) (padded n t) (length t) 0 (omega (arith, length_padded n t))
    (λ k p q. eq-eqb (get_or (padded n t) k 0) 0 (padded_at n k t l ∙ get_or_past t k 0 p))
    (λ h. ne_eqb (get_or (padded n t) (length t - 1) 0) 0 (λ e. omega (arith, last_byte n w h, padded_at n (length t - 1) t l)))
    ∙ ap (λ x. x - length t) (length_padded n t)
