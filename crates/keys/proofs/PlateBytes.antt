-- The bytes of a text and the zeros after them, in an array and in a word.
use Rattle.std.proofs.Common.{◌≡◌, ℕ, zero, suc, ◌+◌, ◌-◌, ◌*◌, ◌/◌, ◌%◌, ◌^◌, ◌<◌, ◌≤◌, List, [], ◌∷◌, ◌++◌, length, get_or, take, drop, replicate, sym, refl, ap, ◌∙◌, ⊎_elim, arith}
use native.Mathlib.Nat.{pow-succ', zero-div, zero-mod}
use borrow.Rule.Slice.PartMut.{put_mid}
use lib.Arith.{mod-mul}
use Rattle.std.proofs.lemmas.Nat.{div-mul-add, mod-mul-add, mod_below}
use Rattle.std.proofs.lemmas.List.{drop-replicate}
use Rattle.std.proofs.lemmas.Bool.{cases_lt}
use Rattle.keys.specs.PlateWord.{word_of, text_of, padded}
use Rattle.keys.specs.PlateWords.{bytes_pos, text_none, text_more}

-- a text with its zeros is the bytes of its word
padded_more : (n w : ℕ) → padded (suc n) (text_of (suc n) w) ≡ w / 256 ^ n ∷ padded n (text_of n (w % 256 ^ n))
unfolding padded
padded_more n w =
    let k = 256 ^ n in
    ⊎_elim
    (λ (some : 0 < w). ap (padded (suc n)) (text_more n w some))
    (λ (none : w ≤ 0).
    let z : w ≡ 0 = omega arith in
    let q : 0 ≡ w / k = sym (ap (λ x. x / k) z ∙ zero-div k) in
    let r : w % k ≡ 0 = ap (λ x. x % k) z ∙ zero-mod k in
    ap (padded (suc n)) (text_none (suc n) w z) ∙ (λ i. q i ∷ padded n (sym (text_none n (w % k) r) i)))
    (cases_lt 0 w)

-- the low n bytes of a word, highest first
abbrev low_bytes : ℕ → ℕ → List ℕ
low_bytes zero w = []
low_bytes (suc n) w = (w / 256 ^ n % 256) ∷ low_bytes n w

padded_low : (n w : ℕ) → padded n (text_of n (w % 256 ^ n)) ≡ low_bytes n w
unfolding padded
padded_low zero w = refl
padded_low (suc n) w =
    let k = 256 ^ n in
    let b = w / k % 256 in
    let l : w % k < k = mod_below w k (bytes_pos n) in
    let e : w % 256 ^ suc n ≡ b * k + w % k = ap (λ x. w % x) (pow-succ' 256 n) ∙ mod-mul w {m = 256} {c = k} (omega arith) (bytes_pos n) in
    let d : w % 256 ^ suc n / k ≡ b = ap (λ x. x / k) e ∙ div-mul-add b k (w % k) l in
    let m : w % 256 ^ suc n % k ≡ w % k = ap (λ x. x % k) e ∙ mod-mul-add b k (w % k) l in
    padded_more n (w % 256 ^ suc n) ∙ (λ i. d i ∷ padded n (text_of n (m i))) ∙ ap (λ t. b ∷ t) (padded_low n w)

pub padded_text : (w : ℕ) → w < 2 ^ 56
    → padded 7 (text_of 7 w)
    ≡ (w / 281474976710656 % 256) ∷ (w / 1099511627776 % 256) ∷ (w / 4294967296 % 256) ∷ (w / 16777216 % 256) ∷ (w / 65536 % 256) ∷ (w / 256 % 256) ∷ (w % 256) ∷ []
padded_text w h =
    let e : w ≡ w % 256 ^ 7 = omega arith in
    let last : w / 256 ^ 0 % 256 ≡ w % 256 = omega arith in
    ap (λ x. padded 7 (text_of 7 x)) e ∙ padded_low 7 w
    ∙ ap (λ b. (w / 281474976710656 % 256) ∷ (w / 1099511627776 % 256) ∷ (w / 4294967296 % 256) ∷ (w / 16777216 % 256) ∷ (w / 65536 % 256) ∷ (w / 256 % 256) ∷ b ∷ []) last

-- a text is seen whole before the zeros
pub shown_text : (n : ℕ) (bs : List ℕ) → length bs ≤ n → take (length bs) (padded n bs) ≡ bs
unfolding padded
shown_text zero [] h = refl
shown_text zero (b ∷ bs) h = let f : ⊥ = omega arith in absurd f
shown_text (suc n) [] h = refl
shown_text (suc n) (b ∷ bs) h = ap (λ t. b ∷ t) (shown_text n bs (omega arith))

-- .. and its bytes stand where they stood, with zeros past them
pub padded_at : (n k : ℕ) (bs : List ℕ) → length bs ≤ n → ◌≡◌ {A = ℕ} (get_or (padded n bs) k 0) (get_or bs k 0)
unfolding padded
padded_at zero k [] h = refl
padded_at zero k (b ∷ bs) h = absurd (omega arith)
padded_at (suc n) zero [] h = refl
padded_at (suc n) (suc k) [] h = padded_at n k [] (omega arith)
padded_at (suc n) zero (b ∷ bs) h = refl
padded_at (suc n) (suc k) (b ∷ bs) h = padded_at n k bs (omega arith)

pub length_padded : (n : ℕ) (bs : List ℕ) → length (padded n bs) ≡ n
unfolding padded
length_padded zero bs = refl
length_padded (suc n) [] = ap suc (length_padded n [])
length_padded (suc n) (b ∷ bs) = ap suc (length_padded n bs)

-- a byte past a text is 0, with zeros after the text or without
zeros_past : (m i : ℕ) → ◌≡◌ {A = ℕ} (get_or (replicate m 0) i 0) 0
zeros_past zero i = refl
zeros_past (suc m) zero = refl
zeros_past (suc m) (suc i) = zeros_past m i

get_or_zeros : (bs : List ℕ) (m i : ℕ) → get_or (bs ++ replicate m 0) i 0 ≡ get_or bs i 0
get_or_zeros [] m i = zeros_past m i
get_or_zeros (b ∷ bs) m zero = refl
get_or_zeros (b ∷ bs) m (suc i) = get_or_zeros bs m i

pub word_none : (n : ℕ) → word_of n [] ≡ 0
unfolding word_of
word_none zero = refl
word_none (suc n) = refl

word_at : (n i : ℕ) (bs : List ℕ) → word_of (suc n) (drop i bs) ≡ get_or bs i 0 * 256 ^ n + word_of n (drop (suc i) bs)
unfolding word_of
word_at n zero [] = omega (arith, word_none n)
word_at n zero (b ∷ bs) = refl
word_at n (suc i) [] = omega (arith, word_none n)
word_at n (suc i) (b ∷ bs) = word_at n i bs

-- the number that eight bytes spell
abbrev pub eight : List ℕ → ℕ
eight b =
    get_or b 0 0 * 72057594037927936 + get_or b 1 0 * 281474976710656 + get_or b 2 0 * 1099511627776 + get_or b 3 0 * 4294967296
    + get_or b 4 0 * 16777216 + get_or b 5 0 * 65536 + get_or b 6 0 * 256 + get_or b 7 0

word_eight : (bs : List ℕ) → eight (0 ∷ bs) ≡ word_of 7 bs
unfolding word_of
word_eight bs = omega (arith, word_at 6 0 bs, word_at 5 1 bs, word_at 4 2 bs, word_at 3 3 bs, word_at 2 4 bs, word_at 1 5 bs, word_at 0 6 bs)

-- bytes written behind the first of eight zeros spell their word
pub written_eight : (bs : List ℕ) (k : ℕ) → eight (put_mid 1 k (replicate 8 0) bs) ≡ word_of 7 bs
written_eight bs k =
    let z = get_or_zeros bs (7 - k) in
    ap (λ t. eight (0 ∷ (bs ++ t))) (drop-replicate k 7 0)
    ∙ omega (arith, word_eight bs, z 0, z 1, z 2, z 3, z 4, z 5, z 6)
