-- Plates as words: seven bytes, highest first, those of the plate and then zeros.
use Rattle.std.specs.Prelude.{◌≡◌, ℕ, zero, suc, ◌+◌, ◌-◌, ◌*◌, ◌/◌, ◌%◌, ◌^◌, Bool, true, false, cond, ◌&&◌, ◌||◌, List, [], ◌∷◌, length, take, Ok, Err, Result, ◌==◌, nat_le, nat_lt}
use Rattle.std.specs.List.{suffix_len}
use Rattle.keys.specs.declared.refusal.Refusal.{Refusal}
use Rattle.keys.specs.declared.refusal.Refusal.TheVariants.{NotAKey, NoSuchLength, NoSuchByte}
use Rattle.keys.specs.declared.plate.PlateText.{PlateText}

-- A plate has 1 to 7 bytes.
abbrev pub length_good : ℕ → Bool
length_good n = nat_le 1 n && nat_le n 7

-- A byte of a plate is A to Z or 0 to 9.
abbrev pub byte_good : ℕ → Bool
byte_good b = (nat_le 65 b && nat_le b 90) || (nat_le 48 b && nat_le b 57)

-- Every byte is good.
unfoldable pub bytes_good : List ℕ → Bool
bytes_good [] = true
bytes_good (b ∷ bs) = byte_good b && bytes_good bs

-- The number of n bytes, highest first, that are these followed by zeros.
unfoldable pub word_of : ℕ → List ℕ → ℕ
word_of zero bs = 0
word_of (suc n) [] = 0
word_of (suc n) (b ∷ bs) = b * 256 ^ n + word_of n bs

-- The bytes of a number of n bytes, highest first, without the zeros at their end.
unfoldable pub text_of : ℕ → ℕ → List ℕ
text_of zero w = []
text_of (suc n) w = cond (w == 0) [] (w / 256 ^ n ∷ text_of n (w % 256 ^ n))

-- These bytes followed by zeros up to n.
unfoldable pub padded : ℕ → List ℕ → List ℕ
padded zero bs = []
padded (suc n) [] = 0 ∷ padded n []
padded (suc n) (b ∷ bs) = b ∷ padded n bs

-- The word of a plate.
abbrev pub plate_word : List ℕ → ℕ
plate_word bs = word_of 7 bs

-- The bytes of a plate's word.
abbrev pub plate_text : ℕ → List ℕ
plate_text w = text_of 7 w

-- A word of 56 bits is a key when its bytes, without the zeros at their end, are a plate.
abbrev pub plate_key : ℕ → Bool
plate_key w = nat_lt w (2 ^ 56) && length_good (length (plate_text w)) && bytes_good (plate_text w)

-- Texts are ordered byte by byte from the left, and a text comes before its own extensions.
unfoldable pub text_before : List ℕ → List ℕ → Bool
text_before xs [] = false
text_before [] (y ∷ ys) = true
text_before (x ∷ xs) (y ∷ ys) = cond (nat_lt x y) true (cond (nat_lt y x) false (text_before xs ys))

-- Words are ordered as their texts are.
abbrev pub plate_before : ℕ → ℕ → Bool
plate_before a b = text_before (plate_text a) (plate_text b)

-- A plate makes its word; else its length, and then its bytes, are refused.
abbrev pub plate_made : List ℕ → Result ℕ Refusal
plate_made bs = cond (length_good (length bs)) (cond (bytes_good bs) (Ok (plate_word bs)) (Err NoSuchByte)) (Err NoSuchLength)

-- A text as it is held: its bytes followed by zeros up to seven.
abbrev pub held : List ℕ → PlateText
held bs = record { bytes = padded 7 bs }

-- The bytes of a text that is held, without the zeros at their end.
abbrev pub shown : PlateText → List ℕ
shown t = take (7 - suffix_len (λ b. b == 0) t.bytes) t.bytes

-- A key gives its text back, and any other word is refused.
abbrev pub plate_parts : ℕ → Result PlateText Refusal
plate_parts w = cond (plate_key w) (Ok (held (plate_text w))) (Err NotAKey)

-- A word came apart into a text with these bytes.
abbrev pub Shows : List ℕ → Result PlateText Refusal → Type 0
Shows bs (Ok t) = shown t ≡ bs
Shows bs (Err e) = ⊥
