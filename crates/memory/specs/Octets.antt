-- A row of words in a list of bytes: word i is the bytes 8i to 8i + 7, most significant first.
use Rattle.std.specs.Prelude.{ℕ, ◌+◌, ◌*◌, ◌/◌, ◌%◌, List, [], ◌∷◌, map, length, drop, slice_index}
use Rattle.std.specs.List.{range_with_len}

-- The word of the eight bytes from byte p.
abbrev pub word_at : List ℕ → ℕ → ℕ
word_at bs p = slice_index bs p * 72057594037927936 + slice_index bs (p + 1) * 281474976710656 + slice_index bs (p + 2) * 1099511627776 + slice_index bs (p + 3) * 4294967296 + slice_index bs (p + 4) * 16777216 + slice_index bs (p + 5) * 65536 + slice_index bs (p + 6) * 256 + slice_index bs (p + 7)

-- The eight bytes of a word.
abbrev pub octets : ℕ → List ℕ
octets w = (w / 72057594037927936 % 256) ∷ (w / 281474976710656 % 256) ∷ (w / 1099511627776 % 256) ∷ (w / 4294967296 % 256) ∷ (w / 16777216 % 256) ∷ (w / 65536 % 256) ∷ (w / 256 % 256) ∷ (w % 256) ∷ []

-- The row: as many words as there are whole eights of bytes.
unfoldable pub words_of : List ℕ → List ℕ
words_of bs = map (λ i. word_at bs (8 * i)) (range_with_len 0 (length bs / 8))

-- The leftover bytes, which are in no word.
abbrev pub leftover : List ℕ → List ℕ
leftover bs = drop (8 * (length bs / 8)) bs
