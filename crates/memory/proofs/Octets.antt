-- Words in bytes: which eight bytes a word is, and what a write of eight bytes does to the row.
use Rattle.std.proofs.Common.{◌≡◌, ℕ, zero, suc, ◌+◌, ◌-◌, ◌*◌, ◌/◌, ◌^◌, ◌<◌, ◌≤◌, ◌≢◌, List, [], length, get_or, take, drop, set, refl, ◌∙◌, arith}
use Rattle.std.specs.Simd.{first_chunks}
use native.Mathlib.Numerals.{unary_clauses}
use borrow.Rule.Slice.PartMut.{put_mid}
use Rattle.std.proofs.lemmas.List.FromFn.{length-map-range_with_len, get_or-map-range_with_len}
use Rattle.std.proofs.lemmas.Slice.{drop-put_mid}
use Rattle.std.proofs.lemmas.List.{places, same_lists, get_or-set_same, get_or-set_other, length-set, drop-drop}
use Rattle.std.proofs.lemmas.Bool.{cases_eq, cases_lt}
use Rattle.memory.specs.Octets.{word_at, octets, words_of, leftover}

pub length_words : (bs : List ℕ) → length (words_of bs) ≡ length bs / 8
unfolding words_of
length_words bs = length-map-range_with_len (λ i. word_at bs (8 * i)) 0 (length bs / 8)

pub get_or_words : (bs : List ℕ) (i d : ℕ) → i < length bs / 8 → get_or (words_of bs) i d ≡ word_at bs (8 * i)
unfolding words_of
get_or_words bs i d h = get_or-map-range_with_len (λ k. word_at bs (8 * k)) 0 (length bs / 8) i i d h (omega arith)

-- words of the same eight bytes are the same
same_bytes : (xs ys : List ℕ) (p q : ℕ) → ((j : ℕ) → j < 8 → get_or xs (p + j) 0 ≡ get_or ys (q + j) 0) → word_at xs p ≡ word_at ys q
same_bytes xs ys p q h = grind (arith, h 0, h 1, h 2, h 3, h 4, h 5, h 6, h 7)

get_or-first_chunks : (n k i : ℕ) (xs : List ℕ) → i < k → get_or (first_chunks n k xs) i [] ≡ take n (drop (n * i) xs)
get_or-first_chunks n zero i xs h = absurd (omega arith)
get_or-first_chunks n (suc k) zero xs h = simp unary_clauses refl
get_or-first_chunks n (suc k) (suc i) xs h =
    grind (arith, get_or-first_chunks n k i (drop n xs), drop-drop (n * i) n xs)

-- a word is its chunk of eight bytes
pub word_of_chunk : (bs : List ℕ) (i : ℕ) → i < length (words_of bs) → get_or (words_of bs) i 0 ≡ word_at (get_or (first_chunks 8 (length bs / 8) bs) i []) 0
word_of_chunk bs i h =
    let t : i < length bs / 8 = omega (arith, length_words bs) in
    rw (get_or_words bs i 0 t, get_or-first_chunks 8 (length bs / 8) i bs t) (same_bytes bs (take 8 (drop (8 * i) bs)) (8 * i) 0 (λ j q. grind (arith, places)))

-- the bytes of a word make it again
pub whole : (w : ℕ) → w < 2 ^ 64 → word_at (octets w) 0 ≡ w
whole w h = omega arith

-- the bytes of word i, put anew
abbrev written : List ℕ → ℕ → List ℕ → List ℕ
written bs i ys = put_mid (8 * i) (8 * i + 8 - 8 * i) bs ys

module _ (bs : List ℕ) (i : ℕ) (ys : List ℕ) (h : i < length (words_of bs)) (eight : length ys ≡ 8) where
  room : 8 * i + 8 ≤ length bs
  room = omega (arith, length_words bs)

  length_written : length (written bs i ys) ≡ length bs
  length_written = grind (arith, places, room, eight)

  -- the word that is written is that of the bytes
  pub word_taken : word_at (written bs i ys) (8 * i) ≡ word_at ys 0
  word_taken = same_bytes (written bs i ys) ys (8 * i) 0 (λ j q. grind (arith, places, room, eight))

  -- a word of which no byte is written
  pub word_kept : (k : ℕ) → k ≢ i → word_at (written bs i ys) (8 * k) ≡ word_at bs (8 * k)
  word_kept k n = same_bytes (written bs i ys) bs (8 * k) (8 * k) (λ j q. grind (arith, places, room, eight, cases_lt k i))

  -- the bytes that are in no word
  leftover_kept : leftover (written bs i ys) ≡ leftover bs
  leftover_kept = grind (arith, length_written, drop-put_mid, room, eight)

module _ (bs : List ℕ) (i w : ℕ) (ys : List ℕ) (h : i < length (words_of bs)) (f : w < 2 ^ 64) (e : ys ≡ octets w) where
  eight : length ys ≡ 8
  eight = rw e

  -- the word that is written
  pub word_written : word_at (written bs i ys) (8 * i) ≡ w
  word_written = word_taken bs i ys h eight ∙ rw e (whole w f)

  pub words_put : words_of (written bs i ys) ≡ set (words_of bs) i w
  words_put =
      let l = length_written bs i ys h eight in
      let kept = word_kept bs i ys h eight in
      same_lists (words_of (written bs i ys)) (set (words_of bs) i w)
      (rw (length_words (written bs i ys), l, length-set, length_words bs))
      (λ k d q. grind (arith, length_words, get_or_words, l, word_written, kept, get_or-set_same, get_or-set_other, cases_eq k i))

  pub leftover_put : leftover (written bs i ys) ≡ leftover bs
  leftover_put = leftover_kept bs i ys h eight

-- what the row in a slice of bytes is proved with
pub ruleset words_in_bytes = (length_words, word_of_chunk, words_put, leftover_put)
