-- The words of a row: the head, then 18 words a page: next, low, and key word and value word of slots 0 to 7.
use Rattle.std.specs.Prelude.{ℕ, ◌+◌, ◌-◌, ◌*◌, ◌/◌, ◌%◌, min, Bool, ◌&&◌, List, length, ◌==◌, nat_le, slice_index}

-- A word of the row; past its end every word reads 0.
abbrev pub word : List ℕ → ℕ → ℕ
word ws a = slice_index ws a

-- Page p begins at word 1 + 18 (p - 1).
abbrev pub page_start : ℕ → ℕ
page_start p = 18 * p - 17

-- The page's first word names the page after it, 0 at the end.
abbrev pub next_at : ℕ → ℕ
next_at p = page_start p

-- Its second word is its low: the page covers the keys from there up to the next page's low.
abbrev pub low_at : ℕ → ℕ
low_at p = page_start p + 1

-- The key word of a slot.
abbrev pub key_at : ℕ → ℕ → ℕ
key_at p s = page_start p + 2 + 2 * s

-- The value word of a slot.
abbrev pub value_at : ℕ → ℕ → ℕ
value_at p s = page_start p + 3 + 2 * s

-- How many pages the row has; a book has no more than 64.
abbrev pub page_count : List ℕ → ℕ
page_count ws = min ((length ws - 1) / 18) 64

-- A book's row has 1 + 18 N words, N from 2 to 64.
abbrev pub right_length : List ℕ → Bool
right_length ws = nat_le 37 (length ws) && (length ws - 1) % 18 == 0 && nat_le ((length ws - 1) / 18) 64
