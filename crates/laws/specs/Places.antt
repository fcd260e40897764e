-- The words of a book's row by name.
use Rattle.std.specs.Prelude.{◌≡◌, ℕ, ◌+◌, ◌*◌, ◌<◌, ◌≤◌, true, List, length}
use Rattle.protocol.specs.Layout.{next_at, low_at, key_at, value_at, page_count, right_length}

-- The head, a page's next and low, and a slot's key word and value word.
pub data Place : Type 0 where
  Head : Place
  Next : ℕ → Place
  Low : ℕ → Place
  Key : ℕ → ℕ → Place
  Value : ℕ → ℕ → Place

-- The word number of a place.
abbrev pub place_at : Place → ℕ
place_at Head = 0
place_at (Next p) = next_at p
place_at (Low p) = low_at p
place_at (Key p s) = key_at p s
place_at (Value p s) = value_at p s

-- A place of a book of n pages: its page is 1 to n, and its slot 0 to 7.
abbrev pub Within : ℕ → Place → Type 0
Within n Head = Unit {0}
Within n (Next p) = (1 ≤ p) × (p ≤ n)
Within n (Low p) = (1 ≤ p) × (p ≤ n)
Within n (Key p s) = (1 ≤ p) × (p ≤ n) × (s < 8)
Within n (Value p s) = (1 ≤ p) × (p ≤ n) × (s < 8)

-- The places of a book are the words of its row: each place is a word, each word has a place, and no two places are one word.
pub record PlacesAreWords : Type 0 where
  pub counted : (ws : List ℕ) → right_length ws ≡ true → length ws ≡ 1 + 18 * page_count ws
  pub inside : (n : ℕ) (x : Place) → Within n x → place_at x < 1 + 18 * n
  pub named : (n a : ℕ) → a < 1 + 18 * n → (x : Place) × Within n x × (place_at x ≡ a)
  pub apart : (n : ℕ) (x y : Place) → Within n x → Within n y → place_at x ≡ place_at y → x ≡ y
