-- How a script is cut into lines, and a line into words.
use Rattle.std.specs.Prelude.{◌≡◌, ◌<◌, [], MatchOption, ℕ, zero, suc, ◌+◌, Bool, cond, not, ◌&&◌, ◌||◌, List, length, take, drop, Some, None, Option, ◌==◌, nat_le, nat_lt, slice_index}
use denote.Ref.{Bor}
use Rattle.std.specs.List.{position_or_len}

-- A blank is a space or one of the bytes from tab to carriage return.
abbrev pub blank : ℕ → Bool
blank b = b == 32 || (nat_le 9 b && nat_le b 13)

-- How many bytes stand before the first that passes: all of them if there is none.
abbrev pub span : (ℕ → Bool) → List ℕ → ℕ
span stop text = position_or_len stop text

-- The text from its first word on.
abbrev pub trimmed : List ℕ → List ℕ
trimmed text = drop (span (λ b. not (blank b)) text) text

-- A word reaches up to the next blank or to the end. In a text of blanks it is empty.
unfoldable pub first_word : List ℕ → List ℕ
first_word text = take (span blank (trimmed text)) (trimmed text)

-- What stands after the first word.
unfoldable pub after_word : List ℕ → List ℕ
after_word text = drop (span blank (trimmed text)) (trimmed text)

-- The words of a text are numbered from 0; past the last one they are empty.
abbrev pub word : ℕ → List ℕ → List ℕ
word zero text = first_word text
word (suc n) text = word n (after_word text)

-- Whether there is such a byte.
abbrev pub holds_byte : ℕ → List ℕ → Bool
holds_byte x text = nat_lt (span (λ b. b == x) text) (length text)

-- What stands before the first such byte: all of the text if there is none.
abbrev pub before_byte : ℕ → List ℕ → List ℕ
before_byte x text = take (span (λ b. b == x) text) text

-- What stands after the first such byte: nothing if there is none.
abbrev pub after_byte : ℕ → List ℕ → List ℕ
after_byte x text = drop (span (λ b. b == x) text + 1) text

-- What stands after the first byte, if it is this one.
abbrev pub stripped : ℕ → List ℕ → Option (List ℕ)
stripped x text = cond (nat_lt 0 (length text) && slice_index text 0 == x) (Some (drop 1 text)) None

-- The next word of a line, if there is one, and what stands after it.
abbrev pub GivesWord : List ℕ → Option (Bor (List ℕ)) → List ℕ → Type 0
GivesWord before word after =
    MatchOption word (first_word before ≡ []) (λ w. (w.now ≡ first_word before) × (0 < length w.now)) × (after ≡ after_word before)
