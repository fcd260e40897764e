-- Keys as a script writes them. A key is read by its shape, whatever the kind: a word after an @, a place with slashes, or else a plate.
use Rattle.std.specs.Prelude.{ℕ, cond, List, length, ℤ, pos, neg_ℤ, Some, None, Ok, Option, Result, ◌==◌}
use Rattle.keys.specs.declared.refusal.Refusal.{Refusal}
use Rattle.keys.specs.PlaceWord.{place_made}
use Rattle.keys.specs.PlateWord.{plate_made}
use Rattle.commands.specs.Numbers.{number_read}
use Rattle.commands.specs.Texts.{holds_byte, before_byte, after_byte, stripped}

-- The numbers of a place are below 2147483648.
abbrev pub most_part : ℕ
most_part = 2147483647

abbrev pub below_zero : Option ℕ → Option ℤ
below_zero None = None
below_zero (Some n) = Some (neg_ℤ (pos n))

abbrev pub from_zero : Option ℕ → Option ℤ
from_zero None = None
from_zero (Some n) = Some (pos n)

-- A level may have a minus before it.
abbrev pub level_of : Option (List ℕ) → List ℕ → Option ℤ
level_of (Some below) text = below_zero (number_read below most_part)
level_of None text = from_zero (number_read text most_part)

abbrev pub level_read : List ℕ → Option ℤ
level_read text = level_of (stripped 45 text) text

abbrev pub made_of_place : ℤ → ℕ → Option ℕ → Option (Result ℕ Refusal)
made_of_place l z None = None
made_of_place l z (Some p) = Some (place_made (record { level = l; zone = z; place = p }))

abbrev pub made_of_zone : ℤ → Option ℕ → Option ℕ → Option (Result ℕ Refusal)
made_of_zone l None p = None
made_of_zone l (Some z) p = made_of_place l z p

-- The key of a place if all three numbers are read.
abbrev pub made_of : Option ℤ → Option ℕ → Option ℕ → Option (Result ℕ Refusal)
made_of None z p = None
made_of (Some l) z p = made_of_zone l z p

-- A place is L/Z/P.
abbrev pub place_read : List ℕ → Option (Result ℕ Refusal)
place_read text =
    made_of (level_read (before_byte 47 text)) (number_read (before_byte 47 (after_byte 47 text)) most_part) (number_read (after_byte 47 (after_byte 47 text)) most_part)

abbrev pub word_read : Option ℕ → Option (Result ℕ Refusal)
word_read None = None
word_read (Some w) = Some (Ok w)

abbrev pub key_of : Option (List ℕ) → List ℕ → Option (Result ℕ Refusal)
key_of (Some word) text = word_read (number_read word 18446744073709551615)
key_of None text = cond (length text == 0) None (cond (holds_byte 47 text) (place_read text) (Some (plate_made text)))

-- The key, or why it cannot be made; nothing if the text cannot be read.
abbrev pub key_read : List ℕ → Option (Result ℕ Refusal)
key_read text = key_of (stripped 64 text) text
