-- Value words: bit 63 is the copy mark, bits 62 to 32 the change number, bits 31 to 0 the value.
-- 4294967296 is 2 ^ 32, 2147483648 is 2 ^ 31, 9223372036854775808 is 2 ^ 63.
use Rattle.std.specs.Prelude.{ℕ, ◌+◌, ◌*◌, ◌/◌, ◌%◌, Bool, cond, ◌==◌, nat_le}
use Rattle.values.specs.declared.value_word.ValueWord.{ValueWord}

-- The mark is set from 2 ^ 63 on.
abbrev pub mark_of : ℕ → Bool
mark_of w = nat_le 9223372036854775808 w

-- The change number is the 31 bits above the value.
abbrev pub number_of : ℕ → ℕ
number_of w = w / 4294967296 % 2147483648

-- The value is the lowest 32 bits.
abbrev pub value_of : ℕ → ℕ
value_of w = w % 4294967296

-- A fresh word has its mark clear; of a number only the lowest 31 bits count.
abbrev pub fresh_word : ℕ → ℕ → ℕ
fresh_word n v = n % 2147483648 * 4294967296 + v

-- The word with its mark clear.
abbrev pub cleared : ℕ → ℕ
cleared w = w % 9223372036854775808

-- The word with its mark set.
abbrev pub marked : ℕ → ℕ
marked w = 9223372036854775808 + w % 9223372036854775808

-- Two words are the same when they are equal but for their marks.
abbrev pub same : ℕ → ℕ → Bool
same a b = a % 9223372036854775808 == b % 9223372036854775808

-- The word of the parts; of a number only the lowest 31 bits count.
abbrev pub packed : ValueWord → ℕ
packed p = cond p.mark 9223372036854775808 0 + p.number % 2147483648 * 4294967296 + p.value

-- The parts of a word.
abbrev pub unpacked : ℕ → ValueWord
unpacked w = record { mark = mark_of w; number = number_of w; value = value_of w }
