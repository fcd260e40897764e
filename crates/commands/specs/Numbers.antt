-- Numbers as a script writes them.
use Rattle.std.specs.Prelude.{ℕ, Bool, cond, ◌&&◌, List, length, Some, None, Option, nat_le, nat_lt}
use Rattle.std.specs.Str.Parse.{digits_value}
use Rattle.std.specs.Str.{all_ascii_digits}

-- One digit or more, nothing but digits, and a value of at most `most`.
abbrev pub readable : List ℕ → ℕ → Bool
readable text most = nat_lt 0 (length text) && all_ascii_digits text && nat_le (digits_value 10 text) most

-- The number that the text says in decimal, if it is readable.
abbrev pub number_read : List ℕ → ℕ → Option ℕ
number_read text most = cond (readable text most) (Some (digits_value 10 text)) None
