-- Numbers compare by their high part, and then by what is below it.
use Rattle.std.specs.Prelude.{◌≡◌, ℕ, ◌+◌, ◌*◌, ◌<◌, ◌≤◌, Bool, true, false, cond, nat_lt}
use Rattle.std.proofs.Common.{mul-le-mul_right, add-mul, arith}
use Rattle.std.proofs.lemmas.Bool.Decides.{nat_tests}

-- by x and y, and where these are one by r
abbrev pub lex : ℕ → ℕ → Bool → Bool
lex x y r = cond (nat_lt x y) true (cond (nat_lt y x) false r)

-- a smaller high part leaves room for any part below
room : (k x y : ℕ) → x < y → x * k + k ≤ y * k
room k x y h = omega (arith, mul-le-mul_right {m = x + 1} {n = y} k (omega arith), add-mul x 1 k)

pub lex_number : (k x y r s : ℕ) → r < k → s < k → nat_lt (x * k + r) (y * k + s) ≡ lex x y (nat_lt r s)
lex_number k x y r s hr hs = grind (arith, nat_tests, room k x y, room k y x)
