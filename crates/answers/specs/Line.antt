-- The answer line: what it says, when it is refused, and what it leaves in the buffer.
use Rattle.std.specs.Prelude.{◌≡◌, ℕ, ◌+◌, cond, ◌&&◌, List, [], ◌∷◌, ◌++◌, length, drop, Some, None, Ok, Err, codes, decimal, Option, Result, ◌==◌, nat_le}
use Rattle.std.specs.Str.Parse.{digits_value}
use Rattle.answers.specs.declared.line.AnswerLine.{AnswerLine}
use Rattle.answers.specs.declared.refusal.Refusal.{Refusal}
use Rattle.answers.specs.declared.refusal.Refusal.TheVariants.{NoSuchRunner, NoSuchAnswer, ShortBuffer}

-- The words of an answer, by its number.
abbrev pub words : ℕ → List ℕ
words a = cond (a == 0) (codes "done") (cond (a == 1) (codes "already there") (cond (a == 2) (codes "not there") (codes "no room")))

-- The line: the runner's digit, a space, the words, a space, the value in decimal as `{}` prints it, a newline.
abbrev pub line : AnswerLine → List ℕ
line l = (48 + l.runner) ∷ 32 ∷ (words l.answer ++ (32 ∷ (decimal l.value ++ (10 ∷ []))))

-- Checked in this order: runner 1 to 8, answer 0 to 3, a buffer of 32 bytes or more.
abbrev pub refused : AnswerLine → ℕ → Option Refusal
refused l room =
    cond (nat_le 1 l.runner && nat_le l.runner 8)
    (cond (nat_le l.answer 3) (cond (nat_le 32 room) None (Some ShortBuffer)) (Some NoSuchAnswer))
    (Some NoSuchRunner)

-- What is answered: the length of the line, or the refusal.
abbrev pub answered : Option Refusal → AnswerLine → Result ℕ Refusal
answered None l = Ok (length (line l))
answered (Some e) l = Err e

-- What the buffer holds then: the line and, after it, the bytes that stood there; as it stood where refused.
abbrev pub written : Option Refusal → AnswerLine → List ℕ → List ℕ
written None l bytes = line l ++ drop (length (line l)) bytes
written (Some e) l bytes = bytes

-- The decimal digits of a number, read as a number, give it back.
abbrev pub ReadsBack : ℕ → Type 0
ReadsBack n = digits_value 10 (decimal n) ≡ n
