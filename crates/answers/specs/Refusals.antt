-- The numbers that refusals go by.
use Rattle.std.specs.Prelude.{ℕ}
use Rattle.answers.specs.declared.refusal.Refusal.{Refusal}
use Rattle.answers.specs.declared.refusal.Refusal.TheVariants.{NoSuchRunner, NoSuchAnswer, ShortBuffer}

-- 10: the runner is not 1 to 8; 40: the answer is above 3; 41: the buffer has fewer than 32 bytes.
abbrev pub number_of : Refusal → ℕ
number_of NoSuchRunner = 10
number_of NoSuchAnswer = 40
number_of ShortBuffer = 41
