-- The numbers of the refusals.
use Rattle.std.specs.Prelude.{ℕ}
use Rattle.memory.specs.declared.kept.Refusal.{Refusal}
use Rattle.memory.specs.declared.kept.Refusal.TheVariants.{NoSuchWord, NoSuchWindow}

-- A word number that is not below the count is refused with 20, a window that does not fit with 21.
abbrev pub refusal_number : Refusal → ℕ
refusal_number NoSuchWord = 20
refusal_number NoSuchWindow = 21
