-- The numbers by which refusals are known outside.
use Rattle.std.specs.Prelude.{ℕ}
use Rattle.keys.specs.declared.refusal.Refusal.{Refusal}
use Rattle.keys.specs.declared.refusal.Refusal.TheVariants.{NotAKey, NoSuchLevel, NoSuchZone, NoSuchPlace, NoSuchLength, NoSuchByte}

-- Each refusal has its own number.
abbrev pub refusal_number : Refusal → ℕ
refusal_number NotAKey = 13
refusal_number NoSuchLevel = 30
refusal_number NoSuchZone = 31
refusal_number NoSuchPlace = 32
refusal_number NoSuchLength = 33
refusal_number NoSuchByte = 34
