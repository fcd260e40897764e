use Rattle.commands.proofs.Numerals.{Left}
use Rattle.commands.proofs.number.number.Given as goal

abbrev pub invariant-loop-b : goal.invariant-loop-b
invariant-loop-b l = Left l.text l.b-index l.value
