use Rattle.laws.proofs.Drawn as drawn
use Rattle.laws.proofs.calls_keep_numbers_apart.Goals as goal

pub returns : goal.returns
returns c = drawn.calls_keep_numbers
