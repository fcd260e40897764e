use Rattle.laws.proofs.Kept as laws
use Rattle.laws.proofs.steps_keep_the_rest.Goals as goal

pub returns : goal.returns
returns c = laws.steps_keep_the_rest
