use Rattle.laws.proofs.Targets as laws
use Rattle.laws.proofs.steps_write_their_targets.Goals as goal

pub returns : goal.returns
returns c = laws.steps_write_targets
