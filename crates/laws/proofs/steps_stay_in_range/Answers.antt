use Rattle.laws.proofs.Ranges as laws
use Rattle.laws.proofs.steps_stay_in_range.Goals as goal

pub returns : goal.returns
returns c = laws.steps_in_range
