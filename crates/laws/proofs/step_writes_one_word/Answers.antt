use Rattle.laws.proofs.Writes as laws
use Rattle.laws.proofs.step_writes_one_word.Goals as goal

pub returns : goal.returns
returns c = laws.step_writes_one
