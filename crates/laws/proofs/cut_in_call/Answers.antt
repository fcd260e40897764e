use Rattle.laws.proofs.Cuts as laws
use Rattle.laws.proofs.cut_in_call.Goals as goal

pub returns : goal.returns
returns c = laws.cut_in_call
