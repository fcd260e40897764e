use Rattle.laws.proofs.Cuts as laws
use Rattle.laws.proofs.cut_in_stores_leaves_a_front.Goals as goal

pub returns : goal.returns
returns c = laws.cut_in_stores
