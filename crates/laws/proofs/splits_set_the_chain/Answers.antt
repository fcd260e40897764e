use Rattle.laws.proofs.Chain as laws
use Rattle.laws.proofs.splits_set_the_chain.Goals as goal

pub returns : goal.returns
returns c = laws.splits_set_the_chain
