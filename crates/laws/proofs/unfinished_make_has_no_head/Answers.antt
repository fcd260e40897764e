use Rattle.laws.proofs.Cuts as laws
use Rattle.laws.proofs.unfinished_make_has_no_head.Goals as goal

pub returns : goal.returns
returns c = laws.fronts_of_make
