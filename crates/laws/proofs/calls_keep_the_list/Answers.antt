use Rattle.laws.proofs.Lists as lists
use Rattle.laws.proofs.calls_keep_the_list.Goals as goal

pub returns : goal.returns
returns c = lists.calls_keep_lists
