use Rattle.laws.proofs.Keeping as kept
use Rattle.laws.proofs.calls_keep_the_range.Goals as goal

pub returns : goal.returns
returns c = kept.calls_keep_range
