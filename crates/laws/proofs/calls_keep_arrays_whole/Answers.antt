use Rattle.laws.proofs.Arrays as arrays
use Rattle.laws.proofs.calls_keep_arrays_whole.Goals as goal

pub returns : goal.returns
returns c = arrays.calls_keep_arrays
