use Rattle.laws.proofs.Rows as laws
use Rattle.laws.proofs.rows_keep_their_length.Goals as goal

pub returns : goal.returns
returns c = laws.rows_keep_length
