use Rattle.laws.proofs.Rows as laws
use Rattle.laws.proofs.rows_are_made_by_accesses.Goals as goal

pub returns : goal.returns
returns c = laws.rows_by_accesses
