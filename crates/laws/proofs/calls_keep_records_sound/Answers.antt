use Rattle.laws.proofs.Records as records
use Rattle.laws.proofs.calls_keep_records_sound.Goals as goal

pub returns : goal.returns
returns c = records.calls_keep_records
