use Rattle.laws.proofs.Stages as stages
use Rattle.laws.proofs.calls_keep_stage_and_phase.Goals as goal

pub returns : goal.returns
returns c = stages.calls_keep_stages
