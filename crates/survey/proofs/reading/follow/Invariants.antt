use Rattle.std.proofs.Common.{◌≡◌, ◌-◌}
use Rattle.protocol.specs.Rebuild.{chain_from}
use Rattle.survey.proofs.reading.follow.Given as goal

abbrev pub invariant-loop-i : goal.invariant-loop-i
invariant-loop-i g l = chain_from (g.M.KeptMemory.words l.memory) l.initial.found l.initial.page 64 ≡ chain_from (g.M.KeptMemory.words l.memory) l.found l.page (64 - l._i)
