use Rattle.std.proofs.Common.{◌≡◌, ◌-◌}
use Rattle.protocol.specs.Rebuild.{lows_from}
use Rattle.survey.proofs.reading.lows_rise.Given as goal

abbrev pub invariant-loop-i : goal.invariant-loop-i
invariant-loop-i g l =
    lows_from g.K.KeyKind.key g.K.KeyKind.before (g.M.KeptMemory.words l.view.memory.now) l.view.table.now l.first 64
    ≡ lows_from g.K.KeyKind.key g.K.KeyKind.before (g.M.KeptMemory.words l.view.memory.now) l.view.table.now l.page (64 - l._i)
