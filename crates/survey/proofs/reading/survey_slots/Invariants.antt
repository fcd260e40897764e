use Rattle.std.proofs.Common.{◌≡◌, ◌-◌}
use Rattle.protocol.specs.Rebuild.{slots_from}
use Rattle.survey.proofs.reading.survey_slots.Given as goal

abbrev pub invariant-loop-slot : goal.invariant-loop-slot
invariant-loop-slot g l =
    slots_from g.K.KeyKind.key g.K.KeyKind.before (g.M.KeptMemory.words l.memory) l.bounds.low l.bounds.high l.page (record { taken = 0; committed = 0; last = l.last }) 0 8
    ≡ slots_from g.K.KeyKind.key g.K.KeyKind.before (g.M.KeptMemory.words l.memory) l.bounds.low l.bounds.high l.page l.tally l.slot (8 - l.slot)
