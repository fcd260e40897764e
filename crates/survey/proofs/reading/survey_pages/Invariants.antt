use Rattle.std.proofs.Common.{◌≡◌, ◌-◌, Ok}
use Rattle.protocol.specs.Rebuild.{pages_from}
use Rattle.survey.proofs.reading.survey_pages.Given as goal

abbrev pub invariant-loop-i : goal.invariant-loop-i
invariant-loop-i g l =
    pages_from g.K.KeyKind.key g.K.KeyKind.before (g.M.KeptMemory.words l.memory) 64 (Ok l.initial.found) l.initial.page
    ≡ pages_from g.K.KeyKind.key g.K.KeyKind.before (g.M.KeptMemory.words l.memory) (64 - l._i) (Ok l.found) l.page
