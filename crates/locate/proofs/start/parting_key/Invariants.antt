use Rattle.std.proofs.Common.{◌≡◌, drop}
use Rattle.protocol.specs.Locate.{ranked}
use Rattle.locate.proofs.start.parting_key.Given as goal

abbrev pub invariant-loop-slot : goal.invariant-loop-slot
invariant-loop-slot g l =
    ranked g.K.KeyKind.before l.keys l.half l.keys ≡ ranked g.K.KeyKind.before l.keys l.half (drop l.slot l.keys)
