use Rattle.std.proofs.Common.{◌≡◌, ◌+◌, ◌≤◌, drop}
use Rattle.protocol.specs.Locate.{rank}
use Rattle.locate.proofs.start.rank_of.Given as goal

abbrev pub invariant-loop-other : goal.invariant-loop-other
invariant-loop-other g l =
    (l.n ≤ l.other-index)
    × (rank g.K.KeyKind.before l.key l.keys ≡ l.n + rank g.K.KeyKind.before l.key (drop l.other-index l.keys))
