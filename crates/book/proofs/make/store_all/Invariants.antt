use Rattle.std.proofs.Common.{◌≡◌, drop}
use Rattle.protocol.specs.Make.{all_stored}
use Rattle.book.proofs.make.store_all.Given as goal

abbrev pub invariant-loop-at : goal.invariant-loop-at
invariant-loop-at g l =
    (all_stored (g.M.KeptMemory.words l.initial.memory) l.stores ≡ all_stored (g.M.KeptMemory.words l.memory) (drop l.at-index l.stores))
    × (g.M.KeptMemory.rest l.memory ≡ g.M.KeptMemory.rest l.initial.memory)
