use Rattle.std.proofs.Common.{◌≡◌, ◌-◌, ◌≤◌}
use Rattle.protocol.specs.Search.{first_from, holds}
use Rattle.search.proofs.slots.Slots.find.Given as goal

abbrev pub invariant-loop-slot : goal.invariant-loop-slot
invariant-loop-slot g l =
    (l.slot ≤ 8)
    × (first_from (holds (g.M.KeptMemory.words l.self.memory.now) l.self.bits l.self.page l.key) 0 8
    ≡ first_from (holds (g.M.KeptMemory.words l.self.memory.now) l.self.bits l.self.page l.key) l.slot (8 - l.slot))

abbrev pub decreases-loop-slot : goal.decreases-loop-slot
decreases-loop-slot g l = 8 - l.slot
