use Rattle.std.proofs.Common.{rules, tests}
use Rattle.protocol.specs.Search.{live}
use Rattle.protocol.proofs.First.{found}
use Rattle.search.proofs.slots.Slots.next_live.Goals as goal

pub returns : goal.returns
returns g c =
    let s = c.args.self.now in
    found _ _ _ _ (live (g.M.KeptMemory.words s.memory.now) s.bits s.page) c.find.ensures.ran (λ x q k. search (rules, tests)) (λ x q k. search (rules, tests))
