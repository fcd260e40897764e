use Rattle.std.proofs.Common.{rules, tests}
use Rattle.protocol.specs.Search.{stands}
use Rattle.protocol.proofs.First.{found}
use Rattle.search.proofs.row.next_standing.Goals as goal

pub returns : goal.returns
returns g c = found _ _ _ _ (stands (g.M.KeptMemory.words c.args.memory.now) c.args.split) c.find.ensures.ran (λ x q k. search (rules, tests)) (λ x q k. search (rules, tests))
