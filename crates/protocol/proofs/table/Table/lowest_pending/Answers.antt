use Rattle.std.proofs.Common.{rules, tests}
use Rattle.protocol.specs.Search.{pends}
use Rattle.protocol.proofs.First.{found}
use Rattle.protocol.proofs.table.Table.lowest_pending.Goals as goal

pub returns : goal.returns
returns c = found _ _ _ _ (pends c.args.self.now c.args.page) c.find.ensures.ran (λ x q k. search (rules, tests)) (λ x q k. search (rules, tests))
