use Rattle.std.proofs.Common.{rules, tests}
use Rattle.protocol.specs.Locate.{free_at}
use Rattle.protocol.proofs.First.{found}
use Rattle.locate.proofs.start.Starter.next_free.Goals as goal

pub returns-clause-value : goal.returns-clause-value
returns-clause-value c =
    found _ _ _ _ (free_at c.args.self.now.table.now c.args.self.now.pages) c.find.ensures.ran (λ x q k. search (rules, tests)) (λ x q k. search (rules, tests))
