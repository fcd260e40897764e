use Rattle.std.proofs.Common.{rules, tests}
use Rattle.protocol.specs.Locate.{holds_page}
use Rattle.protocol.proofs.First.{any_found}
use Rattle.protocol.proofs.table.Table.is_held.Goals as goal

pub returns : goal.returns
returns c = any_found _ _ _ _ (holds_page c.args.self.now c.args.page) c.any.ensures.ran (λ x q k. search (rules, tests)) (λ x q k. search (rules, tests))
