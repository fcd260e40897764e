use Rattle.std.proofs.Common.{rules, tests}
use Rattle.protocol.specs.Calls.{enters}
use Rattle.protocol.proofs.First.{any_found}
use Rattle.book.proofs.begin.is_being_entered.Goals as goal

pub returns : goal.returns
returns c = any_found _ _ _ _ (enters c.args.table.now c.args.key) c.any.ensures.ran (λ x q k. search (rules, tests)) (λ x q k. search (rules, tests))
