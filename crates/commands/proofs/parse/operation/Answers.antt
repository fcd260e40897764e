use Rattle.std.proofs.Common.{rules}
use Rattle.std.proofs.lemmas.Slice.Eq.{text_from_reads}
use Rattle.commands.proofs.parse.operation.Goals as goal

pub returns-in-change : goal.returns-in-change
returns-in-change c = search (rules, text_from_reads)

pub returns-in-remove : goal.returns-in-remove
returns-in-remove c = search (rules, text_from_reads)
