use Rattle.std.proofs.Common.{rules}
use Rattle.std.proofs.lemmas.Slice.{overwrites}
use Rattle.answers.specs.Put.{with_text}
use Rattle.answers.proofs.put.put.Goals as goal

pub returns : goal.returns
unfolding with_text
returns c = record { value = search rules; after = search (rules, overwrites) }
