use Rattle.std.proofs.Common.{mod-eq_of_lt}
use Rattle.std.proofs.lemmas.Nat.{or_shifted}
use Rattle.values.proofs.value_word.above.Goals as goal

pub returns : goal.returns
returns c = rw (mod-eq_of_lt c.requires.room) (or_shifted c.args.high c.args.bits c.args.low c.requires.under)
