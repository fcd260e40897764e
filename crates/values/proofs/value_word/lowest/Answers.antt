use Rattle.std.proofs.lemmas.Nat.{and_mask, one_shl}
use Rattle.values.proofs.value_word.lowest.Goals as goal

pub returns : goal.returns
returns c = rw (one_shl c.args.bits 64 c.requires) (and_mask c.args.w c.args.bits)
