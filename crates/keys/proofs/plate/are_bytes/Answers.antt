use Rattle.std.proofs.Common.{refl, rules}
use Rattle.std.proofs.lemmas.List.Recursion.{and_is}
use Rattle.keys.specs.PlateWord.{byte_good, bytes_good}
use Rattle.keys.proofs.plate.are_bytes.Goals as goal

pub returns : goal.returns
unfolding bytes_good
returns c = and_is bytes_good byte_good refl (λ _ _. refl) c.args.text.now 0 _ (search rules) (search rules)
