use Rattle.laws.proofs.Places as laws
use Rattle.laws.proofs.places_are_the_words.Goals as goal

pub returns : goal.returns
returns c = laws.places_are_words
