-- Every example is computed, with all recursions of the definitions open.
-- Where one is wrong, leave examples out of the list to see which: the check shows no line.
use Rattle.std.proofs.Common.{refl}
use Rattle.keys.specs.PlateWord as plate
use Rattle.protocol.specs.Search as search
use Rattle.protocol.specs.Locate as locate
use Rattle.protocol.specs.Make as make
use Rattle.protocol.specs.Rebuild as rebuild
use Rattle.worked.specs.Run.{steps, page_pairs, list_pairs, given, told}
use Rattle.worked.specs.Examples.{examples}
use Rattle.worked.proofs.example_count.Goals as goal

pub returns : goal.returns
unfolding examples given told steps page_pairs list_pairs
    plate.bytes_good plate.word_of plate.text_of plate.text_before
    search.first_from search.cover_from locate.rank locate.ranked
    make.all_stored rebuild.chain_from rebuild.lows_from rebuild.slots_from rebuild.pages_from
returns c = record { value = refl; answer = refl }
