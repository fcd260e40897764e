-- What is asked of a part of a row: its length, its words, and what a write leaves of it.
use Rattle.std.proofs.Math.Seq.{take-set-lt}
use Rattle.std.proofs.lemmas.List.{length-take, length-drop, length-set, get_or-take, get_or-drop, drop-set-add, take-set-le, drop-set-lt}
use Rattle.std.proofs.lemmas.Bool.Decides.{nat_tests}

pub ruleset words_seen = (nat_tests, length-take, length-drop, length-set, get_or-take, get_or-drop, take-set-lt, take-set-le, drop-set-add, drop-set-lt)
