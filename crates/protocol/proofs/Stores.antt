-- The row after some stores, one store on.
use Rattle.std.proofs.Common.{◌≡◌, ℕ, ◌+◌, ◌<◌, ◌≤◌, List, length, get_or, drop}
use Rattle.std.proofs.lemmas.List.{at_drop_more, at_drop_all}
use Rattle.memory.specs.Row.{row_stored}
use Rattle.protocol.specs.Make.{all_stored}

pub stored_more : (ws : List ℕ) (ss : List (ℕ × ℕ)) (i : ℕ) → i < length ss →
    all_stored ws (drop i ss) ≡ all_stored (row_stored ws (get_or ss i (0, 0)).0 (get_or ss i (0, 0)).1) (drop (i + 1) ss)
unfolding all_stored
stored_more ws ss i h = at_drop_more (all_stored ws) ss i (0, 0) h

pub stored_all : (ws : List ℕ) (ss : List (ℕ × ℕ)) (i : ℕ) → length ss ≤ i → all_stored ws (drop i ss) ≡ ws
unfolding all_stored
stored_all ws ss i h = at_drop_all (all_stored ws) ss i h
