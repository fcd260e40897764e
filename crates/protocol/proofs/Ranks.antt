-- Ranks and the split key, one key on: the steps and the ends of the loops over a page's keys.
use Rattle.std.proofs.Common.{◌≡◌, ℕ, ◌+◌, ◌<◌, ◌≤◌, Bool, cond, not, ◌&&◌, eqb, List, length, get_or, drop}
use Rattle.std.proofs.lemmas.List.{at_drop_more, at_drop_all}
use Rattle.protocol.specs.Locate.{rank, ranked}

pub rank_more : (before : ℕ → ℕ → Bool) (k : ℕ) (ks : List ℕ) (i : ℕ) → i < length ks →
    rank before k (drop i ks) ≡ cond (not (eqb (get_or ks i 0) 0) && before (get_or ks i 0) k) 1 0 + rank before k (drop (i + 1) ks)
unfolding rank
rank_more before k ks i h = at_drop_more (rank before k) ks i 0 h

pub rank_all : (before : ℕ → ℕ → Bool) (k : ℕ) (ks : List ℕ) (i : ℕ) → length ks ≤ i → rank before k (drop i ks) ≡ 0
unfolding rank
rank_all before k ks i h = at_drop_all (rank before k) ks i h

pub ranked_more : (before : ℕ → ℕ → Bool) (all : List ℕ) (half : ℕ) (ks : List ℕ) (i : ℕ) → i < length ks →
    ranked before all half (drop i ks) ≡ cond (not (eqb (get_or ks i 0) 0) && eqb (rank before (get_or ks i 0) all) half) (get_or ks i 0) (ranked before all half (drop (i + 1) ks))
unfolding ranked
ranked_more before all half ks i h = at_drop_more (ranked before all half) ks i 0 h

pub ranked_all : (before : ℕ → ℕ → Bool) (all : List ℕ) (half : ℕ) (ks : List ℕ) (i : ℕ) → length ks ≤ i → ranked before all half (drop i ks) ≡ 0
unfolding ranked
ranked_all before all half ks i h = at_drop_all (ranked before all half) ks i h
