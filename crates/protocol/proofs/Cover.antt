-- The walk to the covering page, one page on.
use Rattle.std.proofs.Common.{◌≡◌, ℕ, suc, ◌+◌, ◌-◌, ◌<◌, ◌≤◌, Bool, cond, List, refl, arith}
use Rattle.protocol.specs.declared.table.Table.{Table}
use Rattle.protocol.specs.Fields.{page_at}
use Rattle.protocol.specs.Search.{cover_from, ends_before}

pub cover_more : (before : ℕ → ℕ → Bool) (ws : List ℕ) (t : Table) (k p i n : ℕ) → i < n →
    cover_from before ws t k p (n - i) ≡ cond (ends_before before ws k (page_at t p).next) p (cover_from before ws t k (page_at t p).next (n - (i + 1)))
unfolding cover_from
cover_more before ws t k p i n h = let e : n - i ≡ suc (n - (i + 1)) = omega arith in rw e refl

pub cover_none : (before : ℕ → ℕ → Bool) (ws : List ℕ) (t : Table) (k p i n : ℕ) → n ≤ i → cover_from before ws t k p (n - i) ≡ p
unfolding cover_from
cover_none before ws t k p i n h = let e : n - i ≡ 0 = omega arith in rw e refl
