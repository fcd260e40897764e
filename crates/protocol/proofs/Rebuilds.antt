-- The walks of a rebuild, one page or one slot on.
use Rattle.std.proofs.Common.{◌≡◌, ℕ, zero, suc, ◌+◌, ◌-◌, ◌<◌, ◌≤◌, Bool, true, false, cond, not, ◌||◌, eqb, leb, List, Ok, Err, refl, arith}
use Rattle.protocol.specs.declared.numbers.Refusal.{Refusal}
use Rattle.protocol.specs.declared.numbers.Refusal.TheVariants.{BrokenChain, MisplacedKey, NoChangeNumber}
use Rattle.protocol.specs.declared.table.Table.{Table}
use Rattle.protocol.specs.declared.table.Tally.{Tally}
use Rattle.protocol.specs.Layout.{word, next_at, key_at, value_at, page_count}
use Rattle.values.specs.ValueWord.{number_of}
use Rattle.protocol.specs.Fields.{page_at}
use Rattle.protocol.specs.Rebuild.{listing, chain_from, low_rises, lows_from, placed, tallied, slots_from, page_surveyed, pages_from}

pub chain_more : (ws : List ℕ) (t : Table) (p i n : ℕ) → i < n → chain_from ws t p (n - i) ≡
    cond ((page_at t p).listed || not (leb (word ws (next_at p)) (page_count ws)))
    (Err BrokenChain)
    (cond (eqb (word ws (next_at p)) 0) (Ok (listing t p 0)) (chain_from ws (listing t p (word ws (next_at p))) (word ws (next_at p)) (n - (i + 1))))
unfolding chain_from
chain_more ws t p i n h = let e : n - i ≡ suc (n - (i + 1)) = omega arith in rw e refl

pub chain_none : (ws : List ℕ) (t : Table) (p i n : ℕ) → n ≤ i → chain_from ws t p (n - i) ≡ Err BrokenChain
unfolding chain_from
chain_none ws t p i n h = let e : n - i ≡ 0 = omega arith in rw e refl

pub lows_more : (key : ℕ → Bool) (before : ℕ → ℕ → Bool) (ws : List ℕ) (t : Table) (p i n : ℕ) → i < n → lows_from key before ws t p (n - i) ≡
    cond (eqb (page_at t p).next 0) true
    (cond (low_rises key before ws p (page_at t p).next)
    (lows_from key before ws t (page_at t p).next (n - (i + 1)))
    false)
unfolding lows_from
lows_more key before ws t p i n h = let e : n - i ≡ suc (n - (i + 1)) = omega arith in rw e refl

pub lows_none : (key : ℕ → Bool) (before : ℕ → ℕ → Bool) (ws : List ℕ) (t : Table) (p i n : ℕ) → n ≤ i → lows_from key before ws t p (n - i) ≡ true
unfolding lows_from
lows_none key before ws t p i n h = let e : n - i ≡ 0 = omega arith in rw e refl

pub slots_more : (key : ℕ → Bool) (before : ℕ → ℕ → Bool) (ws : List ℕ) (low high p : ℕ) (a : Tally) (s n : ℕ) → s < n →
    slots_from key before ws low high p a s (n - s) ≡
    cond (eqb (word ws (key_at p s)) 0)
    (slots_from key before ws low high p a (s + 1) (n - (s + 1)))
    (cond (placed key before ws low high p s)
    (cond (eqb (number_of (word ws (value_at p s))) 0)
    (Err NoChangeNumber)
    (slots_from key before ws low high p (tallied a s (number_of (word ws (value_at p s)))) (s + 1) (n - (s + 1))))
    (Err MisplacedKey))
unfolding slots_from
slots_more key before ws low high p a s n h = let e : n - s ≡ suc (n - (s + 1)) = omega arith in rw e refl

pub slots_none : (key : ℕ → Bool) (before : ℕ → ℕ → Bool) (ws : List ℕ) (low high p : ℕ) (a : Tally) (s n : ℕ) → n ≤ s →
    slots_from key before ws low high p a s (n - s) ≡ Ok a
unfolding slots_from
slots_none key before ws low high p a s n h = let e : n - s ≡ 0 = omega arith in rw e refl

pub pages_more : (key : ℕ → Bool) (before : ℕ → ℕ → Bool) (ws : List ℕ) (i n : ℕ) (t : Table) (p : ℕ) → i < n →
    pages_from key before ws (n - i) (Ok t) p ≡
    cond (eqb p 0) (Ok t) (pages_from key before ws (n - (i + 1)) (page_surveyed key before ws t p) (page_at t p).next)
unfolding pages_from
pages_more key before ws i n t p h = let e : n - i ≡ suc (n - (i + 1)) = omega arith in rw e refl

pub pages_none : (key : ℕ → Bool) (before : ℕ → ℕ → Bool) (ws : List ℕ) (i n : ℕ) (t : Table) (p : ℕ) → n ≤ i →
    pages_from key before ws (n - i) (Ok t) p ≡ Ok t
unfolding pages_from
pages_none key before ws i n t p h = let e : n - i ≡ 0 = omega arith in rw e refl

pub pages_refused : (key : ℕ → Bool) (before : ℕ → ℕ → Bool) (ws : List ℕ) (n : ℕ) (e : Refusal) (p : ℕ) → pages_from key before ws n (Err e) p ≡ Err e
unfolding pages_from
pages_refused key before ws zero e p = refl
pages_refused key before ws (suc n) e p = refl
