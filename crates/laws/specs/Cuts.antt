-- What a power cut inside one of the five calls leaves of the row.
use Rattle.std.specs.Prelude.{◌≡◌, ℕ, ◌≤◌, Bool, true, ◌⊎◌, List, [], ◌∷◌, map, length, take, Err}
use Rattle.memory.specs.Cut.{LeftByCut, StoreCut, SwapCut}
use Rattle.protocol.specs.declared.numbers.Refusal.TheVariants.{NoHead}
use Rattle.protocol.specs.declared.table.Table.{Table}
use Rattle.protocol.specs.declared.moves.Access.{Access}
use Rattle.protocol.specs.declared.moves.Access.TheVariants.{Nothing, Load, Store, Swap}
use Rattle.protocol.specs.Settle.{performed}
use Rattle.protocol.specs.Layout.{right_length}
use Rattle.protocol.specs.Make.{make_stores, all_stored, made_row}
use Rattle.protocol.specs.Calls.{made, rebuilt, stepped}
use Rattle.laws.specs.Rows.{Call, Make, Rebuild, Begin, Step, Collect, store_of, accesses}

-- What a cut inside one access may leave of the row, as kept memory has it.
abbrev pub AccessCut : List ℕ → Access → List ℕ → Type 0
AccessCut ws Nothing left = left ≡ ws
AccessCut ws (Load a) left = left ≡ ws
AccessCut ws (Store a w) left = StoreCut ws a w left
AccessCut ws (Swap a e w) left = SwapCut ws a e w left

-- What a cut may leave inside a call that makes these accesses: those before the cut stand, and the cut falls inside the next or after the last.
unfoldable pub CutWithin : List ℕ → List Access → List ℕ → Type 0
CutWithin ws [] left = left ≡ ws
CutWithin ws (a ∷ rest) left = AccessCut ws a left ⊎ CutWithin (performed ws a) rest left

abbrev pub CutIn : (ℕ → ℕ → Bool) → List ℕ → Table → Call → List ℕ → Type 0
CutIn before ws t c left = CutWithin ws (accesses before ws t c) left

-- Every rebuild of the row for 1 to 8 runners is sent back for its head.
abbrev pub Headless : List ℕ → Type 0
Headless ws = (key : ℕ → Bool) (before : ℕ → ℕ → Bool) (t : Table) (n : ℕ) → 1 ≤ n → n ≤ 8 → rebuilt key before ws t n ≡ (t, Err NoHead)

-- A cut inside some stores leaves the row after the first n of them, for some n.
abbrev pub CutInStores : Type 0
CutInStores = (ws : List ℕ) (ss : List (ℕ × ℕ)) (left : List ℕ) → CutWithin ws (map store_of ss) left →
    (n : ℕ) × (n ≤ length ss) × (left ≡ all_stored ws (take n ss))

-- The row after the first n of make's twelve stores: after none it is the row before, after 1 to 11 no rebuild takes it, after all it is the new book's.
pub record FrontsOfMake : Type 0 where
  pub none : (ws : List ℕ) → all_stored ws (take 0 make_stores) ≡ ws
  pub some : (ws : List ℕ) (n : ℕ) → right_length ws ≡ true → 1 ≤ n → n ≤ 11 → Headless (all_stored ws (take n make_stores))
  pub all : (ws : List ℕ) → all_stored ws (take 12 make_stores) ≡ made_row ws

-- A cut inside rebuild, begin or collect leaves the row as it was; one inside a step the row before it or the row after it;
-- one inside a make the row before it, the row after it, or a row that no rebuild takes.
pub record CutInCall : Type 0 where
  pub rebuild : (before : ℕ → ℕ → Bool) (ws : List ℕ) (t : Table) (n : ℕ) (left : List ℕ) → CutIn before ws t (Rebuild n) left → left ≡ ws
  pub begin : (before : ℕ → ℕ → Bool) (ws : List ℕ) (t : Table) (r o k v : ℕ) (left : List ℕ) → CutIn before ws t (Begin r o k v) left → left ≡ ws
  pub collect : (before : ℕ → ℕ → Bool) (ws : List ℕ) (t : Table) (r : ℕ) (left : List ℕ) → CutIn before ws t (Collect r) left → left ≡ ws
  pub step : (before : ℕ → ℕ → Bool) (ws : List ℕ) (t : Table) (r : ℕ) (left : List ℕ) → CutIn before ws t (Step r) left →
      LeftByCut ws (stepped before ws t r).0 left
  pub make : (before : ℕ → ℕ → Bool) (ws : List ℕ) (t : Table) (n : ℕ) (left : List ℕ) → CutIn before ws t (Make n) left →
      LeftByCut ws (made ws t n).0 left ⊎ Headless left
