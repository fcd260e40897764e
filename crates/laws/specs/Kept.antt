-- What a step does not write stays.
use Rattle.std.specs.Prelude.{◌≡◌, ℕ, Bool, ◌≢◌, List, Some, None}
use Rattle.protocol.specs.declared.table.Table.{Table}
use Rattle.protocol.specs.Layout.{word}
use Rattle.protocol.specs.Calls.{stepped}
use Rattle.laws.specs.Places.{Place, place_at, Within}
use Rattle.laws.specs.Targets.{step_target, number_of_place}

-- A step with no word to write leaves the row, and one that writes leaves every other word; with places of the book, every other place.
pub record StepsKeepTheRest : Type 0 where
  pub row : (before : ℕ → ℕ → Bool) (ws : List ℕ) (t : Table) (r : ℕ) → step_target before ws t r ≡ None → (stepped before ws t r).0 ≡ ws
  pub words : (before : ℕ → ℕ → Bool) (ws : List ℕ) (t : Table) (r a : ℕ) → number_of_place (step_target before ws t r) ≢ Some a →
      word (stepped before ws t r).0 a ≡ word ws a
  pub places : (before : ℕ → ℕ → Bool) (ws : List ℕ) (t : Table) (r n : ℕ) (x y : Place) → step_target before ws t r ≡ Some x → Within n x → Within n y → x ≢ y →
      word (stepped before ws t r).0 (place_at y) ≡ word ws (place_at y)
