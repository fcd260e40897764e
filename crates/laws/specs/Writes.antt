-- A step writes at most one word.
use Rattle.std.specs.Prelude.{◌≡◌, ℕ, Bool, ◌⊎◌, List}
use Rattle.memory.specs.Row.{row_stored}
use Rattle.protocol.specs.declared.table.Table.{Table}
use Rattle.protocol.specs.Calls.{stepped}

-- The row stays, or one word of it is set.
abbrev pub OneWrite : List ℕ → List ℕ → Type 0
OneWrite ws after = (after ≡ ws) ⊎ ((a : ℕ) × (w : ℕ) × (after ≡ row_stored ws a w))

abbrev pub StepWritesOne : Type 0
StepWritesOne = (before : ℕ → ℕ → Bool) (ws : List ℕ) (t : Table) (r : ℕ) → OneWrite ws (stepped before ws t r).0
