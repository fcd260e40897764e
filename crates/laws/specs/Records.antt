-- The page records of the table: in every book at most eight slots of a page are taken, and no slot at or above the taken count is committed.
use Rattle.std.specs.Prelude.{◌≡◌, ℕ, Bool, true, List}
use Rattle.protocol.specs.declared.table.Table.{Table}
use Rattle.protocol.specs.Fields.{page_at, sound}
use Rattle.protocol.specs.Make.{closed_table}
use Rattle.protocol.specs.Calls.{made, rebuilt, begun, stepped, collected}

-- Every page row can be made a page record of.
abbrev pub AllSound : Table → Type 0
AllSound t = (p : ℕ) → sound (page_at t p) ≡ true

-- A closed book's rows are sound, and every call leaves sound rows where it finds them, accepted or not.
pub record CallsKeepRecords : Type 0 where
  pub closed : AllSound closed_table
  pub make : (ws : List ℕ) (t : Table) (r : ℕ) → AllSound t → AllSound (made ws t r).1
  pub rebuild : (key : ℕ → Bool) (before : ℕ → ℕ → Bool) (ws : List ℕ) (t : Table) (r : ℕ) → AllSound t → AllSound (rebuilt key before ws t r).0
  pub begin : (key : ℕ → Bool) (t : Table) (r o k v : ℕ) → AllSound t → AllSound (begun key t r o k v).0
  pub step : (before : ℕ → ℕ → Bool) (ws : List ℕ) (t : Table) (r : ℕ) → AllSound t → AllSound (stepped before ws t r).1
  pub collect : (t : Table) (r : ℕ) → AllSound t → AllSound (collected t r).0
