-- The arrays of the table have room for eight runners and for the rows of pages 0 to 64.
use Rattle.std.specs.Prelude.{◌≡◌, ℕ, ◌<◌, Bool, List, length}
use Rattle.protocol.specs.declared.table.Runner.{Runner}
use Rattle.protocol.specs.declared.table.PageRow.{PageRow}
use Rattle.protocol.specs.declared.table.Table.{Table}
use Rattle.protocol.specs.Fields.{runner_at, with_runner, page_at, with_page}
use Rattle.protocol.specs.Make.{closed_table}
use Rattle.protocol.specs.Calls.{made, rebuilt, begun, stepped, collected}

pub record WholeArrays (t : Table) : Type 0 where
  pub runners : length t.runners ≡ 8
  pub pages : length t.pages ≡ 65

-- A record that is written to such a table is read back, for each of the eight runners and each of the 65 rows.
pub record WritesAreRead : Type 0 where
  pub runner : (t : Table) (i : ℕ) (x : Runner) → WholeArrays t → i < 8 → runner_at (with_runner t i x) i ≡ x
  pub page : (t : Table) (p : ℕ) (x : PageRow) → WholeArrays t → p < 65 → page_at (with_page t p x) p ≡ x

-- A closed book's table has them, and so has the table after every call, accepted or not.
pub record CallsKeepArrays : Type 0 where
  pub closed : WholeArrays closed_table
  pub make : (ws : List ℕ) (t : Table) (r : ℕ) → WholeArrays t → WholeArrays (made ws t r).1
  pub rebuild : (key : ℕ → Bool) (before : ℕ → ℕ → Bool) (ws : List ℕ) (t : Table) (r : ℕ) → WholeArrays t → WholeArrays (rebuilt key before ws t r).0
  pub begin : (key : ℕ → Bool) (t : Table) (r o k v : ℕ) → WholeArrays t → WholeArrays (begun key t r o k v).0
  pub step : (before : ℕ → ℕ → Bool) (ws : List ℕ) (t : Table) (r : ℕ) → WholeArrays t → WholeArrays (stepped before ws t r).1
  pub collect : (t : Table) (r : ℕ) → WholeArrays t → WholeArrays (collected t r).0
  pub writes : WritesAreRead
