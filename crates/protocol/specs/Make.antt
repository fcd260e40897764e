-- A new book.
use Rattle.std.specs.Prelude.{ℕ, Bool, true, false, List, [], ◌∷◌, replicate, None}
use Rattle.memory.specs.Row.{row_stored}
use Rattle.protocol.specs.declared.table.Table.{Table}
use Rattle.protocol.specs.Fields.{idle_runner, no_page, with_page}

-- A table with every runner idle, no page listed and no split.
abbrev pub bare_table : Bool → ℕ → ℕ → Table
bare_table opened count first = record {
  opened = opened;
  count = count;
  runners = replicate 8 idle_runner;
  first = first;
  pages = replicate 65 no_page;
  split = None;
  round = 1;
  last = 0;
}

-- With no book open the table is empty.
abbrev pub closed_table : Table
closed_table = bare_table false 0 0

-- A new book's list is page 1, with nothing taken.
abbrev pub made_table : ℕ → Table
made_table count = with_page (bare_table true count 1) 1 (record { listed = true; next = 0; taken = 0; committed = 0 })

-- Make's stores, in their order: 0 in the head, zeros for next, low and keys of page 1, then 1 in the head.
abbrev pub make_stores : List (ℕ × ℕ)
make_stores =
    (0, 0) ∷ (1, 0) ∷ (2, 0) ∷ (3, 0) ∷ (5, 0) ∷ (7, 0) ∷ (9, 0) ∷ (11, 0) ∷ (13, 0) ∷ (15, 0) ∷ (17, 0) ∷ (0, 1) ∷ []

-- The row after some stores.
unfoldable pub all_stored : List ℕ → List (ℕ × ℕ) → List ℕ
all_stored ws [] = ws
all_stored ws (s ∷ ss) = all_stored (row_stored ws s.0 s.1) ss

-- The row of a new book.
abbrev pub made_row : List ℕ → List ℕ
made_row ws = all_stored ws make_stores
