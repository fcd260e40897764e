-- The page list of an open book, and the pages of a split.
use Rattle.std.specs.Prelude.{◌≡◌, ℕ, ◌+◌, ◌<◌, Bool, true, false, ◌≢◌, List, Some}
use Rattle.protocol.specs.declared.table.Split.{Split}
use Rattle.protocol.specs.declared.table.Table.{Table}
use Rattle.protocol.specs.Fields.{runner_at, page_at, held}
use Rattle.protocol.specs.Search.{covering as covering_page}
use Rattle.protocol.specs.Make.{closed_table}
use Rattle.protocol.specs.Calls.{made, rebuilt, begun, stepped, collected}
use Rattle.laws.specs.Arrays.{WholeArrays}

-- A list of pages by links: `in_list` says which are in it, `next` what follows each, 0 at the end, and `first` where it begins. `place` gives each its place, from 0, and `prev` the
-- page before it. No two pages have one place, so that none comes twice.
pub record Links (in_list : ℕ → Bool) (next : ℕ → ℕ) (first : ℕ) (place prev : ℕ → ℕ) : Type 0 where
  pub begins : in_list first ≡ true
  pub origin : place first ≡ 0
  pub follows : (p : ℕ) → in_list p ≡ true → next p ≢ 0 → (in_list (next p) ≡ true) × (place (next p) ≡ place p + 1)
  pub precedes : (p : ℕ) → in_list p ≡ true → p ≢ first → (in_list (prev p) ≡ true) × (next (prev p) ≡ p)
  pub own : (p q : ℕ) → in_list p ≡ true → in_list q ≡ true → place p ≡ place q → p ≡ q
  pub real : (p : ℕ) → in_list p ≡ true → p ≢ 0

abbrev pub listed : Table → ℕ → Bool
listed t p = (page_at t p).listed

abbrev pub next : Table → ℕ → ℕ
next t p = (page_at t p).next

-- A page that is in nobody's way: it has a row, is not listed, and no runner holds it.
pub record Unused (t : Table) (p : ℕ) : Type 0 where
  pub real : p ≢ 0
  pub row : p < 65
  pub off : listed t p ≡ false
  pub unheld : (i : ℕ) → held (runner_at t i).stage ≢ Some p

-- The old page of a split is listed; its new pages are unused, and are not one and the same.
pub record Apart (t : Table) (s : Split) : Type 0 where
  pub old : listed t s.old ≡ true
  pub left : Unused t s.left
  pub right : s.right ≢ 0 → Unused t s.right
  pub two : s.left ≢ s.right

pub record WellListed (t : Table) : Type 0 where
  pub place : ℕ → ℕ
  pub prev : ℕ → ℕ
  pub links : Links (listed t) (next t) t.first place prev
  pub apart : (s : Split) → t.split ≡ Some s → Apart t s

-- The table of an open book has its list. (Its arrays are whole besides, so that what is written of a list is read again.)
pub record ListedIfOpen (t : Table) : Type 0 where
  pub arrays : WholeArrays t
  pub list : t.opened ≡ true → WellListed t

-- So it is with a closed book, and every call keeps it so, accepted or not. The page that covers a key is then a listed one.
pub record CallsKeepLists : Type 0 where
  pub closed : ListedIfOpen closed_table
  pub make : (ws : List ℕ) (t : Table) (r : ℕ) → ListedIfOpen t → ListedIfOpen (made ws t r).1
  pub rebuild : (key : ℕ → Bool) (before : ℕ → ℕ → Bool) (ws : List ℕ) (t : Table) (r : ℕ) → ListedIfOpen t → ListedIfOpen (rebuilt key before ws t r).0
  pub begin : (key : ℕ → Bool) (t : Table) (r o k v : ℕ) → ListedIfOpen t → ListedIfOpen (begun key t r o k v).0
  pub step : (before : ℕ → ℕ → Bool) (ws : List ℕ) (t : Table) (r : ℕ) → ListedIfOpen t → ListedIfOpen (stepped before ws t r).1
  pub collect : (t : Table) (r : ℕ) → ListedIfOpen t → ListedIfOpen (collected t r).0
  pub covering : (before : ℕ → ℕ → Bool) (ws : List ℕ) (t : Table) (k : ℕ) → WellListed t → listed t (covering_page before ws t k) ≡ true
