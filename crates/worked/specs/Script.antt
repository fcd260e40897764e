-- The language of the worked examples: what is asked, and what it gives.
use Rattle.std.specs.Prelude.{ℕ, Bool, List, ℤ, pos, neg_ℤ, Option}
use Rattle.protocol.specs.declared.numbers.Operation.{Operation}
use Rattle.protocol.specs.declared.table.Phase.{Phase}
use Rattle.keys.specs.PlaceWord.{place_key, place_before}
use Rattle.keys.specs.PlateWord.{plate_key, plate_before}

infix 70 ◌gives◌
-- What is asked.
pub data Call : Type 0 where
  -- The word of a bay: level, zone and place.
  bay : ℤ → ℕ → ℕ → Call
  -- The word of a plate: its bytes.
  plate : List ℕ → Call
  -- Whether the first key comes before the second.
  precedes : ℕ → ℕ → Call
  -- A new book, for so many runners.
  make : ℕ → Call
  -- The book that the row holds, for so many runners.
  rebuild : ℕ → Call
  -- A runner begins an operation with a key and a value.
  begin : ℕ → Operation → ℕ → ℕ → Call
  -- A runner takes so many steps.
  step : ℕ → ℕ → Call
  -- A runner's answer is collected.
  collect : ℕ → Call
  -- The supply fails: the row stays, the table is lost.
  cut : Call
  -- A word of the row.
  word : ℕ → Call
  -- The pairs of the book, in the order of its pages and slots.
  book : Call
  -- The phase of the split, if there is one.
  split : Call

-- What it gives.
pub data Outcome : Type 0 where
  ok : Outcome
  -- Sent back, by the number of the refusal.
  refused : ℕ → Outcome
  number : ℕ → Outcome
  test : Bool → Outcome
  -- The number of the answer, and its value.
  answer : ℕ → ℕ → Outcome
  -- Page, key and value of each pair.
  pairs : List (ℕ × ℕ × ℕ) → Outcome
  phase : Option Phase → Outcome

-- A line of a script: what is asked, and what it must give.
pub data Line : Type 0 where
  ◌gives◌ : Call → Outcome → Line

-- The level n below the ground.
abbrev pub minus : ℕ → ℤ
minus n = neg_ℤ (pos n)

-- Which words are keys, and which of two comes first.
pub record Kind : Type 0 where
  pub key : ℕ → Bool
  pub before : ℕ → ℕ → Bool

-- Bays are ordered by signed level, then zone, then place.
abbrev pub bays : Kind
bays = record { key = place_key; before = place_before }

-- Plates are ordered byte by byte.
abbrev pub plates : Kind
plates = record { key = plate_key; before = plate_before }

-- An example: the kind of its keys, the words of its row, and its script.
pub record Example : Type 0 where
  pub kind : Kind
  pub words : ℕ
  pub script : List Line
