-- Change numbers: the words that runners carry have numbers of their own, from 1 to the last one drawn.
use Rattle.std.specs.Prelude.{◌≡◌, ℕ, ◌<◌, ◌≤◌, Bool, false, ◌≢◌, List}
use Rattle.values.specs.ValueWord.{mark_of, number_of}
use Rattle.protocol.specs.declared.table.Table.{Table}
use Rattle.protocol.specs.Fields.{runner_at}
use Rattle.protocol.specs.Make.{closed_table}
use Rattle.protocol.specs.Calls.{made, rebuilt, begun, stepped, collected}

-- The word of runner i: that of its enter or change, answered or not, until it is collected. A remove, a look and an idle runner have the word 0.
abbrev pub word_at : Table → ℕ → ℕ
word_at t i = (runner_at t i).word

-- The numbers of these words are drawn ones, no two alike, and their marks are clear.
pub record NumbersOwn (t : Table) : Type 0 where
  pub drawn : (i : ℕ) → word_at t i ≢ 0 → (1 ≤ number_of (word_at t i)) × (number_of (word_at t i) ≤ t.last)
  pub clear : (i : ℕ) → mark_of (word_at t i) ≡ false
  pub own : (i j : ℕ) → word_at t i ≢ 0 → word_at t j ≢ 0 → number_of (word_at t i) ≡ number_of (word_at t j) → i ≡ j

-- So it is in a closed book, and every call keeps it so, accepted or not. A value has 32 bits.
pub record CallsKeepNumbers : Type 0 where
  pub closed : NumbersOwn closed_table
  pub make : (ws : List ℕ) (t : Table) (r : ℕ) → NumbersOwn t → NumbersOwn (made ws t r).1
  pub rebuild : (key : ℕ → Bool) (before : ℕ → ℕ → Bool) (ws : List ℕ) (t : Table) (r : ℕ) → NumbersOwn t → NumbersOwn (rebuilt key before ws t r).0
  pub begin : (key : ℕ → Bool) (t : Table) (r o k v : ℕ) → v < 4294967296 → NumbersOwn t → NumbersOwn (begun key t r o k v).0
  pub step : (before : ℕ → ℕ → Bool) (ws : List ℕ) (t : Table) (r : ℕ) → NumbersOwn t → NumbersOwn (stepped before ws t r).1
  pub collect : (t : Table) (r : ℕ) → NumbersOwn t → NumbersOwn (collected t r).0
