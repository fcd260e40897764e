-- What the calls of a kept memory answer, and what its row is afterwards.
-- Words are numbered from 0. A word number that is not below the count is refused, and the row stays.
use Rattle.std.specs.Prelude.{ℕ, Bool, cond, List, length, Ok, Err, Result, ◌==◌, nat_lt, slice_index, slice_set}
use Rattle.memory.specs.declared.kept.Refusal.{Refusal}
use Rattle.memory.specs.declared.kept.Refusal.TheVariants.{NoSuchWord}

-- A load answers the word.
abbrev pub loaded : List ℕ → ℕ → Result ℕ Refusal
loaded ws i = cond (nat_lt i (length ws)) (Ok (slice_index ws i)) (Err NoSuchWord)

-- A store answers that it is done.
abbrev pub stored : List ℕ → ℕ → Result (Unit {0}) Refusal
stored ws i = cond (nat_lt i (length ws)) (Ok tt) (Err NoSuchWord)

-- A store puts w in word i and changes no other.
abbrev pub row_stored : List ℕ → ℕ → ℕ → List ℕ
row_stored ws i w = cond (nat_lt i (length ws)) (slice_set ws i w) ws

-- A swap answers whether the expected word e stood there.
abbrev pub swapped : List ℕ → ℕ → ℕ → Result Bool Refusal
swapped ws i e = cond (nat_lt i (length ws)) (Ok (slice_index ws i == e)) (Err NoSuchWord)

-- A swap puts w in word i exactly when the expected word e stands there, and changes no other.
abbrev pub row_swapped : List ℕ → ℕ → ℕ → ℕ → List ℕ
row_swapped ws i e w = cond (nat_lt i (length ws)) (cond (slice_index ws i == e) (slice_set ws i w) ws) ws
