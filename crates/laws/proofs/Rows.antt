-- The row after a call, access by access.
use Rattle.std.proofs.Common.{◌≡◌, ℕ, ◌-◌, Bool, cond, eqb, ltb, List, [], ◌∷◌, map, length, get_or, set, Some, None, Option, refl, ◌∙◌}
use Rattle.std.proofs.lemmas.List.{length-set}
use Rattle.std.proofs.lemmas.Bool.{cond_both}
use Rattle.memory.specs.Row.{row_stored, row_swapped}
use Rattle.protocol.specs.declared.numbers.Refusal.{Refusal}
use Rattle.protocol.specs.declared.table.Activity.{Activity}
use Rattle.protocol.specs.declared.table.Activity.TheVariants.{Resting, Open, Waiting}
use Rattle.protocol.specs.declared.table.Table.{Table}
use Rattle.protocol.specs.declared.moves.Access.{Access}
use Rattle.protocol.specs.declared.moves.Access.TheVariants.{Nothing, Load, Store, Swap}
use Rattle.protocol.specs.Fields.{runner_at, activity}
use Rattle.protocol.specs.Settle.{performed}
use Rattle.protocol.specs.Make.{make_stores, all_stored}
use Rattle.protocol.specs.Rebuild.{size_refusal}
use Rattle.protocol.specs.Calls.{made_unless, stepped_by, stepped_unless, stepped, runner_refusal}
use Rattle.laws.specs.Rows.{Make, Rebuild, Begin, Step, Collect, step_access_by, step_access_unless, step_access, store_of, make_accesses, all_performed, RowsByAccesses, RowsKeepLength}

-- the row after a step

stepped_row_by : (before : ℕ → ℕ → Bool) (ws : List ℕ) (t : Table) (i : ℕ) (a : Activity) →
    (stepped_by before ws t i a).0 ≡ performed ws (step_access_by before ws t i a)
stepped_row_by before ws t i Resting = refl
stepped_row_by before ws t i Open = refl
stepped_row_by before ws t i (Waiting a v) = refl

stepped_row_unless : (before : ℕ → ℕ → Bool) (ws : List ℕ) (t : Table) (i : ℕ) (e : Option Refusal) →
    (stepped_unless before ws t i e).0 ≡ performed ws (step_access_unless before ws t i e)
stepped_row_unless before ws t i (Some e) = refl
stepped_row_unless before ws t i None = stepped_row_by before ws t i (activity (runner_at t i).stage)

pub stepped_row : (before : ℕ → ℕ → Bool) (ws : List ℕ) (t : Table) (r : ℕ) → (stepped before ws t r).0 ≡ performed ws (step_access before ws t r)
stepped_row before ws t r = stepped_row_unless before ws t (r - 1) (runner_refusal t r)

-- the row after a make

all_stores : (ws : List ℕ) (ss : List (ℕ × ℕ)) → all_stored ws ss ≡ all_performed ws (map store_of ss)
unfolding all_stored all_performed
all_stores ws [] = refl
all_stores ws (s ∷ ss) = all_stores (row_stored ws s.0 s.1) ss

pub made_by_accesses : (ws : List ℕ) (t : Table) (n : ℕ) (e : Option Refusal) → (made_unless ws t n e).0 ≡ all_performed ws (make_accesses e)
unfolding all_performed
made_by_accesses ws t n (Some e) = refl
made_by_accesses ws t n None = all_stores ws make_stores

pub rows_by_accesses : RowsByAccesses
unfolding all_performed
rows_by_accesses before ws t (Make n) = made_by_accesses ws t n (size_refusal ws n)
rows_by_accesses before ws t (Rebuild n) = refl
rows_by_accesses before ws t (Begin r o k v) = refl
rows_by_accesses before ws t (Step r) = stepped_row before ws t r
rows_by_accesses before ws t (Collect r) = refl

-- lengths

pub length_stored : (ws : List ℕ) (a w : ℕ) → length (row_stored ws a w) ≡ length ws
length_stored ws a w = cond_both (ltb a (length ws)) (set ws a w) ws (λ x. length x ≡ length ws) (λ _. length-set ws a w) (λ _. refl)

length_swapped : (ws : List ℕ) (a e w : ℕ) → length (row_swapped ws a e w) ≡ length ws
length_swapped ws a e w =
    cond_both (ltb a (length ws)) (cond (eqb (get_or ws a 0) e) (set ws a w) ws) ws (λ x. length x ≡ length ws)
    (λ _. cond_both (eqb (get_or ws a 0) e) (set ws a w) ws (λ x. length x ≡ length ws) (λ _. length-set ws a w) (λ _. refl))
    (λ _. refl)

pub length_performed : (ws : List ℕ) (a : Access) → length (performed ws a) ≡ length ws
length_performed ws Nothing = refl
length_performed ws (Load a) = refl
length_performed ws (Store a w) = length_stored ws a w
length_performed ws (Swap a e w) = length_swapped ws a e w

pub length_all_performed : (ws : List ℕ) (rest : List Access) → length (all_performed ws rest) ≡ length ws
unfolding all_performed
length_all_performed ws [] = refl
length_all_performed ws (a ∷ rest) = length_all_performed (performed ws a) rest ∙ length_performed ws a

pub rows_keep_length : RowsKeepLength
rows_keep_length before ws t c = rw (rows_by_accesses before ws t c) (length_all_performed ws _)
