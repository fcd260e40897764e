-- At most one word.
use Rattle.std.proofs.Common.{◌≡◌, ℕ, Bool, true, false, cond, eqb, ltb, List, length, get_or, set, refl, inl, inr}
use Rattle.std.proofs.lemmas.Bool.{cond_both}
use Rattle.protocol.specs.declared.moves.Access.{Access}
use Rattle.protocol.specs.declared.moves.Access.TheVariants.{Nothing, Load, Store, Swap}
use Rattle.protocol.specs.Settle.{performed}
use Rattle.laws.specs.Rows.{step_access}
use Rattle.laws.specs.Writes.{OneWrite, StepWritesOne}
use Rattle.laws.proofs.Rows.{stepped_row}

-- a swap whose test gave b
one_write_by : (ws : List ℕ) (a w : ℕ) (b : Bool) → OneWrite ws (cond (ltb a (length ws)) (cond b (set ws a w) ws) ws)
one_write_by ws a w true = inr (a, w, refl)
one_write_by ws a w false = inl (cond_both (ltb a (length ws)) ws ws (λ x. x ≡ ws) (λ _. refl) (λ _. refl))

pub one_write : (ws : List ℕ) (a : Access) → OneWrite ws (performed ws a)
one_write ws Nothing = inl refl
one_write ws (Load a) = inl refl
one_write ws (Store a w) = inr (a, w, refl)
one_write ws (Swap a e w) = one_write_by ws a w (eqb (get_or ws a 0) e)

pub step_writes_one : StepWritesOne
step_writes_one before ws t r = rw (stepped_row before ws t r) (one_write ws (step_access before ws t r))
