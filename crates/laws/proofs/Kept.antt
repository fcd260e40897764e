-- What a step does not write stays.
use Rattle.std.proofs.Common.{◌≡◌, ℕ, Bool, cond, eqb, ltb, ◌≢◌, List, length, get_or, set, Some, None, sym, refl, ap, ◌∙◌, arith}
use Rattle.std.proofs.lemmas.List.{get_or-set_other}
use Rattle.std.proofs.lemmas.Bool.{cond_both}
use Rattle.protocol.specs.declared.table.Table.{Table}
use Rattle.protocol.specs.declared.moves.Access.{Access}
use Rattle.protocol.specs.declared.moves.Access.TheVariants.{Nothing, Load, Store, Swap}
use Rattle.protocol.specs.Layout.{word}
use Rattle.protocol.specs.Settle.{performed}
use Rattle.protocol.specs.Calls.{stepped}
use Rattle.laws.specs.Places.{Place, place_at, Within}
use Rattle.laws.specs.Rows.{step_access}
use Rattle.laws.specs.Targets.{step_target, written_at, number_of_place}
use Rattle.laws.specs.Kept.{StepsKeepTheRest}
use Rattle.laws.proofs.Rows.{stepped_row}
use Rattle.laws.proofs.Places.{places_are_words}
use Rattle.laws.proofs.Targets.{steps_write_targets}

set_keeps : (ws : List ℕ) (a b w : ℕ) → Some a ≢ Some b → word (set ws a w) b ≡ word ws b
set_keeps ws a b w n = get_or-set_other ws a b w 0 (λ e. n (ap Some (sym e)))

-- an access writes one word at most
pub performed_keeps : (ws : List ℕ) (m : Access) (b : ℕ) → written_at m ≢ Some b → word (performed ws m) b ≡ word ws b
performed_keeps ws Nothing b n = refl
performed_keeps ws (Load a) b n = refl
performed_keeps ws (Store a w) b n = cond_both (ltb a (length ws)) (set ws a w) ws (λ x. word x b ≡ word ws b) (λ _. set_keeps ws a b w n) (λ _. refl)
performed_keeps ws (Swap a e w) b n =
    cond_both (ltb a (length ws)) (cond (eqb (get_or ws a 0) e) (set ws a w) ws) ws (λ x. word x b ≡ word ws b)
    (λ _. cond_both (eqb (get_or ws a 0) e) (set ws a w) ws (λ x. word x b ≡ word ws b) (λ _. set_keeps ws a b w n) (λ _. refl))
    (λ _. refl)

-- an access that writes none leaves the row
pub performed_none : (ws : List ℕ) (m : Access) → written_at m ≡ None → performed ws m ≡ ws
performed_none ws Nothing e = refl
performed_none ws (Load a) e = refl
performed_none ws (Store a w) e = absurd (let z : ◌≡◌ {A = ℕ} 0 1 = cc in omega arith)
performed_none ws (Swap a f w) e = absurd (let z : ◌≡◌ {A = ℕ} 0 1 = cc in omega arith)

step_keeps : (before : ℕ → ℕ → Bool) (ws : List ℕ) (t : Table) (r a : ℕ) → number_of_place (step_target before ws t r) ≢ Some a → word (stepped before ws t r).0 a ≡ word ws a
step_keeps before ws t r a n =
    rw (stepped_row before ws t r) (performed_keeps ws (step_access before ws t r) a (λ e. n (sym (steps_write_targets.step before ws t r) ∙ e)))

step_none : (before : ℕ → ℕ → Bool) (ws : List ℕ) (t : Table) (r : ℕ) → step_target before ws t r ≡ None → (stepped before ws t r).0 ≡ ws
step_none before ws t r e =
    rw (stepped_row before ws t r) (performed_none ws (step_access before ws t r) (steps_write_targets.step before ws t r ∙ ap number_of_place e))

number_in : (a b : ℕ) → Some a ≡ Some b → a ≡ b
number_in a b e = cc

step_keeps_places : (before : ℕ → ℕ → Bool) (ws : List ℕ) (t : Table) (r n : ℕ) (x y : Place) → step_target before ws t r ≡ Some x → Within n x → Within n y → x ≢ y →
    word (stepped before ws t r).0 (place_at y) ≡ word ws (place_at y)
step_keeps_places before ws t r n x y e h k d =
    step_keeps before ws t r (place_at y)
    (λ f. d (places_are_words.apart n x y h k (number_in (place_at x) (place_at y) (sym (ap number_of_place e) ∙ f))))

pub steps_keep_the_rest : StepsKeepTheRest
steps_keep_the_rest = record { row = step_none; words = step_keeps; places = step_keeps_places }
