-- One turn of the walks of a rebuild, where nothing is refused.
use Rattle.std.proofs.Common.{◌≡◌, ℕ, ◌+◌, ◌-◌, ◌<◌, ◌≤◌, Bool, true, false, cond, not, ◌||◌, eqb, leb, List, Ok, Err, Result, sym, refl, ap, ◌∙◌, ne_eqb, le-leb}
use Rattle.protocol.specs.declared.numbers.Refusal.{Refusal}
use Rattle.protocol.specs.declared.table.Table.{Table}
use Rattle.protocol.specs.Layout.{word, next_at, page_count}
use Rattle.protocol.specs.Fields.{page_at}
use Rattle.protocol.specs.Rebuild.{listing, chain_from, page_surveyed, pages_from}
use Rattle.protocol.proofs.Rebuilds.{chain_more, pages_more, pages_refused}

goes_on : {A : Type 0} (a b c : Bool) (x y z : A) → a ≡ false → b ≡ true → c ≡ false → cond (a || not b) x (cond c y z) ≡ z
goes_on a b c x y z e f g = rw (e, f, g) refl

otherwise : {A : Type 0} (b : Bool) (x y : A) → b ≡ false → cond b x y ≡ y
otherwise b x y e = rw e refl

-- a page of the list is followed to the next
pub follow_step : (ws : List ℕ) (t u : Table) (p q i : ℕ) → i < 64 → (page_at t p).listed ≡ false → q ≡ word ws (next_at p) → q ≤ page_count ws → (q ≡ 0 → ⊥) → u ≡ listing t p q →
    chain_from ws t p (64 - i) ≡ chain_from ws u q (64 - (i + 1))
follow_step ws t u p q i h l e b z f =
    chain_more ws t p i 64 h
    ∙ goes_on (page_at t p).listed (leb (word ws (next_at p)) (page_count ws)) (eqb (word ws (next_at p)) 0) _ _ _ l
    (rw e at (le-leb q (page_count ws) b)) (rw e at (ne_eqb q 0 z))
    ∙ ap (λ (v : ℕ). chain_from ws (listing t p v) v (64 - (i + 1))) (sym e)
    ∙ ap (λ (v : Table). chain_from ws v q (64 - (i + 1))) (sym f)

module _ (key : ℕ → Bool) (before : ℕ → ℕ → Bool) (ws : List ℕ) (t : Table) (p i : ℕ) (h : i < 64) (z : p ≡ 0 → ⊥) where
  -- a page of the list is surveyed
  surveyed : pages_from key before ws (64 - i) (Ok t) p ≡ pages_from key before ws (64 - (i + 1)) (page_surveyed key before ws t p) (page_at t p).next
  surveyed = pages_more key before ws i 64 t p h ∙ otherwise (eqb p 0) _ _ (ne_eqb p 0 z)

  pub survey_step : (u : Table) (q : ℕ) → page_surveyed key before ws t p ≡ Ok u → (page_at t p).next ≡ q →
      pages_from key before ws (64 - i) (Ok t) p ≡ pages_from key before ws (64 - (i + 1)) (Ok u) q
  survey_step u q e f =
      surveyed ∙ ap (λ (r : Result Table Refusal). pages_from key before ws (64 - (i + 1)) r (page_at t p).next) e
      ∙ ap (λ (v : ℕ). pages_from key before ws (64 - (i + 1)) (Ok u) v) f

  pub survey_refused : (e : Refusal) → page_surveyed key before ws t p ≡ Err e → pages_from key before ws (64 - i) (Ok t) p ≡ Err e
  survey_refused e f =
      surveyed ∙ ap (λ (r : Result Table Refusal). pages_from key before ws (64 - (i + 1)) r (page_at t p).next) f
      ∙ pages_refused key before ws (64 - (i + 1)) e (page_at t p).next
