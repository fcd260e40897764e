-- What is read of a table after a write, and of a table that has nothing in it.
use Rattle.std.proofs.Common.{◌≡◌, ℕ, Bool, true, false, cond, ltb, ◌⊎◌, List, length, get_or, set, replicate, sym, refl, ◌∙◌, inl, inr, ⊎_elim}
use Rattle.std.proofs.lemmas.List.{length-set, get_or-set_same, get_or-set_other, get_or-replicate, get_or_past}
use Rattle.std.proofs.lemmas.Bool.{cond_both, ltb-true, cases_lt, cases_eq}
use Rattle.protocol.specs.declared.table.Runner.{Runner}
use Rattle.protocol.specs.declared.table.PageRow.{PageRow}
use Rattle.protocol.specs.declared.table.Table.{Table}
use Rattle.protocol.specs.Fields.{idle_runner, runner_at, with_runner, no_page, page_at, with_page}
use Rattle.protocol.specs.Make.{bare_table}

-- After a write in an array what is read is what stood there, or what was written where it was written

read_set : {A : Type 0} (d : A) (xs : List A) (p q : ℕ) (x : A) → (get_or (set xs p x) q d ≡ get_or xs q d) ⊎ ((q ≡ p) × (get_or (set xs p x) q d ≡ x))
read_set d xs p q x =
    ⊎_elim
    (λ e. rw e (⊎_elim
    (λ h. inr (refl, get_or-set_same xs p x d h))
    (λ h. inl (get_or_past (set xs p x) p d (rw (length-set xs p x) h) ∙ sym (get_or_past xs p d h)))
    (cases_lt p (length xs))))
    (λ ne. inl (get_or-set_other xs p q x d ne))
    (cases_eq q p)

pub read_written : {A : Type 0} (d : A) (b c : Bool) (xs : List A) (p q : ℕ) (x : A) →
    (cond b (get_or (cond c (set xs p x) xs) q d) d ≡ cond b (get_or xs q d) d) ⊎ ((q ≡ p) × (cond b (get_or (cond c (set xs p x) xs) q d) d ≡ x))
read_written d false c xs p q x = inl refl
read_written d true true xs p q x = read_set d xs p q x
read_written d true false xs p q x = inl refl

pub page_with : (t : Table) (p : ℕ) (x : PageRow) (q : ℕ) → (page_at (with_page t p x) q ≡ page_at t q) ⊎ ((q ≡ p) × (page_at (with_page t p x) q ≡ x))
page_with t p x q = read_written no_page (ltb q 65) (ltb p 65) t.pages p q x

pub runner_with : (t : Table) (i : ℕ) (x : Runner) (j : ℕ) → (runner_at (with_runner t i x) j ≡ runner_at t j) ⊎ ((j ≡ i) × (runner_at (with_runner t i x) j ≡ x))
runner_with t i x j = read_written idle_runner (ltb j 8) (ltb i 8) t.runners i j x

-- A table with nothing in it.
pub bare_runner : (b : Bool) (c f i : ℕ) → runner_at (bare_table b c f) i ≡ idle_runner
bare_runner b c f i =
    cond_both (ltb i 8) (get_or (replicate 8 idle_runner) i idle_runner) idle_runner (λ x. x ≡ idle_runner)
    (λ e. get_or-replicate 8 i idle_runner idle_runner (ltb-true i 8 e))
    (λ _. refl)

pub bare_page : (b : Bool) (c f p : ℕ) → page_at (bare_table b c f) p ≡ no_page
bare_page b c f p =
    cond_both (ltb p 65) (get_or (replicate 65 no_page) p no_page) no_page (λ x. x ≡ no_page)
    (λ e. get_or-replicate 65 p no_page no_page (ltb-true p 65 e))
    (λ _. refl)
