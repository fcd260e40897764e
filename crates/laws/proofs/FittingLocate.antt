-- Locating moves keep the range: a slot that is taken is below 8, and the pages of a new split are pages of the book.
use Rattle.std.proofs.Common.{◌≡◌, ℕ, ◌+◌, ◌-◌, ◌<◌, ◌≤◌, Bool, eqb, ltb, leb, List, get_or, replicate, Some, None, Option, refl, ap, arith}
use Rattle.std.proofs.lemmas.Nat.{mod_below}
use Rattle.std.proofs.lemmas.List.{get_or-replicate}
use Rattle.std.proofs.lemmas.Bool.{cond_both, ltb-true}
use Rattle.protocol.specs.declared.numbers.Operation.{Operation}
use Rattle.protocol.specs.declared.numbers.Operation.TheVariants.{Enter, Change, Remove, Look}
use Rattle.protocol.specs.declared.table.Runner.{Runner}
use Rattle.protocol.specs.declared.table.Split.{Split}
use Rattle.protocol.specs.declared.table.Standing.{Standing}
use Rattle.protocol.specs.declared.table.Standing.TheVariants.{Whole, InCopy, InSync, InLink, Left}
use Rattle.protocol.specs.declared.table.Table.{Table}
use Rattle.protocol.specs.Layout.{page_count}
use Rattle.protocol.specs.Fields.{page_at, not_copied, copy_at, standing}
use Rattle.protocol.specs.Search.{found, covering}
use Rattle.protocol.specs.Locate.{free_at, free_from, round_page, new_split, into_one, into_second, into_two, live_keys, key_count, split_key, starting, takes, crowded, entering_page, entering, locating_page, locating}
use Rattle.laws.specs.Ranges.{Page}
use Rattle.laws.specs.KeptRanges.{SplitKept}
use Rattle.laws.proofs.Ranges.{Found, first_found}
use Rattle.laws.proofs.Fitting.{MoveFits}

round_page_fits : (n p i : ℕ) → i < n → Page n (round_page n p i)
round_page_fits n p i h = let m = mod_below (p - 1 + i) n (omega arith) in (omega arith, omega arith)

never_copied : (p l r k i : ℕ) → copy_at (new_split p l r k) i ≡ not_copied
never_copied p l r k i =
    cond_both (ltb i 8) (get_or (replicate 8 not_copied) i not_copied) not_copied (λ x. x ≡ not_copied)
    (λ e. get_or-replicate 8 i not_copied not_copied (ltb-true i 8 e))
    (λ _. refl)

new_split_fits : (n p l r k : ℕ) → Page n l → r ≤ n → SplitKept n (new_split p l r k)
new_split_fits n p l r k L h =
    record {
      left = L;
      right = h;
      copies = λ i ne. absurd (ne (ap (λ x. x.page) (never_copied p l r k i)));
      progress = (cond_both (eqb r 0) 8 16 (λ m. 0 < m) (λ _. omega arith) (λ _. omega arith), omega arith);
    }

into_one_fits : (t : Table) (n r p k : ℕ) (o : Option ℕ) → Found (free_at t n) n o → MoveFits n (into_one t n r p k o)
into_one_fits t n r p k None f = (tt, tt)
into_one_fits t n r p k (Some i) f = (tt, new_split_fits n p _ 0 k (round_page_fits n t.round i f.0) (omega arith))

into_second_fits : (t : Table) (n r p k i : ℕ) (o : Option ℕ) → i < n → Found (free_at t n) n o → MoveFits n (into_second t n r p k i o)
into_second_fits t n r p k i None h f = (tt, tt)
into_second_fits t n r p k i (Some j) h f =
    (tt, new_split_fits n p _ _ k (round_page_fits n t.round i h) (round_page_fits n t.round j f.0).1)

-- the free page found is one of the n
pub free_found : (t : Table) (n i : ℕ) → i ≤ n → Found (free_at t n) n (free_from t n i)
free_found t n i h = let e : i + (n - i) ≡ n = omega arith in rw e at (first_found (free_at t n) i (n - i))

into_two_fits : (t : Table) (n r p k : ℕ) (o : Option ℕ) → Found (free_at t n) n o → MoveFits n (into_two t n r p k o)
into_two_fits t n r p k None f = (tt, tt)
into_two_fits t n r p k (Some i) f = into_second_fits t n r p k i (free_from t n (i + 1)) f.0 (free_found t n (i + 1) (omega (arith, f.0)))

starting_fits : (before : ℕ → ℕ → Bool) (ws : List ℕ) (t : Table) (r p : ℕ) → MoveFits (page_count ws) (starting before ws t r p)
starting_fits before ws t r p =
    let n = page_count ws in
    let ks = live_keys ws (page_at t p).committed p in
    let f = free_found t n 0 (omega arith) in
    cond_both (leb (key_count ks) 4) (into_one t n r p (split_key before ks) (free_from t n 0)) (into_two t n r p (split_key before ks) (free_from t n 0)) (MoveFits n)
    (λ _. into_one_fits t n r p (split_key before ks) (free_from t n 0) f)
    (λ _. into_two_fits t n r p (split_key before ks) (free_from t n 0) f)

crowded_fits : (before : ℕ → ℕ → Bool) (ws : List ℕ) (t : Table) (r p : ℕ) (o : Option Split) → MoveFits (page_count ws) (crowded before ws t r p o)
crowded_fits before ws t r p (Some s) = (tt, tt)
crowded_fits before ws t r p None = starting_fits before ws t r p

entering_page_fits : (before : ℕ → ℕ → Bool) (ws : List ℕ) (t : Table) (r p : ℕ) (o : Option ℕ) → MoveFits (page_count ws) (entering_page before ws t r p o)
entering_page_fits before ws t r p (Some i) = (tt, tt)
entering_page_fits before ws t r p None =
    cond_both (ltb (page_at t p).taken 8) (takes t r p) (crowded before ws t r p t.split) (MoveFits (page_count ws))
    (λ e. (ltb-true (page_at t p).taken 8 e, tt))
    (λ _. crowded_fits before ws t r p t.split)

entering_fits : (before : ℕ → ℕ → Bool) (ws : List ℕ) (t : Table) (r k p : ℕ) (u : Standing) → MoveFits (page_count ws) (entering before ws t r k p u)
entering_fits before ws t r k p Whole = entering_page_fits before ws t r p (found ws (page_at t p).committed p k)
entering_fits before ws t r k p InCopy = (tt, tt)
entering_fits before ws t r k p (InSync s) = (tt, tt)
entering_fits before ws t r k p (InLink s) = (tt, tt)
entering_fits before ws t r k p Left = entering_page_fits before ws t r p (found ws (page_at t p).committed p k)

locating_page_fits : (before : ℕ → ℕ → Bool) (ws : List ℕ) (t : Table) (r k p : ℕ) (o : Operation) → MoveFits (page_count ws) (locating_page before ws t r k p o)
locating_page_fits before ws t r k p Enter = entering_fits before ws t r k p (standing t p)
locating_page_fits before ws t r k p Change = (tt, tt)
locating_page_fits before ws t r k p Remove = (tt, tt)
locating_page_fits before ws t r k p Look = (tt, tt)

pub locating_fits : (before : ℕ → ℕ → Bool) (ws : List ℕ) (t : Table) (r : ℕ) (x : Runner) → MoveFits (page_count ws) (locating before ws t r x)
locating_fits before ws t r x = locating_page_fits before ws t r x.key (covering before ws t x.key) x.operation
