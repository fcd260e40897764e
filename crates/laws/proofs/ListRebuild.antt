-- The page list that a rebuild walks along: each page that is listed follows the one before, and none comes twice.
use Rattle.std.proofs.Common.{◌≡◌, ℕ, zero, suc, ◌+◌, ◌<◌, Bool, true, false, cond, not, ◌||◌, eqb, leb, ◌≢◌, List, None, Ok, Err, refl, ap, ◌∙◌, arith}
use Rattle.std.proofs.lemmas.Bool.{cond_both, both_ways}
use Rattle.std.proofs.lemmas.Bool.Decides.{nat_tests}
use Rattle.protocol.specs.declared.numbers.Refusal.TheVariants.{NoHead, BrokenChain}
use Rattle.protocol.specs.declared.table.PageRow.{PageRow}
use Rattle.protocol.specs.declared.table.Tally.{Tally}
use Rattle.protocol.specs.declared.table.Table.{Table}
use Rattle.protocol.specs.Layout.{word, next_at, page_count}
use Rattle.protocol.specs.Fields.{page_at}
use Rattle.protocol.specs.Make.{bare_table, made_table}
use Rattle.protocol.specs.Rebuild.{listing, chain_from, chained, with_tally}
use Rattle.laws.specs.Arrays.{WholeArrays}
use Rattle.laws.specs.Lists.{Links, listed, next}
use Rattle.laws.specs.Ranges.{Page}
use Rattle.laws.proofs.Arrays.{page_whole, bare_whole}
use Rattle.laws.proofs.Calls.{FoundSo}
use Rattle.laws.proofs.Links.{links_same}
use Rattle.laws.proofs.ListFinish.{HasLinks, link_read}
use Rattle.laws.proofs.ListHolds.{row_same}
use Rattle.laws.proofs.Tables.{bare_page}

-- The pages from f up to page p, which is next to be listed, at place m.
record Part (L : ℕ → Bool) (X : ℕ → ℕ) (f p m : ℕ) (place prev : ℕ → ℕ) : Type 0 where
  below : (q : ℕ) → L q ≡ true → place q < m
  near : (q : ℕ) → L q ≡ true → X q ≡ p → L p ≡ false → place q + 1 ≡ m
  far : (q : ℕ) → L q ≡ true → X q ≢ p → (L (X q) ≡ true) × (place (X q) ≡ place q + 1)
  precedes : (q : ℕ) → L q ≡ true → q ≢ f → (L (prev q) ≡ true) × (X (prev q) ≡ q)
  own : (q r : ℕ) → L q ≡ true → L r ≡ true → place q ≡ place r → q ≡ r
  real : (q : ℕ) → L q ≡ true → q ≢ 0
  at_first : m ≡ 0 → p ≡ f
  begins : m ≢ 0 → (L f ≡ true) × (place f ≡ 0)
  last : m ≢ 0 → L p ≡ false → (L (prev p) ≡ true) × (X (prev p) ≡ p)

-- page p listed, before page q
abbrev LMore : (ℕ → Bool) → ℕ → ℕ → Bool
LMore L p x = cond (eqb x p) true (L x)

abbrev XMore : (ℕ → ℕ) → ℕ → ℕ → ℕ → ℕ
XMore X p q x = cond (eqb x p) q (X x)

abbrev place_more : (ℕ → ℕ) → ℕ → ℕ → ℕ → ℕ
place_more place p m x = cond (eqb x p) m (place x)

abbrev prev_more : (ℕ → ℕ) → ℕ → ℕ → ℕ → ℕ
prev_more prev p q x = cond (eqb x q) p (prev x)

module _ (L : ℕ → Bool) (X : ℕ → ℕ) (f p m : ℕ) (place prev : ℕ → ℕ) (K : Part L X f p m place prev) (n : L p ≡ false) (z : p ≢ 0) where
  part_more : (q : ℕ) → q ≢ 0 → Part (LMore L p) (XMore X p q) f q (m + 1) (place_more place p m) (prev_more prev p q)
  part_more q y =
      record {
        below = λ x a. let b = K.below x in grind (arith, nat_tests);
        near = λ x a e o. let b = K.near x in let c = K.far x in grind (arith, nat_tests);
        far = λ x a e. let b = K.near x in let c = K.far x in grind (arith, nat_tests);
        precedes = λ x a e. let b = K.precedes x in let c = K.last in let d = K.at_first in grind (arith, nat_tests);
        own = λ x w a b e. let c = K.own x w in let d = K.below x in let g = K.below w in grind (arith, nat_tests);
        real = λ x a. let b = K.real x in grind (arith, nat_tests);
        at_first = λ e. absurd (omega arith);
        begins = λ _. let b = K.begins in let c = K.at_first in grind (arith, nat_tests);
        last = λ _ o. grind (arith, nat_tests);
      }

  part_end : Links (LMore L p) (XMore X p 0) f (place_more place p m) prev
  part_end =
      record {
        begins = let b = K.begins in let c = K.at_first in grind (arith, nat_tests);
        origin = let b = K.begins in let c = K.at_first in grind (arith, nat_tests);
        follows = λ x a e. let b = K.near x in let c = K.far x in grind (arith, nat_tests);
        precedes = λ x a e. let b = K.precedes x in let c = K.last in let d = K.at_first in grind (arith, nat_tests);
        own = λ x w a b e. let c = K.own x w in let d = K.below x in let g = K.below w in grind (arith, nat_tests);
        real = λ x a. let b = K.real x in grind (arith, nat_tests);
      }

-- A table that has its list, and no split.
pub record JustListed (t : Table) : Type 0 where
  pub links : HasLinks t
  pub none : t.split ≡ None

listing_read : (t : Table) (p q x : ℕ) → WholeArrays t → p < 65 → (listed (listing t p q) x ≡ LMore (listed t) p x) × (next (listing t p q) x ≡ XMore (next t) p q x)
listing_read t p q x W h = link_read t p (record { listed = true; next = q; taken = 0; committed = 0 }) x W h

-- the walk, with what is listed so far by the functions L and X
chain_lists : (ws : List ℕ) (n : ℕ) (t : Table) (p m : ℕ) (L : ℕ → Bool) (X place prev : ℕ → ℕ) → WholeArrays t → t.split ≡ None → ((x : ℕ) → listed t x ≡ L x) → ((x : ℕ) → next t x ≡ X x) →
    Part L X t.first p m place prev → Page (page_count ws) p → FoundSo JustListed (chain_from ws t p n)
unfolding chain_from
chain_lists ws zero t p m L X place prev W e l x K g = tt
chain_lists ws (suc n) t p m L X place prev W e l x K g =
    let q = word ws (next_at p) in
    let row : p < 65 = let a = g.1 in omega arith in
    let real : p ≢ 0 = λ z. let a = g.0 in absurd (omega arith) in
    let to : (y : ℕ) (r : ℕ) → (listed (listing t p r) y ≡ LMore L p y) × (next (listing t p r) y ≡ XMore X p r y) =
    λ y r. let b = listing_read t p r y W row in (b.0 ∙ ap (λ v. cond (eqb y p) true v) (l y), b.1 ∙ ap (λ v. cond (eqb y p) r v) (x y)) in
    cond_both (listed t p || not (leb q (page_count ws))) (Err BrokenChain) (cond (eqb q 0) (Ok (listing t p 0)) (chain_from ws (listing t p q) q n)) (FoundSo JustListed)
    (λ _. tt)
    (λ c.
    let off : L p ≡ false = let d = l p in grind (arith, nat_tests) in
    cond_both (eqb q 0) (Ok (listing t p 0)) (chain_from ws (listing t p q) q n) (FoundSo JustListed)
    (λ _. record {
      links = record {
        place = place_more place p m;
        prev = prev;
        links = links_same (LMore L p) (listed (listing t p 0)) (XMore X p 0) (next (listing t p 0)) t.first t.first _ _ (λ y. (to y 0).0) (λ y _. (to y 0).1) refl (part_end L X t.first p m place prev K off real);
      };
      none = e;
    })
    (λ z.
    chain_lists ws n (listing t p q) q (m + 1) (LMore L p) (XMore X p q) (place_more place p m) (prev_more prev p q) (page_whole t p _ W) e (λ y. (to y q).0) (λ y. (to y q).1)
    (part_more L X t.first p m place prev K off real q (λ k. grind (arith, nat_tests))) (grind (arith, nat_tests), grind (arith, nat_tests))))

-- nothing is listed yet
part_none : (f : ℕ) → Part (λ _. false) (λ _. 0) f f 0 (λ _. 0) (λ _. 0)
part_none f =
    record {
      below = λ q e. absurd (both_ways false refl e);
      near = λ q e. absurd (both_ways false refl e);
      far = λ q e. absurd (both_ways false refl e);
      precedes = λ q e. absurd (both_ways false refl e);
      own = λ q r e. absurd (both_ways false refl e);
      real = λ q e. absurd (both_ways false refl e);
      at_first = λ _. refl;
      begins = λ n. absurd (n refl);
      last = λ n. absurd (n refl);
    }

pub chained_lists : (ws : List ℕ) (count : ℕ) → FoundSo JustListed (chained ws count)
chained_lists ws count =
    let q = word ws 0 in
    let t = bare_table true count q in
    cond_both (eqb q 0) (Err NoHead) (cond (leb q (page_count ws)) (chain_from ws t q 64) (Err BrokenChain)) (FoundSo JustListed)
    (λ _. tt)
    (λ z. cond_both (leb q (page_count ws)) (chain_from ws t q 64) (Err BrokenChain) (FoundSo JustListed)
    (λ l.
    chain_lists ws 64 t q 0 (λ _. false) (λ _. 0) (λ _. 0) (λ _. 0) (bare_whole true count q) refl (λ x. ap (λ v. v.listed) (bare_page true count q x)) (λ x. ap (λ v. v.next) (bare_page true count q x)) (part_none q)
    (grind (arith, nat_tests), grind (arith, nat_tests)))
    (λ _. tt))

-- a page's slots change nothing of the list
pub tally_lists : (t : Table) (p : ℕ) (a : Tally) → JustListed t → JustListed (with_tally t p a)
tally_lists t p a J =
    let x : PageRow = record { listed = (page_at t p).listed; next = (page_at t p).next; taken = a.taken; committed = a.committed } in
    let H = J.links in
    record {
      links = record {
        place = H.place;
        prev = H.prev;
        links = links_same (listed t) (listed (with_tally t p a)) (next t) (next (with_tally t p a)) t.first t.first H.place H.prev (λ q. (row_same t p x refl refl q).0) (λ q _. (row_same t p x refl refl q).1) refl H.links;
      };
      none = J.none;
    }

-- the list of a new book is page 1
pub made_lists : (r : ℕ) → JustListed (made_table r)
made_lists r =
    let t = bare_table true r 1 in
    let W = bare_whole true r 1 in
    let to : (y : ℕ) → (listed (made_table r) y ≡ LMore (λ _. false) 1 y) × (next (made_table r) y ≡ XMore (λ _. 0) 1 0 y) =
    λ y.
    let b = listing_read t 1 0 y W (omega arith) in
    let c = bare_page true r 1 y in
    (b.0 ∙ ap (λ v. cond (eqb y 1) true v) (ap (λ v. v.listed) c), b.1 ∙ ap (λ v. cond (eqb y 1) 0 v) (ap (λ v. v.next) c)) in
    record {
      links = record {
        place = place_more (λ _. 0) 1 0;
        prev = λ _. 0;
        links = links_same (LMore (λ _. false) 1) (listed (made_table r)) (XMore (λ _. 0) 1 0) (next (made_table r)) 1 1 _ _ (λ y. (to y).0) (λ y _. (to y).1) refl (part_end (λ _. false) (λ _. 0) 1 1 0 (λ _. 0) (λ _. 0) (part_none 1) refl (λ z. absurd (omega arith)));
      };
      none = refl;
    }
