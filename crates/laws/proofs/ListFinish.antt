-- The page list after the last step of a split: left, or left and right, stand in the old page's place.
use Rattle.std.proofs.Common.{◌≡◌, ℕ, zero, suc, ◌+◌, ◌<◌, ◌≤◌, Bool, true, false, cond, eqb, ltb, leb, ◌≢◌, Some, None, Option, sym, refl, ap, ◌∙◌, ⊎_elim, arith}
use Rattle.std.proofs.lemmas.Bool.{cond_both, and_parts, and_from, eqb-true, eqb-false, eq-eqb, ne_eqb, both_ways, cases_eq, ltb-true}
use Rattle.std.proofs.lemmas.Bool.Decides.{nat_tests}
use Rattle.protocol.specs.declared.table.PageRow.{PageRow}
use Rattle.protocol.specs.declared.table.Split.{Split}
use Rattle.protocol.specs.declared.table.Table.{Table}
use Rattle.protocol.specs.Fields.{page_at, with_page, with_split, no_page}
use Rattle.protocol.specs.Search.{first_from, precedes, preceding}
use Rattle.protocol.specs.Settle.{filled, with_next, linked, finished}
use Rattle.laws.specs.Arrays.{WholeArrays}
use Rattle.laws.specs.Lists.{Links, listed, next, Apart}
use Rattle.laws.proofs.Arrays.{writes_are_read, page_whole, linked_whole}
use Rattle.laws.proofs.Links.{one_before, links_instead, links_after, links_same, LInstead, XInstead, f_instead, place_instead, prev_instead, LAfter, XAfter, place_after, prev_after}
use Rattle.laws.proofs.Ranges.{Found, first_found}
use Rattle.laws.proofs.Tables.{page_with}

-- what is read after a write of a row

pub page_read : (t : Table) (q : ℕ) (x : PageRow) (p : ℕ) → WholeArrays t → q < 65 → page_at (with_page t q x) p ≡ cond (eqb p q) x (page_at t p)
page_read t q x p W h =
    cond_both (eqb p q) x (page_at t p) (λ v. page_at (with_page t q x) p ≡ v)
    (λ e. rw (eqb-true p q e) (writes_are_read.page t q x W h))
    (λ e. ⊎_elim (λ s. s) (λ s. absurd (eqb-false p q e s.0)) (page_with t q x p))

-- a listed page has a row
pub listed_row : (t : Table) (p : ℕ) → listed t p ≡ true → p < 65
listed_row t p e =
    cond_both (ltb p 65) _ no_page (λ x. x.listed ≡ true → p < 65)
    (λ h _. ltb-true p 65 h)
    (λ _ z. absurd (both_ways false refl z))
    e

filled_listed : (n k : ℕ) → (filled n k).listed ≡ true
filled_listed n k = cond_both (leb k 8) _ _ (λ (x : PageRow). x.listed ≡ true) (λ _. refl) (λ _. refl)

filled_next : (n k : ℕ) → (filled n k).next ≡ n
filled_next n k = cond_both (leb k 8) _ _ (λ (x : PageRow). x.next ≡ n) (λ _. refl) (λ _. refl)

-- where nothing is found, nothing passes the test

abbrev pub Missed : (ℕ → Bool) → ℕ → ℕ → Option ℕ → Type 0
Missed f i n None = (j : ℕ) → i ≤ j → j < i + n → f j ≡ false
Missed f i n (Some k) = Unit {0}

missed_more : (f : ℕ → Bool) (i n : ℕ) (o : Option ℕ) → f i ≡ false → Missed f (i + 1) n o → Missed f i (suc n) o
missed_more f i n None e h = λ j a b. ⊎_elim (λ d. rw d e) (λ d. h j (omega arith) (omega arith)) (cases_eq j i)
missed_more f i n (Some k) e h = tt

pub first_missed : (f : ℕ → Bool) (i n : ℕ) → Missed f i n (first_from f i n)
unfolding first_from
first_missed f i zero = λ j a b. absurd (omega arith)
first_missed f i (suc n) =
    cond_both (f i) (Some i) (first_from f (i + 1) n) (Missed f i (suc n))
    (λ _. tt)
    (λ e. missed_more f i n (first_from f (i + 1) n) e (first_missed f (i + 1) n))

-- rows as the links see them

cond_next : (b : Bool) (x y : PageRow) (l : ℕ) → (cond b (with_next x l) y).next ≡ cond b l y.next
cond_next true x y l = refl
cond_next false x y l = refl

cond_row : (b : Bool) (x y : PageRow) → ((cond b x y).listed ≡ cond b x.listed y.listed) × ((cond b x y).next ≡ cond b x.next y.next)
cond_row true x y = (refl, refl)
cond_row false x y = (refl, refl)

-- listed and next of a page after a write of a row
pub link_read : (t : Table) (q : ℕ) (x : PageRow) (p : ℕ) → WholeArrays t → q < 65 →
    (listed (with_page t q x) p ≡ cond (eqb p q) x.listed (listed t p)) × (next (with_page t q x) p ≡ cond (eqb p q) x.next (next t p))
link_read t q x p W h =
    let e = page_read t q x p W h in
    let c = cond_row (eqb p q) x (page_at t p) in
    (ap (λ v. v.listed) e ∙ c.0, ap (λ v. v.next) e ∙ c.1)

-- the same once left follows the page before the old one
abbrev linked_next : Table → ℕ → Option ℕ → ℕ → ℕ
linked_next t l None p = next t p
linked_next t l (Some q) p = cond (eqb p q) l (next t p)

abbrev HasRow : Option ℕ → Type 0
HasRow None = Unit {0}
HasRow (Some q) = q < 65

linked_read : (t : Table) (l : ℕ) (o : Option ℕ) (p : ℕ) → WholeArrays t → HasRow o → (listed (linked t l o) p ≡ listed t p) × (next (linked t l o) p ≡ linked_next t l o p)
linked_read t l None p W h = (refl, refl)
linked_read t l (Some q) p W h =
    let r = link_read t q (with_next (page_at t q) l) p W h in
    (r.0 ∙ cond_both (eqb p q) (listed t q) (listed t p) (λ v. v ≡ listed t p) (λ e. rw (eqb-true p q e) refl) (λ _. refl), r.1)

module _ (t : Table) (place prev : ℕ → ℕ) (K : Links (listed t) (next t) t.first place prev) (W : WholeArrays t) (old : ℕ) (o : listed t old ≡ true) where
  -- the page before the old one, if any
  before_some : (q : ℕ) → Found (precedes t old) 65 (Some q) → (listed t q ≡ true) × (next t q ≡ old)
  before_some q f = let h = and_parts _ _ f.1 in (h.0, eqb-true (next t q) old h.1)

  -- none stands before the old page only where that is the first
  before_none : Missed (precedes t old) 1 64 None → t.first ≡ old
  before_none m =
      ⊎_elim
      (λ e. e)
      (λ ne.
      let c = K.precedes old o (λ e. ne (sym e)) in
      let r = listed_row t (prev old) c.0 in
      let z = K.real (prev old) c.0 in
      absurd (both_ways (precedes t old (prev old)) (m (prev old) (omega arith) (omega arith)) (and_from (listed t (prev old)) (eqb (next t (prev old)) old) c.0 (eq-eqb (next t (prev old)) old c.1))))
      (cases_eq t.first old)

  -- what the page before the old one is known to be
  abbrev Before : Option ℕ → Type 0
  Before None = t.first ≡ old
  Before (Some q) = (listed t q ≡ true) × (next t q ≡ old)

  before_as : (b : Option ℕ) → Found (precedes t old) 65 b → Missed (precedes t old) 1 64 b → Before b
  before_as None f m = before_none m
  before_as (Some q) f m = before_some q f

  before_row : (b : Option ℕ) → Before b → HasRow b
  before_row None h = tt
  before_row (Some q) h = listed_row t q h.0

  first_after : (b : Option ℕ) (u : Table) (l : ℕ) → u.first ≡ t.first → Before b → (linked u l b).first ≡ cond (eqb t.first old) l t.first
  first_after None u l e h = let d = eq-eqb t.first old h in rw d refl
  first_after (Some q) u l e h =
      ⊎_elim
      (λ z. let c = K.follows q h.0 (λ y. K.real old o (sym h.1 ∙ y)) in let g = K.origin in absurd (let y : place (next t q) ≡ place t.first = ap place (h.1 ∙ sym z) in omega arith))
      (λ ne. let d = ne_eqb t.first old ne in rw d e)
      (cases_eq t.first old)

  -- The next page of each, where `u` has the new pages in the list and b is the page before the old one: left alone,
  next_one : (left : ℕ) (u : Table) (b : Option ℕ) (p : ℕ) → listed t left ≡ false → Before b → next u p ≡ cond (eqb p left) (next t old) (next t p) → LInstead (listed t) old left p ≡ true →
      cond (eqb p old) 0 (linked_next u left b p) ≡ XInstead (listed t) (next t) old left p
  next_one left u None p n h e a =
      let c = K.follows p in let r = K.real old o in let g = K.origin in
      ⊎_elim (λ d. absurd (grind (arith, nat_tests))) (λ d. grind (arith, nat_tests)) (cases_eq p old)
  next_one left u (Some q) p n h e a =
      let c = one_before (listed t) (next t) t.first place prev K p q in
      let r = K.real old o in
      grind (arith, nat_tests)

  -- or left and right.
  abbrev LTwo : ℕ → ℕ → ℕ → Bool
  LTwo left right = LAfter (LInstead (listed t) old left) right

  abbrev XTwo : ℕ → ℕ → ℕ → ℕ
  XTwo left right = XAfter (XInstead (listed t) (next t) old left) left right

  next_two : (left right : ℕ) (u : Table) (b : Option ℕ) (p : ℕ) → listed t left ≡ false → listed t right ≡ false → left ≢ right → Before b →
      next u p ≡ cond (eqb p right) (next t old) (cond (eqb p left) right (next t p)) → LTwo left right p ≡ true →
      cond (eqb p old) 0 (linked_next u left b p) ≡ XTwo left right p
  next_two left right u None p n m two h e a =
      let c = K.follows p in let r = K.real old o in let g = K.origin in
      ⊎_elim (λ d. absurd (grind (arith, nat_tests))) (λ d. grind (arith, nat_tests)) (cases_eq p old)
  next_two left right u (Some q) p n m two h e a =
      let c = one_before (listed t) (next t) t.first place prev K p q in
      let r = K.real old o in
      grind (arith, nat_tests)

-- a list by some places

pub record HasLinks (t : Table) : Type 0 where
  pub place : ℕ → ℕ
  pub prev : ℕ → ℕ
  pub links : Links (listed t) (next t) t.first place prev

-- a row that is filled is listed
new_read : (t : Table) (q n k p : ℕ) → WholeArrays t → q < 65 →
    (listed (with_page t q (filled n k)) p ≡ cond (eqb p q) true (listed t p)) × (next (with_page t q (filled n k)) p ≡ cond (eqb p q) n (next t p))
new_read t q n k p W h =
    let r = link_read t q (filled n k) p W h in
    (r.0 ∙ ap (λ b. cond (eqb p q) b (listed t p)) (filled_listed n k), r.1 ∙ ap (λ x. cond (eqb p q) x (next t p)) (filled_next n k))

module _ (t : Table) (s : Split) (place prev : ℕ → ℕ) (K : Links (listed t) (next t) t.first place prev) (W : WholeArrays t) (A : Apart t s) where
  the_page_before : Before t place prev K W s.old A.old (preceding t s.old)
  the_page_before = before_as t place prev K W s.old A.old (preceding t s.old) (first_found (precedes t s.old) 1 64) (first_missed (precedes t s.old) 1 64)

  -- the table with the new pages u, once left is linked and the old page has left
  abbrev Ended : Table → Table
  Ended u = with_page (linked u s.left (preceding t s.old)) s.old no_page

  ended_read : (u : Table) (p : ℕ) → WholeArrays u →
      (listed (Ended u) p ≡ cond (eqb p s.old) false (listed u p)) × (next (Ended u) p ≡ cond (eqb p s.old) 0 (linked_next u s.left (preceding t s.old) p))
  ended_read u p V =
      let b = preceding t s.old in
      let row = before_row t place prev K W s.old A.old b the_page_before in
      let r = link_read (linked u s.left b) s.old no_page p (linked_whole u s.left b V) (listed_row t s.old A.old) in
      let l = linked_read u s.left b p V row in
      (r.0 ∙ ap (λ x. cond (eqb p s.old) false x) l.0, r.1 ∙ ap (λ x. cond (eqb p s.old) 0 x) l.1)

  ended_one : HasLinks (Ended (with_page t s.left (filled (next t s.old) s.lefts)))
  ended_one =
      let u = with_page t s.left (filled (next t s.old) s.lefts) in
      let V = page_whole t s.left (filled (next t s.old) s.lefts) W in
      let b = preceding t s.old in
      record {
        place = place_instead place s.old s.left;
        prev = prev_instead prev s.old s.left;
        links =
            links_same (LInstead (listed t) s.old s.left) (listed (Ended u)) (XInstead (listed t) (next t) s.old s.left) (next (Ended u)) (f_instead t.first s.old s.left) (Ended u).first _ _
            (λ p. (ended_read u p V).0 ∙ ap (λ x. cond (eqb p s.old) false x) (new_read t s.left (next t s.old) s.lefts p W A.left.row).0)
            (λ p a. (ended_read u p V).1 ∙ next_one t place prev K W s.old A.old s.left u b p A.left.off the_page_before (new_read t s.left (next t s.old) s.lefts p W A.left.row).1 a)
            (first_after t place prev K W s.old A.old b u s.left refl the_page_before)
            (links_instead (listed t) (next t) t.first place prev K s.old s.left A.old A.left.off A.left.real);
      }

  ended_two : s.right ≢ 0 → HasLinks (Ended (with_page (with_page t s.left (filled s.right s.lefts)) s.right (filled (next t s.old) s.rights)))
  ended_two y =
      let v = with_page t s.left (filled s.right s.lefts) in
      let u = with_page v s.right (filled (next t s.old) s.rights) in
      let V = page_whole t s.left (filled s.right s.lefts) W in
      let U = page_whole v s.right (filled (next t s.old) s.rights) V in
      let b = preceding t s.old in
      let R = A.right y in
      let lo = A.old in let ll = A.left.off in let lr = R.off in let two = A.two in
      let in_left : LInstead (listed t) s.old s.left s.left ≡ true = grind (arith, nat_tests) in
      let out_right : LInstead (listed t) s.old s.left s.right ≡ false = grind (arith, nat_tests) in
      record {
        place = place_after (place_instead place s.old s.left) s.left s.right;
        prev = prev_after (prev_instead prev s.old s.left) s.left s.right;
        links =
            links_same (LAfter (LInstead (listed t) s.old s.left) s.right) (listed (Ended u)) (XAfter (XInstead (listed t) (next t) s.old s.left) s.left s.right) (next (Ended u)) (f_instead t.first s.old s.left) (Ended u).first _ _
            (λ p.
            let e = (ended_read u p U).0 in
            let f = (new_read v s.right (next t s.old) s.rights p V R.row).0 in
            let g = (new_read t s.left s.right s.lefts p W A.left.row).0 in
            grind (arith, nat_tests))
            (λ p a.
            let f = (new_read v s.right (next t s.old) s.rights p V R.row).1 in
            let g = (new_read t s.left s.right s.lefts p W A.left.row).1 in
            (ended_read u p U).1 ∙ next_two t place prev K W s.old A.old s.left s.right u b p ll lr two the_page_before (f ∙ ap (λ x. cond (eqb p s.right) (next t s.old) x) g) a)
            (first_after t place prev K W s.old A.old b u s.left refl the_page_before)
            (links_after _ _ _ _ _ (links_instead (listed t) (next t) t.first place prev K s.old s.left A.old ll A.left.real) s.left s.right in_left out_right y);
      }

  pub finished_links : HasLinks (finished t s)
  finished_links =
      cond_both (eqb s.right 0) (with_page t s.left (filled (next t s.old) s.lefts)) (with_page (with_page t s.left (filled s.right s.lefts)) s.right (filled (next t s.old) s.rights))
      (λ u. HasLinks (with_split (Ended u) None t.round))
      (λ _. let H = ended_one in record { place = H.place; prev = H.prev; links = H.links })
      (λ e. let H = ended_two (eqb-false s.right 0 e) in record { place = H.place; prev = H.prev; links = H.links })
