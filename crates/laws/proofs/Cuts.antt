-- Cuts inside the five calls.
use Rattle.std.proofs.Common.{◌≡◌, ℕ, zero, suc, ◌<◌, ◌≤◌, Bool, true, false, cond, not, ◌&&◌, eqb, ltb, leb, ◌⊎◌, List, [], ◌∷◌, length, take, set, Some, None, Option, refl, ap, ◌∙◌, inl, inr, ⊎_elim, zero-le, arith}
use Rattle.std.proofs.lemmas.List.{get_or-set_same, get_or-set_other, take_all, take-append-le}
use Rattle.std.proofs.lemmas.Bool.{cond_both, lt-ltb, le-leb, not-true, cases_lt, and_parts, and_from}
use Rattle.std.proofs.lemmas.Bool.Decides.{nat_tests}
use Rattle.memory.specs.Row.{row_stored}
use Rattle.memory.specs.Cut.{LeftByCut}
use Rattle.protocol.specs.declared.numbers.Refusal.{Refusal}
use Rattle.protocol.specs.declared.numbers.Refusal.TheVariants.{WrongLength, WrongCount}
use Rattle.protocol.specs.declared.table.Table.{Table}
use Rattle.protocol.specs.declared.moves.Access.{Access}
use Rattle.protocol.specs.declared.moves.Access.TheVariants.{Nothing, Load, Store, Swap}
use Rattle.protocol.specs.Layout.{word, right_length}
use Rattle.protocol.specs.Settle.{performed}
use Rattle.protocol.specs.Make.{make_stores, all_stored, made_row}
use Rattle.protocol.specs.Rebuild.{size_refusal}
use Rattle.protocol.specs.Calls.{made_unless}
use Rattle.laws.specs.Rows.{step_access, make_accesses}
use Rattle.laws.specs.Cuts.{AccessCut, CutWithin, Headless, CutInStores, FrontsOfMake, CutInCall}
use Rattle.laws.proofs.Rows.{stepped_row, length_stored}

-- one access

cut_in_one : (ws : List ℕ) (a : Access) (left : List ℕ) → AccessCut ws a left → LeftByCut ws (performed ws a) left
cut_in_one ws Nothing left c = inl c
cut_in_one ws (Load a) left c = inl c
cut_in_one ws (Store a w) left c = c
cut_in_one ws (Swap a e w) left c = c

cut_in_step : (ws : List ℕ) (a : Access) (left : List ℕ) → CutWithin ws (a ∷ []) left → LeftByCut ws (performed ws a) left
unfolding CutWithin
cut_in_step ws a left = ⊎_elim (cut_in_one ws a left) inr

-- some stores

pub cut_in_stores : CutInStores
unfolding CutWithin all_stored
cut_in_stores ws [] left c = (0, zero-le, c)
cut_in_stores ws (s ∷ ss) left (inl (inl e)) = (0, zero-le, e)
cut_in_stores ws (s ∷ ss) left (inl (inr e)) = (suc zero, omega arith, e)
cut_in_stores ws (s ∷ ss) left (inr c) =
    let r = cut_in_stores (row_stored ws s.0 s.1) ss left c in
    (suc r.0, (let h = r.1 in omega arith), r.2)

no_stores : (ws : List ℕ) → all_stored ws [] ≡ ws
unfolding all_stored
no_stores ws = refl

-- the head after some stores

pub head_set : (ws : List ℕ) (w : ℕ) → 0 < length ws → word (row_stored ws 0 w) 0 ≡ w
head_set ws w h = rw (lt-ltb 0 (length ws) h) (get_or-set_same ws 0 w 0 h)

head_kept : (ws : List ℕ) (a w : ℕ) → eqb a 0 ≡ false → word (row_stored ws a w) 0 ≡ word ws 0
head_kept ws a w h =
    cond_both (ltb a (length ws)) (set ws a w) ws (λ x. word x 0 ≡ word ws 0)
    (λ _. get_or-set_other ws a 0 w 0 (λ e. grind (arith, nat_tests)))
    (λ _. refl)

-- whether none of the stores is in the head
abbrev off_head : List (ℕ × ℕ) → Bool
off_head [] = true
off_head (s ∷ ss) = not (eqb s.0 0) && off_head ss

all_off_head : (ws : List ℕ) (ss : List (ℕ × ℕ)) → off_head ss ≡ true → word (all_stored ws ss) 0 ≡ word ws 0
unfolding all_stored
all_off_head ws [] h = refl
all_off_head ws (s ∷ ss) h =
    let p = and_parts (not (eqb s.0 0)) (off_head ss) h in
    all_off_head (row_stored ws s.0 s.1) ss p.1 ∙ head_kept ws s.0 s.1 (not-true (eqb s.0 0) p.0)

take_off_head : (n : ℕ) (ss : List (ℕ × ℕ)) → off_head ss ≡ true → off_head (take n ss) ≡ true
take_off_head zero ss h = refl
take_off_head (suc n) [] h = refl
take_off_head (suc n) (s ∷ ss) h =
    let p = and_parts (not (eqb s.0 0)) (off_head ss) h in
    and_from (not (eqb s.0 0)) (off_head (take n ss)) p.0 (take_off_head n ss p.1)

length_all_stored : (ws : List ℕ) (ss : List (ℕ × ℕ)) → length (all_stored ws ss) ≡ length ws
unfolding all_stored
length_all_stored ws [] = refl
length_all_stored ws (s ∷ ss) = length_all_stored (row_stored ws s.0 s.1) ss ∙ length_stored ws s.0 s.1

headed_front : (ws : List ℕ) (ss : List (ℕ × ℕ)) → 0 < length ws → off_head ss ≡ true → word (all_stored ws ((0, 0) ∷ ss)) 0 ≡ 0
unfolding all_stored
headed_front ws ss l h = all_off_head (row_stored ws 0 0) ss h ∙ head_set ws 0 l

-- a row with head 0

right_is_long : (ws : List ℕ) → right_length ws ≡ true → 0 < length ws
right_is_long ws h = grind (arith, nat_tests)

pub headless : (ws : List ℕ) → right_length ws ≡ true → word ws 0 ≡ 0 → Headless ws
headless ws l h key before t n p q = rw (l, le-leb 1 n p, le-leb n 8 q, h) refl

headless_front : (ws : List ℕ) (ss : List (ℕ × ℕ)) → right_length ws ≡ true → off_head ss ≡ true → Headless (all_stored ws ((0, 0) ∷ ss))
headless_front ws ss l h =
    headless (all_stored ws ((0, 0) ∷ ss)) (rw (length_all_stored ws ((0, 0) ∷ ss)) l) (headed_front ws ss (right_is_long ws l) h)

-- make's stores: the head first, then page 1, then the head again

abbrev page_stores : List (ℕ × ℕ)
page_stores = (1, 0) ∷ (2, 0) ∷ (3, 0) ∷ (5, 0) ∷ (7, 0) ∷ (9, 0) ∷ (11, 0) ∷ (13, 0) ∷ (15, 0) ∷ (17, 0) ∷ []

-- the row after the first store and n more
headless_front_of_make : (ws : List ℕ) (n : ℕ) → right_length ws ≡ true → n < 11 → Headless (all_stored ws (take (suc n) make_stores))
headless_front_of_make ws n l h =
    let e : take (suc n) make_stores ≡ (0, 0) ∷ take n page_stores = ap (λ ss. (0, 0) ∷ ss) (take-append-le n page_stores ((0, 1) ∷ []) (omega arith)) in
    rw e (headless_front ws (take n page_stores) l (take_off_head n page_stores refl))

headless_fronts : (ws : List ℕ) (n : ℕ) → right_length ws ≡ true → 1 ≤ n → n ≤ 11 → Headless (all_stored ws (take n make_stores))
headless_fronts ws zero l h k = absurd (omega arith)
headless_fronts ws (suc n) l h k = headless_front_of_make ws n l (omega arith)

pub fronts_of_make : FrontsOfMake
fronts_of_make = record { none = no_stores; some = headless_fronts; all = λ ws. refl }

any_front_of_make : (ws : List ℕ) (n : ℕ) (left : List ℕ) → right_length ws ≡ true → left ≡ all_stored ws (take n make_stores) →
    LeftByCut ws (made_row ws) left ⊎ Headless left
any_front_of_make ws zero left l e = inl (inl (e ∙ no_stores ws))
any_front_of_make ws (suc n) left l e =
    ⊎_elim
    (λ h. inr (rw e (headless_front_of_make ws n l h)))
    (λ h. inl (inr (e ∙ ap (all_stored ws) (take_all (suc n) make_stores (omega arith)))))
    (cases_lt n 11)

accepted_length : (b c : Bool) → None ≡ cond b (cond c None (Some WrongCount)) (Some WrongLength) → b ≡ true
accepted_length true c e = refl
accepted_length false c e = cc

cut_in_make : (ws : List ℕ) (t : Table) (n : ℕ) (e : Option Refusal) (left : List ℕ) → e ≡ size_refusal ws n → CutWithin ws (make_accesses e) left →
    LeftByCut ws (made_unless ws t n e).0 left ⊎ Headless left
unfolding CutWithin
cut_in_make ws t n (Some e) left q c = inl (inl c)
cut_in_make ws t n None left q c =
    let f = cut_in_stores ws make_stores left c in
    any_front_of_make ws f.0 left (accepted_length (right_length ws) (leb 1 n && leb n 8) q) f.2

pub cut_in_call : CutInCall
unfolding CutWithin
cut_in_call =
    record {
      rebuild = λ before ws t n left c. c;
      begin = λ before ws t r o k v left c. c;
      collect = λ before ws t r left c. c;
      step = λ before ws t r left c. rw (stepped_row before ws t r) (cut_in_step ws (step_access before ws t r) left c);
      make = λ before ws t n left c. cut_in_make ws t n (size_refusal ws n) left refl c;
    }
