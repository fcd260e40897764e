-- What every call keeps. A property of tables is kept by a call, accepted or not, where what an accepted one makes of a table has the property too:
-- begin and collect write one runner's record, a step settles a move, make and rebuild start from a table that has nothing in it.
use Rattle.std.proofs.Common.{◌≡◌, ℕ, zero, suc, ◌+◌, ◌-◌, ◌^◌, ◌<◌, ◌≤◌, Bool, true, false, cond, not, ◌&&◌, ◌||◌, eqb, leb, List, Some, None, Ok, Err, Option, Result, refl, arith, pow_mono}
use lib.Bits.{or_lt}
use lib.Pow.{pow-lt}
use Rattle.std.proofs.lemmas.Bool.{cond_both}
use Rattle.std.proofs.lemmas.Bool.Decides.{nat_tests}
use Rattle.protocol.specs.declared.numbers.Operation.{Operation}
use Rattle.protocol.specs.declared.numbers.Refusal.{Refusal}
use Rattle.protocol.specs.declared.numbers.Refusal.TheVariants.{Closed, WrongLength, WrongCount, NoHead, BrokenChain, WrongLow, MisplacedKey, NoChangeNumber}
use Rattle.protocol.specs.declared.table.Activity.{Activity}
use Rattle.protocol.specs.declared.table.Activity.TheVariants.{Resting, Open, Waiting}
use Rattle.protocol.specs.declared.table.Tally.{Tally}
use Rattle.protocol.specs.declared.table.Table.{Table}
use Rattle.values.specs.ValueWord.{number_of}
use Rattle.protocol.specs.Layout.{word, next_at, key_at, value_at, page_count, right_length}
use Rattle.protocol.specs.Fields.{idle_runner, runner_at, with_runner, page_at, activity}
use Rattle.protocol.specs.Plan.{planned}
use Rattle.protocol.specs.Settle.{settled, outcome}
use Rattle.protocol.specs.Make.{bare_table, made_table}
use Rattle.protocol.specs.Rebuild.{size_refusal, listing, chain_from, chained, placed, tallied, slots_from, page_tally, with_tally, with_page_tally, page_surveyed, pages_from, lows_right, surveyed_list, surveyed_unless, surveyed}
use Rattle.protocol.specs.Numbers.{operation_of}
use Rattle.protocol.specs.Calls.{Said, made_unless, made, rebuilt_as, rebuilt, runner_refusal, draws, begun_as, begun_drawing, begun_for, begun_unless, begun, stepped_by, stepped_unless, stepped, collected_by, collected_unless, collected}
use Rattle.laws.specs.Ranges.{Page}

-- begin: the operation's record, where a number is left to draw if it draws one

module _ (P : Table → Type 0) (t : Table) (i k v : ℕ) (h : P t) (s : (o : Operation) → (draws o && leb 2147483647 t.last) ≡ false → P (begun_as t i o k v)) where
  abbrev LeftSo : Table × Said → Type 0
  LeftSo y = P y.0

  drawing_keeps : (o : Operation) → P (begun_drawing t i k v o).0
  drawing_keeps o = cond_both (draws o && leb 2147483647 t.last) _ _ LeftSo (λ _. h) (λ e. s o e)

  for_keeps : (key : ℕ → Bool) (o : Option Operation) → P (begun_for key t i k v o).0
  for_keeps key None = h
  for_keeps key (Some o) = cond_both (key k) _ _ LeftSo (λ _. cond_both _ _ _ LeftSo (λ _. h) (λ _. drawing_keeps o)) (λ _. h)

  begun_unless_keeps : (key : ℕ → Bool) (o : ℕ) (e : Option Refusal) → P (begun_unless key t i o k v e).0
  begun_unless_keeps key o (Some e) = h
  begun_unless_keeps key o None = cond_both _ _ _ LeftSo (λ _. for_keeps key (operation_of o)) (λ _. h)

pub begun_keeps : (P : Table → Type 0) (key : ℕ → Bool) (t : Table) (r o k v : ℕ) → P t →
    ((m : Operation) → (draws m && leb 2147483647 t.last) ≡ false → P (begun_as t (r - 1) m k v)) → P (begun key t r o k v).0
begun_keeps P key t r o k v h s = begun_unless_keeps P t (r - 1) k v h s key o (runner_refusal t r)

-- collect: an idle runner's record

module _ (P : Table → Type 0) (t : Table) (i : ℕ) (h : P t) (s : P (with_runner t i idle_runner)) where
  collected_by_keeps : (a : Activity) → P (collected_by t i a).0
  collected_by_keeps Resting = h
  collected_by_keeps Open = h
  collected_by_keeps (Waiting a v) = s

  collected_unless_keeps : (e : Option Refusal) → P (collected_unless t i e).0
  collected_unless_keeps (Some e) = h
  collected_unless_keeps None = collected_by_keeps (activity (runner_at t i).stage)

pub collected_keeps : (P : Table → Type 0) (t : Table) (r : ℕ) → P t → P (with_runner t (r - 1) idle_runner) → P (collected t r).0
collected_keeps P t r h s = collected_unless_keeps P t (r - 1) h s (runner_refusal t r)

-- step: the table that the runner's planned move leaves

abbrev pub table_stepped : (ℕ → ℕ → Bool) → List ℕ → Table → ℕ → Table
table_stepped before ws t i = settled t (planned before ws t i (runner_at t i)) (outcome ws (planned before ws t i (runner_at t i)).access)

module _ (P : Table → Type 0) (before : ℕ → ℕ → Bool) (ws : List ℕ) (t : Table) (i : ℕ) (h : P t) where
  stepped_by_keeps : (a : Activity) → P (table_stepped before ws t i) → P (stepped_by before ws t i a).1
  stepped_by_keeps Resting s = h
  stepped_by_keeps Open s = s
  stepped_by_keeps (Waiting a v) s = h

  stepped_unless_keeps : (e : Option Refusal) → (e ≡ None → P (table_stepped before ws t i)) → P (stepped_unless before ws t i e).1
  stepped_unless_keeps (Some e) s = h
  stepped_unless_keeps None s = stepped_by_keeps (activity (runner_at t i).stage) (s refl)

opened_as : (b : Bool) (o : Option Refusal) → cond b o (Some Closed) ≡ None → b ≡ true
opened_as true o e = refl
opened_as false o e = absurd (let z : ◌≡◌ {A = ℕ} 0 1 = cc in omega arith)

-- a step that is not refused at once is that of a runner of an open book
opened_if : (t : Table) (r : ℕ) → runner_refusal t r ≡ None → t.opened ≡ true
opened_if t r e = opened_as t.opened _ e

pub stepped_keeps : (P : Table → Type 0) (before : ℕ → ℕ → Bool) (ws : List ℕ) (t : Table) (r : ℕ) → P t → (t.opened ≡ true → P (table_stepped before ws t (r - 1))) → P (stepped before ws t r).1
stepped_keeps P before ws t r h s = stepped_unless_keeps P before ws t (r - 1) h (runner_refusal t r) (λ e. s (opened_if t r e))

-- make: the table of a new book, over a row of the right length

pub made_keeps : (P : Table → Type 0) (ws : List ℕ) (t : Table) (r : ℕ) → P t → (right_length ws ≡ true → P (made_table r)) → P (made ws t r).1
made_keeps P ws t r h s =
    cond_both (right_length ws) (cond (leb 1 r && leb r 8) None (Some WrongCount)) (Some WrongLength) (λ e. P (made_unless ws t r e).1)
    (λ l. cond_both (leb 1 r && leb r 8) None (Some WrongCount) (λ e. P (made_unless ws t r e).1) (λ _. s l) (λ _. h))
    (λ _. h)

-- rebuild: a table with nothing in it, then the pages that are listed, then their slots

-- what is tallied of a page's first s slots
abbrev pub TallyFits : ℕ → Tally → Type 0
TallyFits s a = (a.taken ≤ s) × (a.committed < 2 ^ a.taken)

abbrev SlotsFit : Result Tally Refusal → Type 0
SlotsFit (Ok a) = TallyFits 8 a
SlotsFit (Err e) = Unit {0}

tallied_fits : (a : Tally) (s n : ℕ) → TallyFits s a → TallyFits (s + 1) (tallied a s n)
tallied_fits a s n f =
    let m : 2 ^ a.taken ≤ 2 ^ s = pow_mono f.0 in
    let l : 2 ^ s < 2 ^ (s + 1) = pow-lt (omega arith) in
    let b = f.1 in
    (omega arith, or_lt (s + 1) a.committed (2 ^ s) (omega arith) l)

slots_fit : (key : ℕ → Bool) (before : ℕ → ℕ → Bool) (ws : List ℕ) (low high p : ℕ) (a : Tally) (s n : ℕ) → s + n ≤ 8 → TallyFits s a →
    SlotsFit (slots_from key before ws low high p a s n)
unfolding slots_from
slots_fit key before ws low high p a s zero h f = let l = f.0 in (omega arith, f.1)
slots_fit key before ws low high p a s (suc n) h f =
    let m = number_of (word ws (value_at p s)) in
    let l = f.0 in
    let next : Result Tally Refusal = cond (eqb m 0) (Err NoChangeNumber) (slots_from key before ws low high p (tallied a s m) (s + 1) n) in
    cond_both (eqb (word ws (key_at p s)) 0) (slots_from key before ws low high p a (s + 1) n) (cond (placed key before ws low high p s) next (Err MisplacedKey)) SlotsFit
    (λ _. slots_fit key before ws low high p a (s + 1) n (omega arith) (omega arith, f.1))
    (λ _. cond_both (placed key before ws low high p s) next (Err MisplacedKey) SlotsFit
    (λ _. cond_both (eqb m 0) (Err NoChangeNumber) (slots_from key before ws low high p (tallied a s m) (s + 1) n) SlotsFit
    (λ _. tt)
    (λ _. slots_fit key before ws low high p (tallied a s m) (s + 1) n (omega arith) (tallied_fits a s m f)))
    (λ _. tt))

abbrev pub FoundSo : (Table → Type 0) → Result Table Refusal → Type 0
FoundSo P (Ok t) = P t
FoundSo P (Err e) = Unit {0}

-- the list, page by page
module _ (P : Table → Type 0) (ws : List ℕ) (bare : (c f : ℕ) → P (bare_table true c f)) (list : (t : Table) (p q : ℕ) → Page (page_count ws) p → P t → P (listing t p q)) where
  chain_keeps : (n : ℕ) (t : Table) (p : ℕ) → P t → Page (page_count ws) p → FoundSo P (chain_from ws t p n)
  unfolding chain_from
  chain_keeps zero t p h l = tt
  chain_keeps (suc n) t p h l =
      let q = word ws (next_at p) in
      cond_both ((page_at t p).listed || not (leb q (page_count ws))) (Err BrokenChain) (cond (eqb q 0) (Ok (listing t p 0)) (chain_from ws (listing t p q) q n)) (FoundSo P)
      (λ _. tt)
      (λ e. cond_both (eqb q 0) (Ok (listing t p 0)) (chain_from ws (listing t p q) q n) (FoundSo P)
      (λ _. list t p 0 l h)
      (λ z. chain_keeps n (listing t p q) q (list t p q l h) (grind (arith, nat_tests), grind (arith, nat_tests))))

  pub chained_keeps : (count : ℕ) → FoundSo P (chained ws count)
  chained_keeps count =
      let q = word ws 0 in
      cond_both (eqb q 0) (Err NoHead) (cond (leb q (page_count ws)) (chain_from ws (bare_table true count q) q 64) (Err BrokenChain)) (FoundSo P)
      (λ _. tt)
      (λ z. cond_both (leb q (page_count ws)) (chain_from ws (bare_table true count q) q 64) (Err BrokenChain) (FoundSo P)
      (λ l. chain_keeps 64 (bare_table true count q) q (bare count q) (grind (arith, nat_tests), grind (arith, nat_tests)))
      (λ _. tt))

-- then their slots; what holds of every table that is found, and implies Q, has Q hold after a rebuild where it held before
module _ (P Q : Table → Type 0) (ws : List ℕ) (tally : (t : Table) (p : ℕ) (a : Tally) → TallyFits 8 a → P t → P (with_tally t p a)) (so : (u : Table) → P u → Q u) where
  tally_keeps : (t : Table) (p : ℕ) (a : Result Tally Refusal) → P t → SlotsFit a → FoundSo P (with_page_tally t p a)
  tally_keeps t p (Ok a) h f = tally t p a f h
  tally_keeps t p (Err e) h f = tt

  pages_keep : (key : ℕ → Bool) (before : ℕ → ℕ → Bool) (n : ℕ) (r : Result Table Refusal) (p : ℕ) → FoundSo P r → FoundSo P (pages_from key before ws n r p)
  unfolding pages_from
  pages_keep key before zero r p h = h
  pages_keep key before (suc n) (Err e) p h = tt
  pages_keep key before (suc n) (Ok t) p h =
      cond_both (eqb p 0) (Ok t) (pages_from key before ws n (page_surveyed key before ws t p) (page_at t p).next) (FoundSo P)
      (λ _. h)
      (λ _. pages_keep key before n (page_surveyed key before ws t p) (page_at t p).next
      (tally_keeps t p (page_tally key before ws t p) h (slots_fit key before ws _ _ p _ 0 8 (omega arith) (omega arith, omega arith))))

  list_keeps : (key : ℕ → Bool) (before : ℕ → ℕ → Bool) (r : Result Table Refusal) → FoundSo P r → FoundSo P (surveyed_list key before ws r)
  list_keeps key before (Err e) h = tt
  list_keeps key before (Ok t) h =
      cond_both (lows_right key before ws t) (pages_from key before ws 64 (Ok t) t.first) (Err WrongLow) (FoundSo P)
      (λ _. pages_keep key before 64 (Ok t) t.first h)
      (λ _. tt)

  surveyed_keeps : (key : ℕ → Bool) (before : ℕ → ℕ → Bool) (r : ℕ) (e : Option Refusal) → FoundSo P (chained ws r) → FoundSo P (surveyed_unless key before ws r e)
  surveyed_keeps key before r (Some e) h = tt
  surveyed_keeps key before r None h = list_keeps key before (chained ws r) h

  rebuilt_as_keeps : (t : Table) (r : Result Table Refusal) → Q t → FoundSo P r → Q (rebuilt_as t r).0
  rebuilt_as_keeps t (Ok u) h f = so u f
  rebuilt_as_keeps t (Err e) h f = h

  pub rebuilt_keeps : (key : ℕ → Bool) (before : ℕ → ℕ → Bool) (t : Table) (r : ℕ) → FoundSo P (chained ws r) → Q t → Q (rebuilt key before ws t r).0
  rebuilt_keeps key before t r c h = rebuilt_as_keeps t (surveyed key before ws r) h (surveyed_keeps key before r (size_refusal ws r) c)
