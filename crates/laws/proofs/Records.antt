-- Every call keeps the page records sound.
use Rattle.std.proofs.Common.{◌≡◌, ℕ, ◌+◌, ◌-◌, ◌^◌, ◌<◌, ◌≤◌, Bool, true, false, ◌&&◌, eqb, ltb, leb, Some, None, Option, refl, ⊎_elim, arith}
use lib.Bits.{bit_or, or_lt}
use lib.Pow.{pow-lt, pow-sub-lt}
use Rattle.std.proofs.lemmas.Bool.{cond_both, and_parts, leb-true, ltb-true, le-leb, lt-ltb}
use Rattle.protocol.specs.declared.table.PageRow.{PageRow}
use Rattle.protocol.specs.declared.table.Split.{Split}
use Rattle.protocol.specs.declared.table.Tally.{Tally}
use Rattle.protocol.specs.declared.table.Table.{Table}
use Rattle.protocol.specs.declared.moves.Outcome.{Outcome}
use Rattle.protocol.specs.declared.moves.TableNext.{TableNext}
use Rattle.protocol.specs.declared.moves.TableNext.TheVariants as rest
use Rattle.protocol.specs.Fields.{runner_at, page_at, with_page, no_page, sound, row_taken, row_committed}
use Rattle.protocol.specs.Search.{preceding}
use Rattle.protocol.specs.Plan.{planned}
use Rattle.protocol.specs.Settle.{filled, with_next, linked, with_new_pages, table_after}
use Rattle.protocol.specs.Make.{bare_table}
use Rattle.protocol.specs.Rebuild.{with_tally, listing}
use Rattle.protocol.specs.Calls.{draws}
use Rattle.laws.specs.Records.{AllSound, CallsKeepRecords}
use Rattle.laws.proofs.Calls.{TallyFits, begun_keeps, collected_keeps, stepped_keeps, made_keeps, chained_keeps, rebuilt_keeps}
use Rattle.laws.proofs.Tables.{page_with, bare_page}

-- what a sound row is, in numbers

sound_parts : (p : PageRow) → sound p ≡ true → (p.taken ≤ 8) × (p.committed < 2 ^ p.taken)
sound_parts p e = let h = and_parts _ _ e in (leb-true p.taken 8 h.0, ltb-true p.committed (2 ^ p.taken) h.1)

sound_made : (p : PageRow) → p.taken ≤ 8 → p.committed < 2 ^ p.taken → sound p ≡ true
sound_made p few below = rw (le-leb p.taken 8 few, lt-ltb p.committed (2 ^ p.taken) below) refl

-- the rows that a step writes

taken_sound : (p : PageRow) → sound p ≡ true → sound (row_taken p) ≡ true
taken_sound p e =
    let more : PageRow = record { listed = p.listed; next = p.next; taken = p.taken + 1; committed = p.committed } in
    cond_both (sound p && ltb p.taken 8) more p (λ q. sound q ≡ true)
    (λ h.
    let s = sound_parts p e in
    let l = ltb-true p.taken 8 (and_parts _ _ h).1 in
    let g : 2 ^ p.taken < 2 ^ (p.taken + 1) = pow-lt (omega arith) in
    sound_made more (omega arith) (omega arith))
    (λ _. e)

committed_sound : (p : PageRow) (i : ℕ) → sound p ≡ true → sound (row_committed p i) ≡ true
committed_sound p i e =
    let more : PageRow = record { listed = p.listed; next = p.next; taken = p.taken; committed = bit_or p.committed (2 ^ i) } in
    cond_both (sound p && ltb i p.taken) more p (λ q. sound q ≡ true)
    (λ h.
    let s = sound_parts p e in
    let l = ltb-true i p.taken (and_parts _ _ h).1 in
    sound_made more s.0 (or_lt p.taken p.committed (2 ^ i) s.1 (pow-lt l)))
    (λ _. e)

filled_sound : (next n : ℕ) → sound (filled next n) ≡ true
filled_sound next n =
    let full : PageRow = record { listed = true; next = next; taken = n; committed = 2 ^ n - 1 } in
    cond_both (leb n 8) full (record { listed = true; next = next; taken = 0; committed = 0 }) (λ q. sound q ≡ true)
    (λ e. sound_made full (leb-true n 8 e) (pow-sub-lt n (omega arith)))
    (λ _. refl)

-- the table after a step

page_sound : (t : Table) (p : ℕ) (x : PageRow) → AllSound t → sound x ≡ true → AllSound (with_page t p x)
page_sound t p x S h q = ⊎_elim (λ e. rw e (S q)) (λ e. rw e.1 h) (page_with t p x q)

new_pages_sound : (t : Table) (s : Split) (after : ℕ) → AllSound t → AllSound (with_new_pages t s after)
new_pages_sound t s after S =
    cond_both (eqb s.right 0) (with_page t s.left (filled after s.lefts)) (with_page (with_page t s.left (filled s.right s.lefts)) s.right (filled after s.rights)) AllSound
    (λ _. page_sound t s.left (filled after s.lefts) S (filled_sound after s.lefts))
    (λ _. page_sound (with_page t s.left (filled s.right s.lefts)) s.right (filled after s.rights) (page_sound t s.left (filled s.right s.lefts) S (filled_sound s.right s.lefts)) (filled_sound after s.rights))

linked_sound : (t : Table) (l : ℕ) (o : Option ℕ) → AllSound t → AllSound (linked t l o)
linked_sound t l None S = S
linked_sound t l (Some q) S = page_sound t q (with_next (page_at t q) l) S (S q)

rest_sound : (t : Table) (m : TableNext) (o : Outcome) → AllSound t → AllSound (table_after t m o)
rest_sound t rest.Stay o S = S
rest_sound t (rest.Take p) o S = page_sound t p (row_taken (page_at t p)) S (taken_sound (page_at t p) (S p))
rest_sound t (rest.Commit p i) o S = page_sound t p (row_committed (page_at t p) i) S (committed_sound (page_at t p) i (S p))
rest_sound t (rest.Start s r) o S = S
rest_sound t (rest.Go s) o S = S
rest_sound t (rest.CopyLoaded s i k) o S = S
rest_sound t (rest.SyncLoaded s i) o S = S
rest_sound t (rest.LevelLoaded s i old) o S = S
rest_sound t (rest.Finish s) o S =
    let after = (page_at t s.old).next in
    page_sound (linked (with_new_pages t s after) s.left (preceding t s.old)) s.old no_page
    (linked_sound (with_new_pages t s after) s.left (preceding t s.old) (new_pages_sound t s after S))
    refl

-- the other calls

bare_sound : (b : Bool) (c f : ℕ) → AllSound (bare_table b c f)
bare_sound b c f p = rw (bare_page b c f p) refl

listing_sound : (t : Table) (p q : ℕ) → AllSound t → AllSound (listing t p q)
listing_sound t p q S = page_sound t p (record { listed = true; next = q; taken = 0; committed = 0 }) S refl

tally_sound : (t : Table) (p : ℕ) (a : Tally) → TallyFits 8 a → AllSound t → AllSound (with_tally t p a)
tally_sound t p a f S =
    let x : PageRow = record { listed = (page_at t p).listed; next = (page_at t p).next; taken = a.taken; committed = a.committed } in
    page_sound t p x S (sound_made x f.0 f.1)

pub calls_keep_records : CallsKeepRecords
calls_keep_records =
    record {
      closed = bare_sound false 0 0;
      make = λ ws t r S. made_keeps AllSound ws t r S (λ _. listing_sound (bare_table true r 1) 1 0 (bare_sound true r 1));
      rebuild = λ key before ws t r S. rebuilt_keeps AllSound AllSound ws tally_sound (λ u h. h) key before t r (chained_keeps AllSound ws (bare_sound true) (λ u p q _. listing_sound u p q) r) S;
      begin = λ key t r o k v S. begun_keeps AllSound key t r o k v S (λ m e. cond_both (draws m) _ _ AllSound (λ _. S) (λ _. S));
      step = λ before ws t r S. stepped_keeps AllSound before ws t r S (λ _. rest_sound _ (planned before ws t (r - 1) (runner_at t (r - 1))).rest _ S);
      collect = λ t r S. collected_keeps AllSound t r S S;
    }
