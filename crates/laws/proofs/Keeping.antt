-- Every call keeps the table's numbers in range.
use Rattle.std.proofs.Common.{◌≡◌, ℕ, ◌-◌, ◌≤◌, Bool, true, false, List, length, Some, None, Option, sym, refl, ap, ◌∙◌, arith}
use Rattle.std.proofs.lemmas.Bool.{cond_both, and_parts, leb-true, both_ways}
use Rattle.protocol.specs.declared.numbers.Operation.{Operation}
use Rattle.protocol.specs.declared.table.Stage.{Stage}
use Rattle.protocol.specs.declared.table.Stage.TheVariants.{Idle, Locating, WritingValue, WritingKey, Committing, Helping, Acting, PendingNew, PendingOld, PendingSwap, PendingRemove, Comparing, ComparingSwap, Reading, Answered}
use Rattle.protocol.specs.declared.table.Runner.{Runner}
use Rattle.protocol.specs.declared.table.Split.{Split}
use Rattle.protocol.specs.declared.table.Tally.{Tally}
use Rattle.protocol.specs.declared.table.Standing.{Standing}
use Rattle.protocol.specs.declared.table.Standing.TheVariants.{Whole, InCopy, InSync, InLink, Left}
use Rattle.protocol.specs.declared.table.Table.{Table}
use Rattle.protocol.specs.declared.moves.Move.{Move}
use Rattle.protocol.specs.Layout.{page_count, right_length}
use Rattle.protocol.specs.Fields.{idle_runner, runner_at, page_at, held, held_standing}
use Rattle.protocol.specs.Search.{found, new_page, new_slot}
use Rattle.protocol.specs.Plan.{helping, writing, acting_in, pending_in, comparing_in, comparing_swap_in, reading_in, planned_at, planned}
use Rattle.protocol.specs.Make.{bare_table, made_table}
use Rattle.protocol.specs.Rebuild.{listing, with_tally}
use Rattle.protocol.specs.Calls.{draws, begun_as}
use Rattle.laws.specs.Ranges.{Page}
use Rattle.laws.specs.KeptRanges.{SlotKept, SplitKept, RangeKept, CallsKeepRange}
use Rattle.laws.proofs.Calls.{table_stepped, begun_keeps, collected_keeps, stepped_keeps, made_keeps, chained_keeps, rebuilt_keeps}
use Rattle.laws.proofs.KeptRanges.{range_serves}
use Rattle.laws.proofs.Tables.{bare_runner, bare_page}
use Rattle.laws.proofs.Fitting.{listed_kept, page_kept, runners_kept, runner_kept, none_is_some, MoveFits, move_kept}
use Rattle.laws.proofs.FittingLocate.{locating_fits}
use Rattle.laws.proofs.FittingAct.{acting_page_fits, syncing_page_fits, reading_fits, linking_as_fits, new_slot_found, pending_fits, comparing_slot_fits}
use Rattle.laws.proofs.FittingSplit.{split_step_fits}

-- the step

helping_fits : (before : ℕ → ℕ → Bool) (ws : List ℕ) (t : Table) (r : ℕ) (x : Runner) (o : Option Split) → RangeKept (page_count ws) t →
    ((s : Split) → o ≡ Some s → SplitKept (page_count ws) s) → MoveFits (page_count ws) (helping before ws t r x o)
helping_fits before ws t r x (Some s) R h = split_step_fits before ws t (page_count ws) r s s.progress R (h s refl) (h s refl).progress
helping_fits before ws t r x None R h = locating_fits before ws t r x

writing_fits : (n r : ℕ) (m : Move) (u : Standing) → MoveFits n m → MoveFits n (writing r m u)
writing_fits n r m Whole h = h
writing_fits n r m InCopy h = (tt, tt)
writing_fits n r m (InSync s) h = (tt, tt)
writing_fits n r m (InLink s) h = (tt, tt)
writing_fits n r m Left h = (tt, tt)

module _ (before : ℕ → ℕ → Bool) (ws : List ℕ) (t : Table) (r : ℕ) (x : Runner) where
  acting_in_fits : (p : ℕ) (u : Standing) → MoveFits (page_count ws) (acting_in before ws t r x p u)
  acting_in_fits p Whole = acting_page_fits (page_count ws) r x p (found ws (page_at t p).committed p x.key)
  acting_in_fits p InCopy = acting_page_fits (page_count ws) r x p (found ws (page_at t p).committed p x.key)
  acting_in_fits p (InSync s) = syncing_page_fits before ws (page_count ws) s r x p (found ws (page_at t p).committed p x.key)
  acting_in_fits p (InLink s) = linking_as_fits before ws (page_count ws) s r x x.operation
  acting_in_fits p Left = locating_fits before ws t r x

  pending_in_fits : (u : Standing) → SlotKept x.stage → MoveFits (page_count ws) (pending_in before ws t r x u)
  pending_in_fits Whole h = locating_fits before ws t r x
  pending_in_fits InCopy h = locating_fits before ws t r x
  pending_in_fits (InSync s) h = pending_fits before ws (page_count ws) s r x x.stage h
  pending_in_fits (InLink s) h = pending_fits before ws (page_count ws) s r x x.stage h
  pending_in_fits Left h = locating_fits before ws t r x

  comparing_in_fits : (p o : ℕ) (u : Standing) → MoveFits (page_count ws) (comparing_in before ws t r x p o u)
  comparing_in_fits p o Whole = locating_fits before ws t r x
  comparing_in_fits p o InCopy = locating_fits before ws t r x
  comparing_in_fits p o (InSync s) =
      comparing_slot_fits (page_count ws) r (new_page before s x.key) p o _ (new_slot before ws s x.key) (new_slot_found before ws s x.key)
  comparing_in_fits p o (InLink s) = reading_fits before ws (page_count ws) s r x
  comparing_in_fits p o Left = locating_fits before ws t r x

  comparing_swap_in_fits : (p m w o : ℕ) (u : Standing) → MoveFits (page_count ws) (comparing_swap_in before ws t r x p m w o u)
  comparing_swap_in_fits p m w o Whole = locating_fits before ws t r x
  comparing_swap_in_fits p m w o InCopy = locating_fits before ws t r x
  comparing_swap_in_fits p m w o (InSync s) = (tt, tt)
  comparing_swap_in_fits p m w o (InLink s) = reading_fits before ws (page_count ws) s r x
  comparing_swap_in_fits p m w o Left = locating_fits before ws t r x

  reading_in_fits : (u : Standing) → MoveFits (page_count ws) (reading_in before ws t r x u)
  reading_in_fits Whole = locating_fits before ws t r x
  reading_in_fits InCopy = locating_fits before ws t r x
  reading_in_fits (InSync s) = reading_fits before ws (page_count ws) s r x
  reading_in_fits (InLink s) = reading_fits before ws (page_count ws) s r x
  reading_in_fits Left = locating_fits before ws t r x

  planned_fits : (g : Stage) (u : Standing) → RangeKept (page_count ws) t → SlotKept x.stage → SlotKept g → MoveFits (page_count ws) (planned_at before ws t r x g u)
  planned_fits Idle u R k h = (tt, tt)
  planned_fits Locating u R k h = locating_fits before ws t r x
  planned_fits (WritingValue p i) u R k h = writing_fits (page_count ws) r _ u (h, tt)
  planned_fits (WritingKey p i) u R k h = writing_fits (page_count ws) r _ u (tt, tt)
  planned_fits (Committing p i) u R k h = writing_fits (page_count ws) r _ u (tt, tt)
  planned_fits Helping u R k h = helping_fits before ws t r x t.split R R.split
  planned_fits (Acting p) u R k h = acting_in_fits p u
  planned_fits (PendingNew p i) u R k h = pending_in_fits u k
  planned_fits (PendingOld p i m w) u R k h = pending_in_fits u k
  planned_fits (PendingSwap p i m w o) u R k h = pending_in_fits u k
  planned_fits (PendingRemove p) u R k h = pending_in_fits u k
  planned_fits (Comparing p o) u R k h = comparing_in_fits p o u
  planned_fits (ComparingSwap p m w o) u R k h = comparing_swap_in_fits p m w o u
  planned_fits (Reading p) u R k h = reading_in_fits u
  planned_fits (Answered a v) u R k h = (tt, tt)

step_kept : (before : ℕ → ℕ → Bool) (ws : List ℕ) (t : Table) (i : ℕ) → RangeKept (page_count ws) t → RangeKept (page_count ws) (table_stepped before ws t i)
step_kept before ws t i R =
    move_kept (page_count ws) t (planned before ws t i (runner_at t i)) _ R
    (planned_fits before ws t i (runner_at t i) (runner_at t i).stage (held_standing t (held (runner_at t i).stage)) R (R.runners i) (R.runners i))

-- the other calls

begun_kept : (n : ℕ) (t : Table) (i : ℕ) (o : Operation) (k v : ℕ) → RangeKept n t → RangeKept n (begun_as t i o k v)
begun_kept n t i o k v R =
    cond_both (draws o) _ _ (RangeKept n)
    (λ _. record { listed = R.listed; runners = runners_kept t i _ R.runners tt; split = R.split })
    (λ _. record { listed = R.listed; runners = runners_kept t i _ R.runners tt; split = R.split })

bare_kept : (n : ℕ) (b : Bool) (c f : ℕ) → RangeKept n (bare_table b c f)
bare_kept n b c f =
    record {
      listed = λ p e. absurd (both_ways false refl (sym (ap (λ x. x.listed) (bare_page b c f p)) ∙ e));
      runners = λ i. rw (bare_runner b c f i) tt;
      split = λ s e. none_is_some e;
    }

listing_kept : (n : ℕ) (t : Table) (p q : ℕ) → Page n p → RangeKept n t → RangeKept n (listing t p q)
listing_kept n t p q h R = page_kept n t p (record { listed = true; next = q; taken = 0; committed = 0 }) R (λ _. h)

tally_kept : (n : ℕ) (t : Table) (p : ℕ) (a : Tally) → RangeKept n t → RangeKept n (with_tally t p a)
tally_kept n t p a R =
    record {
      listed = listed_kept n t p (record { listed = (page_at t p).listed; next = (page_at t p).next; taken = a.taken; committed = a.committed }) R.listed (λ e. R.listed p e);
      runners = R.runners;
      split = R.split;
    }

-- a row of the right length has pages
some_page : (ws : List ℕ) → right_length ws ≡ true → 1 ≤ page_count ws
some_page ws e = let h = and_parts _ _ (and_parts _ _ e).0 in let l = leb-true 37 (length ws) h.0 in omega arith

made_kept : (ws : List ℕ) (r : ℕ) → right_length ws ≡ true → RangeKept (page_count ws) (made_table r)
made_kept ws r h = listing_kept (page_count ws) (bare_table true r 1) 1 0 (omega arith, some_page ws h) (bare_kept (page_count ws) true r 1)

pub calls_keep_range : CallsKeepRange
calls_keep_range =
    record {
      closed = λ n. bare_kept n false 0 0;
      make = λ ws t r R. made_keeps (RangeKept (page_count ws)) ws t r R (made_kept ws r);
      rebuild = λ key before ws t r R.
          let n = page_count ws in
          rebuilt_keeps (RangeKept n) (RangeKept n) ws (λ u p a f. tally_kept n u p a) (λ u h. h) key before t r (chained_keeps (RangeKept n) ws (bare_kept n true) (listing_kept n) r) R;
      begin = λ key n t r o k v R. begun_keeps (RangeKept n) key t r o k v R (λ m e. begun_kept n t (r - 1) m k v R);
      step = λ before ws t r R. stepped_keeps (RangeKept (page_count ws)) before ws t r R (λ _. step_kept before ws t (r - 1) R);
      collect = λ n t r R. collected_keeps (RangeKept n) t r R (runner_kept n t (r - 1) idle_runner R tt);
      serves = range_serves;
    }
