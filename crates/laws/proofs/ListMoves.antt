-- The moves of every stage keep the page list well.
use Rattle.std.proofs.Common.{◌≡◌, ℕ, Bool, eqb, List, Some, None, Option, refl, inr}
use Rattle.std.proofs.lemmas.Bool.{cond_both}
use Rattle.protocol.specs.declared.numbers.Operation.{Operation}
use Rattle.protocol.specs.declared.numbers.Operation.TheVariants.{Enter, Change, Remove, Look}
use Rattle.protocol.specs.declared.numbers.Answer.{Answer}
use Rattle.protocol.specs.declared.numbers.Answer.TheVariants.{Done, NotThere}
use Rattle.protocol.specs.declared.table.Stage.{Stage}
use Rattle.protocol.specs.declared.table.Stage.TheVariants.{Idle, Locating, WritingValue, WritingKey, Committing, Helping, Acting, PendingNew, PendingOld, PendingSwap, PendingRemove, Comparing, ComparingSwap, Reading, Answered}
use Rattle.protocol.specs.declared.table.Runner.{Runner}
use Rattle.protocol.specs.declared.table.Progress.{Progress}
use Rattle.protocol.specs.declared.table.Progress.TheVariants.{Clearing, LeftNext, LeftLow, RightNext, RightLow, Copying, CopyingValue, CopyingKey, Syncing, SyncingNew, SyncingSwap, Linking, Finishing}
use Rattle.protocol.specs.declared.table.Split.{Split}
use Rattle.protocol.specs.declared.table.Standing.{Standing}
use Rattle.protocol.specs.declared.table.Standing.TheVariants.{Whole, InCopy, InSync, InLink, Left}
use Rattle.protocol.specs.declared.table.Table.{Table}
use Rattle.protocol.specs.declared.moves.Move.{Move}
use Rattle.protocol.specs.Layout.{word, key_at}
use Rattle.protocol.specs.Fields.{held, runner_at, page_at, held_standing}
use Rattle.protocol.specs.Search.{found, new_page, new_slot, live_from, standing_from, first_pending}
use Rattle.protocol.specs.Act.{acting_found, acting_page, syncing_found, syncing_page, clearing_slot, reading_slot, reading, linking_as, pending_new, pending_at, comparing_slot}
use Rattle.protocol.specs.Split.{copying, syncing_slot, syncing, linking, split_step_at}
use Rattle.protocol.specs.Plan.{helping, writing, acting_in, pending_in, comparing_in, comparing_swap_in, reading_in, planned_at, planned}
use Rattle.laws.specs.Lists.{Apart, WellListed}
use Rattle.laws.proofs.ListHolds.{MoveHolds, apart_on}
use Rattle.laws.proofs.ListStart.{locating_holds}

-- The runner's own moves: it holds page p as before, or lets go.

module _ (t : Table) (r : ℕ) where
  -- the page that runner r holds, if any
  abbrev own_page : Option ℕ
  own_page = held (runner_at t r).stage

  acting_found_holds : (x : Runner) (p i : ℕ) (o : Operation) → MoveHolds t (acting_found r x p i o)
  acting_found_holds x p i Enter = (tt, tt)
  acting_found_holds x p i Change = (tt, tt)
  acting_found_holds x p i Remove = (tt, tt)
  acting_found_holds x p i Look = (tt, tt)

  acting_page_holds : (x : Runner) (p : ℕ) (o : Option ℕ) → MoveHolds t (acting_page r x p o)
  acting_page_holds x p None = (tt, tt)
  acting_page_holds x p (Some i) = acting_found_holds x p i x.operation

  clearing_holds : (q : ℕ) (a : Answer) (o : Option ℕ) → MoveHolds t (clearing_slot r q a o)
  clearing_holds q a None = (tt, tt)
  clearing_holds q a (Some n) = (tt, tt)

  syncing_found_holds : (x : Runner) (p i : ℕ) (o : Operation) → Some p ≡ own_page → MoveHolds t (syncing_found r x p i o)
  syncing_found_holds x p i Enter h = (tt, tt)
  syncing_found_holds x p i Change h = (inr h, tt)
  syncing_found_holds x p i Remove h = (inr h, tt)
  syncing_found_holds x p i Look h = (inr h, tt)

  syncing_page_holds : (before : ℕ → ℕ → Bool) (ws : List ℕ) (s : Split) (x : Runner) (p : ℕ) (o : Option ℕ) → Some p ≡ own_page → MoveHolds t (syncing_page before ws s r x p o)
  syncing_page_holds before ws s x p None h = clearing_holds (new_page before s x.key) NotThere (new_slot before ws s x.key)
  syncing_page_holds before ws s x p (Some i) h = syncing_found_holds x p i x.operation h

  reading_slot_holds : (q : ℕ) (o : Option ℕ) → MoveHolds t (reading_slot r q o)
  reading_slot_holds q None = (tt, tt)
  reading_slot_holds q (Some n) = (tt, tt)

  reading_holds : (before : ℕ → ℕ → Bool) (ws : List ℕ) (s : Split) (x : Runner) → MoveHolds t (reading before ws s r x)
  reading_holds before ws s x = reading_slot_holds (new_page before s x.key) (new_slot before ws s x.key)

  linking_as_holds : (before : ℕ → ℕ → Bool) (ws : List ℕ) (s : Split) (x : Runner) (o : Operation) → MoveHolds t (linking_as before ws s r x o)
  linking_as_holds before ws s x Enter = (tt, tt)
  linking_as_holds before ws s x Change = (tt, tt)
  linking_as_holds before ws s x Remove = (tt, tt)
  linking_as_holds before ws s x Look = reading_holds before ws s x

  pending_new_holds : (q p i : ℕ) (o : Option ℕ) → Some p ≡ own_page → MoveHolds t (pending_new r q p i o)
  pending_new_holds q p i None h = (tt, tt)
  pending_new_holds q p i (Some n) h = (inr h, tt)

  pending_holds : (before : ℕ → ℕ → Bool) (ws : List ℕ) (s : Split) (x : Runner) (g : Stage) → held g ≡ own_page → MoveHolds t (pending_at before ws s r x g)
  pending_holds before ws s x Idle h = (tt, tt)
  pending_holds before ws s x Locating h = (tt, tt)
  pending_holds before ws s x (WritingValue p i) h = (tt, tt)
  pending_holds before ws s x (WritingKey p i) h = (tt, tt)
  pending_holds before ws s x (Committing p i) h = (tt, tt)
  pending_holds before ws s x Helping h = (tt, tt)
  pending_holds before ws s x (Acting p) h = (tt, tt)
  pending_holds before ws s x (PendingNew p i) h = pending_new_holds (new_page before s x.key) p i (new_slot before ws s x.key) h
  pending_holds before ws s x (PendingOld p i n w) h = (inr h, tt)
  pending_holds before ws s x (PendingSwap p i n w o) h = ((tt, inr h), tt)
  pending_holds before ws s x (PendingRemove p) h = clearing_holds (new_page before s x.key) Done (new_slot before ws s x.key)
  pending_holds before ws s x (Comparing p o) h = (tt, tt)
  pending_holds before ws s x (ComparingSwap p n w o) h = (tt, tt)
  pending_holds before ws s x (Reading p) h = (tt, tt)
  pending_holds before ws s x (Answered a v) h = (tt, tt)

  comparing_slot_holds : (q p o : ℕ) (n : Option ℕ) → Some p ≡ own_page → MoveHolds t (comparing_slot r q p o n)
  comparing_slot_holds q p o None h = (tt, tt)
  comparing_slot_holds q p o (Some n) h = (inr h, tt)

  writing_holds : (m : Move) (u : Standing) → MoveHolds t m → MoveHolds t (writing r m u)
  writing_holds m Whole h = h
  writing_holds m InCopy h = (tt, tt)
  writing_holds m (InSync s) h = (tt, tt)
  writing_holds m (InLink s) h = (tt, tt)
  writing_holds m Left h = (tt, tt)

-- Split steps: the pages of the split stay what they are.

copying_holds : (ws : List ℕ) (t : Table) (r : ℕ) (s : Split) (o : Option ℕ) → Apart t s → MoveHolds t (copying ws r s o)
copying_holds ws t r s None A = (tt, apart_on t s (Syncing 0) A)
copying_holds ws t r s (Some i) A = (tt, A)

syncing_slot_holds : (ws : List ℕ) (t : Table) (r : ℕ) (s : Split) (i : ℕ) → Apart t s → MoveHolds t (syncing_slot ws r s i)
syncing_slot_holds ws t r s i A = cond_both (eqb (word ws (key_at s.old i)) 0) _ _ (MoveHolds t) (λ _. (tt, apart_on t s _ A)) (λ _. (tt, A))

syncing_holds : (ws : List ℕ) (t : Table) (r : ℕ) (s : Split) (o : Option ℕ) → Apart t s → MoveHolds t (syncing ws r s o)
syncing_holds ws t r s None A = (tt, apart_on t s Linking A)
syncing_holds ws t r s (Some i) A = syncing_slot_holds ws t r s i A

linking_holds : (before : ℕ → ℕ → Bool) (ws : List ℕ) (t : Table) (s : Split) (m : Move) (o : Option ℕ) → MoveHolds t m → MoveHolds t (linking before ws t s m o)
linking_holds before ws t s m (Some q) h = pending_holds t q before ws s (runner_at t q) (runner_at t q).stage refl
linking_holds before ws t s m None h = h

split_step_holds : (before : ℕ → ℕ → Bool) (ws : List ℕ) (t : Table) (r : ℕ) (s : Split) (g : Progress) → Apart t s → MoveHolds t (split_step_at before ws t r s g)
split_step_holds before ws t r s (Clearing n) A = (tt, apart_on t s _ A)
split_step_holds before ws t r s LeftNext A = (tt, apart_on t s _ A)
split_step_holds before ws t r s LeftLow A = (tt, apart_on t s _ A)
split_step_holds before ws t r s RightNext A = (tt, apart_on t s _ A)
split_step_holds before ws t r s RightLow A = (tt, apart_on t s _ A)
split_step_holds before ws t r s (Copying i) A = copying_holds ws t r s (live_from ws (page_at t s.old).committed s.old i) A
split_step_holds before ws t r s (CopyingValue i k w) A = (tt, apart_on t s _ A)
split_step_holds before ws t r s (CopyingKey i k) A = (tt, record { old = A.old; left = A.left; right = A.right; two = A.two })
split_step_holds before ws t r s (Syncing i) A = syncing_holds ws t r s (standing_from ws s i) A
split_step_holds before ws t r s (SyncingNew i o) A = (tt, A)
split_step_holds before ws t r s (SyncingSwap i o w) A = (tt, apart_on t s _ A)
split_step_holds before ws t r s Linking A = linking_holds before ws t s _ (first_pending t s.old) (tt, apart_on t s Finishing A)
split_step_holds before ws t r s Finishing A = linking_holds before ws t s _ (first_pending t s.old) (tt, A)

-- The step that is planned.

helping_holds : (before : ℕ → ℕ → Bool) (ws : List ℕ) (t : Table) (r : ℕ) (x : Runner) (o : Option Split) → WellListed t → ((s : Split) → o ≡ Some s → Apart t s) →
    MoveHolds t (helping before ws t r x o)
helping_holds before ws t r x (Some s) G h = split_step_holds before ws t r s s.progress (h s refl)
helping_holds before ws t r x None G h = locating_holds before ws t G r x

module _ (before : ℕ → ℕ → Bool) (ws : List ℕ) (t : Table) (r : ℕ) (x : Runner) (G : WellListed t) where
  acting_in_holds : (p : ℕ) (u : Standing) → Some p ≡ own_page t r → MoveHolds t (acting_in before ws t r x p u)
  acting_in_holds p Whole h = acting_page_holds t r x p (found ws (page_at t p).committed p x.key)
  acting_in_holds p InCopy h = acting_page_holds t r x p (found ws (page_at t p).committed p x.key)
  acting_in_holds p (InSync s) h = syncing_page_holds t r before ws s x p (found ws (page_at t p).committed p x.key) h
  acting_in_holds p (InLink s) h = linking_as_holds t r before ws s x x.operation
  acting_in_holds p Left h = locating_holds before ws t G r x

  pending_in_holds : (u : Standing) → held x.stage ≡ own_page t r → MoveHolds t (pending_in before ws t r x u)
  pending_in_holds Whole h = locating_holds before ws t G r x
  pending_in_holds InCopy h = locating_holds before ws t G r x
  pending_in_holds (InSync s) h = pending_holds t r before ws s x x.stage h
  pending_in_holds (InLink s) h = pending_holds t r before ws s x x.stage h
  pending_in_holds Left h = locating_holds before ws t G r x

  comparing_in_holds : (p o : ℕ) (u : Standing) → Some p ≡ own_page t r → MoveHolds t (comparing_in before ws t r x p o u)
  comparing_in_holds p o Whole h = locating_holds before ws t G r x
  comparing_in_holds p o InCopy h = locating_holds before ws t G r x
  comparing_in_holds p o (InSync s) h = comparing_slot_holds t r (new_page before s x.key) p o (new_slot before ws s x.key) h
  comparing_in_holds p o (InLink s) h = reading_holds t r before ws s x
  comparing_in_holds p o Left h = locating_holds before ws t G r x

  comparing_swap_in_holds : (p n w o : ℕ) (u : Standing) → Some p ≡ own_page t r → MoveHolds t (comparing_swap_in before ws t r x p n w o u)
  comparing_swap_in_holds p n w o Whole h = locating_holds before ws t G r x
  comparing_swap_in_holds p n w o InCopy h = locating_holds before ws t G r x
  comparing_swap_in_holds p n w o (InSync s) h = (inr h, tt)
  comparing_swap_in_holds p n w o (InLink s) h = reading_holds t r before ws s x
  comparing_swap_in_holds p n w o Left h = locating_holds before ws t G r x

  reading_in_holds : (u : Standing) → MoveHolds t (reading_in before ws t r x u)
  reading_in_holds Whole = locating_holds before ws t G r x
  reading_in_holds InCopy = locating_holds before ws t G r x
  reading_in_holds (InSync s) = reading_holds t r before ws s x
  reading_in_holds (InLink s) = reading_holds t r before ws s x
  reading_in_holds Left = locating_holds before ws t G r x

  planned_at_holds : (g : Stage) (u : Standing) → held x.stage ≡ own_page t r → held g ≡ own_page t r → MoveHolds t (planned_at before ws t r x g u)
  planned_at_holds Idle u k h = (tt, tt)
  planned_at_holds Locating u k h = locating_holds before ws t G r x
  planned_at_holds (WritingValue p i) u k h = writing_holds t r _ u (inr h, tt)
  planned_at_holds (WritingKey p i) u k h = writing_holds t r _ u (inr h, tt)
  planned_at_holds (Committing p i) u k h = writing_holds t r _ u (tt, tt)
  planned_at_holds Helping u k h = helping_holds before ws t r x t.split G G.apart
  planned_at_holds (Acting p) u k h = acting_in_holds p u h
  planned_at_holds (PendingNew p i) u k h = pending_in_holds u k
  planned_at_holds (PendingOld p i n w) u k h = pending_in_holds u k
  planned_at_holds (PendingSwap p i n w o) u k h = pending_in_holds u k
  planned_at_holds (PendingRemove p) u k h = pending_in_holds u k
  planned_at_holds (Comparing p o) u k h = comparing_in_holds p o u h
  planned_at_holds (ComparingSwap p n w o) u k h = comparing_swap_in_holds p n w o u h
  planned_at_holds (Reading p) u k h = reading_in_holds u
  planned_at_holds (Answered a v) u k h = (tt, tt)

pub planned_holds : (before : ℕ → ℕ → Bool) (ws : List ℕ) (t : Table) (r : ℕ) → WellListed t → MoveHolds t (planned before ws t r (runner_at t r))
planned_holds before ws t r G =
    planned_at_holds before ws t r (runner_at t r) G (runner_at t r).stage (held_standing t (held (runner_at t r).stage)) refl refl
