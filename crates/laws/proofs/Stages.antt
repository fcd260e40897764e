-- Every call keeps stage and phase in agreement, and a step finds its held page standing as its stage has it.
use Rattle.std.proofs.Common.{◌≡◌, ℕ, ◌-◌, Bool, true, false, ◌&&◌, ◌||◌, eqb, Some, None, Option, refl, ⊎_elim, arith}
use Rattle.std.proofs.lemmas.Bool.{cond_both, cases_Bool, and_parts, not-true, both_ways, eqb-true}
use Rattle.std.proofs.lemmas.Bool.Decides.{nat_tests}
use Rattle.protocol.specs.declared.numbers.Operation.{Operation}
use Rattle.protocol.specs.declared.table.Stage.{Stage}
use Rattle.protocol.specs.declared.table.Stage.TheVariants.{Idle, Locating, WritingValue, WritingKey, Committing, Helping, Acting, PendingNew, PendingOld, PendingSwap, PendingRemove, Comparing, ComparingSwap, Reading, Answered}
use Rattle.protocol.specs.declared.table.Runner.{Runner}
use Rattle.protocol.specs.declared.table.Progress.{Progress}
use Rattle.protocol.specs.declared.table.Progress.TheVariants.{Clearing, LeftNext, LeftLow, RightNext, RightLow, Copying, CopyingValue, CopyingKey, Syncing, SyncingNew, SyncingSwap, Linking, Finishing}
use Rattle.protocol.specs.declared.table.Split.{Split}
use Rattle.protocol.specs.declared.table.Table.{Table}
use Rattle.protocol.specs.Fields.{held, runner_at, with_runner, idle_runner, standing, held_standing, in_phase, phase}
use Rattle.protocol.specs.Plan.{planned}
use Rattle.protocol.specs.Make.{bare_table, made_table}
use Rattle.protocol.specs.Calls.{draws, begun_as}
use Rattle.laws.specs.Lists.{listed, WellListed}
use Rattle.laws.specs.Stages.{past_copy, unlinked, may_pend, may_compare, agrees, AllAgree, in_sync_or_link, has_left, meets, CallsKeepStages}
use Rattle.laws.proofs.Calls.{begun_keeps, collected_keeps, stepped_keeps, made_keeps, chained_keeps, rebuilt_keeps}
use Rattle.laws.proofs.StageFrame.{move_agrees}
use Rattle.laws.proofs.StageMoves.{planned_agrees}
use Rattle.laws.proofs.Tables.{runner_with, bare_runner}

-- a runner at a stage that agrees with anything

set_agrees : (t : Table) (i : ℕ) (x : Runner) → agrees t.split (listed t) x.stage ≡ true → AllAgree t → (j : ℕ) → agrees t.split (listed t) (runner_at (with_runner t i x) j).stage ≡ true
set_agrees t i x e S j = ⊎_elim (λ s. rw s (S j)) (λ s. rw s.1 e) (runner_with t i x j)

begun_agrees : (t : Table) (i : ℕ) (o : Operation) (k v : ℕ) → AllAgree t → AllAgree (begun_as t i o k v)
begun_agrees t i o k v S = cond_both (draws o) _ _ AllAgree (λ _. set_agrees t i _ refl S) (λ _. set_agrees t i _ refl S)

-- tables in which every runner is idle

abbrev AllIdle : Table → Type 0
AllIdle t = (i : ℕ) → runner_at t i ≡ idle_runner

idle_agrees : (t : Table) → AllIdle t → AllAgree t
idle_agrees t z i = rw (z i) refl

-- how a page stands of which the split says so

link_meets : (s : Split) (g : Progress) → past_copy g ≡ true → in_sync_or_link (in_phase s (phase g)) ≡ true
link_meets s (Clearing n) e = absurd (both_ways false refl e)
link_meets s LeftNext e = absurd (both_ways false refl e)
link_meets s LeftLow e = absurd (both_ways false refl e)
link_meets s RightNext e = absurd (both_ways false refl e)
link_meets s RightLow e = absurd (both_ways false refl e)
link_meets s (Copying i) e = absurd (both_ways false refl e)
link_meets s (CopyingValue i k w) e = absurd (both_ways false refl e)
link_meets s (CopyingKey i k) e = absurd (both_ways false refl e)
link_meets s (Syncing i) e = refl
link_meets s (SyncingNew i v) e = refl
link_meets s (SyncingSwap i v w) e = refl
link_meets s Linking e = refl
link_meets s Finishing e = refl

unlinked_past : (g : Progress) → unlinked g ≡ true → past_copy g ≡ true
unlinked_past (Clearing n) e = e
unlinked_past LeftNext e = e
unlinked_past LeftLow e = e
unlinked_past RightNext e = e
unlinked_past RightLow e = e
unlinked_past (Copying i) e = e
unlinked_past (CopyingValue i k w) e = e
unlinked_past (CopyingKey i k) e = e
unlinked_past (Syncing i) e = refl
unlinked_past (SyncingNew i v) e = refl
unlinked_past (SyncingSwap i v w) e = refl
unlinked_past Linking e = refl
unlinked_past Finishing e = absurd (both_ways false refl e)

split_meets : (t : Table) (s : Split) (p : ℕ) → t.split ≡ Some s → eqb s.old p ≡ true → past_copy s.progress ≡ true → listed t p ≡ true → in_sync_or_link (standing t p) ≡ true
split_meets t s p e d f l = rw l (rw e (rw d (link_meets s s.progress f)))

pending_meets : (t : Table) (p : ℕ) (o : Option Split) → t.split ≡ o → WellListed t → may_pend o p ≡ true → in_sync_or_link (standing t p) ≡ true
pending_meets t p None e G h = absurd (both_ways false refl h)
pending_meets t p (Some s) e G h =
    let a = and_parts _ _ h in
    split_meets t s p e a.0 (unlinked_past s.progress a.1) (rw (eqb-true s.old p a.0) at (G.apart s e).old)

left_meets : (t : Table) (p : ℕ) → listed t p ≡ false → has_left (standing t p) ≡ true
left_meets t p l = rw l refl

either_meets : (a b : Bool) → a ≡ true → (a || b) ≡ true
either_meets true b e = refl
either_meets false b e = absurd (both_ways false refl e)

other_meets : (a b : Bool) → b ≡ true → (a || b) ≡ true
other_meets true b e = refl
other_meets false b e = e

comparing_meets : (t : Table) (p : ℕ) (o : Option Split) → t.split ≡ o → may_compare o (listed t) p ≡ true → (in_sync_or_link (standing t p) || has_left (standing t p)) ≡ true
comparing_meets t p None e h = other_meets (in_sync_or_link (standing t p)) (has_left (standing t p)) (left_meets t p (not-true (listed t p) h))
comparing_meets t p (Some s) e h =
    ⊎_elim
    (λ l. let a : (eqb s.old p && past_copy s.progress) ≡ true = grind (arith, nat_tests) in either_meets (in_sync_or_link (standing t p)) (has_left (standing t p)) (let b = and_parts _ _ a in split_meets t s p e b.0 b.1 l))
    (λ l. other_meets (in_sync_or_link (standing t p)) (has_left (standing t p)) (left_meets t p l))
    (cases_Bool (listed t p))

stage_meets : (t : Table) (g : Stage) → WellListed t → agrees t.split (listed t) g ≡ true → meets g (held_standing t (held g)) ≡ true
stage_meets t Idle G e = refl
stage_meets t Locating G e = refl
stage_meets t (WritingValue p i) G e = refl
stage_meets t (WritingKey p i) G e = refl
stage_meets t (Committing p i) G e = refl
stage_meets t Helping G e = refl
stage_meets t (Acting p) G e = refl
stage_meets t (PendingNew p i) G e = pending_meets t p t.split refl G e
stage_meets t (PendingOld p i n w) G e = pending_meets t p t.split refl G e
stage_meets t (PendingSwap p i n w v) G e = pending_meets t p t.split refl G e
stage_meets t (PendingRemove p) G e = pending_meets t p t.split refl G e
stage_meets t (Comparing p v) G e = comparing_meets t p t.split refl e
stage_meets t (ComparingSwap p n w v) G e = comparing_meets t p t.split refl e
stage_meets t (Reading p) G e = comparing_meets t p t.split refl e
stage_meets t (Answered a v) G e = refl

pub calls_keep_stages : CallsKeepStages
calls_keep_stages =
    record {
      closed = idle_agrees (bare_table false 0 0) (bare_runner false 0 0);
      make = λ ws t r S. made_keeps AllAgree ws t r S (λ _. idle_agrees (made_table r) (bare_runner true r 1));
      rebuild = λ key before ws t r S. rebuilt_keeps AllIdle AllAgree ws (λ u p a _ z. z) idle_agrees key before t r (chained_keeps AllIdle ws (bare_runner true) (λ u p q _ z. z) r) S;
      begin = λ key t r o k v S. begun_keeps AllAgree key t r o k v S (λ m e. begun_agrees t (r - 1) m k v S);
      step = λ before ws t r O S.
          stepped_keeps AllAgree before ws t r S
          (λ e. move_agrees t (planned before ws t (r - 1) (runner_at t (r - 1))) _ O.arrays S (planned_agrees before ws t (r - 1) (O.list e) S));
      collect = λ t r S. collected_keeps AllAgree t r S (set_agrees t (r - 1) idle_runner refl S);
      standings = λ t i G S. stage_meets t (runner_at t i).stage G (S i);
    }
