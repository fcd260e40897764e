-- The access of each step writes the step's word: arm by arm, from the lowest definitions up.
use Rattle.std.proofs.Common.{◌≡◌, ℕ, ◌+◌, ◌-◌, Bool, true, false, cond, eqb, ltb, leb, List, Some, None, Option, refl}
use Rattle.std.proofs.lemmas.Bool.{cond_both}
use Rattle.protocol.specs.declared.numbers.Operation.{Operation}
use Rattle.protocol.specs.declared.numbers.Operation.TheVariants.{Enter, Change, Remove, Look}
use Rattle.protocol.specs.declared.numbers.Answer.{Answer}
use Rattle.protocol.specs.declared.numbers.Answer.TheVariants.{NotThere}
use Rattle.protocol.specs.declared.numbers.Refusal.{Refusal}
use Rattle.protocol.specs.declared.table.Stage.{Stage}
use Rattle.protocol.specs.declared.table.Stage.TheVariants.{Idle, Locating, WritingValue, WritingKey, Committing, Helping, Acting, PendingNew, PendingOld, PendingSwap, PendingRemove, Comparing, ComparingSwap, Reading, Answered}
use Rattle.protocol.specs.declared.table.Activity.{Activity}
use Rattle.protocol.specs.declared.table.Activity.TheVariants.{Resting, Open, Waiting}
use Rattle.protocol.specs.declared.table.Runner.{Runner}
use Rattle.protocol.specs.declared.table.Progress.{Progress}
use Rattle.protocol.specs.declared.table.Progress.TheVariants.{Clearing, LeftNext, LeftLow, RightNext, RightLow, Copying, CopyingValue, CopyingKey, Syncing, SyncingNew, SyncingSwap, Linking, Finishing}
use Rattle.protocol.specs.declared.table.Split.{Split}
use Rattle.protocol.specs.declared.table.Standing.{Standing}
use Rattle.protocol.specs.declared.table.Standing.TheVariants.{Whole, InCopy, InSync, InLink, Left}
use Rattle.protocol.specs.declared.table.Table.{Table}
use Rattle.protocol.specs.declared.moves.Move.{Move}
use Rattle.protocol.specs.Layout.{word, key_at, page_count}
use Rattle.protocol.specs.Fields.{runner_at, page_at, held, standing, held_standing, activity}
use Rattle.protocol.specs.Search.{found, covering, new_page, new_slot, live_from, standing_from, first_pending, preceding}
use Rattle.protocol.specs.Locate.{live_keys, key_count, split_key, free_from, into_one, into_second, into_two, starting_with, takes, crowded, entering_page, entering, locating_page, locating}
use Rattle.protocol.specs.Act.{acting_found, acting_page, syncing_found, syncing_page, clearing_slot, reading_slot, reading, linking_as, pending_new, pending_at, comparing_slot}
use Rattle.protocol.specs.Split.{stores, clearing_after, copying, syncing, link_at, linking, split_step_at}
use Rattle.protocol.specs.Plan.{helping, commits, writing, acting_in, pending_in, comparing_in, comparing_swap_in, reading_in, planned_at}
use Rattle.protocol.specs.Calls.{runner_refusal}
use Rattle.laws.specs.Places.{Place, Key, Value, place_at}
use Rattle.laws.specs.Rows.{step_access_by, step_access_unless}
use Rattle.laws.specs.Targets.{writing_target, found_target, clearing_target, acting_target, syncing_target, acting_target_in, pending_target_at, pending_target_in, comparing_target_in, levelling_target, link_place, linking_target, split_target, helping_target, target_at, step_target_by, step_target_unless, written_at, number_of_place, StepsWriteTargets}

abbrev writes : Move → Option ℕ
writes m = written_at m.access

-- locating writes none

into_one_none : (t : Table) (n r p k : ℕ) (f : Option ℕ) → writes (into_one t n r p k f) ≡ None
into_one_none t n r p k None = refl
into_one_none t n r p k (Some i) = refl

into_second_none : (t : Table) (n r p k i : ℕ) (f : Option ℕ) → writes (into_second t n r p k i f) ≡ None
into_second_none t n r p k i None = refl
into_second_none t n r p k i (Some j) = refl

into_two_none : (t : Table) (n r p k : ℕ) (f : Option ℕ) → writes (into_two t n r p k f) ≡ None
into_two_none t n r p k None = refl
into_two_none t n r p k (Some i) = into_second_none t n r p k i (free_from t n (i + 1))

starting_none : (before : ℕ → ℕ → Bool) (t : Table) (n r p : ℕ) (ks : List ℕ) → writes (starting_with before t n r p ks) ≡ None
starting_none before t n r p ks =
    cond_both (leb (key_count ks) 4) (into_one t n r p (split_key before ks) (free_from t n 0)) (into_two t n r p (split_key before ks) (free_from t n 0)) (λ m. writes m ≡ None)
    (λ _. into_one_none t n r p (split_key before ks) (free_from t n 0))
    (λ _. into_two_none t n r p (split_key before ks) (free_from t n 0))

crowded_none : (before : ℕ → ℕ → Bool) (ws : List ℕ) (t : Table) (r p : ℕ) (s : Option Split) → writes (crowded before ws t r p s) ≡ None
crowded_none before ws t r p (Some s) = refl
crowded_none before ws t r p None = starting_none before t (page_count ws) r p (live_keys ws (page_at t p).committed p)

entering_page_none : (before : ℕ → ℕ → Bool) (ws : List ℕ) (t : Table) (r p : ℕ) (f : Option ℕ) → writes (entering_page before ws t r p f) ≡ None
entering_page_none before ws t r p (Some s) = refl
entering_page_none before ws t r p None =
    cond_both (ltb (page_at t p).taken 8) (takes t r p) (crowded before ws t r p t.split) (λ m. writes m ≡ None)
    (λ _. refl)
    (λ _. crowded_none before ws t r p t.split)

entering_none : (before : ℕ → ℕ → Bool) (ws : List ℕ) (t : Table) (r k p : ℕ) (u : Standing) → writes (entering before ws t r k p u) ≡ None
entering_none before ws t r k p Whole = entering_page_none before ws t r p (found ws (page_at t p).committed p k)
entering_none before ws t r k p InCopy = refl
entering_none before ws t r k p (InSync s) = refl
entering_none before ws t r k p (InLink s) = refl
entering_none before ws t r k p Left = entering_page_none before ws t r p (found ws (page_at t p).committed p k)

locating_page_none : (before : ℕ → ℕ → Bool) (ws : List ℕ) (t : Table) (r k p : ℕ) (o : Operation) → writes (locating_page before ws t r k p o) ≡ None
locating_page_none before ws t r k p Enter = entering_none before ws t r k p (standing t p)
locating_page_none before ws t r k p Change = refl
locating_page_none before ws t r k p Remove = refl
locating_page_none before ws t r k p Look = refl

pub locating_none : (before : ℕ → ℕ → Bool) (ws : List ℕ) (t : Table) (r : ℕ) (x : Runner) → writes (locating before ws t r x) ≡ None
locating_none before ws t r x = locating_page_none before ws t r x.key (covering before ws t x.key) x.operation

-- acting, pending, comparing and reading

acting_found_target : (r : ℕ) (x : Runner) (p i : ℕ) (o : Operation) → writes (acting_found r x p i o) ≡ number_of_place (found_target p i o)
acting_found_target r x p i Enter = refl
acting_found_target r x p i Change = refl
acting_found_target r x p i Remove = refl
acting_found_target r x p i Look = refl

acting_page_target : (r : ℕ) (x : Runner) (p : ℕ) (f : Option ℕ) → writes (acting_page r x p f) ≡ number_of_place (acting_target x p f)
acting_page_target r x p None = refl
acting_page_target r x p (Some i) = acting_found_target r x p i x.operation

syncing_found_target : (r : ℕ) (x : Runner) (p i : ℕ) (o : Operation) → writes (syncing_found r x p i o) ≡ number_of_place (found_target p i o)
syncing_found_target r x p i Enter = refl
syncing_found_target r x p i Change = refl
syncing_found_target r x p i Remove = refl
syncing_found_target r x p i Look = refl

clearing_slot_target : (r q : ℕ) (a : Answer) (f : Option ℕ) → writes (clearing_slot r q a f) ≡ number_of_place (clearing_target q f)
clearing_slot_target r q a None = refl
clearing_slot_target r q a (Some n) = refl

syncing_page_target : (before : ℕ → ℕ → Bool) (ws : List ℕ) (s : Split) (r : ℕ) (x : Runner) (p : ℕ) (f : Option ℕ) →
    writes (syncing_page before ws s r x p f) ≡ number_of_place (syncing_target before ws s x p f)
syncing_page_target before ws s r x p None = clearing_slot_target r (new_page before s x.key) NotThere (new_slot before ws s x.key)
syncing_page_target before ws s r x p (Some i) = syncing_found_target r x p i x.operation

reading_slot_none : (r q : ℕ) (f : Option ℕ) → writes (reading_slot r q f) ≡ None
reading_slot_none r q None = refl
reading_slot_none r q (Some n) = refl

reading_none : (before : ℕ → ℕ → Bool) (ws : List ℕ) (s : Split) (r : ℕ) (x : Runner) → writes (reading before ws s r x) ≡ None
reading_none before ws s r x = reading_slot_none r (new_page before s x.key) (new_slot before ws s x.key)

linking_none : (before : ℕ → ℕ → Bool) (ws : List ℕ) (s : Split) (r : ℕ) (x : Runner) (o : Operation) → writes (linking_as before ws s r x o) ≡ None
linking_none before ws s r x Enter = refl
linking_none before ws s r x Change = refl
linking_none before ws s r x Remove = refl
linking_none before ws s r x Look = reading_none before ws s r x

pending_new_none : (r q p i : ℕ) (f : Option ℕ) → writes (pending_new r q p i f) ≡ None
pending_new_none r q p i None = refl
pending_new_none r q p i (Some n) = refl

pending_writes : (before : ℕ → ℕ → Bool) (ws : List ℕ) (s : Split) (r : ℕ) (x : Runner) (g : Stage) →
    writes (pending_at before ws s r x g) ≡ number_of_place (pending_target_at before ws s x.key g)
pending_writes before ws s r x Idle = refl
pending_writes before ws s r x Locating = refl
pending_writes before ws s r x (WritingValue p i) = refl
pending_writes before ws s r x (WritingKey p i) = refl
pending_writes before ws s r x (Committing p i) = refl
pending_writes before ws s r x Helping = refl
pending_writes before ws s r x (Acting p) = refl
pending_writes before ws s r x (PendingNew p i) = pending_new_none r (new_page before s x.key) p i (new_slot before ws s x.key)
pending_writes before ws s r x (PendingOld p i n w) = refl
pending_writes before ws s r x (PendingSwap p i n w o) = refl
pending_writes before ws s r x (PendingRemove p) = clearing_slot_target r (new_page before s x.key) _ (new_slot before ws s x.key)
pending_writes before ws s r x (Comparing p o) = refl
pending_writes before ws s r x (ComparingSwap p n w o) = refl
pending_writes before ws s r x (Reading p) = refl
pending_writes before ws s r x (Answered a v) = refl

comparing_slot_none : (r q p o : ℕ) (f : Option ℕ) → writes (comparing_slot r q p o f) ≡ None
comparing_slot_none r q p o None = refl
comparing_slot_none r q p o (Some n) = refl

-- split steps

clearing_writes : (r : ℕ) (s : Split) (n w : ℕ) (g : Progress) (b : Bool) →
    writes (stores r (cond b (key_at s.left n) (key_at s.right (n - 8))) w s g) ≡ number_of_place (cond b (Some (Key s.left n)) (Some (Key s.right (n - 8))))
clearing_writes r s n w g true = refl
clearing_writes r s n w g false = refl

copying_none : (ws : List ℕ) (r : ℕ) (s : Split) (f : Option ℕ) → writes (copying ws r s f) ≡ None
copying_none ws r s None = refl
copying_none ws r s (Some i) = refl

by_test : (b : Bool) (m n : Move) (x y : Option Place) → writes m ≡ number_of_place x → writes n ≡ number_of_place y →
    writes (cond b m n) ≡ number_of_place (cond b x y)
by_test true m n x y p q = p
by_test false m n x y p q = q

levelling_writes : (ws : List ℕ) (r : ℕ) (s : Split) (f : Option ℕ) → writes (syncing ws r s f) ≡ number_of_place (levelling_target ws s f)
levelling_writes ws r s None = refl
levelling_writes ws r s (Some i) = by_test (eqb (word ws (key_at s.old i)) 0) _ _ _ _ refl refl

link_writes : (r w : ℕ) (s : Split) (g : Progress) (f : Option ℕ) → writes (stores r (link_at f) w s g) ≡ number_of_place (Some (link_place f))
link_writes r w s g None = refl
link_writes r w s g (Some q) = refl

linking_writes : (before : ℕ → ℕ → Bool) (ws : List ℕ) (t : Table) (s : Split) (m : Move) (x : Option Place) → writes m ≡ number_of_place x → (f : Option ℕ) →
    writes (linking before ws t s m f) ≡ number_of_place (linking_target before ws t s x f)
linking_writes before ws t s m x e (Some q) = pending_writes before ws s q (runner_at t q) (runner_at t q).stage
linking_writes before ws t s m x e None = e

split_writes : (before : ℕ → ℕ → Bool) (ws : List ℕ) (t : Table) (r : ℕ) (s : Split) (g : Progress) →
    writes (split_step_at before ws t r s g) ≡ number_of_place (split_target before ws t s g)
split_writes before ws t r s (Clearing n) = clearing_writes r s n 0 (clearing_after s n) (ltb n 8)
split_writes before ws t r s LeftNext = refl
split_writes before ws t r s LeftLow = refl
split_writes before ws t r s RightNext = refl
split_writes before ws t r s RightLow = refl
split_writes before ws t r s (Copying i) = copying_none ws r s (live_from ws (page_at t s.old).committed s.old i)
split_writes before ws t r s (CopyingValue i k w) = refl
split_writes before ws t r s (CopyingKey i k) = refl
split_writes before ws t r s (Syncing i) = levelling_writes ws r s (standing_from ws s i)
split_writes before ws t r s (SyncingNew i o) = refl
split_writes before ws t r s (SyncingSwap i o w) = refl
split_writes before ws t r s Linking =
    linking_writes before ws t s _ (Some (link_place (preceding t s.old))) (link_writes r s.left s Finishing (preceding t s.old)) (first_pending t s.old)
split_writes before ws t r s Finishing = linking_writes before ws t s _ None refl (first_pending t s.old)

-- the stages

helping_writes : (before : ℕ → ℕ → Bool) (ws : List ℕ) (t : Table) (r : ℕ) (x : Runner) (s : Option Split) →
    writes (helping before ws t r x s) ≡ number_of_place (helping_target before ws t s)
helping_writes before ws t r x (Some s) = split_writes before ws t r s s.progress
helping_writes before ws t r x None = locating_none before ws t r x

writing_writes : (r : ℕ) (m : Move) (a : Place) → writes m ≡ Some (place_at a) → (u : Standing) → writes (writing r m u) ≡ number_of_place (writing_target a u)
writing_writes r m a e Whole = e
writing_writes r m a e InCopy = refl
writing_writes r m a e (InSync s) = refl
writing_writes r m a e (InLink s) = refl
writing_writes r m a e Left = refl

committing_none : (r p i : ℕ) (u : Standing) → writes (writing r (commits r p i) u) ≡ None
committing_none r p i Whole = refl
committing_none r p i InCopy = refl
committing_none r p i (InSync s) = refl
committing_none r p i (InLink s) = refl
committing_none r p i Left = refl

acting_writes : (before : ℕ → ℕ → Bool) (ws : List ℕ) (t : Table) (r : ℕ) (x : Runner) (p : ℕ) (u : Standing) →
    writes (acting_in before ws t r x p u) ≡ number_of_place (acting_target_in before ws t x p u)
acting_writes before ws t r x p Whole = acting_page_target r x p (found ws (page_at t p).committed p x.key)
acting_writes before ws t r x p InCopy = acting_page_target r x p (found ws (page_at t p).committed p x.key)
acting_writes before ws t r x p (InSync s) = syncing_page_target before ws s r x p (found ws (page_at t p).committed p x.key)
acting_writes before ws t r x p (InLink s) = linking_none before ws s r x x.operation
acting_writes before ws t r x p Left = locating_none before ws t r x

pending_in_writes : (before : ℕ → ℕ → Bool) (ws : List ℕ) (t : Table) (r : ℕ) (x : Runner) (u : Standing) →
    writes (pending_in before ws t r x u) ≡ number_of_place (pending_target_in before ws x u)
pending_in_writes before ws t r x Whole = locating_none before ws t r x
pending_in_writes before ws t r x InCopy = locating_none before ws t r x
pending_in_writes before ws t r x (InSync s) = pending_writes before ws s r x x.stage
pending_in_writes before ws t r x (InLink s) = pending_writes before ws s r x x.stage
pending_in_writes before ws t r x Left = locating_none before ws t r x

comparing_none : (before : ℕ → ℕ → Bool) (ws : List ℕ) (t : Table) (r : ℕ) (x : Runner) (p o : ℕ) (u : Standing) → writes (comparing_in before ws t r x p o u) ≡ None
comparing_none before ws t r x p o Whole = locating_none before ws t r x
comparing_none before ws t r x p o InCopy = locating_none before ws t r x
comparing_none before ws t r x p o (InSync s) = comparing_slot_none r (new_page before s x.key) p o (new_slot before ws s x.key)
comparing_none before ws t r x p o (InLink s) = reading_none before ws s r x
comparing_none before ws t r x p o Left = locating_none before ws t r x

comparing_writes : (before : ℕ → ℕ → Bool) (ws : List ℕ) (t : Table) (r : ℕ) (x : Runner) (p n w o : ℕ) (u : Standing) →
    writes (comparing_swap_in before ws t r x p n w o u) ≡ number_of_place (comparing_target_in before x.key n u)
comparing_writes before ws t r x p n w o Whole = locating_none before ws t r x
comparing_writes before ws t r x p n w o InCopy = locating_none before ws t r x
comparing_writes before ws t r x p n w o (InSync s) = refl
comparing_writes before ws t r x p n w o (InLink s) = reading_none before ws s r x
comparing_writes before ws t r x p n w o Left = locating_none before ws t r x

reading_in_none : (before : ℕ → ℕ → Bool) (ws : List ℕ) (t : Table) (r : ℕ) (x : Runner) (u : Standing) → writes (reading_in before ws t r x u) ≡ None
reading_in_none before ws t r x Whole = locating_none before ws t r x
reading_in_none before ws t r x InCopy = locating_none before ws t r x
reading_in_none before ws t r x (InSync s) = reading_none before ws s r x
reading_in_none before ws t r x (InLink s) = reading_none before ws s r x
reading_in_none before ws t r x Left = locating_none before ws t r x

planned_writes : (before : ℕ → ℕ → Bool) (ws : List ℕ) (t : Table) (r : ℕ) (x : Runner) (g : Stage) (u : Standing) →
    writes (planned_at before ws t r x g u) ≡ number_of_place (target_at before ws t x g u)
planned_writes before ws t r x Idle u = refl
planned_writes before ws t r x Locating u = locating_none before ws t r x
planned_writes before ws t r x (WritingValue p i) u = writing_writes r _ (Value p i) refl u
planned_writes before ws t r x (WritingKey p i) u = writing_writes r _ (Key p i) refl u
planned_writes before ws t r x (Committing p i) u = committing_none r p i u
planned_writes before ws t r x Helping u = helping_writes before ws t r x t.split
planned_writes before ws t r x (Acting p) u = acting_writes before ws t r x p u
planned_writes before ws t r x (PendingNew p i) u = pending_in_writes before ws t r x u
planned_writes before ws t r x (PendingOld p i n w) u = pending_in_writes before ws t r x u
planned_writes before ws t r x (PendingSwap p i n w o) u = pending_in_writes before ws t r x u
planned_writes before ws t r x (PendingRemove p) u = pending_in_writes before ws t r x u
planned_writes before ws t r x (Comparing p o) u = comparing_none before ws t r x p o u
planned_writes before ws t r x (ComparingSwap p n w o) u = comparing_writes before ws t r x p n w o u
planned_writes before ws t r x (Reading p) u = reading_in_none before ws t r x u
planned_writes before ws t r x (Answered a v) u = refl

-- the calls

step_writes_by : (before : ℕ → ℕ → Bool) (ws : List ℕ) (t : Table) (i : ℕ) (a : Activity) →
    written_at (step_access_by before ws t i a) ≡ number_of_place (step_target_by before ws t i a)
step_writes_by before ws t i Resting = refl
step_writes_by before ws t i Open = planned_writes before ws t i (runner_at t i) (runner_at t i).stage (held_standing t (held (runner_at t i).stage))
step_writes_by before ws t i (Waiting a v) = refl

step_writes_unless : (before : ℕ → ℕ → Bool) (ws : List ℕ) (t : Table) (i : ℕ) (e : Option Refusal) →
    written_at (step_access_unless before ws t i e) ≡ number_of_place (step_target_unless before ws t i e)
step_writes_unless before ws t i (Some e) = refl
step_writes_unless before ws t i None = step_writes_by before ws t i (activity (runner_at t i).stage)

pub steps_write_targets : StepsWriteTargets
steps_write_targets =
    record {
      move = λ before ws t r x. planned_writes before ws t r x x.stage (held_standing t (held x.stage));
      step = λ before ws t r. step_writes_unless before ws t (r - 1) (runner_refusal t r);
    }
