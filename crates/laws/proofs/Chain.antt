-- Head, next and low words are written by split steps alone.
use Rattle.std.proofs.Common.{◌≡◌, ℕ, ◌-◌, Bool, true, false, eqb, ltb, List, Some, None, Option, refl}
use Rattle.std.proofs.lemmas.Bool.{both_ways, cond_both}
use Rattle.protocol.specs.declared.numbers.Operation.{Operation}
use Rattle.protocol.specs.declared.numbers.Operation.TheVariants.{Enter, Change, Remove, Look}
use Rattle.protocol.specs.declared.table.Stage.{Stage}
use Rattle.protocol.specs.declared.table.Stage.TheVariants.{Idle, Locating, WritingValue, WritingKey, Committing, Helping, Acting, PendingNew, PendingOld, PendingSwap, PendingRemove, Comparing, ComparingSwap, Reading, Answered}
use Rattle.protocol.specs.declared.table.Runner.{Runner}
use Rattle.protocol.specs.declared.table.Progress.{Progress}
use Rattle.protocol.specs.declared.table.Progress.TheVariants.{Clearing, LeftNext, LeftLow, RightNext, RightLow, Copying, CopyingValue, CopyingKey, Syncing, SyncingNew, SyncingSwap, Linking, Finishing}
use Rattle.protocol.specs.declared.table.Split.{Split}
use Rattle.protocol.specs.declared.table.Standing.{Standing}
use Rattle.protocol.specs.declared.table.Standing.TheVariants.{Whole, InCopy, InSync, InLink, Left}
use Rattle.protocol.specs.declared.table.Table.{Table}
use Rattle.protocol.specs.Layout.{word, key_at}
use Rattle.protocol.specs.Fields.{runner_at, page_at, held, held_standing}
use Rattle.protocol.specs.Search.{found, new_page, new_slot, standing_from, first_pending}
use Rattle.laws.specs.Places.{Place, Key, Value}
use Rattle.laws.specs.Targets.{writing_target, found_target, clearing_target, acting_target, syncing_target, acting_target_in, pending_target_at, pending_target_in, comparing_target_in, levelling_target, linking_target, split_target, helping_target, target_at}
use Rattle.laws.specs.Chain.{on_chain, sets_chain, HelpsSetChain, SplitsSetTheChain}

-- off the chain: a slot's word, or none

writing_off : (a : Place) → on_chain (Some a) ≡ false → (u : Standing) → on_chain (writing_target a u) ≡ false
writing_off a e Whole = e
writing_off a e InCopy = refl
writing_off a e (InSync s) = refl
writing_off a e (InLink s) = refl
writing_off a e Left = refl

found_off : (p i : ℕ) (o : Operation) → on_chain (found_target p i o) ≡ false
found_off p i Enter = refl
found_off p i Change = refl
found_off p i Remove = refl
found_off p i Look = refl

clearing_off : (q : ℕ) (f : Option ℕ) → on_chain (clearing_target q f) ≡ false
clearing_off q None = refl
clearing_off q (Some n) = refl

acting_off : (x : Runner) (p : ℕ) (f : Option ℕ) → on_chain (acting_target x p f) ≡ false
acting_off x p None = refl
acting_off x p (Some i) = found_off p i x.operation

syncing_off : (before : ℕ → ℕ → Bool) (ws : List ℕ) (s : Split) (x : Runner) (p : ℕ) (f : Option ℕ) → on_chain (syncing_target before ws s x p f) ≡ false
syncing_off before ws s x p None = clearing_off (new_page before s x.key) (new_slot before ws s x.key)
syncing_off before ws s x p (Some i) = found_off p i x.operation

acting_in_off : (before : ℕ → ℕ → Bool) (ws : List ℕ) (t : Table) (x : Runner) (p : ℕ) (u : Standing) → on_chain (acting_target_in before ws t x p u) ≡ false
acting_in_off before ws t x p Whole = acting_off x p (found ws (page_at t p).committed p x.key)
acting_in_off before ws t x p InCopy = acting_off x p (found ws (page_at t p).committed p x.key)
acting_in_off before ws t x p (InSync s) = syncing_off before ws s x p (found ws (page_at t p).committed p x.key)
acting_in_off before ws t x p (InLink s) = refl
acting_in_off before ws t x p Left = refl

pending_off : (before : ℕ → ℕ → Bool) (ws : List ℕ) (s : Split) (k : ℕ) (g : Stage) → on_chain (pending_target_at before ws s k g) ≡ false
pending_off before ws s k Idle = refl
pending_off before ws s k Locating = refl
pending_off before ws s k (WritingValue p i) = refl
pending_off before ws s k (WritingKey p i) = refl
pending_off before ws s k (Committing p i) = refl
pending_off before ws s k Helping = refl
pending_off before ws s k (Acting p) = refl
pending_off before ws s k (PendingNew p i) = refl
pending_off before ws s k (PendingOld p i n w) = refl
pending_off before ws s k (PendingSwap p i n w o) = refl
pending_off before ws s k (PendingRemove p) = clearing_off (new_page before s k) (new_slot before ws s k)
pending_off before ws s k (Comparing p o) = refl
pending_off before ws s k (ComparingSwap p n w o) = refl
pending_off before ws s k (Reading p) = refl
pending_off before ws s k (Answered a v) = refl

pending_in_off : (before : ℕ → ℕ → Bool) (ws : List ℕ) (x : Runner) (u : Standing) → on_chain (pending_target_in before ws x u) ≡ false
pending_in_off before ws x Whole = refl
pending_in_off before ws x InCopy = refl
pending_in_off before ws x (InSync s) = pending_off before ws s x.key x.stage
pending_in_off before ws x (InLink s) = pending_off before ws s x.key x.stage
pending_in_off before ws x Left = refl

comparing_off : (before : ℕ → ℕ → Bool) (k n : ℕ) (u : Standing) → on_chain (comparing_target_in before k n u) ≡ false
comparing_off before k n Whole = refl
comparing_off before k n InCopy = refl
comparing_off before k n (InSync s) = refl
comparing_off before k n (InLink s) = refl
comparing_off before k n Left = refl

levelling_off : (ws : List ℕ) (s : Split) (f : Option ℕ) → on_chain (levelling_target ws s f) ≡ false
levelling_off ws s None = refl
levelling_off ws s (Some i) = cond_both (eqb (word ws (key_at s.old i)) 0) _ _ (λ a. on_chain a ≡ false) (λ _. refl) (λ _. refl)

finishing_off : (before : ℕ → ℕ → Bool) (ws : List ℕ) (t : Table) (s : Split) (f : Option ℕ) → on_chain (linking_target before ws t s None f) ≡ false
finishing_off before ws t s (Some q) = pending_off before ws s (runner_at t q).key (runner_at t q).stage
finishing_off before ws t s None = refl

-- the split steps that write on the chain

split_on : (before : ℕ → ℕ → Bool) (ws : List ℕ) (t : Table) (s : Split) (g : Progress) → on_chain (split_target before ws t s g) ≡ true → sets_chain g ≡ true
split_on before ws t s (Clearing n) e =
    absurd (both_ways _ (cond_both (ltb n 8) (Some (Key s.left n)) (Some (Key s.right (n - 8))) (λ a. on_chain a ≡ false) (λ _. refl) (λ _. refl)) e)
split_on before ws t s LeftNext e = refl
split_on before ws t s LeftLow e = refl
split_on before ws t s RightNext e = refl
split_on before ws t s RightLow e = refl
split_on before ws t s (Copying i) e = e
split_on before ws t s (CopyingValue i k w) e = e
split_on before ws t s (CopyingKey i k) e = e
split_on before ws t s (Syncing i) e = absurd (both_ways _ (levelling_off ws s (standing_from ws s i)) e)
split_on before ws t s (SyncingNew i o) e = e
split_on before ws t s (SyncingSwap i o w) e = e
split_on before ws t s Linking e = refl
split_on before ws t s Finishing e = absurd (both_ways _ (finishing_off before ws t s (first_pending t s.old)) e)

helping_on : (before : ℕ → ℕ → Bool) (ws : List ℕ) (t : Table) (h : Option Split) → t.split ≡ h → on_chain (helping_target before ws t h) ≡ true → HelpsSetChain t Helping
helping_on before ws t (Some s) h e = record { stage = refl; split = s; underway = h; step = split_on before ws t s s.progress e }
helping_on before ws t None h e = absurd (both_ways false refl e)

-- what is off the chain is not on it
never : (t : Table) (g : Stage) {b : Bool} → b ≡ false → b ≡ true → HelpsSetChain t g
never t g {b} e f = absurd (both_ways b e f)

target_on : (before : ℕ → ℕ → Bool) (ws : List ℕ) (t : Table) (x : Runner) (g : Stage) (u : Standing) → on_chain (target_at before ws t x g u) ≡ true → HelpsSetChain t g
target_on before ws t x Idle u = never t Idle refl
target_on before ws t x Locating u = never t Locating refl
target_on before ws t x (WritingValue p i) u = never t (WritingValue p i) (writing_off (Value p i) refl u)
target_on before ws t x (WritingKey p i) u = never t (WritingKey p i) (writing_off (Key p i) refl u)
target_on before ws t x (Committing p i) u = never t (Committing p i) refl
target_on before ws t x Helping u = helping_on before ws t t.split refl
target_on before ws t x (Acting p) u = never t (Acting p) (acting_in_off before ws t x p u)
target_on before ws t x (PendingNew p i) u = never t (PendingNew p i) (pending_in_off before ws x u)
target_on before ws t x (PendingOld p i n w) u = never t (PendingOld p i n w) (pending_in_off before ws x u)
target_on before ws t x (PendingSwap p i n w o) u = never t (PendingSwap p i n w o) (pending_in_off before ws x u)
target_on before ws t x (PendingRemove p) u = never t (PendingRemove p) (pending_in_off before ws x u)
target_on before ws t x (Comparing p o) u = never t (Comparing p o) refl
target_on before ws t x (ComparingSwap p n w o) u = never t (ComparingSwap p n w o) (comparing_off before x.key n u)
target_on before ws t x (Reading p) u = never t (Reading p) refl
target_on before ws t x (Answered a v) u = never t (Answered a v) refl

pub splits_set_the_chain : SplitsSetTheChain
splits_set_the_chain before ws t x = target_on before ws t x x.stage (held_standing t (held x.stage))
