-- Places of the book, from numbers in range.
use Rattle.std.proofs.Common.{◌≡◌, ℕ, zero, suc, ◌+◌, ◌-◌, ◌<◌, ◌≤◌, Bool, true, false, eqb, ltb, ◌≢◌, List, get_or, set, replicate, Some, None, Option, sym, refl, ap, ◌∙◌, ⊎_elim, arith}
use Rattle.std.proofs.lemmas.List.{get_or-set_other, get_or-replicate, get_or_past}
use Rattle.std.proofs.lemmas.Bool.{cond_both, and_parts, not-true, eqb-false, both_ways, ltb-true, cases_lt, cases_eq}
use Rattle.std.proofs.lemmas.Bool.Decides.{nat_tests}
use Rattle.protocol.specs.declared.numbers.Operation.{Operation}
use Rattle.protocol.specs.declared.numbers.Operation.TheVariants.{Enter, Change, Remove, Look}
use Rattle.protocol.specs.declared.numbers.Refusal.{Refusal}
use Rattle.protocol.specs.declared.table.Stage.{Stage}
use Rattle.protocol.specs.declared.table.Stage.TheVariants.{Idle, Locating, WritingValue, WritingKey, Committing, Helping, Acting, PendingNew, PendingOld, PendingSwap, PendingRemove, Comparing, ComparingSwap, Reading, Answered}
use Rattle.protocol.specs.declared.table.Activity.{Activity}
use Rattle.protocol.specs.declared.table.Activity.TheVariants.{Resting, Open, Waiting}
use Rattle.protocol.specs.declared.table.Phase.{Phase}
use Rattle.protocol.specs.declared.table.Phase.TheVariants.{Copy, Sync, Link}
use Rattle.protocol.specs.declared.table.Runner.{Runner}
use Rattle.protocol.specs.declared.table.Progress.{Progress}
use Rattle.protocol.specs.declared.table.Progress.TheVariants.{Clearing, LeftNext, LeftLow, RightNext, RightLow, Copying, CopyingValue, CopyingKey, Syncing, SyncingNew, SyncingSwap, Linking, Finishing}
use Rattle.protocol.specs.declared.table.PageRow.{PageRow}
use Rattle.protocol.specs.declared.table.Split.{Split}
use Rattle.protocol.specs.declared.table.Standing.{Standing}
use Rattle.protocol.specs.declared.table.Standing.TheVariants.{Whole, InCopy, InSync, InLink, Left}
use Rattle.protocol.specs.declared.table.Table.{Table}
use Rattle.protocol.specs.Layout.{word, key_at}
use Rattle.protocol.specs.Fields.{idle_runner, no_page, runner_at, page_at, copy_at, held, phase, in_phase, standing_in, standing, held_standing, activity}
use Rattle.protocol.specs.Search.{first_from, holds, on_right, new_page, new_slot, stands, first_pending, precedes, preceding}
use Rattle.protocol.specs.Split.{new_count}
use Rattle.protocol.specs.Make.{made_table}
use Rattle.protocol.specs.Calls.{runner_refusal, stepped}
use Rattle.laws.specs.Places.{Place, Key, Value, place_at, Within}
use Rattle.laws.specs.Targets.{writing_target, found_target, clearing_target, acting_target, syncing_target, acting_target_in, pending_target_at, pending_target_in, comparing_target_in, levelling_target, link_place, linking_target, split_target, helping_target, target_at, step_target_by, step_target_unless, step_target}
use Rattle.laws.specs.Chain.{on_chain, HelpsSetChain}
use Rattle.laws.specs.Ranges.{Page, SlotFits, ProgressFits, SplitFits, InRange, Fits, StepsInRange}
use Rattle.laws.proofs.Chain.{splits_set_the_chain}
use Rattle.laws.proofs.Kept.{steps_keep_the_rest}

-- what a search finds passes the test and is one of its numbers

abbrev pub Found : (ℕ → Bool) → ℕ → Option ℕ → Type 0
Found f m None = Unit {0}
Found f m (Some i) = (i < m) × (f i ≡ true)

pub first_found : (f : ℕ → Bool) (i n : ℕ) → Found f (i + n) (first_from f i n)
unfolding first_from
first_found f i zero = tt
first_found f i (suc n) =
    cond_both (f i) (Some i) (first_from f (i + 1) n) (Found f (i + suc n))
    (λ e. (omega arith, e))
    (λ _. let h : i + 1 + n ≡ i + suc n = omega arith in rw h at (first_found f (i + 1) n))

-- standings

abbrev StandingFits : ℕ → ℕ → Standing → Type 0
StandingFits n p Whole = Page n p
StandingFits n p InCopy = Page n p
StandingFits n p (InSync s) = Page n p × SplitFits n s
StandingFits n p (InLink s) = Page n p × SplitFits n s
StandingFits n p Left = Unit {0}

in_phase_fits : (n p : ℕ) (s : Split) (f : Phase) → Page n p → SplitFits n s → StandingFits n p (in_phase s f)
in_phase_fits n p s Copy h k = h
in_phase_fits n p s Sync h k = (h, k)
in_phase_fits n p s Link h k = (h, k)

standing_in_fits : (n p : ℕ) (o : Option Split) → Page n p → ((s : Split) → o ≡ Some s → SplitFits n s) → StandingFits n p (standing_in o p)
standing_in_fits n p None h k = h
standing_in_fits n p (Some s) h k =
    cond_both (eqb s.old p) (in_phase s (phase s.progress)) Whole (StandingFits n p)
    (λ _. in_phase_fits n p s (phase s.progress) h (k s refl))
    (λ _. h)

standing_fits : (n : ℕ) (t : Table) (p : ℕ) → InRange n t → StandingFits n p (standing t p)
standing_fits n t p R =
    cond_both (page_at t p).listed (standing_in t.split p) Left (StandingFits n p)
    (λ e. standing_in_fits n p t.split (R.listed p e) R.split)
    (λ _. tt)

-- and of the page that a runner holds, if any
abbrev HeldFits : ℕ → Option ℕ → Standing → Type 0
HeldFits n None u = Unit {0}
HeldFits n (Some p) u = StandingFits n p u

held_fits : (n : ℕ) (t : Table) (h : Option ℕ) → InRange n t → HeldFits n h (held_standing t h)
held_fits n t None R = tt
held_fits n t (Some p) R = standing_fits n t p R

-- the new page of a key

pub new_page_fits : (before : ℕ → ℕ → Bool) (n : ℕ) (s : Split) (k : ℕ) → SplitFits n s → Page n (new_page before s k)
new_page_fits before n s k F =
    cond_both (on_right before s k) s.right s.left (Page n)
    (λ e. let z = eqb-false s.right 0 (not-true (eqb s.right 0) (and_parts _ _ e).0) in (omega arith, F.right))
    (λ _. F.left)

clearing_fits : (n q : ℕ) (f : ℕ → Bool) (o : Option ℕ) → Page n q → Found f 8 o → Fits n (clearing_target q o)
clearing_fits n q f None h g = tt
clearing_fits n q f (Some i) h g = (h.0, h.1, g.0)

new_key_fits : (before : ℕ → ℕ → Bool) (ws : List ℕ) (n : ℕ) (s : Split) (k : ℕ) → SplitFits n s → Fits n (clearing_target (new_page before s k) (new_slot before ws s k))
new_key_fits before ws n s k F =
    clearing_fits n (new_page before s k) (holds ws 255 (new_page before s k) k) (new_slot before ws s k) (new_page_fits before n s k F) (first_found (holds ws 255 (new_page before s k) k) 0 8)

-- the stages' own words

writing_fits : (n p : ℕ) (a : Place) (u : Standing) → (Page n p → Within n a) → StandingFits n p u → Fits n (writing_target a u)
writing_fits n p a Whole h f = h f
writing_fits n p a InCopy h f = tt
writing_fits n p a (InSync s) h f = tt
writing_fits n p a (InLink s) h f = tt
writing_fits n p a Left h f = tt

found_fits : (n p i : ℕ) (o : Operation) → Page n p → i < 8 → Fits n (found_target p i o)
found_fits n p i Enter h k = tt
found_fits n p i Change h k = (h.0, h.1, k)
found_fits n p i Remove h k = (h.0, h.1, k)
found_fits n p i Look h k = tt

acting_fits : (n : ℕ) (x : Runner) (p : ℕ) (f : ℕ → Bool) (o : Option ℕ) → Page n p → Found f 8 o → Fits n (acting_target x p o)
acting_fits n x p f None h g = tt
acting_fits n x p f (Some i) h g = found_fits n p i x.operation h g.0

syncing_fits : (before : ℕ → ℕ → Bool) (ws : List ℕ) (n : ℕ) (s : Split) (x : Runner) (p : ℕ) (f : ℕ → Bool) (o : Option ℕ) → Page n p → SplitFits n s → Found f 8 o →
    Fits n (syncing_target before ws s x p o)
syncing_fits before ws n s x p f None h F g = new_key_fits before ws n s x.key F
syncing_fits before ws n s x p f (Some i) h F g = found_fits n p i x.operation h g.0

acting_in_fits : (before : ℕ → ℕ → Bool) (ws : List ℕ) (t : Table) (n : ℕ) (x : Runner) (p : ℕ) (u : Standing) → StandingFits n p u →
    Fits n (acting_target_in before ws t x p u)
acting_in_fits before ws t n x p Whole h = acting_fits n x p _ _ h (first_found (holds ws (page_at t p).committed p x.key) 0 8)
acting_in_fits before ws t n x p InCopy h = acting_fits n x p _ _ h (first_found (holds ws (page_at t p).committed p x.key) 0 8)
acting_in_fits before ws t n x p (InSync s) h = syncing_fits before ws n s x p _ _ h.0 h.1 (first_found (holds ws (page_at t p).committed p x.key) 0 8)
acting_in_fits before ws t n x p (InLink s) h = tt
acting_in_fits before ws t n x p Left h = tt

pending_fits : (before : ℕ → ℕ → Bool) (ws : List ℕ) (n : ℕ) (s : Split) (k : ℕ) (g : Stage) → SplitFits n s → SlotFits g → Fits n (pending_target_at before ws s k g)
pending_fits before ws n s k Idle F h = tt
pending_fits before ws n s k Locating F h = tt
pending_fits before ws n s k (WritingValue p i) F h = tt
pending_fits before ws n s k (WritingKey p i) F h = tt
pending_fits before ws n s k (Committing p i) F h = tt
pending_fits before ws n s k Helping F h = tt
pending_fits before ws n s k (Acting p) F h = tt
pending_fits before ws n s k (PendingNew p i) F h = tt
pending_fits before ws n s k (PendingOld p i m w) F h = tt
pending_fits before ws n s k (PendingSwap p i m w o) F h = let q = new_page_fits before n s k F in (q.0, q.1, h)
pending_fits before ws n s k (PendingRemove p) F h = new_key_fits before ws n s k F
pending_fits before ws n s k (Comparing p o) F h = tt
pending_fits before ws n s k (ComparingSwap p m w o) F h = tt
pending_fits before ws n s k (Reading p) F h = tt
pending_fits before ws n s k (Answered a v) F h = tt

pending_in_fits : (before : ℕ → ℕ → Bool) (ws : List ℕ) (n p : ℕ) (x : Runner) (u : Standing) → StandingFits n p u → SlotFits x.stage →
    Fits n (pending_target_in before ws x u)
pending_in_fits before ws n p x Whole f h = tt
pending_in_fits before ws n p x InCopy f h = tt
pending_in_fits before ws n p x (InSync s) f h = pending_fits before ws n s x.key x.stage f.1 h
pending_in_fits before ws n p x (InLink s) f h = pending_fits before ws n s x.key x.stage f.1 h
pending_in_fits before ws n p x Left f h = tt

comparing_fits : (before : ℕ → ℕ → Bool) (n p k m : ℕ) (u : Standing) → StandingFits n p u → m < 8 → Fits n (comparing_target_in before k m u)
comparing_fits before n p k m Whole f h = tt
comparing_fits before n p k m InCopy f h = tt
comparing_fits before n p k m (InSync s) f h = let q = new_page_fits before n s k f.1 in (q.0, q.1, h)
comparing_fits before n p k m (InLink s) f h = tt
comparing_fits before n p k m Left f h = tt

-- split steps

levelling_fits : (ws : List ℕ) (n : ℕ) (s : Split) (m : ℕ) (o : Option ℕ) → SplitFits n s → Found (stands ws s) m o → Fits n (levelling_target ws s o)
levelling_fits ws n s m None F g = tt
levelling_fits ws n s m (Some i) F g =
    let c = F.copies i (eqb-false (copy_at s i).page 0 (not-true (eqb (copy_at s i).page 0) (and_parts _ _ g.1).0)) in
    cond_both (eqb (word ws (key_at s.old i)) 0) (Some (Key (copy_at s i).page (copy_at s i).slot)) None (Fits n)
    (λ _. (c.0.0, c.0.1, c.1))
    (λ _. tt)

link_fits : (n : ℕ) (t : Table) (p m : ℕ) (o : Option ℕ) → InRange n t → Found (precedes t p) m o → Within n (link_place o)
link_fits n t p m None R g = tt
link_fits n t p m (Some q) R g = R.listed q (and_parts _ _ g.1).0

linking_fits : (before : ℕ → ℕ → Bool) (ws : List ℕ) (t : Table) (n : ℕ) (s : Split) (a : Option Place) (o : Option ℕ) → InRange n t → SplitFits n s → Fits n a →
    Fits n (linking_target before ws t s a o)
linking_fits before ws t n s a (Some q) R F h = pending_fits before ws n s (runner_at t q).key (runner_at t q).stage F (R.runners q)
linking_fits before ws t n s a None R F h = h

new_count_fits : (before : ℕ → ℕ → Bool) (s : Split) (k : ℕ) → s.lefts < 8 → s.rights < 8 → new_count before s k < 8
new_count_fits before s k l r = cond_both (on_right before s k) s.rights s.lefts (λ m. m < 8) (λ _. r) (λ _. l)

split_fits : (before : ℕ → ℕ → Bool) (ws : List ℕ) (t : Table) (n : ℕ) (s : Split) (g : Progress) → InRange n t → SplitFits n s → ProgressFits s g →
    Fits n (split_target before ws t s g)
split_fits before ws t n s (Clearing m) R F h =
    cond_both (ltb m 8) (Some (Key s.left m)) (Some (Key s.right (m - 8))) (Fits n)
    (λ e. (F.left.0, F.left.1, ltb-true m 8 e))
    (λ e. (grind (arith, nat_tests), F.right, grind (arith, nat_tests)))
split_fits before ws t n s LeftNext R F h = F.left
split_fits before ws t n s LeftLow R F h = F.left
split_fits before ws t n s RightNext R F h = (h, F.right)
split_fits before ws t n s RightLow R F h = (h, F.right)
split_fits before ws t n s (Copying i) R F h = tt
split_fits before ws t n s (CopyingValue i k w) R F h =
    let q = new_page_fits before n s k F in (q.0, q.1, new_count_fits before s k h.0 h.1)
split_fits before ws t n s (CopyingKey i k) R F h =
    let q = new_page_fits before n s k F in (q.0, q.1, new_count_fits before s k h.0 h.1)
split_fits before ws t n s (Syncing i) R F h = levelling_fits ws n s _ _ F (first_found (stands ws s) i (8 - i))
split_fits before ws t n s (SyncingNew i o) R F h = tt
split_fits before ws t n s (SyncingSwap i o w) R F h = let c = F.copies i h in (c.0.0, c.0.1, c.1)
split_fits before ws t n s Linking R F h =
    linking_fits before ws t n s (Some (link_place (preceding t s.old))) (first_pending t s.old) R F (link_fits n t s.old _ (preceding t s.old) R (first_found (precedes t s.old) 1 64))
split_fits before ws t n s Finishing R F h = linking_fits before ws t n s None (first_pending t s.old) R F tt

helping_fits : (before : ℕ → ℕ → Bool) (ws : List ℕ) (t : Table) (n : ℕ) (o : Option Split) → InRange n t → ((s : Split) → o ≡ Some s → SplitFits n s) →
    Fits n (helping_target before ws t o)
helping_fits before ws t n (Some s) R h = split_fits before ws t n s s.progress R (h s refl) (h s refl).progress
helping_fits before ws t n None R h = tt

-- the step

target_fits : (before : ℕ → ℕ → Bool) (ws : List ℕ) (t : Table) (n : ℕ) (x : Runner) (g : Stage) (u : Standing) → InRange n t → SlotFits x.stage → SlotFits g → HeldFits n (held g) u →
    Fits n (target_at before ws t x g u)
target_fits before ws t n x Idle u R k h f = tt
target_fits before ws t n x Locating u R k h f = tt
target_fits before ws t n x (WritingValue p i) u R k h f = writing_fits n p (Value p i) u (λ q. (q.0, q.1, h)) f
target_fits before ws t n x (WritingKey p i) u R k h f = writing_fits n p (Key p i) u (λ q. (q.0, q.1, h)) f
target_fits before ws t n x (Committing p i) u R k h f = tt
target_fits before ws t n x Helping u R k h f = helping_fits before ws t n t.split R R.split
target_fits before ws t n x (Acting p) u R k h f = acting_in_fits before ws t n x p u f
target_fits before ws t n x (PendingNew p i) u R k h f = pending_in_fits before ws n p x u f k
target_fits before ws t n x (PendingOld p i m w) u R k h f = pending_in_fits before ws n p x u f k
target_fits before ws t n x (PendingSwap p i m w o) u R k h f = pending_in_fits before ws n p x u f k
target_fits before ws t n x (PendingRemove p) u R k h f = pending_in_fits before ws n p x u f k
target_fits before ws t n x (Comparing p o) u R k h f = tt
target_fits before ws t n x (ComparingSwap p m w o) u R k h f = comparing_fits before n p x.key m u f h
target_fits before ws t n x (Reading p) u R k h f = tt
target_fits before ws t n x (Answered a v) u R k h f = tt

step_fits_by : (before : ℕ → ℕ → Bool) (ws : List ℕ) (t : Table) (n i : ℕ) (a : Activity) → InRange n t → Fits n (step_target_by before ws t i a)
step_fits_by before ws t n i Resting R = tt
step_fits_by before ws t n i Open R =
    target_fits before ws t n (runner_at t i) (runner_at t i).stage (held_standing t (held (runner_at t i).stage)) R (R.runners i) (R.runners i) (held_fits n t (held (runner_at t i).stage) R)
step_fits_by before ws t n i (Waiting a v) R = tt

step_fits_unless : (before : ℕ → ℕ → Bool) (ws : List ℕ) (t : Table) (n i : ℕ) (e : Option Refusal) → InRange n t → Fits n (step_target_unless before ws t i e)
step_fits_unless before ws t n i (Some e) R = tt
step_fits_unless before ws t n i None R = step_fits_by before ws t n i (activity (runner_at t i).stage) R

step_fits : (before : ℕ → ℕ → Bool) (ws : List ℕ) (t : Table) (r n : ℕ) → InRange n t → Fits n (step_target before ws t r)
step_fits before ws t r n R = step_fits_unless before ws t n (r - 1) (runner_refusal t r) R

-- the chain

step_on_by : (before : ℕ → ℕ → Bool) (ws : List ℕ) (t : Table) (i : ℕ) (a : Activity) → on_chain (step_target_by before ws t i a) ≡ true → HelpsSetChain t (runner_at t i).stage
step_on_by before ws t i Resting e = absurd (both_ways false refl e)
step_on_by before ws t i Open e = splits_set_the_chain before ws t (runner_at t i) e
step_on_by before ws t i (Waiting a v) e = absurd (both_ways false refl e)

step_on_unless : (before : ℕ → ℕ → Bool) (ws : List ℕ) (t : Table) (i : ℕ) (e : Option Refusal) → on_chain (step_target_unless before ws t i e) ≡ true → HelpsSetChain t (runner_at t i).stage
step_on_unless before ws t i (Some e) h = absurd (both_ways false refl h)
step_on_unless before ws t i None h = step_on_by before ws t i (activity (runner_at t i).stage) h

-- by the step's word
chain_kept : (before : ℕ → ℕ → Bool) (ws : List ℕ) (t : Table) (r n : ℕ) (a : Option Place) → step_target before ws t r ≡ a → Fits n a → on_chain a ≡ false →
    (x : Place) → Within n x → on_chain (Some x) ≡ true → word (stepped before ws t r).0 (place_at x) ≡ word ws (place_at x)
chain_kept before ws t r n None e f o x h c = ap (λ v. word v (place_at x)) (steps_keep_the_rest.row before ws t r e)
chain_kept before ws t r n (Some y) e f o x h c =
    steps_keep_the_rest.places before ws t r n y x e f h (λ d. both_ways (on_chain (Some x)) (rw d at o) c)

-- a new book

abbrev first_page : PageRow
first_page = record { listed = true; next = 0; taken = 0; committed = 0 }

idle_everywhere : (count i : ℕ) → runner_at (made_table count) i ≡ idle_runner
idle_everywhere count i =
    cond_both (ltb i 8) (get_or (replicate 8 idle_runner) i idle_runner) idle_runner (λ x. x ≡ idle_runner)
    (λ e. get_or-replicate 8 i idle_runner idle_runner (ltb-true i 8 e))
    (λ _. refl)

none_listed : (i : ℕ) → get_or (replicate 65 no_page) i no_page ≡ no_page
none_listed i = ⊎_elim (λ h. get_or-replicate 65 i no_page no_page h) (λ h. get_or_past (replicate 65 no_page) i no_page h) (cases_lt i 65)

others_not_listed : (x : PageRow) (p : ℕ) → p ≢ 1 → get_or (set (replicate 65 no_page) 1 x) p no_page ≡ no_page
others_not_listed x p d = get_or-set_other (replicate 65 no_page) 1 p x no_page d ∙ none_listed p

one_listed : (count p : ℕ) → (page_at (made_table count) p).listed ≡ true → p ≡ 1
one_listed count p =
    cond_both (ltb p 65) (get_or (made_table count).pages p no_page) no_page (λ x. x.listed ≡ true → p ≡ 1)
    (λ _. ⊎_elim (λ e h. e)
    (λ d h. absurd (both_ways false refl (sym (ap (λ x. x.listed) (others_not_listed first_page p d)) ∙ h)))
    (cases_eq p 1))
    (λ _ h. absurd (both_ways false refl h))

made_in_range : (n count : ℕ) → 1 ≤ n → InRange n (made_table count)
made_in_range n count h =
    record {
      listed = λ p e. let d = one_listed count p e in (omega arith, omega arith);
      runners = λ i. rw (idle_everywhere count i) tt;
      split = λ s e. absurd (let z : ◌≡◌ {A = ℕ} 0 1 = cc in omega arith);
    }

off_unless : (b : Bool) → (b ≡ true → ⊥) → b ≡ false
off_unless true h = absurd (h refl)
off_unless false h = refl

pub steps_in_range : StepsInRange
steps_in_range =
    record {
      made = made_in_range;
      target = step_fits;
      chain = λ before ws t r n R no_help x h c.
          chain_kept before ws t r n (step_target before ws t r) refl (step_fits before ws t r n R)
          (off_unless (on_chain (step_target before ws t r)) (λ e. no_help (step_on_unless before ws t (r - 1) (runner_refusal t r) e)))
          x h c;
    }
