-- Acting, pending, comparing and reading moves keep the range: a new slot that is found is below 8.
use Rattle.std.proofs.Common.{ℕ, Bool, List, Some, None, Option}
use Rattle.protocol.specs.declared.numbers.Operation.{Operation}
use Rattle.protocol.specs.declared.numbers.Operation.TheVariants.{Enter, Change, Remove, Look}
use Rattle.protocol.specs.declared.numbers.Answer.{Answer}
use Rattle.protocol.specs.declared.numbers.Answer.TheVariants.{Done}
use Rattle.protocol.specs.declared.table.Stage.{Stage}
use Rattle.protocol.specs.declared.table.Stage.TheVariants.{Idle, Locating, WritingValue, WritingKey, Committing, Helping, Acting, PendingNew, PendingOld, PendingSwap, PendingRemove, Comparing, ComparingSwap, Reading, Answered}
use Rattle.protocol.specs.declared.table.Runner.{Runner}
use Rattle.protocol.specs.declared.table.Split.{Split}
use Rattle.protocol.specs.Search.{holds, new_page, new_slot}
use Rattle.protocol.specs.Act.{acting_found, acting_page, syncing_found, syncing_page, clearing_slot, reading_slot, reading, linking_as, pending_new, pending_at, comparing_slot}
use Rattle.laws.specs.KeptRanges.{SlotKept}
use Rattle.laws.proofs.Ranges.{Found, first_found}
use Rattle.laws.proofs.Fitting.{MoveFits}

acting_found_fits : (n r : ℕ) (x : Runner) (p i : ℕ) (o : Operation) → MoveFits n (acting_found r x p i o)
acting_found_fits n r x p i Enter = (tt, tt)
acting_found_fits n r x p i Change = (tt, tt)
acting_found_fits n r x p i Remove = (tt, tt)
acting_found_fits n r x p i Look = (tt, tt)

pub acting_page_fits : (n r : ℕ) (x : Runner) (p : ℕ) (o : Option ℕ) → MoveFits n (acting_page r x p o)
acting_page_fits n r x p None = (tt, tt)
acting_page_fits n r x p (Some i) = acting_found_fits n r x p i x.operation

clearing_slot_fits : (n r q : ℕ) (a : Answer) (o : Option ℕ) → MoveFits n (clearing_slot r q a o)
clearing_slot_fits n r q a None = (tt, tt)
clearing_slot_fits n r q a (Some m) = (tt, tt)

syncing_found_fits : (n r : ℕ) (x : Runner) (p i : ℕ) (o : Operation) → MoveFits n (syncing_found r x p i o)
syncing_found_fits n r x p i Enter = (tt, tt)
syncing_found_fits n r x p i Change = (tt, tt)
syncing_found_fits n r x p i Remove = (tt, tt)
syncing_found_fits n r x p i Look = (tt, tt)

pub syncing_page_fits : (before : ℕ → ℕ → Bool) (ws : List ℕ) (n : ℕ) (s : Split) (r : ℕ) (x : Runner) (p : ℕ) (o : Option ℕ) → MoveFits n (syncing_page before ws s r x p o)
syncing_page_fits before ws n s r x p None = clearing_slot_fits n r (new_page before s x.key) _ (new_slot before ws s x.key)
syncing_page_fits before ws n s r x p (Some i) = syncing_found_fits n r x p i x.operation

reading_slot_fits : (n r q : ℕ) (o : Option ℕ) → MoveFits n (reading_slot r q o)
reading_slot_fits n r q None = (tt, tt)
reading_slot_fits n r q (Some m) = (tt, tt)

pub reading_fits : (before : ℕ → ℕ → Bool) (ws : List ℕ) (n : ℕ) (s : Split) (r : ℕ) (x : Runner) → MoveFits n (reading before ws s r x)
reading_fits before ws n s r x = reading_slot_fits n r (new_page before s x.key) (new_slot before ws s x.key)

pub linking_as_fits : (before : ℕ → ℕ → Bool) (ws : List ℕ) (n : ℕ) (s : Split) (r : ℕ) (x : Runner) (o : Operation) → MoveFits n (linking_as before ws s r x o)
linking_as_fits before ws n s r x Enter = (tt, tt)
linking_as_fits before ws n s r x Change = (tt, tt)
linking_as_fits before ws n s r x Remove = (tt, tt)
linking_as_fits before ws n s r x Look = reading_fits before ws n s r x

-- the new slot of a key is one of eight
pub new_slot_found : (before : ℕ → ℕ → Bool) (ws : List ℕ) (s : Split) (k : ℕ) → Found (holds ws 255 (new_page before s k) k) 8 (new_slot before ws s k)
new_slot_found before ws s k = first_found (holds ws 255 (new_page before s k) k) 0 8

pending_new_fits : (n r q p i : ℕ) (f : ℕ → Bool) (o : Option ℕ) → Found f 8 o → MoveFits n (pending_new r q p i o)
pending_new_fits n r q p i f None h = (tt, tt)
pending_new_fits n r q p i f (Some m) h = (h.0, tt)

pub pending_fits : (before : ℕ → ℕ → Bool) (ws : List ℕ) (n : ℕ) (s : Split) (r : ℕ) (x : Runner) (g : Stage) → SlotKept g → MoveFits n (pending_at before ws s r x g)
pending_fits before ws n s r x Idle h = (tt, tt)
pending_fits before ws n s r x Locating h = (tt, tt)
pending_fits before ws n s r x (WritingValue p i) h = (tt, tt)
pending_fits before ws n s r x (WritingKey p i) h = (tt, tt)
pending_fits before ws n s r x (Committing p i) h = (tt, tt)
pending_fits before ws n s r x Helping h = (tt, tt)
pending_fits before ws n s r x (Acting p) h = (tt, tt)
pending_fits before ws n s r x (PendingNew p i) h = pending_new_fits n r (new_page before s x.key) p i _ (new_slot before ws s x.key) (new_slot_found before ws s x.key)
pending_fits before ws n s r x (PendingOld p i m w) h = (h, tt)
pending_fits before ws n s r x (PendingSwap p i m w o) h = ((tt, tt), tt)
pending_fits before ws n s r x (PendingRemove p) h = clearing_slot_fits n r (new_page before s x.key) Done (new_slot before ws s x.key)
pending_fits before ws n s r x (Comparing p o) h = (tt, tt)
pending_fits before ws n s r x (ComparingSwap p m w o) h = (tt, tt)
pending_fits before ws n s r x (Reading p) h = (tt, tt)
pending_fits before ws n s r x (Answered a v) h = (tt, tt)

pub comparing_slot_fits : (n r q p o : ℕ) (f : ℕ → Bool) (m : Option ℕ) → Found f 8 m → MoveFits n (comparing_slot r q p o m)
comparing_slot_fits n r q p o f None h = (tt, tt)
comparing_slot_fits n r q p o f (Some m) h = (h.0, tt)
