-- Which steps write the chain of pages: its head, next and low words.
-- Places are told apart by name here; that no slot's word is a word of another page is a matter of numbers in range.
use Rattle.std.specs.Prelude.{◌≡◌, ℕ, Bool, true, false, List, Some, None, Option}
use Rattle.protocol.specs.declared.table.Stage.{Stage}
use Rattle.protocol.specs.declared.table.Stage.TheVariants.{Helping}
use Rattle.protocol.specs.declared.table.Runner.{Runner}
use Rattle.protocol.specs.declared.table.Progress.{Progress}
use Rattle.protocol.specs.declared.table.Progress.TheVariants.{Clearing, LeftNext, LeftLow, RightNext, RightLow, Copying, CopyingValue, CopyingKey, Syncing, SyncingNew, SyncingSwap, Linking, Finishing}
use Rattle.protocol.specs.declared.table.Split.{Split}
use Rattle.protocol.specs.declared.table.Table.{Table}
use Rattle.laws.specs.Places.{Place, Head, Next, Low, Key, Value}
use Rattle.laws.specs.Targets.{target}

-- Whether a word is the head, a next or a low.
abbrev pub on_chain : Option Place → Bool
on_chain None = false
on_chain (Some Head) = true
on_chain (Some (Next p)) = true
on_chain (Some (Low p)) = true
on_chain (Some (Key p s)) = false
on_chain (Some (Value p s)) = false

-- The split steps that write next and low of the new pages, and the link.
abbrev pub sets_chain : Progress → Bool
sets_chain (Clearing n) = false
sets_chain LeftNext = true
sets_chain LeftLow = true
sets_chain RightNext = true
sets_chain RightLow = true
sets_chain (Copying i) = false
sets_chain (CopyingValue i k w) = false
sets_chain (CopyingKey i k) = false
sets_chain (Syncing i) = false
sets_chain (SyncingNew i o) = false
sets_chain (SyncingSwap i o w) = false
sets_chain Linking = true
sets_chain Finishing = false

-- A runner at stage g is helping a split that is at one of these steps.
pub record HelpsSetChain (t : Table) (g : Stage) : Type 0 where
  pub stage : g ≡ Helping
  pub split : Split
  pub underway : t.split ≡ Some split
  pub step : sets_chain split.progress ≡ true

-- The head, a next or a low is written so and not otherwise. So any other step writes a key word, a value word or none.
abbrev pub SplitsSetTheChain : Type 0
SplitsSetTheChain = (before : ℕ → ℕ → Bool) (ws : List ℕ) (t : Table) (x : Runner) → on_chain (target before ws t x) ≡ true → HelpsSetChain t x.stage
