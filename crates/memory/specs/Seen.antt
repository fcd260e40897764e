-- A window of n words from word b over a row ws.
use Rattle.std.specs.Prelude.{◌≡◌, ℕ, ◌+◌, ◌<◌, Bool, cond, List, [], length, take, drop, Ok, Err, Result, ◌==◌, nat_le, nat_lt, slice_index, slice_index_or, slice_set}
use Rattle.memory.specs.declared.kept.Refusal.{Refusal}
use Rattle.memory.specs.declared.kept.Refusal.TheVariants.{NoSuchWindow}
use Rattle.memory.specs.declared.window.Window.{Window}
use Rattle.memory.specs.Cut.{LeftByCut, StoreCut, SwapCut}

-- A window fits where its end, b + n, is not past the end of the row.
abbrev pub fits_in : List ℕ → ℕ → ℕ → Bool
fits_in ws b n = nat_le (b + n) (length ws)

-- The fit question is refused where the window does not fit.
abbrev pub fitting : List ℕ → ℕ → ℕ → Result (Unit {0}) Refusal
fitting ws b n = cond (fits_in ws b n) (Ok tt) (Err NoSuchWindow)

-- The window shows its n words; one that does not fit shows none.
abbrev pub seen : List ℕ → ℕ → ℕ → List ℕ
seen ws b n = cond (fits_in ws b n) (take n (drop b ws)) []

-- How many words the window shows.
abbrev pub size_seen : List ℕ → ℕ → ℕ → ℕ
size_seen ws b n = cond (fits_in ws b n) n 0

-- The words that the window does not show: those before it, and those after it.
abbrev pub outside : List ℕ → ℕ → ℕ → List ℕ × List ℕ
outside ws b n = cond (fits_in ws b n) (take b ws, drop (b + n) ws) (ws, [])

-- The row of a window, where `words` gives the row of the memory below.
abbrev pub shown : {M : Type 0} → (M → List ℕ) → Window M → List ℕ
shown words s = seen (words s.memory) s.base s.size

-- What no call through a window changes: where it lies, the words outside it, and what the memory below never changes.
abbrev pub beside_shown : {M R : Type 0} → (M → List ℕ) → (M → R) → Window M → ℕ × ℕ × (List ℕ × List ℕ) × R
beside_shown words rest s = (s.base, s.size, outside (words s.memory) s.base s.size, rest s.memory)

-- The whole row below after a store in the window's word i.
abbrev pub below_stored : List ℕ → ℕ → ℕ → ℕ → ℕ → List ℕ
below_stored ws b n i w = cond (nat_lt i (size_seen ws b n)) (slice_set ws (b + i) w) ws

-- The whole row below after a swap in the window's word i.
abbrev pub below_swapped : List ℕ → ℕ → ℕ → ℕ → ℕ → ℕ → List ℕ
below_swapped ws b n i e w = cond (nat_lt i (size_seen ws b n)) (cond (slice_index ws (b + i) == e) (slice_set ws (b + i) w) ws) ws

-- Word i of the window is word p of the row below: what is read there, and what a write there changes and leaves.
pub record SameWord (ws : List ℕ) (b n i p : ℕ) : Type 0 where
  pub below : p < length ws
  pub within : i < length (seen ws b n)
  pub word : slice_index_or (seen ws b n) i 0 ≡ slice_index ws p
  pub written : (w : ℕ) → seen (slice_set ws p w) b n ≡ slice_set (seen ws b n) i w
  pub kept : (w : ℕ) → outside (slice_set ws p w) b n ≡ outside ws b n

-- Whatever a cut inside a call leaves of the row below, the window shows what such a cut may leave of its own row, and no word outside has changed.
pub record CutThroughWindow : Type 0 where
  pub store : (ws : List ℕ) (b n i w : ℕ) (left : List ℕ) → LeftByCut ws (below_stored ws b n i w) left → StoreCut (seen ws b n) i w (seen left b n) × (outside left b n ≡ outside ws b n)
  pub swap : (ws : List ℕ) (b n i e w : ℕ) (left : List ℕ) → LeftByCut ws (below_swapped ws b n i e w) left → SwapCut (seen ws b n) i e w (seen left b n) × (outside left b n ≡ outside ws b n)
