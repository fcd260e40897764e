-- What a power cut leaves of a row of words.
--
-- A cut falls between two calls or inside one. Calls that have ended stand. A store or swap with a cut inside leaves its word
-- as it was, or as the whole call would leave it; no other word changes, and the count stays. Count and load change nothing, cut or not.
-- For the two memories in a caller's slice this is what the board promises, also where a word is eight bytes:
-- it is taken here, and not shown. For a window it is shown, from the same promise of the memory below.
use Rattle.std.specs.Prelude.{◌≡◌, ℕ, ◌≢◌, ◌⊎◌, List, length, slice_index}
use Rattle.memory.specs.Row.{row_stored, row_swapped}

-- A cut inside a call leaves the row as it was before the call, or as the whole call would leave it.
abbrev pub LeftByCut : List ℕ → List ℕ → List ℕ → Type 0
LeftByCut before after left = (left ≡ before) ⊎ (left ≡ after)

-- What a store of w in word i may leave of the row ws when a cut falls inside it.
abbrev pub StoreCut : List ℕ → ℕ → ℕ → List ℕ → Type 0
StoreCut ws i w left = LeftByCut ws (row_stored ws i w) left

-- What a swap that expects e in word i and writes w may leave of the row ws when a cut falls inside it.
abbrev pub SwapCut : List ℕ → ℕ → ℕ → ℕ → List ℕ → Type 0
SwapCut ws i e w left = LeftByCut ws (row_swapped ws i e w) left

-- The row left has as many words as ws, each word but i as in ws, and word i as in ws or w.
pub record OneWordTouched (ws : List ℕ) (i w : ℕ) (left : List ℕ) : Type 0 where
  pub count : length left ≡ length ws
  pub others : (k : ℕ) → k ≢ i → slice_index left k ≡ slice_index ws k
  pub word : (slice_index left i ≡ slice_index ws i) ⊎ (slice_index left i ≡ w)

-- A cut store or swap touches its own word alone; and a cut swap leaves the row as it was where the expected word does not stand.
pub record CutTouchesOneWord : Type 0 where
  pub store : (ws : List ℕ) (i w : ℕ) (left : List ℕ) → StoreCut ws i w left → OneWordTouched ws i w left
  pub swap : (ws : List ℕ) (i e w : ℕ) (left : List ℕ) → SwapCut ws i e w left → OneWordTouched ws i w left
  pub unexpected : (ws : List ℕ) (i e w : ℕ) (left : List ℕ) → SwapCut ws i e w left → slice_index ws i ≢ e → left ≡ ws
