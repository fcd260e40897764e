-- What a step reads before it acts: key words, low words and the table.
use Rattle.std.specs.Prelude.{ℕ, zero, suc, ◌+◌, ◌-◌, Bool, false, cond, not, ◌&&◌, ◌||◌, List, Some, None, Option, ◌==◌}
pub use Rattle.std.specs.Option.{is_some}
use Rattle.protocol.specs.declared.table.Split.{Split}
use Rattle.protocol.specs.declared.table.Table.{Table}
use Rattle.protocol.specs.Layout.{word, low_at, key_at}
use Rattle.protocol.specs.Fields.{page_at, runner_at, pending_on, committed, copy_at}

-- The first of the n numbers from i on that passes a test.
unfoldable pub first_from : (ℕ → Bool) → ℕ → ℕ → Option ℕ
first_from f i zero = None
first_from f i (suc n) = cond (f i) (Some i) (first_from f (i + 1) n)

-- Whether there is a number, and it is this one.
abbrev pub is_this : Option ℕ → ℕ → Bool
is_this None n = false
is_this (Some m) n = m == n

-- Whether a slot, if committed, holds the key.
abbrev pub holds : List ℕ → ℕ → ℕ → ℕ → ℕ → Bool
holds ws bits p k s = committed bits s && word ws (key_at p s) == k

-- A key is found in the first committed slot that holds it.
abbrev pub found : List ℕ → ℕ → ℕ → ℕ → Option ℕ
found ws bits p k = first_from (holds ws bits p k) 0 8

-- A key goes right when there is a right page and the key does not come before the split key.
abbrev pub on_right : (ℕ → ℕ → Bool) → Split → ℕ → Bool
on_right before s k = not (s.right == 0) && not (before k s.key)

-- A key's new page is right if it goes right, else left.
abbrev pub new_page : (ℕ → ℕ → Bool) → Split → ℕ → ℕ
new_page before s k = cond (on_right before s k) s.right s.left

-- The key's slot in its new page, whatever is committed there; it is gone when no slot holds it.
abbrev pub new_slot : (ℕ → ℕ → Bool) → List ℕ → Split → ℕ → Option ℕ
new_slot before ws s k = found ws 255 (new_page before s k) k

-- Whether the list ends with the page before q, or the key comes before page q.
abbrev pub ends_before : (ℕ → ℕ → Bool) → List ℕ → ℕ → ℕ → Bool
ends_before before ws k q = q == 0 || before k (word ws (low_at q))

-- The last page, from p on and over at most n more, that the key does not come before.
unfoldable pub cover_from : (ℕ → ℕ → Bool) → List ℕ → Table → ℕ → ℕ → ℕ → ℕ
cover_from before ws t k p zero = p
cover_from before ws t k p (suc n) = cond (ends_before before ws k (page_at t p).next) p (cover_from before ws t k (page_at t p).next n)

-- The listed page that covers the key.
abbrev pub covering : (ℕ → ℕ → Bool) → List ℕ → Table → ℕ → ℕ
covering before ws t k = cover_from before ws t k t.first 64

-- Whether a slot is committed and its key is not 0.
abbrev pub live : List ℕ → ℕ → ℕ → ℕ → Bool
live ws bits p s = committed bits s && not (word ws (key_at p s) == 0)

-- The first live slot of the page from slot s on.
abbrev pub live_from : List ℕ → ℕ → ℕ → ℕ → Option ℕ
live_from ws bits p s = first_from (live ws bits p) s (8 - s)

-- Whether an old slot was copied and its new key is not gone.
abbrev pub stands : List ℕ → Split → ℕ → Bool
stands ws s i = not ((copy_at s i).page == 0) && not (word ws (key_at (copy_at s i).page (copy_at s i).slot) == 0)

-- The first copied slot from slot i on that is not gone.
abbrev pub standing_from : List ℕ → Split → ℕ → Option ℕ
standing_from ws s i = first_from (stands ws s) i (8 - i)

abbrev pub pends : Table → ℕ → ℕ → Bool
pends t p i = pending_on (runner_at t i).stage p

-- The lowest runner that is pending on the page.
abbrev pub first_pending : Table → ℕ → Option ℕ
first_pending t p = first_from (pends t p) 0 8

-- Whether page q is listed right before page p.
abbrev pub precedes : Table → ℕ → ℕ → Bool
precedes t p q = (page_at t q).listed && (page_at t q).next == p

-- The listed page right before page p, none for the first.
abbrev pub preceding : Table → ℕ → Option ℕ
preceding t p = first_from (precedes t p) 1 64
