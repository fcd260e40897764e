-- What a rebuild finds in the row, and its checks in their order.
use Rattle.std.specs.Prelude.{ℕ, zero, suc, ◌+◌, ◌^◌, max, Bool, true, false, cond, not, ◌&&◌, ◌||◌, List, Some, None, Ok, Err, Option, Result, ◌==◌, bit_or, nat_le}
use Rattle.protocol.specs.declared.numbers.Refusal.{Refusal}
use Rattle.protocol.specs.declared.numbers.Refusal.TheVariants.{WrongLength, WrongCount, NoHead, BrokenChain, WrongLow, MisplacedKey, NoChangeNumber}
use Rattle.protocol.specs.declared.table.Table.{Table}
use Rattle.protocol.specs.declared.table.Tally.{Tally}
use Rattle.protocol.specs.Layout.{word, next_at, low_at, key_at, value_at, page_count, right_length}
use Rattle.values.specs.ValueWord.{number_of}
use Rattle.protocol.specs.Fields.{page_at, with_page}
use Rattle.protocol.specs.Search.{is_this, found}
use Rattle.protocol.specs.Make.{bare_table}

-- What a check answers that is to give x: a refusal, if it finds one.
abbrev pub checked : {A : Type 0} → A → Option Refusal → Result A Refusal
checked x None = Ok x
checked x (Some e) = Err e

-- The row has the right length, and the runners are 1 to 8.
abbrev pub size_refusal : List ℕ → ℕ → Option Refusal
size_refusal ws n = cond (right_length ws) (cond (nat_le 1 n && nat_le n 8) None (Some WrongCount)) (Some WrongLength)

-- Page p stands in the list before page q; nothing is known of its slots yet.
abbrev pub listing : Table → ℕ → ℕ → Table
listing t p q = with_page t p (record { listed = true; next = q; taken = 0; committed = 0 })

-- The list along the next words from page p on: no page number too large, no page reached twice.
unfoldable pub chain_from : List ℕ → Table → ℕ → ℕ → Result Table Refusal
chain_from ws t p zero = Err BrokenChain
chain_from ws t p (suc n) =
    cond ((page_at t p).listed || not (nat_le (word ws (next_at p)) (page_count ws)))
    (Err BrokenChain)
    (cond (word ws (next_at p) == 0)
    (Ok (listing t p 0))
    (chain_from ws (listing t p (word ws (next_at p))) (word ws (next_at p)) n))

-- The list from the head on: the head is not 0, and no page number too large.
abbrev pub chained : List ℕ → ℕ → Result Table Refusal
chained ws count =
    cond (word ws 0 == 0) (Err NoHead)
    (cond (nat_le (word ws 0) (page_count ws)) (chain_from ws (bare_table true count (word ws 0)) (word ws 0) 64) (Err BrokenChain))

-- Low 0 comes before every key.
abbrev pub low_before : (ℕ → ℕ → Bool) → ℕ → ℕ → Bool
low_before before low k = low == 0 || before low k

-- The low of page q is a key, and after that of page p.
abbrev pub low_rises : (ℕ → Bool) → (ℕ → ℕ → Bool) → List ℕ → ℕ → ℕ → Bool
low_rises key before ws p q = key (word ws (low_at q)) && low_before before (word ws (low_at p)) (word ws (low_at q))

-- The lows after page p are keys, each after the one before.
unfoldable pub lows_from : (ℕ → Bool) → (ℕ → ℕ → Bool) → List ℕ → Table → ℕ → ℕ → Bool
lows_from key before ws t p zero = true
lows_from key before ws t p (suc n) =
    cond ((page_at t p).next == 0) true
    (cond (low_rises key before ws p (page_at t p).next)
    (lows_from key before ws t (page_at t p).next n)
    false)

-- The first low is 0, every later one a key after the one before.
abbrev pub lows_right : (ℕ → Bool) → (ℕ → ℕ → Bool) → List ℕ → Table → Bool
lows_right key before ws t = word ws (low_at t.first) == 0 && lows_from key before ws t t.first 64

-- The low of the page after p, 0 if there is none.
abbrev pub upper : List ℕ → Table → ℕ → ℕ
upper ws t p = cond ((page_at t p).next == 0) 0 (word ws (low_at (page_at t p).next))

-- A page covers a key from its low on, and up to the next page's low.
abbrev pub in_range : (ℕ → ℕ → Bool) → ℕ → ℕ → ℕ → Bool
in_range before low high k = (low == 0 || not (before k low)) && (high == 0 || before k high)

-- A nonzero key word is a key, in its page's range, and not earlier in the page.
abbrev pub placed : (ℕ → Bool) → (ℕ → ℕ → Bool) → List ℕ → ℕ → ℕ → ℕ → ℕ → Bool
placed key before ws low high p s =
    key (word ws (key_at p s)) && in_range before low high (word ws (key_at p s)) && is_this (found ws 255 p (word ws (key_at p s))) s

-- A slot with a key is committed, the taken count is one above it, and the largest change number is taken over.
abbrev pub tallied : Tally → ℕ → ℕ → Tally
tallied a s n = record { taken = s + 1; committed = bit_or a.committed (2 ^ s); last = max a.last n }

-- The slots from s on: an empty one is passed over, any other is judged and tallied.
unfoldable pub slots_from : (ℕ → Bool) → (ℕ → ℕ → Bool) → List ℕ → ℕ → ℕ → ℕ → Tally → ℕ → ℕ → Result Tally Refusal
slots_from key before ws low high p a s zero = Ok a
slots_from key before ws low high p a s (suc n) =
    cond (word ws (key_at p s) == 0)
    (slots_from key before ws low high p a (s + 1) n)
    (cond (placed key before ws low high p s)
    (cond (number_of (word ws (value_at p s)) == 0)
    (Err NoChangeNumber)
    (slots_from key before ws low high p (tallied a s (number_of (word ws (value_at p s)))) (s + 1) n))
    (Err MisplacedKey))

-- The slots of page p.
abbrev pub page_tally : (ℕ → Bool) → (ℕ → ℕ → Bool) → List ℕ → Table → ℕ → Result Tally Refusal
page_tally key before ws t p =
    slots_from key before ws (word ws (low_at p)) (upper ws t p) p (record { taken = 0; committed = 0; last = t.last }) 0 8

-- The table with the page's slots, and the largest change number so far.
abbrev pub with_tally : Table → ℕ → Tally → Table
with_tally t p a = record {
  opened = t.opened;
  count = t.count;
  runners = t.runners;
  first = t.first;
  pages = (with_page t p (record { listed = (page_at t p).listed; next = (page_at t p).next; taken = a.taken; committed = a.committed })).pages;
  split = t.split;
  round = t.round;
  last = a.last;
}

abbrev pub with_page_tally : Table → ℕ → Result Tally Refusal → Result Table Refusal
with_page_tally t p (Ok a) = Ok (with_tally t p a)
with_page_tally t p (Err e) = Err e

-- Page p's slots are judged and tallied.
abbrev pub page_surveyed : (ℕ → Bool) → (ℕ → ℕ → Bool) → List ℕ → Table → ℕ → Result Table Refusal
page_surveyed key before ws t p = with_page_tally t p (page_tally key before ws t p)

-- The pages of the list from p on, one after the other, until one is refused.
unfoldable pub pages_from : (ℕ → Bool) → (ℕ → ℕ → Bool) → List ℕ → ℕ → Result Table Refusal → ℕ → Result Table Refusal
pages_from key before ws zero r p = r
pages_from key before ws (suc n) (Err e) p = Err e
pages_from key before ws (suc n) (Ok t) p =
    cond (p == 0) (Ok t) (pages_from key before ws n (page_surveyed key before ws t p) (page_at t p).next)

-- With the list right, the lows are judged, then the slots.
abbrev pub surveyed_list : (ℕ → Bool) → (ℕ → ℕ → Bool) → List ℕ → Result Table Refusal → Result Table Refusal
surveyed_list key before ws (Err e) = Err e
surveyed_list key before ws (Ok t) = cond (lows_right key before ws t) (pages_from key before ws 64 (Ok t) t.first) (Err WrongLow)

abbrev pub surveyed_unless : (ℕ → Bool) → (ℕ → ℕ → Bool) → List ℕ → ℕ → Option Refusal → Result Table Refusal
surveyed_unless key before ws n (Some e) = Err e
surveyed_unless key before ws n None = surveyed_list key before ws (chained ws n)

-- The table that a rebuild for n runners finds, or why it is sent back: length and runners, list, lows, slots.
abbrev pub surveyed : (ℕ → Bool) → (ℕ → ℕ → Bool) → List ℕ → ℕ → Result Table Refusal
surveyed key before ws n = surveyed_unless key before ws n (size_refusal ws n)
