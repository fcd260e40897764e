-- Locating: where a key belongs, and how a split is started.
use Rattle.std.specs.List.{range_with_len}
use Rattle.std.specs.Option.{unwrap_or}
use Rattle.std.specs.Prelude.{ℕ, ◌+◌, ◌-◌, ◌/◌, ◌%◌, Bool, false, cond, not, ◌&&◌, ◌||◌, List, [], ◌∷◌, count_by, map, replicate, Some, None, Option, ◌==◌, nat_le, nat_lt}
use Rattle.protocol.specs.declared.numbers.Operation.{Operation}
use Rattle.protocol.specs.declared.numbers.Operation.TheVariants.{Enter, Change, Remove, Look}
use Rattle.protocol.specs.declared.numbers.Answer.TheVariants.{AlreadyThere, NoRoom}
use Rattle.protocol.specs.declared.table.Stage.TheVariants.{WritingValue, Helping, Acting}
use Rattle.protocol.specs.declared.table.Runner.{Runner}
use Rattle.protocol.specs.declared.table.Progress.TheVariants.{Clearing}
use Rattle.protocol.specs.declared.table.Split.{Split}
use Rattle.protocol.specs.declared.table.Standing.{Standing}
use Rattle.protocol.specs.declared.table.Standing.TheVariants.{Whole, InCopy, InSync, InLink, Left}
use Rattle.protocol.specs.declared.table.Table.{Table}
use Rattle.protocol.specs.declared.moves.Access.TheVariants as access
use Rattle.protocol.specs.declared.moves.RunnerNext.TheVariants as own
use Rattle.protocol.specs.declared.moves.TableNext.TheVariants as rest
use Rattle.protocol.specs.declared.moves.Move.{Move}
use Rattle.protocol.specs.Layout.{word, key_at, page_count}
use Rattle.protocol.specs.Fields.{runner_at, page_at, held, standing, committed, not_copied}
use Rattle.protocol.specs.Search.{first_from, is_some, found, covering}
use Rattle.protocol.specs.Moves.{turns, answers}

-- The key of a committed slot, 0 for a slot that is not committed.
abbrev pub live_key : List ℕ → ℕ → ℕ → ℕ → ℕ
live_key ws bits p s = cond (committed bits s) (word ws (key_at p s)) 0

-- The keys of a page's eight slots; only nonzero ones count.
abbrev pub live_keys : List ℕ → ℕ → ℕ → List ℕ
live_keys ws bits p = map (live_key ws bits p) (range_with_len 0 8)

-- How many keys there are.
abbrev pub key_count : List ℕ → ℕ
key_count ks = count_by (λ k. not (k == 0)) ks

-- A key's rank is the number of keys before it.
unfoldable pub rank : (ℕ → ℕ → Bool) → ℕ → List ℕ → ℕ
rank before k [] = 0
rank before k (j ∷ js) = cond (not (j == 0) && before j k) 1 0 + rank before k js

-- The first of the keys ks that has rank h among all; 0 if none has.
unfoldable pub ranked : (ℕ → ℕ → Bool) → List ℕ → ℕ → List ℕ → ℕ
ranked before all h [] = 0
ranked before all h (k ∷ ks) = cond (not (k == 0) && rank before k all == h) k (ranked before all h ks)

-- The split key is the key with just half of the count, rounded down, before it, and 0 when there is no key.
abbrev pub split_key : (ℕ → ℕ → Bool) → List ℕ → ℕ
split_key before ks = ranked before ks (key_count ks / 2) ks

abbrev pub in_split : Option Split → ℕ → Bool
in_split None p = false
in_split (Some s) p = s.old == p || s.left == p || s.right == p

-- Whether a runner holds the page. Page 0 is none: a runner that holds none is counted with it, so that it is not free.
abbrev pub holds_page : Table → ℕ → ℕ → Bool
holds_page t p i = unwrap_or (held (runner_at t i).stage) 0 == p

-- A page is free when it is not in the list, not in the split and not held.
abbrev pub free : Table → ℕ → Bool
free t p = not (page_at t p).listed && not (in_split t.split p) && not (is_some (first_from (holds_page t p) 0 8))

-- The page after p going round n pages.
abbrev pub round_after : ℕ → ℕ → ℕ
round_after n p = p % n + 1

-- The i-th page going round n pages from page p.
abbrev pub round_page : ℕ → ℕ → ℕ → ℕ
round_page n p i = (p - 1 + i) % n + 1

abbrev pub free_at : Table → ℕ → ℕ → Bool
free_at t n i = free t (round_page n t.round i)

-- The next free page, as its place in the round, from place i on.
abbrev pub free_from : Table → ℕ → ℕ → Option ℕ
free_from t n i = first_from (free_at t n) i (n - i)

-- A split of page p as it starts.
abbrev pub new_split : ℕ → ℕ → ℕ → ℕ → Split
new_split p left right k = record { old = p; left = left; right = right; key = k; progress = Clearing 0; copies = replicate 8 not_copied; lefts = 0; rights = 0 }

-- The runner starts a split and goes to helping; the round goes on after the last page taken.
abbrev pub starts : ℕ → Split → ℕ → Move
starts r s round = record { runner = r; access = access.Nothing; own = own.Go Helping; rest = rest.Start s round }

-- One new page is the next free one; with none free the answer is no room.
abbrev pub into_one : Table → ℕ → ℕ → ℕ → ℕ → Option ℕ → Move
into_one t n r p k None = answers r NoRoom
into_one t n r p k (Some i) = starts r (new_split p (round_page n t.round i) 0 k) (round_after n (round_page n t.round i))

-- Two new pages are the next two free ones; with fewer free the answer is no room.
abbrev pub into_second : Table → ℕ → ℕ → ℕ → ℕ → ℕ → Option ℕ → Move
into_second t n r p k i None = answers r NoRoom
into_second t n r p k i (Some j) =
    starts r (new_split p (round_page n t.round i) (round_page n t.round j) k) (round_after n (round_page n t.round j))

abbrev pub into_two : Table → ℕ → ℕ → ℕ → ℕ → Option ℕ → Move
into_two t n r p k None = answers r NoRoom
into_two t n r p k (Some i) = into_second t n r p k i (free_from t n (i + 1))

-- Up to four keys go into one new page, more into two.
abbrev pub starting_with : (ℕ → ℕ → Bool) → Table → ℕ → ℕ → ℕ → List ℕ → Move
starting_with before t n r p ks =
    cond (nat_le (key_count ks) 4) (into_one t n r p (split_key before ks) (free_from t n 0)) (into_two t n r p (split_key before ks) (free_from t n 0))

abbrev pub starting : (ℕ → ℕ → Bool) → List ℕ → Table → ℕ → ℕ → Move
starting before ws t r p = starting_with before t (page_count ws) r p (live_keys ws (page_at t p).committed p)

-- The runner takes the slot with the taken count's number and goes to writing.
abbrev pub takes : Table → ℕ → ℕ → Move
takes t r p = record { runner = r; access = access.Nothing; own = own.Go (WritingValue p (page_at t p).taken); rest = rest.Take p }

-- A full page is split, unless a split elsewhere is to be helped first.
abbrev pub crowded : (ℕ → ℕ → Bool) → List ℕ → Table → ℕ → ℕ → Option Split → Move
crowded before ws t r p (Some s) = turns r Helping
crowded before ws t r p None = starting before ws t r p

-- An enter whose key is found is answered already there; else it takes a slot while there is one.
abbrev pub entering_page : (ℕ → ℕ → Bool) → List ℕ → Table → ℕ → ℕ → Option ℕ → Move
entering_page before ws t r p (Some s) = answers r AlreadyThere
entering_page before ws t r p None = cond (nat_lt (page_at t p).taken 8) (takes t r p) (crowded before ws t r p t.split)

-- An enter helps first if its page is splitting.
abbrev pub entering : (ℕ → ℕ → Bool) → List ℕ → Table → ℕ → ℕ → ℕ → Standing → Move
entering before ws t r k p Whole = entering_page before ws t r p (found ws (page_at t p).committed p k)
entering before ws t r k p InCopy = turns r Helping
entering before ws t r k p (InSync s) = turns r Helping
entering before ws t r k p (InLink s) = turns r Helping
entering before ws t r k p Left = entering_page before ws t r p (found ws (page_at t p).committed p k)

-- Change, remove and look hold the covering page and go to acting; enter tries that page.
abbrev pub locating_page : (ℕ → ℕ → Bool) → List ℕ → Table → ℕ → ℕ → ℕ → Operation → Move
locating_page before ws t r k p Enter = entering before ws t r k p (standing t p)
locating_page before ws t r k p Change = turns r (Acting p)
locating_page before ws t r k p Remove = turns r (Acting p)
locating_page before ws t r k p Look = turns r (Acting p)

abbrev pub locating : (ℕ → ℕ → Bool) → List ℕ → Table → ℕ → Runner → Move
locating before ws t r x = locating_page before ws t r x.key (covering before ws t x.key) x.operation
