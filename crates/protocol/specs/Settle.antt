-- What a step's access does to the row and gives, and what the table is afterwards.
use Rattle.std.specs.Prelude.{ℕ, ◌-◌, ◌^◌, Bool, true, false, cond, not, ◌&&◌, ◌||◌, List, length, Some, None, Option, ◌==◌, nat_le, nat_lt}
use Rattle.memory.specs.Row.{row_stored, row_swapped}
use Rattle.protocol.specs.declared.numbers.Answer.TheVariants.{Done}
use Rattle.protocol.specs.declared.table.Stage.{Stage}
use Rattle.protocol.specs.declared.table.Stage.TheVariants.{PendingOld, PendingSwap, Comparing, ComparingSwap, Answered}
use Rattle.protocol.specs.declared.table.PageRow.{PageRow}
use Rattle.protocol.specs.declared.table.Progress.{Progress}
use Rattle.protocol.specs.declared.table.Progress.TheVariants.{CopyingValue, Syncing, SyncingNew, SyncingSwap}
use Rattle.protocol.specs.declared.table.Split.{Split}
use Rattle.protocol.specs.declared.table.Table.{Table}
use Rattle.protocol.specs.declared.moves.Access.{Access}
use Rattle.protocol.specs.declared.moves.Access.TheVariants as access
use Rattle.protocol.specs.declared.moves.Outcome.{Outcome}
use Rattle.protocol.specs.declared.moves.Outcome.TheVariants.{Nothing, Loaded, Swapped}
use Rattle.protocol.specs.declared.moves.RunnerNext.{RunnerNext}
use Rattle.protocol.specs.declared.moves.RunnerNext.TheVariants as own
use Rattle.protocol.specs.declared.moves.TableNext.{TableNext}
use Rattle.protocol.specs.declared.moves.TableNext.TheVariants as rest
use Rattle.protocol.specs.declared.moves.Move.{Move}
use Rattle.protocol.specs.Layout.{word}
use Rattle.values.specs.ValueWord.{mark_of, value_of, same}
use Rattle.protocol.specs.Fields.{runner_at, with_runner, with_stage, no_page, page_at, with_page, with_first, with_split, row_taken, row_committed, with_progress}
use Rattle.protocol.specs.Search.{preceding}
use Rattle.protocol.specs.Split.{slot_after, old_next}

-- The row after the access: a store or a swap changes at most its own word.
abbrev pub performed : List ℕ → Access → List ℕ
performed ws access.Nothing = ws
performed ws (access.Load a) = ws
performed ws (access.Store a w) = row_stored ws a w
performed ws (access.Swap a e w) = row_swapped ws a e w

-- What the access gives: a load the word, a swap whether it wrote.
abbrev pub outcome : List ℕ → Access → Outcome
outcome ws access.Nothing = Nothing
outcome ws (access.Load a) = Loaded (word ws a)
outcome ws (access.Store a w) = Nothing
outcome ws (access.Swap a e w) = Swapped (cond (nat_lt a (length ws)) (word ws a == e) false)

abbrev pub loaded_word : Outcome → ℕ
loaded_word Nothing = 0
loaded_word (Loaded w) = w
loaded_word (Swapped b) = 0

abbrev pub did_swap : Outcome → Bool
did_swap Nothing = false
did_swap (Loaded w) = false
did_swap (Swapped b) = b

-- A comparing look answers the new word's value if its mark is clear or it is the same as the old word; else it goes on to swap.
abbrev pub judged : ℕ → ℕ → ℕ → ℕ → Stage
judged p n o w = cond (not (mark_of w) || same w o) (Answered Done (value_of w)) (ComparingSwap p n w o)

-- A pending change is done if the old word is the same as the new one; else it goes on to swap.
abbrev pub weighed : ℕ → ℕ → ℕ → ℕ → ℕ → Stage
weighed p i n w o = cond (same o w) (Answered Done 0) (PendingSwap p i n w o)

-- The runner's stage after the access.
abbrev pub stage_after : Stage → RunnerNext → Outcome → Stage
stage_after s own.Stay o = s
stage_after s (own.Go n) o = n
stage_after s own.AnswerLoaded o = Answered Done (value_of (loaded_word o))
stage_after s (own.CompareLoaded p) o = Comparing p (loaded_word o)
stage_after s (own.JudgeLoaded p n old) o = judged p n old (loaded_word o)
stage_after s (own.PendLoaded p i n) o = PendingOld p i n (loaded_word o)
stage_after s (own.WeighLoaded p i n w) o = weighed p i n w (loaded_word o)
stage_after s (own.BySwap written missed) o = cond (did_swap o) written missed

-- A synced slot is level if its new word is clear or the same as the old word; else it is swapped.
abbrev pub levelled : ℕ → ℕ → ℕ → Progress
levelled i o w = cond (mark_of w && not (same w o)) (SyncingSwap i o w) (Syncing (slot_after i))

-- A listed page whose first n slots are taken and committed.
abbrev pub filled : ℕ → ℕ → PageRow
filled next n = cond (nat_le n 8) (record { listed = true; next = next; taken = n; committed = 2 ^ n - 1 }) (record { listed = true; next = next; taken = 0; committed = 0 })

abbrev pub with_next : PageRow → ℕ → PageRow
with_next p q = record { listed = p.listed; next = q; taken = p.taken; committed = p.committed }

-- Left follows the page before the old one, or is the first.
abbrev pub linked : Table → ℕ → Option ℕ → Table
linked t left None = with_first t left
linked t left (Some q) = with_page t q (with_next (page_at t q) left)

-- The new pages stand in the list in the old page's place, their copied slots taken and committed, and the split is over.
abbrev pub with_new_pages : Table → Split → ℕ → Table
with_new_pages t s after =
    cond (s.right == 0)
    (with_page t s.left (filled after s.lefts))
    (with_page (with_page t s.left (filled s.right s.lefts)) s.right (filled after s.rights))

abbrev pub finished : Table → Split → Table
finished t s =
    with_split (with_page (linked (with_new_pages t s (old_next t s)) s.left (preceding t s.old)) s.old no_page) None t.round

-- The split's next step is another, and the round stays.
abbrev pub split_goes : Table → Split → Table
split_goes t s = with_split t (Some s) t.round

-- The rest of the table after the access.
abbrev pub table_after : Table → TableNext → Outcome → Table
table_after t rest.Stay o = t
table_after t (rest.Take p) o = with_page t p (row_taken (page_at t p))
table_after t (rest.Commit p i) o = with_page t p (row_committed (page_at t p) i)
table_after t (rest.Start s round) o = with_split t (Some s) round
table_after t (rest.Go s) o = split_goes t s
table_after t (rest.CopyLoaded s i k) o = split_goes t (with_progress s (CopyingValue i k (loaded_word o)))
table_after t (rest.SyncLoaded s i) o = split_goes t (with_progress s (SyncingNew i (loaded_word o)))
table_after t (rest.LevelLoaded s i old) o = split_goes t (with_progress s (levelled i old (loaded_word o)))
table_after t (rest.Finish s) o = finished t s

-- The table after a move and its outcome: the runner's record first, then the rest.
abbrev pub settled : Table → Move → Outcome → Table
settled t m o =
    table_after (with_runner t m.runner (with_stage (runner_at t m.runner) (stage_after (runner_at t m.runner).stage m.own o))) m.rest o
