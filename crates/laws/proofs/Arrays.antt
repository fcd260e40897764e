-- Every call keeps the table's arrays whole.
use Rattle.std.proofs.Common.{◌≡◌, ℕ, ◌-◌, Bool, true, false, cond, eqb, ltb, List, length, set, Some, None, Option, refl, ◌∙◌}
use Rattle.std.proofs.lemmas.List.{length-set, length-replicate, get_or-set_same}
use Rattle.std.proofs.lemmas.Bool.{cond_both, lt-ltb}
use Rattle.protocol.specs.declared.numbers.Operation.{Operation}
use Rattle.protocol.specs.declared.table.Runner.{Runner}
use Rattle.protocol.specs.declared.table.PageRow.{PageRow}
use Rattle.protocol.specs.declared.table.Split.{Split}
use Rattle.protocol.specs.declared.table.Tally.{Tally}
use Rattle.protocol.specs.declared.table.Table.{Table}
use Rattle.protocol.specs.declared.moves.Outcome.{Outcome}
use Rattle.protocol.specs.declared.moves.TableNext.{TableNext}
use Rattle.protocol.specs.declared.moves.TableNext.TheVariants as rest
use Rattle.protocol.specs.declared.moves.Move.{Move}
use Rattle.protocol.specs.Fields.{idle_runner, runner_at, with_runner, no_page, with_page}
use Rattle.protocol.specs.Search.{preceding}
use Rattle.protocol.specs.Plan.{planned}
use Rattle.protocol.specs.Settle.{linked, with_new_pages, table_after, settled}
use Rattle.protocol.specs.Make.{bare_table}
use Rattle.protocol.specs.Rebuild.{with_tally}
use Rattle.protocol.specs.Calls.{draws, begun_as}
use Rattle.laws.specs.Arrays.{WholeArrays, WritesAreRead, CallsKeepArrays}
use Rattle.laws.proofs.Calls.{begun_keeps, collected_keeps, stepped_keeps, made_keeps, chained_keeps, rebuilt_keeps}

-- a write in an array keeps its length

length_written : {A : Type 0} (b : Bool) (xs : List A) (i : ℕ) (x : A) → length (cond b (set xs i x) xs) ≡ length xs
length_written b xs i x = cond_both b (set xs i x) xs (λ ys. length ys ≡ length xs) (λ _. length-set xs i x) (λ _. refl)

pub runner_whole : (t : Table) (i : ℕ) (x : Runner) → WholeArrays t → WholeArrays (with_runner t i x)
runner_whole t i x W = record { runners = length_written (ltb i 8) t.runners i x ∙ W.runners; pages = W.pages }

pub page_whole : (t : Table) (p : ℕ) (x : PageRow) → WholeArrays t → WholeArrays (with_page t p x)
page_whole t p x W = record { runners = W.runners; pages = length_written (ltb p 65) t.pages p x ∙ W.pages }

-- step

pub new_pages_whole : (t : Table) (s : Split) (a : ℕ) → WholeArrays t → WholeArrays (with_new_pages t s a)
new_pages_whole t s a W =
    cond_both (eqb s.right 0) _ _ WholeArrays
    (λ _. page_whole t s.left _ W)
    (λ _. page_whole _ s.right _ (page_whole t s.left _ W))

pub linked_whole : (t : Table) (l : ℕ) (o : Option ℕ) → WholeArrays t → WholeArrays (linked t l o)
linked_whole t l None W = record { runners = W.runners; pages = W.pages }
linked_whole t l (Some q) W = page_whole t q _ W

rest_whole : (t : Table) (m : TableNext) (o : Outcome) → WholeArrays t → WholeArrays (table_after t m o)
rest_whole t rest.Stay o W = W
rest_whole t (rest.Take p) o W = page_whole t p _ W
rest_whole t (rest.Commit p i) o W = page_whole t p _ W
rest_whole t (rest.Start s r) o W = record { runners = W.runners; pages = W.pages }
rest_whole t (rest.Go s) o W = record { runners = W.runners; pages = W.pages }
rest_whole t (rest.CopyLoaded s i k) o W = record { runners = W.runners; pages = W.pages }
rest_whole t (rest.SyncLoaded s i) o W = record { runners = W.runners; pages = W.pages }
rest_whole t (rest.LevelLoaded s i old) o W = record { runners = W.runners; pages = W.pages }
rest_whole t (rest.Finish s) o W =
    let F = page_whole _ s.old no_page (linked_whole _ s.left (preceding t s.old) (new_pages_whole t s _ W)) in
    record { runners = F.runners; pages = F.pages }

pub settled_whole : (t : Table) (m : Move) (o : Outcome) → WholeArrays t → WholeArrays (settled t m o)
settled_whole t m o W = rest_whole _ m.rest o (runner_whole t m.runner _ W)

-- the other calls

pub begun_whole : (t : Table) (i : ℕ) (o : Operation) (k v : ℕ) → WholeArrays t → WholeArrays (begun_as t i o k v)
begun_whole t i o k v W =
    cond_both (draws o) _ _ WholeArrays
    (λ _. record { runners = length_written (ltb i 8) t.runners i _ ∙ W.runners; pages = W.pages })
    (λ _. record { runners = length_written (ltb i 8) t.runners i _ ∙ W.runners; pages = W.pages })

pub bare_whole : (b : Bool) (c f : ℕ) → WholeArrays (bare_table b c f)
bare_whole b c f = record { runners = length-replicate 8 idle_runner; pages = length-replicate 65 no_page }

pub tally_whole : (t : Table) (p : ℕ) (a : Tally) → WholeArrays t → WholeArrays (with_tally t p a)
tally_whole t p a W = record { runners = W.runners; pages = length_written (ltb p 65) t.pages p _ ∙ W.pages }

-- what is written is read

pub writes_are_read : WritesAreRead
writes_are_read =
    record {
      runner = λ t i x W h. rw (lt-ltb i 8 h) (get_or-set_same t.runners i x idle_runner (rw W.runners h));
      page = λ t p x W h. rw (lt-ltb p 65 h) (get_or-set_same t.pages p x no_page (rw W.pages h));
    }

pub calls_keep_arrays : CallsKeepArrays
calls_keep_arrays =
    record {
      closed = bare_whole false 0 0;
      make = λ ws t r W. made_keeps WholeArrays ws t r W (λ _. page_whole (bare_table true r 1) 1 _ (bare_whole true r 1));
      rebuild = λ key before ws t r W.
          rebuilt_keeps WholeArrays WholeArrays ws (λ u p a _. tally_whole u p a) (λ u h. h) key before t r (chained_keeps WholeArrays ws (bare_whole true) (λ u p q _. page_whole u p _) r) W;
      begin = λ key t r o k v W. begun_keeps WholeArrays key t r o k v W (λ m e. begun_whole t (r - 1) m k v W);
      step = λ before ws t r W. stepped_keeps WholeArrays before ws t r W (λ _. settled_whole t (planned before ws t (r - 1) (runner_at t (r - 1))) _ W);
      collect = λ t r W. collected_keeps WholeArrays t r W (runner_whole t (r - 1) idle_runner W);
      writes = writes_are_read;
    }
