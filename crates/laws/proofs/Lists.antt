-- Every call keeps the page list of an open book, and the pages of a split apart from it.
use Rattle.std.proofs.Common.{◌≡◌, ℕ, ◌-◌, true, false, Ok, Err, Result, sym, refl, ◌∙◌}
use Rattle.std.specs.Option.{unwrap_or}
use Rattle.std.proofs.lemmas.Bool.{cond_both, both_ways}
use Rattle.protocol.specs.declared.numbers.Operation.{Operation}
use Rattle.protocol.specs.declared.numbers.Refusal.{Refusal}
use Rattle.protocol.specs.declared.table.Runner.{Runner}
use Rattle.protocol.specs.declared.table.Table.{Table}
use Rattle.protocol.specs.Fields.{held, runner_at, with_runner, idle_runner}
use Rattle.protocol.specs.Plan.{planned}
use Rattle.protocol.specs.Make.{bare_table, made_table}
use Rattle.protocol.specs.Rebuild.{chained}
use Rattle.protocol.specs.Calls.{draws, started, begun_as}
use Rattle.laws.specs.Arrays.{WholeArrays}
use Rattle.laws.specs.Lists.{WellListed, ListedIfOpen, CallsKeepLists}
use Rattle.laws.proofs.Arrays.{runner_whole, page_whole, bare_whole, begun_whole, tally_whole, settled_whole}
use Rattle.laws.proofs.Calls.{FoundSo, begun_keeps, collected_keeps, stepped_keeps, made_keeps, chained_keeps, rebuilt_keeps}
use Rattle.laws.proofs.Fitting.{none_is_some}
use Rattle.laws.proofs.ListHolds.{hold_none, apart_runner, apart_as, move_or_none, move_listed}
use Rattle.laws.proofs.ListMoves.{planned_holds}
use Rattle.laws.proofs.ListStart.{covering_listed}
use Rattle.laws.proofs.ListRebuild.{JustListed, chained_lists, tally_lists, made_lists}

-- a runner that lets go changes no list

let_go : (t : Table) (i : ℕ) (x : Runner) → unwrap_or (held x.stage) 0 ≡ 0 → WellListed t → WellListed (with_runner t i x)
let_go t i x e G = record { place = G.place; prev = G.prev; links = G.links; apart = λ s d. apart_runner t i x s (hold_none t (held (runner_at t i).stage) (held x.stage) e) (G.apart s d) }

started_listed : (t : Table) (i : ℕ) (x : Runner) (l : ℕ) → unwrap_or (held x.stage) 0 ≡ 0 → WellListed t → WellListed (started t i x l)
started_listed t i x l e G =
    let H = let_go t i x e G in
    record { place = G.place; prev = G.prev; links = G.links; apart = λ s d. apart_as (with_runner t i x) (started t i x l) s (λ p. refl) (λ j. refl) (H.apart s d) }

begun_listed : (t : Table) (i : ℕ) (o : Operation) (k v : ℕ) → ListedIfOpen t → ListedIfOpen (begun_as t i o k v)
begun_listed t i o k v O =
    let W = begun_whole t i o k v O.arrays in
    record {
      arrays = W;
      list = cond_both (draws o) _ _ (λ u. u.opened ≡ true → WellListed u) (λ _ e. started_listed t i _ _ refl (O.list e)) (λ _ e. started_listed t i _ _ refl (O.list e));
    }

-- a table that has its list and no split

just_listed : (u : Table) → WholeArrays u × JustListed u → ListedIfOpen u
just_listed u h =
    let J = h.1 in
    let H = J.links in
    record { arrays = h.0; list = λ _. record { place = H.place; prev = H.prev; links = H.links; apart = λ s e. none_is_some (sym J.none ∙ e) } }

found_both : (P Q : Table → Type 0) (r : Result Table Refusal) → FoundSo P r → FoundSo Q r → FoundSo (λ u. P u × Q u) r
found_both P Q (Ok t) p q = (p, q)
found_both P Q (Err e) p q = tt

pub calls_keep_lists : CallsKeepLists
calls_keep_lists =
    record {
      closed = record { arrays = bare_whole false 0 0; list = λ e. absurd (both_ways false refl e) };
      make = λ ws t r O. made_keeps ListedIfOpen ws t r O (λ _. just_listed (made_table r) (page_whole (bare_table true r 1) 1 _ (bare_whole true r 1), made_lists r));
      rebuild = λ key before ws t r O.
          rebuilt_keeps (λ u. WholeArrays u × JustListed u) ListedIfOpen ws (λ u p a _ h. (tally_whole u p a h.0, tally_lists u p a h.1)) just_listed key before t r
          (found_both WholeArrays JustListed (chained ws r) (chained_keeps WholeArrays ws (bare_whole true) (λ u p q _. page_whole u p _) r) (chained_lists ws r)) O;
      begin = λ key t r o k v O. begun_keeps ListedIfOpen key t r o k v O (λ m e. begun_listed t (r - 1) m k v O);
      step = λ before ws t r O.
          stepped_keeps ListedIfOpen before ws t r O
          (λ e.
          let m = planned before ws t (r - 1) (runner_at t (r - 1)) in
          record { arrays = settled_whole t m _ O.arrays; list = λ _. move_listed t m _ O.arrays (O.list e) (move_or_none t m (planned_holds before ws t (r - 1) (O.list e))) });
      collect = λ t r O.
          collected_keeps ListedIfOpen t r O (record { arrays = runner_whole t (r - 1) idle_runner O.arrays; list = λ e. let_go t (r - 1) idle_runner refl (O.list e) });
      covering = covering_listed;
    }
