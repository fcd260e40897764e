use Rattle.std.proofs.Common.{sym, ◌∙◌, arith}
use Rattle.std.proofs.lemmas.Result.{err_from_is_err_and}
use Rattle.survey.proofs.Walks.{survey_refused}
use Rattle.survey.proofs.reading.survey_pages.Goals as goal

pub returns-in_err-found : goal.returns-in_err-found
returns-in_err-found g c =
    let p = err_from_is_err_and c.from_residual.result c.from_residual.ensures.1 in
    rw (p.1, p.2) (sym (c.loop-i.invariant ∙ survey_refused g.K.KeyKind.key g.K.KeyKind.before (g.M.KeptMemory.words c.args.memory.now) c.loop-i.found c.loop-i.page c.loop-i._i (omega arith) c.if-page-eq0.false _ (sym c.survey_page.ensures ∙ c.in_err-found.was)))
