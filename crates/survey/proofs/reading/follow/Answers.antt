use Rattle.std.proofs.Common.{arith, rules}
use Rattle.protocol.proofs.Rebuilds.{chain_more}
use Rattle.survey.proofs.reading.follow.Goals as goal

pub returns-then-page_at : goal.returns-then-page_at
returns-then-page_at g c =
    let e = chain_more (g.M.KeptMemory.words c.args.memory.now) c.loop-i.found c.loop-i.page c.loop-i._i 64 (omega arith) in search rules
