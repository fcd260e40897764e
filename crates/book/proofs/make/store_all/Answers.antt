use Rattle.std.proofs.Common.{arith, rules}
use Rattle.protocol.proofs.Stores.{stored_more, stored_all}
use Rattle.book.proofs.make.store_all.Goals as goal

pub loop-at-preserved : goal.loop-at-preserved
loop-at-preserved g c =
    let e = stored_more (g.M.KeptMemory.words c.loop-at.memory) c.args.stores.now c.loop-at.at-index (omega arith) in search rules

pub returns : goal.returns
returns g c =
    let e = stored_all (g.M.KeptMemory.words c.loop-at.memory) c.args.stores.now c.loop-at.at-index (omega arith) in search rules
