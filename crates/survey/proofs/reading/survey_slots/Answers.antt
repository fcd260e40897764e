use Rattle.std.proofs.Common.{arith, rules}
use Rattle.protocol.proofs.Rebuilds.{slots_more}
use Rattle.survey.proofs.reading.survey_slots.Goals as goal

pub returns-then-not-is_placed : goal.returns-then-not-is_placed
returns-then-not-is_placed g c =
    let e = slots_more g.K.KeyKind.key g.K.KeyKind.before (g.M.KeptMemory.words c.args.memory.now) c.args.bounds.low c.args.bounds.high c.args.page c.loop-slot.tally c.loop-slot.slot 8 (omega arith) in search rules

pub returns-then-number-eq0 : goal.returns-then-number-eq0
returns-then-number-eq0 g c =
    let e = slots_more g.K.KeyKind.key g.K.KeyKind.before (g.M.KeptMemory.words c.args.memory.now) c.args.bounds.low c.args.bounds.high c.args.page c.loop-slot.tally c.loop-slot.slot 8 (omega arith) in search rules

pub loop-slot-preserved : goal.loop-slot-preserved
loop-slot-preserved g c =
    let e = slots_more g.K.KeyKind.key g.K.KeyKind.before (g.M.KeptMemory.words c.args.memory.now) c.args.bounds.low c.args.bounds.high c.args.page c.loop-slot.tally c.loop-slot.slot 8 (omega arith) in search rules
