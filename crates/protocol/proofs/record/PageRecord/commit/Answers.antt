use Rattle.std.proofs.Common.{◌*◌, ◌%◌, ◌^◌, ◌<◌, arith}
use lib.Bits.{or_lt}
use lib.Pow.{pow-lt}
use Rattle.protocol.proofs.record.PageRecord.commit.Goals as goal

pub invariant_of-self : goal.invariant_of-self
invariant_of-self c =
    let p : 2 ^ c.args.slot < 2 ^ c.args.self.now.taken = pow-lt (omega arith) in
    let b : (1 * 2 ^ c.args.slot) % 256 < 2 ^ c.args.self.now.taken = omega arith in
    record { few = c.args.self.now.few; below = or_lt c.args.self.now.taken c.args.self.now.committed _ c.args.self.now.below b }
