use Rattle.std.proofs.Common.{◌∙◌, sym, arith}
use Rattle.commands.proofs.Numerals.{left_no_room}
use Rattle.commands.proofs.number.number.Goals as goal

pub returns-in_err-checked_mul : goal.returns-in_err-checked_mul
returns-in_err-checked_mul c =
    c.from_residual.ensures
    ∙ left_no_room c.args.text.now c.loop-b.b-index c.loop-b.value c.args.most c.loop-b.invariant (omega (arith, c.ranges.most.fits)) c.loop-b-test.true (sym c.if-not-is_ascii_digit.ensures.value)
    (omega (arith, c.in_err-checked_mul.ensures {u = tt}))

pub returns-in_err-value : goal.returns-in_err-value
returns-in_err-value c =
    c.from_residual-in_err-value.ensures
    ∙ left_no_room c.args.text.now c.loop-b.b-index c.loop-b.value c.args.most c.loop-b.invariant (omega (arith, c.ranges.most.fits)) c.loop-b-test.true (sym c.if-not-is_ascii_digit.ensures.value)
    (omega (arith, c.in_ok-checked_mul.ensures, c.from.ensures, c.in_err-value.ensures {u = tt}))
