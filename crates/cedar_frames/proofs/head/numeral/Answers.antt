-- The value is that of the digits so far and below ten to their number, so 32 digits don't overflow.
use Rattle.std.proofs.Common.{arith, ◌<◌, get_or, ◌+◌, ◌*◌, ap, ◌∙◌, ◌^◌}
use Rattle.cedar_frames.proofs.Heads.{fits_more, small_more, number_step, digits_step, not_numeral, not_low, not_high}
use Rattle.cedar_frames.proofs.head.numeral.Goals as goal
use Rattle.cedar_frames.proofs.head.numeral.Goals.{then-digit-lt48-via-then-digit-lt48, then-digit-lt48-via-else-digit-lt48+then-digit-gt57}

pub loop-digit-preserved : goal.loop-digit-preserved
loop-digit-preserved c =
    let xs = c.args.digits.now in
    let i = c.loop-digit.digit-index in
    record {
      digits = digits_step xs i c.loop-digit-test.true c.loop-digit.invariant.digits c.if-digit-lt48.false c.if-digit-gt57.false;
      value = ap (λ n. c.loop-digit.value * 10 + n) c.from.ensures ∙ number_step xs i c.loop-digit.value c.loop-digit-test.true c.loop-digit.invariant.value;
      small = small_more c.loop-digit.value c.from.result i c.loop-digit.invariant.small (omega arith);
    }

pub overflow_add-value : goal.overflow_add-value
overflow_add-value c =
    let d : c.from.result < 10 = omega arith in
    let h : c.loop-digit.digit-index < 32 = omega arith in
    let fits = fits_more c.loop-digit.value c.from.result c.loop-digit.digit-index c.loop-digit.invariant.small d h in
    omega arith

pub overflow_mul-value : goal.overflow_mul-value
overflow_mul-value c =
    let h : c.loop-digit.digit-index < 32 = omega arith in
    let fits : c.loop-digit.value * 10 + 0 < 2 ^ 128 = fits_more c.loop-digit.value 0 c.loop-digit.digit-index c.loop-digit.invariant.small (omega arith) h in
    omega arith

pub returns-then-digit-lt48-clause-none : goal.returns-then-digit-lt48-clause-none
returns-then-digit-lt48-clause-none c = elim c.then-digit-lt48.branch [
  | then-digit-lt48-via-then-digit-lt48 w ↦ not_numeral c.args.digits.now c.loop-digit.digit-index c.loop-digit-test.true (not_low (get_or c.args.digits.now c.loop-digit.digit-index 0) w.if-digit-lt48.true)
  | then-digit-lt48-via-else-digit-lt48+then-digit-gt57 w ↦ not_numeral c.args.digits.now c.loop-digit.digit-index c.loop-digit-test.true (not_high (get_or c.args.digits.now c.loop-digit.digit-index 0) w.if-digit-gt57.true)
]
