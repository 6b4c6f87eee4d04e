-- Each digit is that of one number, and the first of two is never zero.
use Rattle.std.proofs.Common.{sym, ◌∙◌, arith}
use Rattle.cedar_literals.proofs.Escaping.{digits_both, both_digits, same_digit}
use Rattle.cedar_literals.proofs.unescaping.two_digits.Goals as goal

pub returns-in_err-first : goal.returns-in_err-first
returns-in_err-first c =
    rw c.from_residual.ensures
    (λ d h e. let b = digits_both d c.args.high c.args.low h e in c.in_err-first.ensures b.0 b.3 b.5)

pub returns-in_err-second : goal.returns-in_err-second
returns-in_err-second c =
    rw c.from_residual-in_err-second.ensures
    (λ d h e. let b = digits_both d c.args.high c.args.low h e in c.in_err-second.ensures b.1 b.4 b.6)

pub returns-then-first-eq0 : goal.returns-then-first-eq0
returns-then-first-eq0 c = λ d h e.
    let b = digits_both d c.args.high c.args.low h e in
    let first = c.in_ok-first.ensures in
    let same = same_digit b.0 c.in_ok-first.first b.3 first.0 (b.5 ∙ sym first.1) in
    let zero = c.if-first-eq0.true in
    let some = b.2 in omega (arith, some, same, zero)

pub returns : goal.returns
returns c =
    let first = c.in_ok-first.ensures in
    let second = c.in_ok-second.ensures in
    let not = c.if-first-eq0.false in
    both_digits c.in_ok-first.first c.in_ok-second.second c.args.high c.args.low (omega arith) first.0 second.0 first.1 second.1
