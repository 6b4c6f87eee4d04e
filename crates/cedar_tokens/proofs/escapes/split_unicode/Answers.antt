-- The digits so far are at most six, so their code is small; the closing bracket tells what they name.
use Rattle.std.proofs.Common.{arith}
use Rattle.std.specs.Str.{chars}
use Rattle.cedar_grammar.specs.Escape.{unicode, between, named, unicode_escape, parts_from}
use Rattle.cedar_tokens.proofs.Rests.{rest_past}
use Rattle.cedar_tokens.proofs.PartReading.{unicode-none, reads, refuses, one_past, code_small, code_next, digits_begin, digits_turn, digits_closed, digits_stuck, digits_full, digits_end}
use Rattle.cedar_tokens.proofs.escapes.split_unicode.Goals as goal

pub returns-in_err-rest : goal.returns-in_err-rest
returns-in_err-rest c = rw c.from_residual.ensures (unicode-none (chars c.args.raw.now) c.in_err-rest.ensures)

pub digits-init : goal.digits-init
digits-init c =
    let s = c.in_ok-rest.ensures in
    record {
      utf8 = s.utf8;
      rest = one_past c.args.raw.now c.in_ok-rest.rest.now 123 c.utf8.raw s;
      few = omega arith;
      small = omega arith;
      same = digits_begin c.args.raw.now c.in_ok-rest.rest.now s.characters;
    }

pub returns-in_err-c : goal.returns-in_err-c
returns-in_err-c c =
    rw c.from_residual-in_err-c.ensures
    (refuses unicode c.args.raw.now (unicode_escape c.digits.count c.digits.code) (parts_from between (chars c.in-Some.after.now))
    (digits_closed c.args.raw.now c.digits.rest.now c.in-Some.after.now c.digits.count c.digits.code c.in-Some.c c.digits.invariant.same c.in-Some.ensures c.if-c-eq125.true) c.in_err-c.ensures)

pub returns-then-c-eq125 : goal.returns-then-c-eq125
returns-then-c-eq125 c =
    let i = c.digits.invariant in
    let s = c.in-Some.ensures in
    reads unicode c.args.raw.now c.in-Some.after.now (unicode_escape c.digits.count c.digits.code) (named c.in_ok-c.c)
    (digits_closed c.args.raw.now c.digits.rest.now c.in-Some.after.now c.digits.count c.digits.code c.in-Some.c i.same s c.if-c-eq125.true) c.in_ok-c.ensures
    (rest_past c.args.raw.now c.digits.rest.now c.in-Some.after.now c.in-Some.c i.rest s)
    (let one = i.rest.short in let two = s.shorter in omega arith)

pub returns-in_err-digit : goal.returns-in_err-digit
returns-in_err-digit c =
    rw c.from_residual-in_err-digit.ensures
    (digits_stuck c.args.raw.now c.digits.rest.now c.in-Some.after.now c.digits.count c.digits.code c.in-Some.c c.digits.invariant.same c.in-Some.ensures c.if-c-eq125.false c.in_err-digit.ensures.value)

pub returns-then-count-eq6 : goal.returns-then-count-eq6
returns-then-count-eq6 c =
    digits_full c.args.raw.now c.digits.rest.now c.in-Some.after.now c.digits.count c.digits.code c.in-Some.c c.digits.invariant.same c.in-Some.ensures c.if-c-eq125.false c.in_ok-digit.ensures.value.0 c.if-count-eq6.true

pub overflow_mul-code : goal.overflow_mul-code
overflow_mul-code c = let small = code_small c.digits.count c.digits.code c.digits.invariant.few c.if-count-eq6.false c.digits.invariant.small in omega arith

pub overflow_add-code : goal.overflow_add-code
overflow_add-code c =
    let small = code_small c.digits.count c.digits.code c.digits.invariant.few c.if-count-eq6.false c.digits.invariant.small in
    let digit = c.in_ok-digit.ensures.value in omega arith

pub digits-preserved : goal.digits-preserved
digits-preserved c =
    let i = c.digits.invariant in
    let s = c.in-Some.ensures in
    let digit = c.in_ok-digit.ensures.value in
    record {
      utf8 = s.utf8;
      rest = rest_past c.args.raw.now c.digits.rest.now c.in-Some.after.now c.in-Some.c i.rest s;
      few = let not = c.if-count-eq6.false in omega arith;
      small = code_next c.digits.count c.digits.code c.in_ok-digit.digit i.small (omega arith);
      same = digits_turn c.args.raw.now c.digits.rest.now c.in-Some.after.now c.digits.count c.digits.code c.in-Some.c c.in_ok-digit.digit i.same s c.if-c-eq125.false digit.0 digit.1;
    }

pub returns : goal.returns
returns c = digits_end c.args.raw.now c.digits.rest.now c.digits.count c.digits.code c.digits.invariant.same c.in_default.ensures
