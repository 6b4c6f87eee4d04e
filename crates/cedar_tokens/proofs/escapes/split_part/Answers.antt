-- A backslash leads to an escape, a carriage return is refused, and any other character is itself.
use Rattle.std.proofs.Common.{◌≡◌, length, ap, ◌∙◌, arith}
use Rattle.std.specs.Str.{chars}
use Rattle.cedar_grammar.specs.Escape.{between, escape, parts_from}
use Rattle.cedar_tokens.proofs.Rests.{chars-some}
use Rattle.cedar_tokens.proofs.PartReading.{between-escape, between-return, between-plain, moved, one_past}
use Rattle.cedar_tokens.proofs.escapes.split_part.Goals as goal

pub returns-in_err-c : goal.returns-in_err-c
returns-in_err-c c =
    let some = chars-some c.args.raw.now c.utf8.raw c.requires in
    let none : length (chars c.args.raw.now) ≡ 0 = ap length c.in_err-c.ensures in absurd (omega arith)

pub returns-then-c-eq92 : goal.returns-then-c-eq92
returns-then-c-eq92 c =
    moved between escape c.args.raw.now c.in_ok-c.rest.now c.in_ok-c.c c.utf8.raw c.in_ok-c.ensures (between-escape c.in_ok-c.c (chars c.in_ok-c.rest.now) c.if-c-eq92.true) c.split_escape.result c.split_escape.ensures

pub returns-then-c-eq13 : goal.returns-then-c-eq13
returns-then-c-eq13 c = ap (parts_from between) c.in_ok-c.ensures.characters ∙ between-return c.in_ok-c.c (chars c.in_ok-c.rest.now) c.if-c-eq13.true

pub returns-else-c-eq13 : goal.returns-else-c-eq13
returns-else-c-eq13 c =
    let s = c.in_ok-c.ensures in
    record {
      parts = ap (parts_from between) s.characters ∙ between-plain c.in_ok-c.c (chars c.in_ok-c.rest.now) c.if-c-eq92.false c.if-c-eq13.false;
      cut = one_past c.args.raw.now c.in_ok-c.rest.now c.in_ok-c.c c.utf8.raw s;
      shorter = s.shorter;
    }
