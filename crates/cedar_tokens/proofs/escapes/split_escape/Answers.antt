-- Behind a backslash `x` and `u` lead to digits, and any other character is an escape by itself or none.
use Rattle.std.proofs.Common.{ap, ◌∙◌}
use Rattle.std.specs.Str.{chars}
use Rattle.cedar_grammar.specs.Escape.{between, escape, hex, unicode, simple_escape, parts_from}
use Rattle.cedar_tokens.specs.Parts.{part_view}
use Rattle.cedar_tokens.proofs.PartReading.{escape-none, escape-hex, escape-unicode, escape-simple, reads, refuses, moved, one_past}
use Rattle.cedar_tokens.proofs.escapes.split_escape.Goals as goal

pub returns-in_err-c : goal.returns-in_err-c
returns-in_err-c c = rw c.from_residual.ensures (ap (parts_from escape) c.in_err-c.ensures ∙ escape-none)

pub returns-then-c-eq120 : goal.returns-then-c-eq120
returns-then-c-eq120 c =
    moved escape hex c.args.raw.now c.in_ok-c.rest.now c.in_ok-c.c c.utf8.raw c.in_ok-c.ensures (escape-hex c.in_ok-c.c (chars c.in_ok-c.rest.now) c.if-c-eq120.true) c.split_hex.result c.split_hex.ensures

pub returns-then-c-eq117 : goal.returns-then-c-eq117
returns-then-c-eq117 c =
    moved escape unicode c.args.raw.now c.in_ok-c.rest.now c.in_ok-c.c c.utf8.raw c.in_ok-c.ensures (escape-unicode c.in_ok-c.c (chars c.in_ok-c.rest.now) c.if-c-eq117.true) c.split_unicode.result c.split_unicode.ensures

pub returns-in_err-part : goal.returns-in_err-part
returns-in_err-part c =
    rw c.from_residual-in_err-part.ensures
    (refuses escape c.args.raw.now (simple_escape c.in_ok-c.c) (parts_from between (chars c.in_ok-c.rest.now))
    (ap (parts_from escape) c.in_ok-c.ensures.characters ∙ escape-simple c.in_ok-c.c (chars c.in_ok-c.rest.now) c.if-c-eq120.false c.if-c-eq117.false) c.in_err-part.ensures)

pub returns-in_ok-part : goal.returns-in_ok-part
returns-in_ok-part c =
    let s = c.in_ok-c.ensures in
    reads escape c.args.raw.now c.in_ok-c.rest.now (simple_escape c.in_ok-c.c) (part_view c.in_ok-part.part)
    (ap (parts_from escape) s.characters ∙ escape-simple c.in_ok-c.c (chars c.in_ok-c.rest.now) c.if-c-eq120.false c.if-c-eq117.false) c.in_ok-part.ensures
    (one_past c.args.raw.now c.in_ok-c.rest.now c.in_ok-c.c c.utf8.raw s) s.shorter
