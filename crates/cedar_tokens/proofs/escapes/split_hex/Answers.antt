-- Fewer than two characters are no escape, and two are the one that their code names, if any.
use Rattle.std.proofs.Common.{ap, ◌∙◌, ◌∷◌, arith}
use Rattle.std.specs.Str.{chars}
use Rattle.cedar_grammar.specs.Escape.{between, hex, named, hex_escape, parts_from}
use Rattle.cedar_tokens.proofs.Rests.{rest_past}
use Rattle.cedar_tokens.proofs.PartReading.{hex-none, hex-one, hex-two, reads, refuses, one_past}
use Rattle.cedar_tokens.proofs.escapes.split_hex.Goals as goal

pub returns-in_err-high : goal.returns-in_err-high
returns-in_err-high c = rw c.from_residual.ensures (ap (parts_from hex) c.in_err-high.ensures ∙ hex-none)

pub returns-in_err-low : goal.returns-in_err-low
returns-in_err-low c =
    rw c.from_residual-in_err-low.ensures (ap (parts_from hex) (c.in_ok-high.ensures.characters ∙ ap (λ cs. c.in_ok-high.high ∷ cs) c.in_err-low.ensures) ∙ hex-one c.in_ok-high.high)

pub returns-in_err-c : goal.returns-in_err-c
returns-in_err-c c =
    rw c.from_residual-in_err-c.ensures
    (refuses hex c.args.raw.now (hex_escape c.in_ok-high.high c.in_ok-low.low) (parts_from between (chars c.in_ok-low.rest.now))
    (ap (parts_from hex) (c.in_ok-high.ensures.characters ∙ ap (λ cs. c.in_ok-high.high ∷ cs) c.in_ok-low.ensures.characters) ∙ hex-two c.in_ok-high.high c.in_ok-low.low (chars c.in_ok-low.rest.now)) c.in_err-c.ensures)

pub returns : goal.returns
returns c =
    let s = c.in_ok-high.ensures in
    let t = c.in_ok-low.ensures in
    let cut = one_past c.args.raw.now c.in_ok-high.rest.now c.in_ok-high.high c.utf8.raw s in
    reads hex c.args.raw.now c.in_ok-low.rest.now (hex_escape c.in_ok-high.high c.in_ok-low.low) (named c.in_ok-c.c)
    (ap (parts_from hex) (s.characters ∙ ap (λ cs. c.in_ok-high.high ∷ cs) t.characters) ∙ hex-two c.in_ok-high.high c.in_ok-low.low (chars c.in_ok-low.rest.now)) c.in_ok-c.ensures
    (rest_past c.args.raw.now c.in_ok-high.rest.now c.in_ok-low.rest.now c.in_ok-low.low cut t)
    (let one = s.shorter in let two = t.shorter in omega arith)
