-- Behind a backslash stands `u` and a code or a name, so anything else begins no character.
use Rattle.cedar_literals.proofs.Escaping.{no_escape, no_name}
use Rattle.cedar_literals.proofs.unescaping.split_escape.Goals as goal

pub returns-in_err-c : goal.returns-in_err-c
returns-in_err-c c = rw c.from_residual.ensures (no_escape c.args.text.now c.in_err-c.ensures)

pub returns-in_err-named : goal.returns-in_err-named
returns-in_err-named c =
    rw c.from_residual-in_err-named.ensures (no_name c.args.text.now c.in_ok-c.rest.now c.in_ok-c.c c.in_ok-c.ensures.whole c.if-c-eq117.false c.in_err-named.ensures)
