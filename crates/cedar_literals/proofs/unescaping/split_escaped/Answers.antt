-- What stands for a character begins with a backslash or is that character, which then is plain.
use Rattle.std.proofs.Common.{sym, ◌∙◌}
use Rattle.std.proofs.lemmas.Bool.{false≢true}
use Rattle.cedar_literals.proofs.Escaping.{nothing_begins, no_plain}
use Rattle.cedar_literals.proofs.unescaping.split_escaped.Goals as goal

pub returns-in_err-c : goal.returns-in_err-c
returns-in_err-c c = rw c.from_residual.ensures (nothing_begins c.args.text.now c.in_err-c.ensures)

pub returns-else-is_plain : goal.returns-else-is_plain
returns-else-is_plain c =
    no_plain c.args.text.now c.in_ok-c.rest.now c.in_ok-c.c c.in_ok-c.ensures.whole c.if-c-eq92.false (λ e. false≢true (sym c.if-is_plain.false ∙ c.is_plain.ensures.1 e))
