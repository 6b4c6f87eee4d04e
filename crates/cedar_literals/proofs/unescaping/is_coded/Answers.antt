-- A character that is written by its code is a control without a name.
use Rattle.std.proofs.Common.{sym, ◌∙◌}
use Rattle.std.proofs.lemmas.Bool.{false≢true}
use Rattle.cedar_literals.proofs.Escaping.{code_only}
use Rattle.cedar_literals.proofs.unescaping.is_coded.Goals as goal

pub returns-else-is_control : goal.returns-else-is_control
returns-else-is_control c = (λ h. absurd (false≢true (sym c.if-is_control.false ∙ h)), λ e. c.is_control.ensures ∙ (code_only c.args.c e).0)
