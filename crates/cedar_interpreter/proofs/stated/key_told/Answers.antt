-- A record's keys are those of its map.
use Rattle.std.proofs.Common.{◌∙◌, ap, sym, BTreeMap, Global}
use Rattle.std.specs.Prelude.{is_some}
use Rattle.std.specs.Map.{lookup}
use Rattle.std.specs.declared.rc.RcStr.{RcStr}
use Rattle.cedar_trees.specs.declared.expr.Expr.{Expr}
use Rattle.cedar_interpreter.proofs.Left.{key_here}
use Rattle.cedar_interpreter.proofs.Projecting.{is_name}
use Rattle.cedar_interpreter.proofs.stated.key_told.Goals as goal

pub returns-then-is_projectable : goal.returns-then-is_projectable
returns-then-is_projectable c =
    key_here c.args.expr.now c.in-Record.entries c.in-Record.is (sym c.is_projectable.ensures ∙ c.if-is_projectable.true) c.args.key.now c.contains_key.result
    (c.contains_key.ensures ∙ ap (λ (m : BTreeMap (RcStr Global) (Expr (Unit {0}))). is_some (lookup (is_name c.args.key.now) m.entries)) c.deref.ensures)
