-- What the group has at the id.
use Rattle.std.specs.declared.alloc.Global.{Global}
use Rattle.std.specs.declared.rc.Rc.{Rc}
use Rattle.cedar_policy_parts.specs.Effects.{effect_of}
use Rattle.cedar_trees.specs.declared.expr.Expr.{Expr}
use Rattle.cedar_evaluator.specs.Given.{Noted}
use Rattle.cedar_evaluator.specs.Residuals.{left_open}
use Rattle.cedar_evaluator.proofs.Sought.{none_found, one_found}
use Rattle.cedar_evaluator.proofs.readers.open_at.Goals as goal

pub returns-in-None : goal.returns-in-None
returns-in-None c =
    let id = c.args.id.now in
    none_found id (λ (v : Rc (Expr (Unit {0})) Global × Noted). (left_open (effect_of c.args.effect) (id, v)).1) c.args.group.now c.in-None.ensures

pub returns-in_ok-policy_of-in-Some : goal.returns-in_ok-policy_of-in-Some
returns-in_ok-policy_of-in-Some c =
    let id = c.args.id.now in
    one_found id (λ (v : Rc (Expr (Unit {0})) Global × Noted). (left_open (effect_of c.args.effect) (id, v)).1) c.args.group.now c.in-Some.kept.now c.in_ok-policy_of-in-Some.field-0 c.in-Some.ensures
    c.in_ok-policy_of-in-Some.ensures
