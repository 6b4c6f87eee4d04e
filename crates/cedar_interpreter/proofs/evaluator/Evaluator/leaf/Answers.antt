-- Each leaf by what is held for it.
use Rattle.std.proofs.Common.{◌∙◌, ap, sym}
use Rattle.cedar_language.specs.Tree.{Slot, Unknown}
use Rattle.cedar_literals.specs.Variables.{variable_of}
use Rattle.cedar_restricted.specs.PartialValues.{partial_of}
use Rattle.cedar_trees.specs.Bare.{bare, bare_kind}
use Rattle.cedar_trees.specs.Unknowns.{unknown_name, unknown_type}
use Rattle.cedar_trees.proofs.Bares.{bare_is, bare-Var, bare-Slot, bare-Unknown}
use Rattle.cedar_interpreter.specs.Holding.{held_by, variable_in}
use Rattle.cedar_interpreter.specs.Meeting.{part_answer}
use Rattle.cedar_interpreter.specs.Naming.{naming_in}
use Rattle.cedar_interpreter.proofs.Applied.{leaf_as}
use Rattle.cedar_interpreter.proofs.evaluator.Evaluator.leaf.Goals as goal

pub returns-in_ok-variable-in-Var : goal.returns-in_ok-variable-in-Var
returns-in_ok-variable-in-Var g c =
    λ naming facts. ap (naming_in naming facts (held_by c.args.self.now c.args.slots.now)) (bare_is (Unit {0}) c.args.expr.now ∙ ap bare_kind c.in-Var.is ∙ bare-Var (Unit {0}) c.in-Var.var)
    ∙ ap (λ vs. part_answer (partial_of (variable_in vs (variable_of c.in-Var.var)))) (sym c.get.ensures)
    ∙ sym (ap part_answer c.in_ok-variable-in-Var.ensures)

pub returns-in-Slot : goal.returns-in-Slot
returns-in-Slot g c =
    λ naming facts. leaf_as naming facts (held_by c.args.self.now c.args.slots.now) (bare c.args.expr.now) (Slot c.in-Slot.slot) c.bound.result (bare_is (Unit {0}) c.args.expr.now ∙ ap bare_kind c.in-Slot.is ∙ bare-Slot (Unit {0}) c.in-Slot.slot) c.bound.ensures

pub returns-in-Unknown : goal.returns-in-Unknown
returns-in-Unknown g c =
    λ naming facts. leaf_as naming facts (held_by c.args.self.now c.args.slots.now) (bare c.args.expr.now) (Unknown (unknown_name c.in-Unknown.name) (unknown_type c.in-Unknown.name)) c.unknown.result (bare_is (Unit {0}) c.args.expr.now ∙ ap bare_kind c.in-Unknown.is ∙ bare-Unknown (Unit {0}) c.in-Unknown.name) c.unknown.ensures
