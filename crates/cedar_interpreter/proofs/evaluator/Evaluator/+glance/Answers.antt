-- An attribute and an operator of lent values are told by what is lent of their parts; the other constructs by the lemmas that their
-- functions name.
use Rattle.std.proofs.Common.{◌≡◌, ◌+◌, ◌≤◌, ◌∙◌, ap, sym, arith}
use Rattle.std.specs.Rc.{rc_str_bytes}
use Rattle.cedar_grammar.specs.Build.{unary}
use Rattle.cedar_language.specs.Tree.{Boolean, GetAttr, Tree, Var}
use Rattle.cedar_language.specs.Value.{Plain}
use Rattle.cedar_literals.specs.Operators.{binary_operator_of}
use Rattle.cedar_literals.specs.Variables.{variable_of}
use Rattle.cedar_trees.specs.Bare.{bare, bare_kind}
use Rattle.cedar_trees.proofs.Bares.{bare_is, bare-Var}
use Rattle.cedar_interpreter.specs.Forms.{unary_operator}
use Rattle.cedar_interpreter.specs.Glancing.{value_lent}
use Rattle.cedar_interpreter.proofs.Glanced.{attribute_tells, one_tells, two_tells, long_tells, tells_within}
use Rattle.cedar_interpreter.proofs.evaluator.Evaluator.+glance.Goals as goal

pub glance_attribute-returns-in-Var : goal.glance_attribute-returns-in-Var
glance_attribute-returns-in-Var g t c =
    let a = rc_str_bytes c.args.attr.now in
    let x : Tree = Var (variable_of c.in-Var.var) in
    let of : bare c.args.of.now ≡ x = bare_is (Unit {0}) c.args.of.now ∙ ap bare_kind c.in-Var.is ∙ bare-Var (Unit {0}) c.in-Var.var in
    let high : 2 ≤ c.args.depth + 1 = omega (arith, c.in_ok-_level.ensures) in
    tells_within c.args.self.now (c.args.depth + 1) 2 (unary (GetAttr a) (bare c.args.of.now)) (unary (GetAttr c.as_str.result.now) x) c.glance_attribute_of.result high
    (ap (unary (GetAttr a)) of ∙ ap (λ b. unary (GetAttr b) x) (sym c.as_str.ensures.value)) c.glance_attribute_of.ensures

pub glance_attribute-returns : goal.glance_attribute-returns
glance_attribute-returns g t c =
    attribute_tells c.args.self.now c.args.depth (rc_str_bytes c.args.attr.now) c.as_str-2.result.now (bare c.args.of.now) (value_lent c.in_ok-lent.lent) c.attribute_lent.result c.as_str-2.ensures.value c.in_ok-lent.ensures c.attribute_lent.ensures

pub glance_one-returns : goal.glance_one-returns
glance_one-returns g t c =
    one_tells c.args.self.now c.args.depth (unary_operator c.args.op) (bare c.args.of.now) (value_lent c.in_ok-lent.lent) (Plain (Boolean c.in_ok-told.told)) c.in_ok-lent.ensures c.in_ok-told.ensures

pub glance_two-returns : goal.glance_two-returns
glance_two-returns g t c =
    two_tells c.args.self.now c.args.depth (binary_operator_of c.args.op) (bare c.args.left.now) (bare c.args.right.now) (value_lent c.in_ok-first.first) (value_lent c.in_ok-second.second) (Plain (Boolean c.in_ok-told.told))
    c.in_ok-first.ensures c.in_ok-second.ensures c.in_ok-told.ensures

pub glance_long-returns : goal.glance_long-returns
glance_long-returns g t c =
    long_tells c.args.self.now c.args.depth (binary_operator_of c.args.op) (bare c.args.left.now) (bare c.args.right.now) (value_lent c.in_ok-first.first) (value_lent c.in_ok-second.second) c.long_of_two.result
    c.in_ok-first.ensures c.in_ok-second.ensures c.long_of_two.ensures
