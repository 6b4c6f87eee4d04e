-- The arms of the cycle: what is found of parts, and that the limit was met below.
use Rattle.std.proofs.Common.{◌≡◌, ◌∙◌, ◌<◌, ◌+◌, refl, ap, sym, subst, List, [], ◌∷◌, ◌++◌, map, drop, length, arith, rules, true, false, Vec, Global, Bor}
use Rattle.std.proofs.lemmas.Grind.{common_steps}
use Rattle.std.proofs.lemmas.List.{map-append, length-map}
use Rattle.cedar_restricted.proofs.Writing.{cut_items}
use Rattle.std.specs.Prelude.{⊤}
use Rattle.std.specs.Rc.{rc_str_bytes}
use Rattle.cedar_language.specs.Tree as tree
use Rattle.cedar_language.specs.Tree.{Boolean}
use Rattle.cedar_language.specs.Value.{Plain, no_values}
use Rattle.cedar_partial_evaluation.specs.Alike.{gathered}
use Rattle.cedar_partial_evaluation.specs.Partial.{Evaluated, ResidualTree, Failed, SomeFailed, AllEvaluated, and_next, apply_answer}
use Rattle.cedar_grammar.specs.Build.{unary, binary}
use Rattle.cedar_literals.specs.Operators.{binary_operator_of}
use Rattle.cedar_trees.specs.Bare.{bare}
use Rattle.cedar_trees.specs.declared.expr.Expr.{Expr}
use Rattle.cedar_extensions.specs.Failures.{failure_of}
use Rattle.cedar_extensions.specs.Giving.{FailsBy, fails_on}
use Rattle.cedar_restricted.specs.PartialValues.{partial_of}
use Rattle.cedar_restricted.specs.declared.partial_values.PartialValue.{PartialValue}
use Rattle.cedar_interpreter.specs.Forms.{unary_operator, is_of_list, IsOperands}
use Rattle.cedar_interpreter.specs.Holding.{held_by, is_naming, NestsBeyond, SomeNestsBeyond}
use Rattle.cedar_interpreter.specs.Meeting.{part_answer, tested_answer, IsTested}
use Rattle.cedar_interpreter.specs.Naming.{naming_in, naming_depth}
use Rattle.cedar_interpreter.specs.Projecting.{IsProjected}
use Rattle.cedar_interpreter.proofs.Constructs.{unary_calls_nothing, binary_calls_nothing}
use Rattle.cedar_interpreter.proofs.Nesting.{deep_and_left, deep_and_right, deep_or_left, deep_or_right, deep_if_test, deep_if_yes, deep_if_no, deep_operand, either_deep, positive, lowered, list_meets, list_fails, list_deep, Goes, goes_first, goes_on, cut_fails, cut_deep, ends, ends_count}
use Rattle.cedar_interpreter.proofs.Branches.{branch_taken, branch_else, branch_first, branch_second}
use Rattle.cedar_interpreter.proofs.Depths.{entry_deep}
use Rattle.cedar_interpreter.proofs.Read.{entry_is}
use Rattle.cedar_interpreter.proofs.Pairs.{one_fails, one_meets, one_deep, left_fails, right_fails, two_meet, left_deep, right_deep}
use Rattle.cedar_interpreter.proofs.Steps.{passed, limit_passed, meets_as, meets_anyhow, never_limit, and_as, or_as, if_as}
use Rattle.cedar_interpreter.proofs.evaluator.Evaluator.+interpret.Goals as goal

pub interpret_within-interpret_form-requires : goal.interpret_within-interpret_form-requires
interpret_within-interpret_form-requires g t c κs outlives =
    (omega (arith, c.decreases), outlives)

pub interpret_form-interpret_if-requires : goal.interpret_form-interpret_if-requires
interpret_form-interpret_if-requires g t c κs outlives =
    (omega (arith, c.decreases), outlives)

pub interpret_form-interpret_and-requires : goal.interpret_form-interpret_and-requires
interpret_form-interpret_and-requires g t c κs outlives =
    (omega (arith, c.decreases), outlives)

pub interpret_form-interpret_or-requires : goal.interpret_form-interpret_or-requires
interpret_form-interpret_or-requires g t c κs outlives =
    (omega (arith, c.decreases), outlives)

pub interpret_form-interpret_attribute-requires : goal.interpret_form-interpret_attribute-requires
interpret_form-interpret_attribute-requires g t c κs outlives =
    (omega (arith, c.decreases), outlives)

pub interpret_and-interpret_within-requires : goal.interpret_and-interpret_within-requires
interpret_and-interpret_within-requires g t c κs outlives =
    (omega (arith, c.decreases), outlives)

pub interpret_and-interpret_within-requires-in-Yes : goal.interpret_and-interpret_within-requires-in-Yes
interpret_and-interpret_within-requires-in-Yes g t c κs outlives =
    (omega (arith, c.decreases), outlives)

pub interpret_and-interpret_within-answer-requires : goal.interpret_and-interpret_within-answer-requires
interpret_and-interpret_within-answer-requires g t c κs outlives =
    (omega (arith, c.decreases), outlives)

pub interpret_or-interpret_within-requires : goal.interpret_or-interpret_within-requires
interpret_or-interpret_within-requires g t c κs outlives =
    (omega (arith, c.decreases), outlives)

pub interpret_or-interpret_within-requires-in-No : goal.interpret_or-interpret_within-requires-in-No
interpret_or-interpret_within-requires-in-No g t c κs outlives =
    (omega (arith, c.decreases), outlives)

pub interpret_or-interpret_within-answer-requires : goal.interpret_or-interpret_within-answer-requires
interpret_or-interpret_within-answer-requires g t c κs outlives =
    (omega (arith, c.decreases), outlives)

pub interpret_if-interpret_within-requires : goal.interpret_if-interpret_within-requires
interpret_if-interpret_within-requires g t c κs outlives =
    (omega (arith, c.decreases), outlives)

pub interpret_if-interpret_within-requires-in-Yes : goal.interpret_if-interpret_within-requires-in-Yes
interpret_if-interpret_within-requires-in-Yes g t c κs outlives =
    (omega (arith, c.decreases), outlives)

pub interpret_if-interpret_within-requires-in-No : goal.interpret_if-interpret_within-requires-in-No
interpret_if-interpret_within-requires-in-No g t c κs outlives =
    (omega (arith, c.decreases), outlives)

pub interpret_if-interpret_within-yes_answer-requires : goal.interpret_if-interpret_within-yes_answer-requires
interpret_if-interpret_within-yes_answer-requires g t c κs outlives =
    (omega (arith, c.decreases), outlives)

pub interpret_if-interpret_within-no_answer-requires : goal.interpret_if-interpret_within-no_answer-requires
interpret_if-interpret_within-no_answer-requires g t c κs outlives =
    (omega (arith, c.decreases), outlives)

pub interpret_attribute-interpret_within-requires : goal.interpret_attribute-interpret_within-requires
interpret_attribute-interpret_within-requires g t c κs outlives =
    (omega (arith, c.decreases), outlives)

pub interpret_attribute-interpret_within-requires-in-Entry : goal.interpret_attribute-interpret_within-requires-in-Entry
interpret_attribute-interpret_within-requires-in-Entry g t c κs outlives =
    (omega (arith, c.decreases), outlives)

pub interpret_within-returns-clause-found : goal.interpret_within-returns-clause-found
interpret_within-returns-clause-found g t c =
    λ facts has. c.at_place.ensures.found _ (c.interpret_form.ensures.found facts has)

pub interpret_within-returns-clause-limit : goal.interpret_within-returns-clause-limit
interpret_within-returns-clause-limit g t c =
    λ l. c.interpret_form.ensures.limit (c.at_place.ensures.limit l)

pub interpret_form-returns-in-And-clause-found : goal.interpret_form-returns-in-And-clause-found
interpret_form-returns-in-And-clause-found g t c =
    λ facts has. meets_as c.interpret_and.result _ _ (ap (naming_in (is_naming g.F.ExtensionFunctionObject.answers c.args.self.now) facts (held_by c.args.self.now c.args.slots.now)) c.in-And.ensures) (c.interpret_and.ensures.found facts has)

pub interpret_form-returns-in-And-clause-limit : goal.interpret_form-returns-in-And-clause-limit
interpret_form-returns-in-And-clause-limit g t c =
    let step : c.args.depth ≡ c.in-Some.below + 1 = search rules in
    λ l. lowered g.F.ExtensionFunctionObject.answers c.args.self.now c.args.slots.now c.args.depth c.in-Some.below (bare c.args.expr.now) (tree.And (bare c.in-And.left.now) (bare c.in-And.right.now.value)) c.in-And.ensures step (c.interpret_and.ensures.limit l)

pub interpret_form-returns-in-Or-clause-found : goal.interpret_form-returns-in-Or-clause-found
interpret_form-returns-in-Or-clause-found g t c =
    λ facts has. meets_as c.interpret_or.result _ _ (ap (naming_in (is_naming g.F.ExtensionFunctionObject.answers c.args.self.now) facts (held_by c.args.self.now c.args.slots.now)) c.in-Or.ensures) (c.interpret_or.ensures.found facts has)

pub interpret_form-returns-in-Or-clause-limit : goal.interpret_form-returns-in-Or-clause-limit
interpret_form-returns-in-Or-clause-limit g t c =
    let step : c.args.depth ≡ c.in-Some.below + 1 = search rules in
    λ l. lowered g.F.ExtensionFunctionObject.answers c.args.self.now c.args.slots.now c.args.depth c.in-Some.below (bare c.args.expr.now) (tree.Or (bare c.in-Or.left.now) (bare c.in-Or.right.now.value)) c.in-Or.ensures step (c.interpret_or.ensures.limit l)

pub interpret_form-returns-in-If-clause-found : goal.interpret_form-returns-in-If-clause-found
interpret_form-returns-in-If-clause-found g t c =
    λ facts has. meets_as c.interpret_if.result _ _ (ap (naming_in (is_naming g.F.ExtensionFunctionObject.answers c.args.self.now) facts (held_by c.args.self.now c.args.slots.now)) c.in-If.ensures) (c.interpret_if.ensures.found facts has)

pub interpret_form-returns-in-If-clause-limit : goal.interpret_form-returns-in-If-clause-limit
interpret_form-returns-in-If-clause-limit g t c =
    let step : c.args.depth ≡ c.in-Some.below + 1 = search rules in
    λ l. lowered g.F.ExtensionFunctionObject.answers c.args.self.now c.args.slots.now c.args.depth c.in-Some.below (bare c.args.expr.now) (tree.If (bare c.in-If.test.now) (bare c.in-If.yes.now.value) (bare c.in-If.no.now.value)) c.in-If.ensures step (c.interpret_if.ensures.limit l)

pub interpret_form-returns-in-GetAttr-clause-found : goal.interpret_form-returns-in-GetAttr-clause-found
interpret_form-returns-in-GetAttr-clause-found g t c =
    λ facts has. meets_as c.interpret_attribute.result _ _ (ap (naming_in (is_naming g.F.ExtensionFunctionObject.answers c.args.self.now) facts (held_by c.args.self.now c.args.slots.now)) c.in-GetAttr.ensures) (c.interpret_attribute.ensures.found facts has)

pub interpret_form-returns-in-GetAttr-clause-limit : goal.interpret_form-returns-in-GetAttr-clause-limit
interpret_form-returns-in-GetAttr-clause-limit g t c =
    let step : c.args.depth ≡ c.in-Some.below + 1 = search rules in
    λ l. lowered g.F.ExtensionFunctionObject.answers c.args.self.now c.args.slots.now c.args.depth c.in-Some.below (bare c.args.expr.now) (unary (tree.GetAttr (rc_str_bytes c.in-GetAttr.attr.now)) (bare c.in-GetAttr.of.now)) c.in-GetAttr.ensures step (c.interpret_attribute.ensures.limit l)

pub interpret_form-returns-in-Strict-clause-found : goal.interpret_form-returns-in-Strict-clause-found
interpret_form-returns-in-Strict-clause-found g t c =
    c.interpret_strict.ensures.found

pub interpret_form-returns-in-Strict-clause-limit : goal.interpret_form-returns-in-Strict-clause-limit
interpret_form-returns-in-Strict-clause-limit g t c =
    let step : c.args.depth ≡ c.in-Some.below + 1 = search rules in
    λ l. lowered g.F.ExtensionFunctionObject.answers c.args.self.now c.args.slots.now c.args.depth c.in-Some.below (bare c.args.expr.now) (bare c.args.expr.now) refl step (c.interpret_strict.ensures.limit l)

pub interpret_form-interpret_strict-requires : goal.interpret_form-interpret_strict-requires
interpret_form-interpret_strict-requires g t c κs outlives =
    (omega (arith, c.decreases), (outlives, c.in-Strict.ensures))

pub interpret_form-leaf-requires : goal.interpret_form-leaf-requires
interpret_form-leaf-requires g t c =
    c.in-Leaf.ensures

pub interpret_form-returns-in-Leaf-clause-found : goal.interpret_form-returns-in-Leaf-clause-found
interpret_form-returns-in-Leaf-clause-found g t c =
    λ facts has. meets_anyhow c.leaf.result _ (c.leaf.ensures (is_naming g.F.ExtensionFunctionObject.answers c.args.self.now) facts)

pub interpret_form-returns-in-Leaf-clause-limit : goal.interpret_form-returns-in-Leaf-clause-limit
interpret_form-returns-in-Leaf-clause-limit g t c =
    λ l facts has. absurd (never_limit _ c.leaf.result (c.leaf.ensures (is_naming g.F.ExtensionFunctionObject.answers c.args.self.now) facts) l)

pub interpret_form-returns-in_default-clause-limit : goal.interpret_form-returns-in_default-clause-limit
interpret_form-returns-in_default-clause-limit g t c =
    let low : c.args.depth < 1 = search rules in
    λ l facts has.
    let above = positive (is_naming g.F.ExtensionFunctionObject.answers c.args.self.now) facts (held_by c.args.self.now c.args.slots.now) (bare c.args.expr.now) in
    omega (arith, above, low)

pub interpret_form-returns-in_default-clause-found : goal.interpret_form-returns-in_default-clause-found
interpret_form-returns-in_default-clause-found g t c =
    λ facts has. subst (λ f. FailsBy ⊤ (λ k. naming_in (is_naming g.F.ExtensionFunctionObject.answers c.args.self.now) facts (held_by c.args.self.now c.args.slots.now) (bare c.args.expr.now) ≡ Failed k) f) (sym c.recursion_limit.ensures.limit) tt

pub interpret_and-returns-in_err-test_answer-clause-found : goal.interpret_and-returns-in_err-test_answer-clause-found
interpret_and-returns-in_err-test_answer-clause-found g t c =
    λ facts has. passed (λ (p : PartialValue). naming_in (is_naming g.F.ExtensionFunctionObject.answers c.args.self.now) facts (held_by c.args.self.now c.args.slots.now) (tree.And (bare c.args.left.now) (bare c.args.right.now.value)) ≡ part_answer (partial_of p)) (λ k. naming_in (is_naming g.F.ExtensionFunctionObject.answers c.args.self.now) facts (held_by c.args.self.now c.args.slots.now) (tree.And (bare c.args.left.now) (bare c.args.right.now.value)) ≡ Failed k) ⊤ c.in_err-test_answer.field-0.0 c.from_residual.result c.from_residual.ensures
    (fails_on (failure_of c.in_err-test_answer.field-0.0) (λ k h. and_as facts (naming_in (is_naming g.F.ExtensionFunctionObject.answers c.args.self.now) facts (held_by c.args.self.now c.args.slots.now) (bare c.args.left.now)) (naming_in (is_naming g.F.ExtensionFunctionObject.answers c.args.self.now) facts (held_by c.args.self.now c.args.slots.now) (bare c.args.right.now.value)) (bare c.args.right.now.value) (Failed k) h) (λ d. d) (c.in_err-test_answer.ensures.found (naming_in (is_naming g.F.ExtensionFunctionObject.answers c.args.self.now) facts (held_by c.args.self.now c.args.slots.now) (bare c.args.left.now)) (c.interpret_within.ensures.found facts has)))

pub interpret_and-returns-in_err-test_answer-clause-limit : goal.interpret_and-returns-in_err-test_answer-clause-limit
interpret_and-returns-in_err-test_answer-clause-limit g t c =
    λ l. deep_and_left g.F.ExtensionFunctionObject.answers c.args.self.now c.args.slots.now c.args.depth (bare c.args.left.now) (bare c.args.right.now.value) (c.interpret_within.ensures.limit (c.in_err-test_answer.ensures.limit (limit_passed c.in_err-test_answer.field-0.0 c.from_residual.result c.from_residual.ensures l)))

pub interpret_and-returns-in-No-clause-found : goal.interpret_and-returns-in-No-clause-found
interpret_and-returns-in-No-clause-found g t c =
    λ facts has.
    let found = subst (IsTested (tested_answer (naming_in (is_naming g.F.ExtensionFunctionObject.answers c.args.self.now) facts (held_by c.args.self.now c.args.slots.now) (bare c.args.left.now)))) c.in-No.is (c.in_ok-test_answer.ensures.found (naming_in (is_naming g.F.ExtensionFunctionObject.answers c.args.self.now) facts (held_by c.args.self.now c.args.slots.now) (bare c.args.left.now)) (c.interpret_within.ensures.found facts has)) in
    and_as facts (naming_in (is_naming g.F.ExtensionFunctionObject.answers c.args.self.now) facts (held_by c.args.self.now c.args.slots.now) (bare c.args.left.now)) (naming_in (is_naming g.F.ExtensionFunctionObject.answers c.args.self.now) facts (held_by c.args.self.now c.args.slots.now) (bare c.args.right.now.value)) (bare c.args.right.now.value) (Evaluated (Plain (Boolean false))) found ∙ sym c.truth.ensures

pub interpret_and-returns-in-No-clause-limit : goal.interpret_and-returns-in-No-clause-limit
interpret_and-returns-in-No-clause-limit g t c =
    λ l. absurd l

pub interpret_and-returns-in-Yes-clause-found : goal.interpret_and-returns-in-Yes-clause-found
interpret_and-returns-in-Yes-clause-found g t c =
    λ facts has.
    let found = subst (IsTested (tested_answer (naming_in (is_naming g.F.ExtensionFunctionObject.answers c.args.self.now) facts (held_by c.args.self.now c.args.slots.now) (bare c.args.left.now)))) c.in-Yes.is (c.in_ok-test_answer.ensures.found (naming_in (is_naming g.F.ExtensionFunctionObject.answers c.args.self.now) facts (held_by c.args.self.now c.args.slots.now) (bare c.args.left.now)) (c.interpret_within.ensures.found facts has)) in
    let right = meets_as c.interpret_within-in-Yes.result (naming_in (is_naming g.F.ExtensionFunctionObject.answers c.args.self.now) facts (held_by c.args.self.now c.args.slots.now) (bare c.args.right.now.value)) _ (ap (λ (e : Expr (Unit {0})). naming_in (is_naming g.F.ExtensionFunctionObject.answers c.args.self.now) facts (held_by c.args.self.now c.args.slots.now) (bare e)) (sym c.deref.ensures)) (c.interpret_within-in-Yes.ensures.found facts has) in
    meets_as c.last_of_and.result _ _ (and_as facts (naming_in (is_naming g.F.ExtensionFunctionObject.answers c.args.self.now) facts (held_by c.args.self.now c.args.slots.now) (bare c.args.left.now)) (naming_in (is_naming g.F.ExtensionFunctionObject.answers c.args.self.now) facts (held_by c.args.self.now c.args.slots.now) (bare c.args.right.now.value)) (bare c.args.right.now.value) (Evaluated (Plain (Boolean true))) found) (c.last_of_and.ensures.found (naming_in (is_naming g.F.ExtensionFunctionObject.answers c.args.self.now) facts (held_by c.args.self.now c.args.slots.now) (bare c.args.right.now.value)) right)

pub interpret_and-returns-in-Yes-clause-limit : goal.interpret_and-returns-in-Yes-clause-limit
interpret_and-returns-in-Yes-clause-limit g t c =
    λ l. deep_and_right g.F.ExtensionFunctionObject.answers c.args.self.now c.args.slots.now c.args.depth (bare c.args.left.now) (bare c.args.right.now.value) (λ facts has. branch_taken (naming_in (is_naming g.F.ExtensionFunctionObject.answers c.args.self.now) facts (held_by c.args.self.now c.args.slots.now) (bare c.args.left.now)) (naming_depth (is_naming g.F.ExtensionFunctionObject.answers c.args.self.now) facts (held_by c.args.self.now c.args.slots.now) (bare c.args.right.now.value)) 0 (subst (IsTested (tested_answer (naming_in (is_naming g.F.ExtensionFunctionObject.answers c.args.self.now) facts (held_by c.args.self.now c.args.slots.now) (bare c.args.left.now)))) c.in-Yes.is (c.in_ok-test_answer.ensures.found (naming_in (is_naming g.F.ExtensionFunctionObject.answers c.args.self.now) facts (held_by c.args.self.now c.args.slots.now) (bare c.args.left.now)) (c.interpret_within.ensures.found facts has)))) (subst (λ (e : Expr (Unit {0})). NestsBeyond g.F.ExtensionFunctionObject.answers c.args.self.now c.args.slots.now c.args.depth (bare e)) c.deref.ensures (c.interpret_within-in-Yes.ensures.limit (c.last_of_and.ensures.limit l)))

pub interpret_and-returns-in-Open-clause-found : goal.interpret_and-returns-in-Open-clause-found
interpret_and-returns-in-Open-clause-found g t c =
    λ facts has.
    let found = subst (IsTested (tested_answer (naming_in (is_naming g.F.ExtensionFunctionObject.answers c.args.self.now) facts (held_by c.args.self.now c.args.slots.now) (bare c.args.left.now)))) c.in-Open.is (c.in_ok-test_answer.ensures.found (naming_in (is_naming g.F.ExtensionFunctionObject.answers c.args.self.now) facts (held_by c.args.self.now c.args.slots.now) (bare c.args.left.now)) (c.interpret_within.ensures.found facts has)) in
    let right = meets_as c.interpret_within-answer.result (naming_in (is_naming g.F.ExtensionFunctionObject.answers c.args.self.now) facts (held_by c.args.self.now c.args.slots.now) (bare c.args.right.now.value)) _ (ap (λ (e : Expr (Unit {0})). naming_in (is_naming g.F.ExtensionFunctionObject.answers c.args.self.now) facts (held_by c.args.self.now c.args.slots.now) (bare e)) (sym c.deref-in-Open.ensures)) (c.interpret_within-answer.ensures.found facts has) in
    meets_as c.open_and.result _ _ (and_as facts (naming_in (is_naming g.F.ExtensionFunctionObject.answers c.args.self.now) facts (held_by c.args.self.now c.args.slots.now) (bare c.args.left.now)) (naming_in (is_naming g.F.ExtensionFunctionObject.answers c.args.self.now) facts (held_by c.args.self.now c.args.slots.now) (bare c.args.right.now.value)) (bare c.args.right.now.value) (ResidualTree (bare c.in-Open.rest)) found) (c.open_and.ensures.found facts (naming_in (is_naming g.F.ExtensionFunctionObject.answers c.args.self.now) facts (held_by c.args.self.now c.args.slots.now) (bare c.args.right.now.value)) right)

pub interpret_and-returns-in-Open-clause-limit : goal.interpret_and-returns-in-Open-clause-limit
interpret_and-returns-in-Open-clause-limit g t c =
    λ l. deep_and_right g.F.ExtensionFunctionObject.answers c.args.self.now c.args.slots.now c.args.depth (bare c.args.left.now) (bare c.args.right.now.value) (λ facts has. branch_first (naming_in (is_naming g.F.ExtensionFunctionObject.answers c.args.self.now) facts (held_by c.args.self.now c.args.slots.now) (bare c.args.left.now)) (naming_depth (is_naming g.F.ExtensionFunctionObject.answers c.args.self.now) facts (held_by c.args.self.now c.args.slots.now) (bare c.args.right.now.value)) 0 (bare c.in-Open.rest) (subst (IsTested (tested_answer (naming_in (is_naming g.F.ExtensionFunctionObject.answers c.args.self.now) facts (held_by c.args.self.now c.args.slots.now) (bare c.args.left.now)))) c.in-Open.is (c.in_ok-test_answer.ensures.found (naming_in (is_naming g.F.ExtensionFunctionObject.answers c.args.self.now) facts (held_by c.args.self.now c.args.slots.now) (bare c.args.left.now)) (c.interpret_within.ensures.found facts has)))) (subst (λ (e : Expr (Unit {0})). NestsBeyond g.F.ExtensionFunctionObject.answers c.args.self.now c.args.slots.now c.args.depth (bare e)) c.deref-in-Open.ensures (c.interpret_within-answer.ensures.limit (c.open_and.ensures.limit l)))

pub interpret_or-returns-in_err-test_answer-clause-found : goal.interpret_or-returns-in_err-test_answer-clause-found
interpret_or-returns-in_err-test_answer-clause-found g t c =
    λ facts has. passed (λ (p : PartialValue). naming_in (is_naming g.F.ExtensionFunctionObject.answers c.args.self.now) facts (held_by c.args.self.now c.args.slots.now) (tree.Or (bare c.args.left.now) (bare c.args.right.now.value)) ≡ part_answer (partial_of p)) (λ k. naming_in (is_naming g.F.ExtensionFunctionObject.answers c.args.self.now) facts (held_by c.args.self.now c.args.slots.now) (tree.Or (bare c.args.left.now) (bare c.args.right.now.value)) ≡ Failed k) ⊤ c.in_err-test_answer.field-0.0 c.from_residual.result c.from_residual.ensures
    (fails_on (failure_of c.in_err-test_answer.field-0.0) (λ k h. or_as facts (naming_in (is_naming g.F.ExtensionFunctionObject.answers c.args.self.now) facts (held_by c.args.self.now c.args.slots.now) (bare c.args.left.now)) (naming_in (is_naming g.F.ExtensionFunctionObject.answers c.args.self.now) facts (held_by c.args.self.now c.args.slots.now) (bare c.args.right.now.value)) (bare c.args.right.now.value) (Failed k) h) (λ d. d) (c.in_err-test_answer.ensures.found (naming_in (is_naming g.F.ExtensionFunctionObject.answers c.args.self.now) facts (held_by c.args.self.now c.args.slots.now) (bare c.args.left.now)) (c.interpret_within.ensures.found facts has)))

pub interpret_or-returns-in_err-test_answer-clause-limit : goal.interpret_or-returns-in_err-test_answer-clause-limit
interpret_or-returns-in_err-test_answer-clause-limit g t c =
    λ l. deep_or_left g.F.ExtensionFunctionObject.answers c.args.self.now c.args.slots.now c.args.depth (bare c.args.left.now) (bare c.args.right.now.value) (c.interpret_within.ensures.limit (c.in_err-test_answer.ensures.limit (limit_passed c.in_err-test_answer.field-0.0 c.from_residual.result c.from_residual.ensures l)))

pub interpret_or-returns-in-Yes-clause-found : goal.interpret_or-returns-in-Yes-clause-found
interpret_or-returns-in-Yes-clause-found g t c =
    λ facts has.
    let found = subst (IsTested (tested_answer (naming_in (is_naming g.F.ExtensionFunctionObject.answers c.args.self.now) facts (held_by c.args.self.now c.args.slots.now) (bare c.args.left.now)))) c.in-Yes.is (c.in_ok-test_answer.ensures.found (naming_in (is_naming g.F.ExtensionFunctionObject.answers c.args.self.now) facts (held_by c.args.self.now c.args.slots.now) (bare c.args.left.now)) (c.interpret_within.ensures.found facts has)) in
    or_as facts (naming_in (is_naming g.F.ExtensionFunctionObject.answers c.args.self.now) facts (held_by c.args.self.now c.args.slots.now) (bare c.args.left.now)) (naming_in (is_naming g.F.ExtensionFunctionObject.answers c.args.self.now) facts (held_by c.args.self.now c.args.slots.now) (bare c.args.right.now.value)) (bare c.args.right.now.value) (Evaluated (Plain (Boolean true))) found ∙ sym c.truth.ensures

pub interpret_or-returns-in-Yes-clause-limit : goal.interpret_or-returns-in-Yes-clause-limit
interpret_or-returns-in-Yes-clause-limit g t c =
    λ l. absurd l

pub interpret_or-returns-in-No-clause-found : goal.interpret_or-returns-in-No-clause-found
interpret_or-returns-in-No-clause-found g t c =
    λ facts has.
    let found = subst (IsTested (tested_answer (naming_in (is_naming g.F.ExtensionFunctionObject.answers c.args.self.now) facts (held_by c.args.self.now c.args.slots.now) (bare c.args.left.now)))) c.in-No.is (c.in_ok-test_answer.ensures.found (naming_in (is_naming g.F.ExtensionFunctionObject.answers c.args.self.now) facts (held_by c.args.self.now c.args.slots.now) (bare c.args.left.now)) (c.interpret_within.ensures.found facts has)) in
    let right = meets_as c.interpret_within-in-No.result (naming_in (is_naming g.F.ExtensionFunctionObject.answers c.args.self.now) facts (held_by c.args.self.now c.args.slots.now) (bare c.args.right.now.value)) _ (ap (λ (e : Expr (Unit {0})). naming_in (is_naming g.F.ExtensionFunctionObject.answers c.args.self.now) facts (held_by c.args.self.now c.args.slots.now) (bare e)) (sym c.deref.ensures)) (c.interpret_within-in-No.ensures.found facts has) in
    meets_as c.last_of_or.result _ _ (or_as facts (naming_in (is_naming g.F.ExtensionFunctionObject.answers c.args.self.now) facts (held_by c.args.self.now c.args.slots.now) (bare c.args.left.now)) (naming_in (is_naming g.F.ExtensionFunctionObject.answers c.args.self.now) facts (held_by c.args.self.now c.args.slots.now) (bare c.args.right.now.value)) (bare c.args.right.now.value) (Evaluated (Plain (Boolean false))) found) (c.last_of_or.ensures.found (naming_in (is_naming g.F.ExtensionFunctionObject.answers c.args.self.now) facts (held_by c.args.self.now c.args.slots.now) (bare c.args.right.now.value)) right)

pub interpret_or-returns-in-No-clause-limit : goal.interpret_or-returns-in-No-clause-limit
interpret_or-returns-in-No-clause-limit g t c =
    λ l. deep_or_right g.F.ExtensionFunctionObject.answers c.args.self.now c.args.slots.now c.args.depth (bare c.args.left.now) (bare c.args.right.now.value) (λ facts has. branch_else (naming_in (is_naming g.F.ExtensionFunctionObject.answers c.args.self.now) facts (held_by c.args.self.now c.args.slots.now) (bare c.args.left.now)) 0 (naming_depth (is_naming g.F.ExtensionFunctionObject.answers c.args.self.now) facts (held_by c.args.self.now c.args.slots.now) (bare c.args.right.now.value)) (subst (IsTested (tested_answer (naming_in (is_naming g.F.ExtensionFunctionObject.answers c.args.self.now) facts (held_by c.args.self.now c.args.slots.now) (bare c.args.left.now)))) c.in-No.is (c.in_ok-test_answer.ensures.found (naming_in (is_naming g.F.ExtensionFunctionObject.answers c.args.self.now) facts (held_by c.args.self.now c.args.slots.now) (bare c.args.left.now)) (c.interpret_within.ensures.found facts has)))) (subst (λ (e : Expr (Unit {0})). NestsBeyond g.F.ExtensionFunctionObject.answers c.args.self.now c.args.slots.now c.args.depth (bare e)) c.deref.ensures (c.interpret_within-in-No.ensures.limit (c.last_of_or.ensures.limit l)))

pub interpret_or-returns-in-Open-clause-found : goal.interpret_or-returns-in-Open-clause-found
interpret_or-returns-in-Open-clause-found g t c =
    λ facts has.
    let found = subst (IsTested (tested_answer (naming_in (is_naming g.F.ExtensionFunctionObject.answers c.args.self.now) facts (held_by c.args.self.now c.args.slots.now) (bare c.args.left.now)))) c.in-Open.is (c.in_ok-test_answer.ensures.found (naming_in (is_naming g.F.ExtensionFunctionObject.answers c.args.self.now) facts (held_by c.args.self.now c.args.slots.now) (bare c.args.left.now)) (c.interpret_within.ensures.found facts has)) in
    let right = meets_as c.interpret_within-answer.result (naming_in (is_naming g.F.ExtensionFunctionObject.answers c.args.self.now) facts (held_by c.args.self.now c.args.slots.now) (bare c.args.right.now.value)) _ (ap (λ (e : Expr (Unit {0})). naming_in (is_naming g.F.ExtensionFunctionObject.answers c.args.self.now) facts (held_by c.args.self.now c.args.slots.now) (bare e)) (sym c.deref-in-Open.ensures)) (c.interpret_within-answer.ensures.found facts has) in
    meets_as c.open_or.result _ _ (or_as facts (naming_in (is_naming g.F.ExtensionFunctionObject.answers c.args.self.now) facts (held_by c.args.self.now c.args.slots.now) (bare c.args.left.now)) (naming_in (is_naming g.F.ExtensionFunctionObject.answers c.args.self.now) facts (held_by c.args.self.now c.args.slots.now) (bare c.args.right.now.value)) (bare c.args.right.now.value) (ResidualTree (bare c.in-Open.rest)) found) (c.open_or.ensures.found facts (naming_in (is_naming g.F.ExtensionFunctionObject.answers c.args.self.now) facts (held_by c.args.self.now c.args.slots.now) (bare c.args.right.now.value)) right)

pub interpret_or-returns-in-Open-clause-limit : goal.interpret_or-returns-in-Open-clause-limit
interpret_or-returns-in-Open-clause-limit g t c =
    λ l. deep_or_right g.F.ExtensionFunctionObject.answers c.args.self.now c.args.slots.now c.args.depth (bare c.args.left.now) (bare c.args.right.now.value) (λ facts has. branch_second (naming_in (is_naming g.F.ExtensionFunctionObject.answers c.args.self.now) facts (held_by c.args.self.now c.args.slots.now) (bare c.args.left.now)) 0 (naming_depth (is_naming g.F.ExtensionFunctionObject.answers c.args.self.now) facts (held_by c.args.self.now c.args.slots.now) (bare c.args.right.now.value)) (bare c.in-Open.rest) (subst (IsTested (tested_answer (naming_in (is_naming g.F.ExtensionFunctionObject.answers c.args.self.now) facts (held_by c.args.self.now c.args.slots.now) (bare c.args.left.now)))) c.in-Open.is (c.in_ok-test_answer.ensures.found (naming_in (is_naming g.F.ExtensionFunctionObject.answers c.args.self.now) facts (held_by c.args.self.now c.args.slots.now) (bare c.args.left.now)) (c.interpret_within.ensures.found facts has)))) (subst (λ (e : Expr (Unit {0})). NestsBeyond g.F.ExtensionFunctionObject.answers c.args.self.now c.args.slots.now c.args.depth (bare e)) c.deref-in-Open.ensures (c.interpret_within-answer.ensures.limit (c.open_or.ensures.limit l)))

pub interpret_if-returns-in_err-test_answer-clause-found : goal.interpret_if-returns-in_err-test_answer-clause-found
interpret_if-returns-in_err-test_answer-clause-found g t c =
    λ facts has. passed (λ (p : PartialValue). naming_in (is_naming g.F.ExtensionFunctionObject.answers c.args.self.now) facts (held_by c.args.self.now c.args.slots.now) (tree.If (bare c.args.test.now) (bare c.args.yes.now.value) (bare c.args.no.now.value)) ≡ part_answer (partial_of p)) (λ k. naming_in (is_naming g.F.ExtensionFunctionObject.answers c.args.self.now) facts (held_by c.args.self.now c.args.slots.now) (tree.If (bare c.args.test.now) (bare c.args.yes.now.value) (bare c.args.no.now.value)) ≡ Failed k) ⊤ c.in_err-test_answer.field-0.0 c.from_residual.result c.from_residual.ensures
    (fails_on (failure_of c.in_err-test_answer.field-0.0) (λ k h. if_as facts (naming_in (is_naming g.F.ExtensionFunctionObject.answers c.args.self.now) facts (held_by c.args.self.now c.args.slots.now) (bare c.args.test.now)) (naming_in (is_naming g.F.ExtensionFunctionObject.answers c.args.self.now) facts (held_by c.args.self.now c.args.slots.now) (bare c.args.yes.now.value)) (naming_in (is_naming g.F.ExtensionFunctionObject.answers c.args.self.now) facts (held_by c.args.self.now c.args.slots.now) (bare c.args.no.now.value)) (bare c.args.yes.now.value) (bare c.args.no.now.value) (Failed k) h) (λ d. d) (c.in_err-test_answer.ensures.found (naming_in (is_naming g.F.ExtensionFunctionObject.answers c.args.self.now) facts (held_by c.args.self.now c.args.slots.now) (bare c.args.test.now)) (c.interpret_within.ensures.found facts has)))

pub interpret_if-returns-in_err-test_answer-clause-limit : goal.interpret_if-returns-in_err-test_answer-clause-limit
interpret_if-returns-in_err-test_answer-clause-limit g t c =
    λ l. deep_if_test g.F.ExtensionFunctionObject.answers c.args.self.now c.args.slots.now c.args.depth (bare c.args.test.now) (bare c.args.yes.now.value) (bare c.args.no.now.value) (c.interpret_within.ensures.limit (c.in_err-test_answer.ensures.limit (limit_passed c.in_err-test_answer.field-0.0 c.from_residual.result c.from_residual.ensures l)))

pub interpret_if-returns-in-Yes-clause-found : goal.interpret_if-returns-in-Yes-clause-found
interpret_if-returns-in-Yes-clause-found g t c =
    λ facts has.
    let found = subst (IsTested (tested_answer (naming_in (is_naming g.F.ExtensionFunctionObject.answers c.args.self.now) facts (held_by c.args.self.now c.args.slots.now) (bare c.args.test.now)))) c.in-Yes.is (c.in_ok-test_answer.ensures.found (naming_in (is_naming g.F.ExtensionFunctionObject.answers c.args.self.now) facts (held_by c.args.self.now c.args.slots.now) (bare c.args.test.now)) (c.interpret_within.ensures.found facts has)) in
    let taken = meets_as c.interpret_within-in-Yes.result (naming_in (is_naming g.F.ExtensionFunctionObject.answers c.args.self.now) facts (held_by c.args.self.now c.args.slots.now) (bare c.args.yes.now.value)) _ (ap (λ (e : Expr (Unit {0})). naming_in (is_naming g.F.ExtensionFunctionObject.answers c.args.self.now) facts (held_by c.args.self.now c.args.slots.now) (bare e)) (sym c.deref.ensures)) (c.interpret_within-in-Yes.ensures.found facts has) in
    meets_as c.interpret_within-in-Yes.result _ _ (if_as facts (naming_in (is_naming g.F.ExtensionFunctionObject.answers c.args.self.now) facts (held_by c.args.self.now c.args.slots.now) (bare c.args.test.now)) (naming_in (is_naming g.F.ExtensionFunctionObject.answers c.args.self.now) facts (held_by c.args.self.now c.args.slots.now) (bare c.args.yes.now.value)) (naming_in (is_naming g.F.ExtensionFunctionObject.answers c.args.self.now) facts (held_by c.args.self.now c.args.slots.now) (bare c.args.no.now.value)) (bare c.args.yes.now.value) (bare c.args.no.now.value) (Evaluated (Plain (Boolean true))) found) taken

pub interpret_if-returns-in-Yes-clause-limit : goal.interpret_if-returns-in-Yes-clause-limit
interpret_if-returns-in-Yes-clause-limit g t c =
    λ l. deep_if_yes g.F.ExtensionFunctionObject.answers c.args.self.now c.args.slots.now c.args.depth (bare c.args.test.now) (bare c.args.yes.now.value) (bare c.args.no.now.value) (λ facts has. branch_taken (naming_in (is_naming g.F.ExtensionFunctionObject.answers c.args.self.now) facts (held_by c.args.self.now c.args.slots.now) (bare c.args.test.now)) (naming_depth (is_naming g.F.ExtensionFunctionObject.answers c.args.self.now) facts (held_by c.args.self.now c.args.slots.now) (bare c.args.yes.now.value)) (naming_depth (is_naming g.F.ExtensionFunctionObject.answers c.args.self.now) facts (held_by c.args.self.now c.args.slots.now) (bare c.args.no.now.value)) (subst (IsTested (tested_answer (naming_in (is_naming g.F.ExtensionFunctionObject.answers c.args.self.now) facts (held_by c.args.self.now c.args.slots.now) (bare c.args.test.now)))) c.in-Yes.is (c.in_ok-test_answer.ensures.found (naming_in (is_naming g.F.ExtensionFunctionObject.answers c.args.self.now) facts (held_by c.args.self.now c.args.slots.now) (bare c.args.test.now)) (c.interpret_within.ensures.found facts has)))) (subst (λ (e : Expr (Unit {0})). NestsBeyond g.F.ExtensionFunctionObject.answers c.args.self.now c.args.slots.now c.args.depth (bare e)) c.deref.ensures (c.interpret_within-in-Yes.ensures.limit l))

pub interpret_if-returns-in-No-clause-found : goal.interpret_if-returns-in-No-clause-found
interpret_if-returns-in-No-clause-found g t c =
    λ facts has.
    let found = subst (IsTested (tested_answer (naming_in (is_naming g.F.ExtensionFunctionObject.answers c.args.self.now) facts (held_by c.args.self.now c.args.slots.now) (bare c.args.test.now)))) c.in-No.is (c.in_ok-test_answer.ensures.found (naming_in (is_naming g.F.ExtensionFunctionObject.answers c.args.self.now) facts (held_by c.args.self.now c.args.slots.now) (bare c.args.test.now)) (c.interpret_within.ensures.found facts has)) in
    let taken = meets_as c.interpret_within-in-No.result (naming_in (is_naming g.F.ExtensionFunctionObject.answers c.args.self.now) facts (held_by c.args.self.now c.args.slots.now) (bare c.args.no.now.value)) _ (ap (λ (e : Expr (Unit {0})). naming_in (is_naming g.F.ExtensionFunctionObject.answers c.args.self.now) facts (held_by c.args.self.now c.args.slots.now) (bare e)) (sym c.deref-in-No.ensures)) (c.interpret_within-in-No.ensures.found facts has) in
    meets_as c.interpret_within-in-No.result _ _ (if_as facts (naming_in (is_naming g.F.ExtensionFunctionObject.answers c.args.self.now) facts (held_by c.args.self.now c.args.slots.now) (bare c.args.test.now)) (naming_in (is_naming g.F.ExtensionFunctionObject.answers c.args.self.now) facts (held_by c.args.self.now c.args.slots.now) (bare c.args.yes.now.value)) (naming_in (is_naming g.F.ExtensionFunctionObject.answers c.args.self.now) facts (held_by c.args.self.now c.args.slots.now) (bare c.args.no.now.value)) (bare c.args.yes.now.value) (bare c.args.no.now.value) (Evaluated (Plain (Boolean false))) found) taken

pub interpret_if-returns-in-No-clause-limit : goal.interpret_if-returns-in-No-clause-limit
interpret_if-returns-in-No-clause-limit g t c =
    λ l. deep_if_no g.F.ExtensionFunctionObject.answers c.args.self.now c.args.slots.now c.args.depth (bare c.args.test.now) (bare c.args.yes.now.value) (bare c.args.no.now.value) (λ facts has. branch_else (naming_in (is_naming g.F.ExtensionFunctionObject.answers c.args.self.now) facts (held_by c.args.self.now c.args.slots.now) (bare c.args.test.now)) (naming_depth (is_naming g.F.ExtensionFunctionObject.answers c.args.self.now) facts (held_by c.args.self.now c.args.slots.now) (bare c.args.yes.now.value)) (naming_depth (is_naming g.F.ExtensionFunctionObject.answers c.args.self.now) facts (held_by c.args.self.now c.args.slots.now) (bare c.args.no.now.value)) (subst (IsTested (tested_answer (naming_in (is_naming g.F.ExtensionFunctionObject.answers c.args.self.now) facts (held_by c.args.self.now c.args.slots.now) (bare c.args.test.now)))) c.in-No.is (c.in_ok-test_answer.ensures.found (naming_in (is_naming g.F.ExtensionFunctionObject.answers c.args.self.now) facts (held_by c.args.self.now c.args.slots.now) (bare c.args.test.now)) (c.interpret_within.ensures.found facts has)))) (subst (λ (e : Expr (Unit {0})). NestsBeyond g.F.ExtensionFunctionObject.answers c.args.self.now c.args.slots.now c.args.depth (bare e)) c.deref-in-No.ensures (c.interpret_within-in-No.ensures.limit l))

pub interpret_if-returns-in-Open-clause-found : goal.interpret_if-returns-in-Open-clause-found
interpret_if-returns-in-Open-clause-found g t c =
    λ facts has.
    let found = subst (IsTested (tested_answer (naming_in (is_naming g.F.ExtensionFunctionObject.answers c.args.self.now) facts (held_by c.args.self.now c.args.slots.now) (bare c.args.test.now)))) c.in-Open.is (c.in_ok-test_answer.ensures.found (naming_in (is_naming g.F.ExtensionFunctionObject.answers c.args.self.now) facts (held_by c.args.self.now c.args.slots.now) (bare c.args.test.now)) (c.interpret_within.ensures.found facts has)) in
    let met = meets_as c.interpret_within-yes_answer.result (naming_in (is_naming g.F.ExtensionFunctionObject.answers c.args.self.now) facts (held_by c.args.self.now c.args.slots.now) (bare c.args.yes.now.value)) _ (ap (λ (e : Expr (Unit {0})). naming_in (is_naming g.F.ExtensionFunctionObject.answers c.args.self.now) facts (held_by c.args.self.now c.args.slots.now) (bare e)) (sym c.deref-in-Open.ensures)) (c.interpret_within-yes_answer.ensures.found facts has) in
    let unmet = meets_as c.interpret_within-no_answer.result (naming_in (is_naming g.F.ExtensionFunctionObject.answers c.args.self.now) facts (held_by c.args.self.now c.args.slots.now) (bare c.args.no.now.value)) _ (ap (λ (e : Expr (Unit {0})). naming_in (is_naming g.F.ExtensionFunctionObject.answers c.args.self.now) facts (held_by c.args.self.now c.args.slots.now) (bare e)) (sym c.deref-in-Open-2.ensures)) (c.interpret_within-no_answer.ensures.found facts has) in
    meets_as c.open_if.result _ _ (if_as facts (naming_in (is_naming g.F.ExtensionFunctionObject.answers c.args.self.now) facts (held_by c.args.self.now c.args.slots.now) (bare c.args.test.now)) (naming_in (is_naming g.F.ExtensionFunctionObject.answers c.args.self.now) facts (held_by c.args.self.now c.args.slots.now) (bare c.args.yes.now.value)) (naming_in (is_naming g.F.ExtensionFunctionObject.answers c.args.self.now) facts (held_by c.args.self.now c.args.slots.now) (bare c.args.no.now.value)) (bare c.args.yes.now.value) (bare c.args.no.now.value) (ResidualTree (bare c.in-Open.rest)) found) (c.open_if.ensures.found facts (naming_in (is_naming g.F.ExtensionFunctionObject.answers c.args.self.now) facts (held_by c.args.self.now c.args.slots.now) (bare c.args.yes.now.value)) (naming_in (is_naming g.F.ExtensionFunctionObject.answers c.args.self.now) facts (held_by c.args.self.now c.args.slots.now) (bare c.args.no.now.value)) met unmet)

pub interpret_if-returns-in-Open-clause-limit : goal.interpret_if-returns-in-Open-clause-limit
interpret_if-returns-in-Open-clause-limit g t c =
    λ l. either_deep (c.open_if.ensures.limit l)
    (λ y. deep_if_yes g.F.ExtensionFunctionObject.answers c.args.self.now c.args.slots.now c.args.depth (bare c.args.test.now) (bare c.args.yes.now.value) (bare c.args.no.now.value) (λ facts has. branch_first (naming_in (is_naming g.F.ExtensionFunctionObject.answers c.args.self.now) facts (held_by c.args.self.now c.args.slots.now) (bare c.args.test.now)) (naming_depth (is_naming g.F.ExtensionFunctionObject.answers c.args.self.now) facts (held_by c.args.self.now c.args.slots.now) (bare c.args.yes.now.value)) (naming_depth (is_naming g.F.ExtensionFunctionObject.answers c.args.self.now) facts (held_by c.args.self.now c.args.slots.now) (bare c.args.no.now.value)) (bare c.in-Open.rest) (subst (IsTested (tested_answer (naming_in (is_naming g.F.ExtensionFunctionObject.answers c.args.self.now) facts (held_by c.args.self.now c.args.slots.now) (bare c.args.test.now)))) c.in-Open.is (c.in_ok-test_answer.ensures.found (naming_in (is_naming g.F.ExtensionFunctionObject.answers c.args.self.now) facts (held_by c.args.self.now c.args.slots.now) (bare c.args.test.now)) (c.interpret_within.ensures.found facts has)))) (subst (λ (e : Expr (Unit {0})). NestsBeyond g.F.ExtensionFunctionObject.answers c.args.self.now c.args.slots.now c.args.depth (bare e)) c.deref-in-Open.ensures (c.interpret_within-yes_answer.ensures.limit y)))
    (λ n. deep_if_no g.F.ExtensionFunctionObject.answers c.args.self.now c.args.slots.now c.args.depth (bare c.args.test.now) (bare c.args.yes.now.value) (bare c.args.no.now.value) (λ facts has. branch_second (naming_in (is_naming g.F.ExtensionFunctionObject.answers c.args.self.now) facts (held_by c.args.self.now c.args.slots.now) (bare c.args.test.now)) (naming_depth (is_naming g.F.ExtensionFunctionObject.answers c.args.self.now) facts (held_by c.args.self.now c.args.slots.now) (bare c.args.yes.now.value)) (naming_depth (is_naming g.F.ExtensionFunctionObject.answers c.args.self.now) facts (held_by c.args.self.now c.args.slots.now) (bare c.args.no.now.value)) (bare c.in-Open.rest) (subst (IsTested (tested_answer (naming_in (is_naming g.F.ExtensionFunctionObject.answers c.args.self.now) facts (held_by c.args.self.now c.args.slots.now) (bare c.args.test.now)))) c.in-Open.is (c.in_ok-test_answer.ensures.found (naming_in (is_naming g.F.ExtensionFunctionObject.answers c.args.self.now) facts (held_by c.args.self.now c.args.slots.now) (bare c.args.test.now)) (c.interpret_within.ensures.found facts has)))) (subst (λ (e : Expr (Unit {0})). NestsBeyond g.F.ExtensionFunctionObject.answers c.args.self.now c.args.slots.now c.args.depth (bare e)) c.deref-in-Open-2.ensures (c.interpret_within-no_answer.ensures.limit n)))

pub interpret_attribute-returns-in_err-part-clause-found : goal.interpret_attribute-returns-in_err-part-clause-found
interpret_attribute-returns-in_err-part-clause-found g t c =
    λ facts has. passed (λ (p : PartialValue). naming_in (is_naming g.F.ExtensionFunctionObject.answers c.args.self.now) facts (held_by c.args.self.now c.args.slots.now) (unary (tree.GetAttr (rc_str_bytes c.args.attr.now)) (bare c.args.of.now)) ≡ part_answer (partial_of p)) (λ k. naming_in (is_naming g.F.ExtensionFunctionObject.answers c.args.self.now) facts (held_by c.args.self.now c.args.slots.now) (unary (tree.GetAttr (rc_str_bytes c.args.attr.now)) (bare c.args.of.now)) ≡ Failed k) ⊤ c.in_err-part.field-0.0 c.from_residual.result c.from_residual.ensures
    (fails_on (failure_of c.in_err-part.field-0.0) (λ k h. ap (λ b. apply_answer facts (held_by c.args.self.now c.args.slots.now) (tree.GetAttr (rc_str_bytes c.args.attr.now)) (and_next facts b (AllEvaluated no_values))) h) (λ d. d) (c.in_err-part.ensures.found facts has))

pub interpret_attribute-returns-in_err-part-clause-limit : goal.interpret_attribute-returns-in_err-part-clause-limit
interpret_attribute-returns-in_err-part-clause-limit g t c =
    λ l. deep_operand g.F.ExtensionFunctionObject.answers c.args.self.now c.args.slots.now c.args.depth (tree.GetAttr (rc_str_bytes c.args.attr.now)) (bare c.args.of.now) (c.in_err-part.ensures.limit (limit_passed c.in_err-part.field-0.0 c.from_residual.result c.from_residual.ensures l))

pub interpret_attribute-returns-in_err-answer-clause-found : goal.interpret_attribute-returns-in_err-answer-clause-found
interpret_attribute-returns-in_err-answer-clause-found g t c =
    λ facts has.
    let as_found = ap (λ b. apply_answer facts (held_by c.args.self.now c.args.slots.now) (tree.GetAttr (rc_str_bytes c.args.attr.now)) (and_next facts b (AllEvaluated no_values))) (c.in_ok-part.ensures.found facts has) in
    passed (λ (p : PartialValue). naming_in (is_naming g.F.ExtensionFunctionObject.answers c.args.self.now) facts (held_by c.args.self.now c.args.slots.now) (unary (tree.GetAttr (rc_str_bytes c.args.attr.now)) (bare c.args.of.now)) ≡ part_answer (partial_of p)) (λ k. naming_in (is_naming g.F.ExtensionFunctionObject.answers c.args.self.now) facts (held_by c.args.self.now c.args.slots.now) (unary (tree.GetAttr (rc_str_bytes c.args.attr.now)) (bare c.args.of.now)) ≡ Failed k) ⊤ c.in_err-answer.field-0.0 c.from_residual-in_err-answer.result c.from_residual-in_err-answer.ensures
    (fails_on (failure_of c.in_err-answer.field-0.0) (λ k h. as_found ∙ h) (λ d. tt) (c.in_err-answer.ensures facts has.entities (held_by c.args.self.now c.args.slots.now)))

pub interpret_attribute-returns-in_err-answer-clause-limit : goal.interpret_attribute-returns-in_err-answer-clause-limit
interpret_attribute-returns-in_err-answer-clause-limit g t c =
    λ l facts has. absurd (subst (λ f. FailsBy ⊥ (λ k. apply_answer facts (held_by c.args.self.now c.args.slots.now) (tree.GetAttr (rc_str_bytes c.args.attr.now)) (and_next facts (part_answer (partial_of c.in_ok-part.part)) (AllEvaluated no_values)) ≡ Failed k) f) (limit_passed c.in_err-answer.field-0.0 c.from_residual-in_err-answer.result c.from_residual-in_err-answer.ensures l) (c.in_err-answer.ensures facts has.entities (held_by c.args.self.now c.args.slots.now)))

pub interpret_attribute-returns-in-Done-clause-found : goal.interpret_attribute-returns-in-Done-clause-found
interpret_attribute-returns-in-Done-clause-found g t c =
    λ facts has.
    let as_found = ap (λ b. apply_answer facts (held_by c.args.self.now c.args.slots.now) (tree.GetAttr (rc_str_bytes c.args.attr.now)) (and_next facts b (AllEvaluated no_values))) (c.in_ok-part.ensures.found facts has) in
    as_found ∙ subst (IsProjected facts (held_by c.args.self.now c.args.slots.now) (partial_of c.in_ok-part.part) (apply_answer facts (held_by c.args.self.now c.args.slots.now) (tree.GetAttr (rc_str_bytes c.args.attr.now)) (and_next facts (part_answer (partial_of c.in_ok-part.part)) (AllEvaluated no_values)))) c.in-Done.is (c.in_ok-answer.ensures facts has.entities (held_by c.args.self.now c.args.slots.now))

pub interpret_attribute-returns-in-Done-clause-limit : goal.interpret_attribute-returns-in-Done-clause-limit
interpret_attribute-returns-in-Done-clause-limit g t c =
    λ l. absurd l

pub interpret_attribute-returns-in-Entry-clause-found : goal.interpret_attribute-returns-in-Entry-clause-found
interpret_attribute-returns-in-Entry-clause-found g t c =
    λ facts has.
    let as_found = ap (λ b. apply_answer facts (held_by c.args.self.now c.args.slots.now) (tree.GetAttr (rc_str_bytes c.args.attr.now)) (and_next facts b (AllEvaluated no_values))) (c.in_ok-part.ensures.found facts has) in
    let found = subst (IsProjected facts (held_by c.args.self.now c.args.slots.now) (partial_of c.in_ok-part.part) (apply_answer facts (held_by c.args.self.now c.args.slots.now) (tree.GetAttr (rc_str_bytes c.args.attr.now)) (and_next facts (part_answer (partial_of c.in_ok-part.part)) (AllEvaluated no_values)))) c.in-Entry.is (c.in_ok-answer.ensures facts has.entities (held_by c.args.self.now c.args.slots.now)) in
    meets_as c.interpret_within-in-Entry.result _ _ (as_found ∙ found.0 ∙ sym (entry_is (is_naming g.F.ExtensionFunctionObject.answers c.args.self.now) facts (held_by c.args.self.now c.args.slots.now) (bare c.in-Entry.entry) found.2)) (c.interpret_within-in-Entry.ensures.found facts has)

pub interpret_attribute-returns-in-Entry-clause-limit : goal.interpret_attribute-returns-in-Entry-clause-limit
interpret_attribute-returns-in-Entry-clause-limit g t c =
    λ l facts has.
    let found = subst (IsProjected facts (held_by c.args.self.now c.args.slots.now) (partial_of c.in_ok-part.part) (apply_answer facts (held_by c.args.self.now c.args.slots.now) (tree.GetAttr (rc_str_bytes c.args.attr.now)) (and_next facts (part_answer (partial_of c.in_ok-part.part)) (AllEvaluated no_values)))) c.in-Entry.is (c.in_ok-answer.ensures facts has.entities (held_by c.args.self.now c.args.slots.now)) in
    entry_deep g.F.ExtensionFunctionObject.answers c.args.self.now c.args.slots.now c.args.depth (rc_str_bytes c.args.attr.now) (bare c.args.of.now) (bare c.in-Entry.entry) (partial_of c.in_ok-part.part) facts has
    (c.in_ok-part.ensures.found facts has) found.1 found.2
    (c.interpret_within-in-Entry.ensures.limit l)

-- ---- operands

pub interpret_strict-interpret_within-requires : goal.interpret_strict-interpret_within-requires
interpret_strict-interpret_within-requires g t c κs outlives =
    (omega (arith, c.decreases), outlives)

pub interpret_strict-interpret_within-requires-in-Two : goal.interpret_strict-interpret_within-requires-in-Two
interpret_strict-interpret_within-requires-in-Two g t c κs outlives =
    (omega (arith, c.decreases), outlives)

pub interpret_strict-interpret_within-requires-in-Two-2 : goal.interpret_strict-interpret_within-requires-in-Two-2
interpret_strict-interpret_within-requires-in-Two-2 g t c κs outlives =
    (omega (arith, c.decreases), outlives)

pub interpret_strict-returns-in_err-part-in-One-clause-found : goal.interpret_strict-returns-in_err-part-in-One-clause-found
interpret_strict-returns-in_err-part-in-One-clause-found g t c =
    λ facts has.
    let is : bare c.args.expr.now ≡ unary (unary_operator c.in-One.op) (bare c.in-One.of.now) = subst (IsOperands (bare c.args.expr.now)) c.in-One.is c.requires in
    passed (λ (p : PartialValue). naming_in (is_naming g.F.ExtensionFunctionObject.answers c.args.self.now) facts (held_by c.args.self.now c.args.slots.now) (bare c.args.expr.now) ≡ part_answer (partial_of p)) (λ k. naming_in (is_naming g.F.ExtensionFunctionObject.answers c.args.self.now) facts (held_by c.args.self.now c.args.slots.now) (bare c.args.expr.now) ≡ Failed k) ⊤ c.in_err-part-in-One.field-0.0 c.from_residual.result c.from_residual.ensures
    (fails_on (failure_of c.in_err-part-in-One.field-0.0) (λ k h. one_fails (bare c.args.expr.now) (unary_operator c.in-One.op) (bare c.in-One.of.now) is (unary_calls_nothing c.in-One.op) (is_naming g.F.ExtensionFunctionObject.answers c.args.self.now) facts (held_by c.args.self.now c.args.slots.now) k h) (λ d. d) (c.in_err-part-in-One.ensures.found facts has))

pub interpret_strict-returns-in_err-part-in-One-clause-limit : goal.interpret_strict-returns-in_err-part-in-One-clause-limit
interpret_strict-returns-in_err-part-in-One-clause-limit g t c =
    let is : bare c.args.expr.now ≡ unary (unary_operator c.in-One.op) (bare c.in-One.of.now) = subst (IsOperands (bare c.args.expr.now)) c.in-One.is c.requires in
    λ l. one_deep (bare c.args.expr.now) (unary_operator c.in-One.op) (bare c.in-One.of.now) is (unary_calls_nothing c.in-One.op) g.F.ExtensionFunctionObject.answers c.args.self.now c.args.slots.now c.args.depth (c.in_err-part-in-One.ensures.limit (limit_passed c.in_err-part-in-One.field-0.0 c.from_residual.result c.from_residual.ensures l))

pub interpret_strict-returns-in_ok-part-in-One-clause-found : goal.interpret_strict-returns-in_ok-part-in-One-clause-found
interpret_strict-returns-in_ok-part-in-One-clause-found g t c =
    λ facts has.
    let is : bare c.args.expr.now ≡ unary (unary_operator c.in-One.op) (bare c.in-One.of.now) = subst (IsOperands (bare c.args.expr.now)) c.in-One.is c.requires in
    one_meets (bare c.args.expr.now) (unary_operator c.in-One.op) (bare c.in-One.of.now) is (unary_calls_nothing c.in-One.op) (is_naming g.F.ExtensionFunctionObject.answers c.args.self.now) facts (held_by c.args.self.now c.args.slots.now) (partial_of c.in_ok-part-in-One.part) c.operate_on_one.result
    (c.in_ok-part-in-One.ensures.found facts has)
    (c.operate_on_one.ensures facts has.entities (held_by c.args.self.now c.args.slots.now))

pub interpret_strict-returns-in_ok-part-in-One-clause-limit : goal.interpret_strict-returns-in_ok-part-in-One-clause-limit
interpret_strict-returns-in_ok-part-in-One-clause-limit g t c =
    λ l facts has. absurd (never_limit _ c.operate_on_one.result (c.operate_on_one.ensures facts has.entities (held_by c.args.self.now c.args.slots.now)) l)

pub interpret_strict-returns-in_err-left-in-Two-clause-found : goal.interpret_strict-returns-in_err-left-in-Two-clause-found
interpret_strict-returns-in_err-left-in-Two-clause-found g t c =
    λ facts has.
    let is : bare c.args.expr.now ≡ binary (binary_operator_of c.in-Two.op) (bare c.in-Two.left.now) (bare c.in-Two.right.now) = subst (IsOperands (bare c.args.expr.now)) c.in-Two.is c.requires in
    passed (λ (p : PartialValue). naming_in (is_naming g.F.ExtensionFunctionObject.answers c.args.self.now) facts (held_by c.args.self.now c.args.slots.now) (bare c.args.expr.now) ≡ part_answer (partial_of p)) (λ k. naming_in (is_naming g.F.ExtensionFunctionObject.answers c.args.self.now) facts (held_by c.args.self.now c.args.slots.now) (bare c.args.expr.now) ≡ Failed k) ⊤ c.in_err-left-in-Two.field-0.0 c.from_residual-in_err-left-in-Two.result c.from_residual-in_err-left-in-Two.ensures
    (fails_on (failure_of c.in_err-left-in-Two.field-0.0) (λ k h. left_fails (bare c.args.expr.now) (binary_operator_of c.in-Two.op) (bare c.in-Two.left.now) (bare c.in-Two.right.now) is (binary_calls_nothing c.in-Two.op) (is_naming g.F.ExtensionFunctionObject.answers c.args.self.now) facts (held_by c.args.self.now c.args.slots.now) k h) (λ d. d) (c.in_err-left-in-Two.ensures.found facts has))

pub interpret_strict-returns-in_err-left-in-Two-clause-limit : goal.interpret_strict-returns-in_err-left-in-Two-clause-limit
interpret_strict-returns-in_err-left-in-Two-clause-limit g t c =
    let is : bare c.args.expr.now ≡ binary (binary_operator_of c.in-Two.op) (bare c.in-Two.left.now) (bare c.in-Two.right.now) = subst (IsOperands (bare c.args.expr.now)) c.in-Two.is c.requires in
    λ l. left_deep (bare c.args.expr.now) (binary_operator_of c.in-Two.op) (bare c.in-Two.left.now) (bare c.in-Two.right.now) is (binary_calls_nothing c.in-Two.op) g.F.ExtensionFunctionObject.answers c.args.self.now c.args.slots.now c.args.depth (c.in_err-left-in-Two.ensures.limit (limit_passed c.in_err-left-in-Two.field-0.0 c.from_residual-in_err-left-in-Two.result c.from_residual-in_err-left-in-Two.ensures l))

pub interpret_strict-returns-in_err-right-in-Two-clause-found : goal.interpret_strict-returns-in_err-right-in-Two-clause-found
interpret_strict-returns-in_err-right-in-Two-clause-found g t c =
    λ facts has.
    let is : bare c.args.expr.now ≡ binary (binary_operator_of c.in-Two.op) (bare c.in-Two.left.now) (bare c.in-Two.right.now) = subst (IsOperands (bare c.args.expr.now)) c.in-Two.is c.requires in
    let left = c.in_ok-left-in-Two.ensures.found facts has in
    passed (λ (p : PartialValue). naming_in (is_naming g.F.ExtensionFunctionObject.answers c.args.self.now) facts (held_by c.args.self.now c.args.slots.now) (bare c.args.expr.now) ≡ part_answer (partial_of p)) (λ k. naming_in (is_naming g.F.ExtensionFunctionObject.answers c.args.self.now) facts (held_by c.args.self.now c.args.slots.now) (bare c.args.expr.now) ≡ Failed k) ⊤ c.in_err-right-in-Two.field-0.0 c.from_residual-in_err-right-in-Two.result c.from_residual-in_err-right-in-Two.ensures
    (fails_on (failure_of c.in_err-right-in-Two.field-0.0) (λ k h. right_fails (bare c.args.expr.now) (binary_operator_of c.in-Two.op) (bare c.in-Two.left.now) (bare c.in-Two.right.now) is (binary_calls_nothing c.in-Two.op) (is_naming g.F.ExtensionFunctionObject.answers c.args.self.now) facts (held_by c.args.self.now c.args.slots.now) (partial_of c.in_ok-left-in-Two.left) k left h) (λ d. d) (c.in_err-right-in-Two.ensures.found facts has))

pub interpret_strict-returns-in_err-right-in-Two-clause-limit : goal.interpret_strict-returns-in_err-right-in-Two-clause-limit
interpret_strict-returns-in_err-right-in-Two-clause-limit g t c =
    let is : bare c.args.expr.now ≡ binary (binary_operator_of c.in-Two.op) (bare c.in-Two.left.now) (bare c.in-Two.right.now) = subst (IsOperands (bare c.args.expr.now)) c.in-Two.is c.requires in
    λ l. right_deep (bare c.args.expr.now) (binary_operator_of c.in-Two.op) (bare c.in-Two.left.now) (bare c.in-Two.right.now) is (binary_calls_nothing c.in-Two.op) g.F.ExtensionFunctionObject.answers c.args.self.now c.args.slots.now c.args.depth (partial_of c.in_ok-left-in-Two.left) (λ facts has. c.in_ok-left-in-Two.ensures.found facts has) (c.in_err-right-in-Two.ensures.limit (limit_passed c.in_err-right-in-Two.field-0.0 c.from_residual-in_err-right-in-Two.result c.from_residual-in_err-right-in-Two.ensures l))

pub interpret_strict-returns-in_ok-right-in-Two-clause-found : goal.interpret_strict-returns-in_ok-right-in-Two-clause-found
interpret_strict-returns-in_ok-right-in-Two-clause-found g t c =
    λ facts has.
    let is : bare c.args.expr.now ≡ binary (binary_operator_of c.in-Two.op) (bare c.in-Two.left.now) (bare c.in-Two.right.now) = subst (IsOperands (bare c.args.expr.now)) c.in-Two.is c.requires in
    let left = c.in_ok-left-in-Two.ensures.found facts has in
    let right = c.in_ok-right-in-Two.ensures.found facts has in
    two_meet (bare c.args.expr.now) (binary_operator_of c.in-Two.op) (bare c.in-Two.left.now) (bare c.in-Two.right.now) is (binary_calls_nothing c.in-Two.op) (is_naming g.F.ExtensionFunctionObject.answers c.args.self.now) facts (held_by c.args.self.now c.args.slots.now) (partial_of c.in_ok-left-in-Two.left) (partial_of c.in_ok-right-in-Two.right) c.operate_on_two.result left right
    (c.operate_on_two.ensures facts has.entities (held_by c.args.self.now c.args.slots.now))

pub interpret_strict-returns-in_ok-right-in-Two-clause-limit : goal.interpret_strict-returns-in_ok-right-in-Two-clause-limit
interpret_strict-returns-in_ok-right-in-Two-clause-limit g t c =
    λ l facts has. absurd (never_limit _ c.operate_on_two.result (c.operate_on_two.ensures facts has.entities (held_by c.args.self.now c.args.slots.now)) l)

pub interpret_strict-interpret_parts-requires : goal.interpret_strict-interpret_parts-requires
interpret_strict-interpret_parts-requires g t c κs outlives =
    (omega (arith, c.decreases), outlives)

pub interpret_strict-returns-in_err-parts-in-List-clause-found : goal.interpret_strict-returns-in_err-parts-in-List-clause-found
interpret_strict-returns-in_err-parts-in-List-clause-found g t c =
    let list : is_of_list (bare c.args.expr.now) ≡ true = subst (IsOperands (bare c.args.expr.now)) c.in-List.is c.requires in
    let same = (ap (map (λ (e : Bor (Expr (Unit {0}))). bare e.now)) c.deref.ensures.value ∙ c.in_ok-listed-in-List.ensures) in
    λ facts has. passed (λ (p : PartialValue). naming_in (is_naming g.F.ExtensionFunctionObject.answers c.args.self.now) facts (held_by c.args.self.now c.args.slots.now) (bare c.args.expr.now) ≡ part_answer (partial_of p)) (λ k. naming_in (is_naming g.F.ExtensionFunctionObject.answers c.args.self.now) facts (held_by c.args.self.now c.args.slots.now) (bare c.args.expr.now) ≡ Failed k) ⊤ c.in_err-parts-in-List.field-0.0 c.from_residual-in_err-parts-in-List.result c.from_residual-in_err-parts-in-List.ensures
    (fails_on (failure_of c.in_err-parts-in-List.field-0.0) (λ k h. list_fails (is_naming g.F.ExtensionFunctionObject.answers c.args.self.now) facts (held_by c.args.self.now c.args.slots.now) (bare c.args.expr.now) k list (subst (λ ts. gathered facts (map (naming_in (is_naming g.F.ExtensionFunctionObject.answers c.args.self.now) facts (held_by c.args.self.now c.args.slots.now)) ts) ≡ SomeFailed k) same h)) (λ d. d)
    (c.in_err-parts-in-List.ensures.found facts has))

pub interpret_strict-returns-in_err-parts-in-List-clause-limit : goal.interpret_strict-returns-in_err-parts-in-List-clause-limit
interpret_strict-returns-in_err-parts-in-List-clause-limit g t c =
    let list : is_of_list (bare c.args.expr.now) ≡ true = subst (IsOperands (bare c.args.expr.now)) c.in-List.is c.requires in
    λ l. list_deep g.F.ExtensionFunctionObject.answers c.args.self.now c.args.slots.now c.args.depth (bare c.args.expr.now) list (subst (λ ts. SomeNestsBeyond g.F.ExtensionFunctionObject.answers c.args.self.now c.args.slots.now c.args.depth ts) (ap (map (λ (e : Bor (Expr (Unit {0}))). bare e.now)) c.deref.ensures.value ∙ c.in_ok-listed-in-List.ensures) (c.in_err-parts-in-List.ensures.limit (limit_passed c.in_err-parts-in-List.field-0.0 c.from_residual-in_err-parts-in-List.result c.from_residual-in_err-parts-in-List.ensures l)))

pub interpret_strict-operate_on_list-requires-clause-list : goal.interpret_strict-operate_on_list-requires-clause-list
interpret_strict-operate_on_list-requires-clause-list g t c = subst (IsOperands (bare c.args.expr.now)) c.in-List.is c.requires

pub interpret_strict-operate_on_list-requires-clause-count : goal.interpret_strict-operate_on_list-requires-clause-count
interpret_strict-operate_on_list-requires-clause-count g t c = c.in_ok-parts-in-List.ensures.count ∙ ap length (ap (map (λ (e : Bor (Expr (Unit {0}))). bare e.now)) c.deref.ensures.value ∙ c.in_ok-listed-in-List.ensures)

pub interpret_strict-returns-in_ok-parts-in-List-clause-found : goal.interpret_strict-returns-in_ok-parts-in-List-clause-found
interpret_strict-returns-in_ok-parts-in-List-clause-found g t c =
    let list : is_of_list (bare c.args.expr.now) ≡ true = subst (IsOperands (bare c.args.expr.now)) c.in-List.is c.requires in
    let same = (ap (map (λ (e : Bor (Expr (Unit {0}))). bare e.now)) c.deref.ensures.value ∙ c.in_ok-listed-in-List.ensures) in
    λ facts has. list_meets (is_naming g.F.ExtensionFunctionObject.answers c.args.self.now) facts (held_by c.args.self.now c.args.slots.now) (bare c.args.expr.now) list (map partial_of c.in_ok-parts-in-List.parts.items) c.operate_on_list.result
    (ap (map (naming_in (is_naming g.F.ExtensionFunctionObject.answers c.args.self.now) facts (held_by c.args.self.now c.args.slots.now))) (sym same)
    ∙ c.in_ok-parts-in-List.ensures.found facts has)
    (c.operate_on_list.ensures facts has.functions (held_by c.args.self.now c.args.slots.now) (λ n. refl))

pub interpret_strict-returns-in_ok-parts-in-List-clause-limit : goal.interpret_strict-returns-in_ok-parts-in-List-clause-limit
interpret_strict-returns-in_ok-parts-in-List-clause-limit g t c =
    λ l facts has. absurd (never_limit _ c.operate_on_list.result (c.operate_on_list.ensures facts has.functions (held_by c.args.self.now c.args.slots.now) (λ n. refl)) l)

-- ---- parts one by one

pub interpret_parts-interpret_within-requires : goal.interpret_parts-interpret_within-requires
interpret_parts-interpret_within-requires g t c κs outlives =
    (omega (arith, c.decreases), outlives)

pub interpret_parts-loop-part-init : goal.interpret_parts-loop-part-init
interpret_parts-loop-part-init g t c =
    let none : c.new-answers.result.items ≡ [] = search rules in
    subst (λ (ps : List PartialValue). Goes g.F.ExtensionFunctionObject.answers c.args.self.now c.args.slots.now c.args.depth (map (λ (e : Bor (Expr (Unit {0}))). bare e.now) c.args.parts.now) (map partial_of ps) (map (λ (e : Bor (Expr (Unit {0}))). bare e.now) c.args.parts.now)) (sym none) (goes_first g.F.ExtensionFunctionObject.answers c.args.self.now c.args.slots.now c.args.depth (map (λ (e : Bor (Expr (Unit {0}))). bare e.now) c.args.parts.now))

pub interpret_parts-loop-part-preserved : goal.interpret_parts-loop-part-preserved
interpret_parts-loop-part-preserved g t c =
    let pushed : c.push.new.self.items ≡ c.loop-part.answers.items ++ c.in_ok-answer.answer ∷ [] = search rules in
    let cut = cut_items (λ (e : Bor (Expr (Unit {0}))). bare e.now) c.args.parts.now c.loop-part.part-index c.part-item.result c.loop-part-test.true c.part-item.is in
    goes_on g.F.ExtensionFunctionObject.answers c.args.self.now c.args.slots.now c.args.depth _ _ (map (λ (e : Bor (Expr (Unit {0}))). bare e.now) c.args.parts.now) _ (map partial_of c.loop-part.answers.items) c.loop-part.invariant cut (partial_of c.in_ok-answer.answer) (map partial_of c.push.new.self.items) c.in_ok-answer.ensures.found (ap (map partial_of) pushed ∙ map-append partial_of c.loop-part.answers.items (c.in_ok-answer.answer ∷ []))

pub interpret_parts-returns-clause-found : goal.interpret_parts-returns-clause-found
interpret_parts-returns-clause-found g t c =
    let none : drop c.loop-part.part-index c.args.parts.now ≡ [] = grind (arith, common_steps) in
    ends g.F.ExtensionFunctionObject.answers c.args.self.now c.args.slots.now c.args.depth _ (map (λ (e : Bor (Expr (Unit {0}))). bare e.now) c.args.parts.now) (map partial_of c.loop-part.answers.items) c.loop-part.invariant (ap (map (λ (e : Bor (Expr (Unit {0}))). bare e.now)) none)

pub interpret_parts-returns-clause-limit : goal.interpret_parts-returns-clause-limit
interpret_parts-returns-clause-limit g t c =
    λ l. absurd l

pub interpret_parts-returns-clause-count : goal.interpret_parts-returns-clause-count
interpret_parts-returns-clause-count g t c =
    let none : drop c.loop-part.part-index c.args.parts.now ≡ [] = grind (arith, common_steps) in
    sym (length-map c.loop-part.answers.items partial_of) ∙ ends_count g.F.ExtensionFunctionObject.answers c.args.self.now c.args.slots.now c.args.depth _ (map (λ (e : Bor (Expr (Unit {0}))). bare e.now) c.args.parts.now) (map partial_of c.loop-part.answers.items) c.loop-part.invariant (ap (map (λ (e : Bor (Expr (Unit {0}))). bare e.now)) none)

pub interpret_parts-returns-in_err-answer-clause-found : goal.interpret_parts-returns-in_err-answer-clause-found
interpret_parts-returns-in_err-answer-clause-found g t c =
    let cut = cut_items (λ (e : Bor (Expr (Unit {0}))). bare e.now) c.args.parts.now c.loop-part.part-index c.part-item.result c.loop-part-test.true c.part-item.is in
    λ facts has. passed (λ (ps : Vec PartialValue Global). map (naming_in (is_naming g.F.ExtensionFunctionObject.answers c.args.self.now) facts (held_by c.args.self.now c.args.slots.now)) (map (λ (e : Bor (Expr (Unit {0}))). bare e.now) c.args.parts.now) ≡ map part_answer (map partial_of ps.items)) (λ k. gathered facts (map (naming_in (is_naming g.F.ExtensionFunctionObject.answers c.args.self.now) facts (held_by c.args.self.now c.args.slots.now)) (map (λ (e : Bor (Expr (Unit {0}))). bare e.now) c.args.parts.now)) ≡ SomeFailed k) ⊤ c.in_err-answer.field-0.0 c.from_residual.result c.from_residual.ensures
    (cut_fails g.F.ExtensionFunctionObject.answers c.args.self.now c.args.slots.now c.args.depth _ _ (map (λ (e : Bor (Expr (Unit {0}))). bare e.now) c.args.parts.now) _ (map partial_of c.loop-part.answers.items) c.loop-part.invariant cut (failure_of c.in_err-answer.field-0.0) facts has (c.in_err-answer.ensures.found facts))

pub interpret_parts-returns-in_err-answer-clause-limit : goal.interpret_parts-returns-in_err-answer-clause-limit
interpret_parts-returns-in_err-answer-clause-limit g t c =
    let cut = cut_items (λ (e : Bor (Expr (Unit {0}))). bare e.now) c.args.parts.now c.loop-part.part-index c.part-item.result c.loop-part-test.true c.part-item.is in
    λ l. cut_deep g.F.ExtensionFunctionObject.answers c.args.self.now c.args.slots.now c.args.depth _ _ (map (λ (e : Bor (Expr (Unit {0}))). bare e.now) c.args.parts.now) _ (map partial_of c.loop-part.answers.items) c.loop-part.invariant cut (c.in_err-answer.ensures.limit (limit_passed c.in_err-answer.field-0.0 c.from_residual.result c.from_residual.ensures l))
