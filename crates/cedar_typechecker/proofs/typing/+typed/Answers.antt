-- The arms of the cycle.
use Rattle.std.proofs.Common.{◌≡◌, ◌∙◌, ◌<◌, ◌≤◌, ◌+◌, refl, ap, sym, subst, List, [], ◌∷◌, ◌++◌, map, drop, length, arith, rules, true, false, Some, None, Vec, Global, Bor}
use Rattle.std.specs.Prelude.{max}
use Rattle.cedar_language.specs.Height.{height, heights}
use Rattle.cedar_language.specs.Tree as tree
use Rattle.cedar_language.specs.Tree.{Tree, Trees}
use Rattle.cedar_grammar.specs.Build.{trees, unary, binary}
use Rattle.cedar_literals.specs.Operators.{binary_operator_of}
use Rattle.cedar_trees.specs.Bare.{bare}
use Rattle.cedar_trees.specs.declared.expr.Expr.{Expr}
use Rattle.cedar_typing.specs.Types.{AlwaysTrue, AlwaysFalse, Unsure}
use Rattle.cedar_typing.specs.Lazies.{and_with, or_with, boolean_alone, with_more, if_both}
use Rattle.cedar_typing.specs.Results.{Faulty, plainly}
use Rattle.cedar_typing.specs.Typing.{apply_typing, type_of, types_of}
use Rattle.cedar_typechecker.specs.Capabilities.{capabilities_view}
use Rattle.cedar_typechecker.specs.Forms.{unary_operator, list_operator, list_parts}
use Rattle.cedar_typechecker.specs.Results.{typing_view, Lacks}
use Rattle.cedar_typechecker.specs.Types.{type_view, bool_type_in}
use Rattle.cedar_typechecker.specs.declared.types.BoolType.TheVariants as bool_types
use Rattle.cedar_typechecker.proofs.Above.{boolean_view}
use Rattle.cedar_typechecker.proofs.Found.{passed, refused, found_as, positive, first_high, second_high, yes_high, no_high, list_high, arm, leaf_arm, if_faulty, if_none, if_never, if_always, if_either, and_faulty, and_none, and_never, and_always, and_either, or_faulty, or_none, or_always, or_never, or_either, one_faulty, one_typed, first_faulty, second_faulty, two_typed, left_high, so_far, part_typed, part_faulty, parts_typed, parts_are, counted, length_of, list_typed, list_passed, part_passed, parts_refused}
use Rattle.cedar_typechecker.proofs.typing.+typed.Goals as goal

pub typed-typed_if-requires : goal.typed-typed_if-requires
typed-typed_if-requires g t c κs outlives =
    (omega (arith, c.decreases), outlives)

pub typed-typed_and-requires : goal.typed-typed_and-requires
typed-typed_and-requires g t c κs outlives =
    (omega (arith, c.decreases), outlives)

pub typed-typed_or-requires : goal.typed-typed_or-requires
typed-typed_or-requires g t c κs outlives =
    (omega (arith, c.decreases), outlives)

pub typed-typed_one-requires : goal.typed-typed_one-requires
typed-typed_one-requires g t c κs outlives =
    (omega (arith, c.decreases), outlives)

pub typed-typed_two-requires : goal.typed-typed_two-requires
typed-typed_two-requires g t c κs outlives =
    (omega (arith, c.decreases), outlives)

pub typed-typed_list-requires : goal.typed-typed_list-requires
typed-typed_list-requires g t c κs outlives =
    (omega (arith, c.decreases), (outlives, c.in-List.ensures))

pub typed_if-typed-requires : goal.typed_if-typed-requires
typed_if-typed-requires g t c κs outlives =
    (omega (arith, c.decreases), outlives)

pub typed_if-typed-requires-in-Some-AlwaysFalse : goal.typed_if-typed-requires-in-Some-AlwaysFalse
typed_if-typed-requires-in-Some-AlwaysFalse g t c κs outlives =
    (omega (arith, c.decreases), outlives)

pub typed_if-typed-requires-in-Some-AlwaysTrue : goal.typed_if-typed-requires-in-Some-AlwaysTrue
typed_if-typed-requires-in-Some-AlwaysTrue g t c κs outlives =
    (omega (arith, c.decreases), outlives)

pub typed_if-typed-requires-in-Some-Unsure : goal.typed_if-typed-requires-in-Some-Unsure
typed_if-typed-requires-in-Some-Unsure g t c κs outlives =
    (omega (arith, c.decreases), outlives)

pub typed_if-typed-requires-in-Some-Unsure-2 : goal.typed_if-typed-requires-in-Some-Unsure-2
typed_if-typed-requires-in-Some-Unsure-2 g t c κs outlives =
    (omega (arith, c.decreases), outlives)

pub typed_and-typed-requires : goal.typed_and-typed-requires
typed_and-typed-requires g t c κs outlives =
    (omega (arith, c.decreases), outlives)

pub typed_and-typed-requires-in-Some-AlwaysTrue : goal.typed_and-typed-requires-in-Some-AlwaysTrue
typed_and-typed-requires-in-Some-AlwaysTrue g t c κs outlives =
    (omega (arith, c.decreases), outlives)

pub typed_and-typed-requires-in-Some-Unsure : goal.typed_and-typed-requires-in-Some-Unsure
typed_and-typed-requires-in-Some-Unsure g t c κs outlives =
    (omega (arith, c.decreases), outlives)

pub typed_or-typed-requires : goal.typed_or-typed-requires
typed_or-typed-requires g t c κs outlives =
    (omega (arith, c.decreases), outlives)

pub typed_or-typed-requires-in-Some-AlwaysFalse : goal.typed_or-typed-requires-in-Some-AlwaysFalse
typed_or-typed-requires-in-Some-AlwaysFalse g t c κs outlives =
    (omega (arith, c.decreases), outlives)

pub typed_or-typed-requires-in-Some-Unsure : goal.typed_or-typed-requires-in-Some-Unsure
typed_or-typed-requires-in-Some-Unsure g t c κs outlives =
    (omega (arith, c.decreases), outlives)

pub typed_one-typed-requires : goal.typed_one-typed-requires
typed_one-typed-requires g t c κs outlives =
    (omega (arith, c.decreases), outlives)

pub typed_two-typed-requires : goal.typed_two-typed-requires
typed_two-typed-requires g t c κs outlives =
    (omega (arith, c.decreases), outlives)

pub typed_two-typed-requires-2 : goal.typed_two-typed-requires-2
typed_two-typed-requires-2 g t c κs outlives =
    (omega (arith, c.decreases), outlives)

pub typed_list-typed_parts-requires : goal.typed_list-typed_parts-requires
typed_list-typed_parts-requires g t c κs outlives =
    (omega (arith, c.decreases), outlives)

pub typed_parts-typed-requires : goal.typed_parts-typed-requires
typed_parts-typed-requires g t c κs outlives =
    (omega (arith, c.decreases), outlives)

pub typed-returns-in_default : goal.typed-returns-in_default
typed-returns-in_default g t c =
    let low : c.args.depth < 1 = search rules in
    let above = positive (bare c.args.expr.now) in
    omega (arith, above, low)

pub typed-returns-in-Leaf : goal.typed-returns-in-Leaf
typed-returns-in-Leaf g t c =
    leaf_arm _ (g.E.RequestEnv.environment c.args.env.now) (capabilities_view c.args.held.now) (bare c.args.expr.now) c.in-Leaf.leaf c.leaf_type.result c.in-Leaf.ensures c.leaf_type.ensures

pub typed-returns-in-If : goal.typed-returns-in-If
typed-returns-in-If g t c =
    let step : c.args.depth ≡ c.in-Some.below + 1 = search rules in
    arm (g.E.RequestEnv.environment c.args.env.now) (capabilities_view c.args.held.now) (bare c.args.expr.now) (tree.If (bare c.in-If.test.now) (bare c.in-If.yes.now) (bare c.in-If.no.now)) c.args.depth c.in-Some.below c.typed_if.result c.in-If.ensures step c.typed_if.ensures

pub typed-returns-in-And : goal.typed-returns-in-And
typed-returns-in-And g t c =
    let step : c.args.depth ≡ c.in-Some.below + 1 = search rules in
    arm (g.E.RequestEnv.environment c.args.env.now) (capabilities_view c.args.held.now) (bare c.args.expr.now) (tree.And (bare c.in-And.left.now) (bare c.in-And.right.now)) c.args.depth c.in-Some.below c.typed_and.result c.in-And.ensures step c.typed_and.ensures

pub typed-returns-in-Or : goal.typed-returns-in-Or
typed-returns-in-Or g t c =
    let step : c.args.depth ≡ c.in-Some.below + 1 = search rules in
    arm (g.E.RequestEnv.environment c.args.env.now) (capabilities_view c.args.held.now) (bare c.args.expr.now) (tree.Or (bare c.in-Or.left.now) (bare c.in-Or.right.now)) c.args.depth c.in-Some.below c.typed_or.result c.in-Or.ensures step c.typed_or.ensures

pub typed-returns-in-One : goal.typed-returns-in-One
typed-returns-in-One g t c =
    let step : c.args.depth ≡ c.in-Some.below + 1 = search rules in
    arm (g.E.RequestEnv.environment c.args.env.now) (capabilities_view c.args.held.now) (bare c.args.expr.now) (unary (unary_operator c.in-One.op) (bare c.in-One.of.now.value)) c.args.depth c.in-Some.below c.typed_one.result c.in-One.ensures step c.typed_one.ensures

pub typed-returns-in-Two : goal.typed-returns-in-Two
typed-returns-in-Two g t c =
    let step : c.args.depth ≡ c.in-Some.below + 1 = search rules in
    arm (g.E.RequestEnv.environment c.args.env.now) (capabilities_view c.args.held.now) (bare c.args.expr.now) (binary (binary_operator_of c.in-Two.op) (bare c.in-Two.left.now.value) (bare c.in-Two.right.now.value)) c.args.depth c.in-Some.below c.typed_two.result c.in-Two.ensures step c.typed_two.ensures

pub typed-returns-in-List : goal.typed-returns-in-List
typed-returns-in-List g t c =
    let step : c.args.depth ≡ c.in-Some.below + 1 = search rules in
    arm (g.E.RequestEnv.environment c.args.env.now) (capabilities_view c.args.held.now) (bare c.args.expr.now) (tree.Apply (list_operator c.in-List.op) (list_parts c.in-List.op)) c.args.depth c.in-Some.below c.typed_list.result c.in-List.ensures step c.typed_list.ensures

pub typed_if-returns-in_err-test : goal.typed_if-returns-in_err-test
typed_if-returns-in_err-test g t c =
    passed (c.args.depth < height (bare c.args.test.now)) (c.args.depth + 1 < height (tree.If (bare c.args.test.now) (bare c.args.yes.now) (bare c.args.no.now))) (type_of (g.E.RequestEnv.environment c.args.env.now) (bare c.args.test.now) (capabilities_view c.args.held.now)) _ c.in_err-test.field-0.0 c.from_residual.result c.from_residual.ensures (if_faulty (g.E.RequestEnv.environment c.args.env.now) (capabilities_view c.args.held.now) (bare c.args.test.now) (bare c.args.yes.now) (bare c.args.no.now)) (first_high c.args.depth (height (bare c.args.test.now)) (max (height (bare c.args.yes.now)) (height (bare c.args.no.now)))) c.in_err-test.ensures

pub typed_if-returns-in-None : goal.typed_if-returns-in-None
typed_if-returns-in-None g t c =
    let told : None ≡ bool_type_in (type_view c.in_ok-test.test.expr_type) = search rules in
    if_none (g.E.RequestEnv.environment c.args.env.now) (capabilities_view c.args.held.now) (bare c.args.test.now) (bare c.args.yes.now) (bare c.args.no.now) (type_view c.in_ok-test.test.expr_type) (capabilities_view c.in_ok-test.test.capabilities.items) c.in_ok-test.ensures told

pub typed_if-returns-in-Some-AlwaysFalse : goal.typed_if-returns-in-Some-AlwaysFalse
typed_if-returns-in-Some-AlwaysFalse g t c =
    let told : Some AlwaysFalse ≡ bool_type_in (type_view c.in_ok-test.test.expr_type) = search rules in
    found_as (c.args.depth < height (bare c.args.no.now)) (c.args.depth + 1 < height (tree.If (bare c.args.test.now) (bare c.args.yes.now) (bare c.args.no.now))) (type_of (g.E.RequestEnv.environment c.args.env.now) (bare c.args.no.now) (capabilities_view c.args.held.now)) _ c.typed-in-Some-AlwaysFalse.result (sym (if_never (g.E.RequestEnv.environment c.args.env.now) (capabilities_view c.args.held.now) (bare c.args.test.now) (bare c.args.yes.now) (bare c.args.no.now) (type_view c.in_ok-test.test.expr_type) (capabilities_view c.in_ok-test.test.capabilities.items) c.in_ok-test.ensures told)) (no_high c.args.depth (height (bare c.args.test.now)) (height (bare c.args.yes.now)) (height (bare c.args.no.now))) c.typed-in-Some-AlwaysFalse.ensures

pub typed_if-returns-in_err-more-in-Some-AlwaysTrue : goal.typed_if-returns-in_err-more-in-Some-AlwaysTrue
typed_if-returns-in_err-more-in-Some-AlwaysTrue g t c =
    refused _ _ c.from_residual-in_err-more-in-Some-AlwaysTrue.result c.from_residual-in_err-more-in-Some-AlwaysTrue.ensures

pub typed_if-returns-in_err-more-in-Some-Unsure : goal.typed_if-returns-in_err-more-in-Some-Unsure
typed_if-returns-in_err-more-in-Some-Unsure g t c =
    refused _ _ c.from_residual-in_err-more-in-Some-Unsure.result c.from_residual-in_err-more-in-Some-Unsure.ensures

pub typed_if-returns-in_err-yes-in-Some-AlwaysTrue : goal.typed_if-returns-in_err-yes-in-Some-AlwaysTrue
typed_if-returns-in_err-yes-in-Some-AlwaysTrue g t c =
    let told : Some AlwaysTrue ≡ bool_type_in (type_view c.in_ok-test.test.expr_type) = search rules in
    passed (c.args.depth < height (bare c.args.yes.now)) (c.args.depth + 1 < height (tree.If (bare c.args.test.now) (bare c.args.yes.now) (bare c.args.no.now))) (type_of (g.E.RequestEnv.environment c.args.env.now) (bare c.args.yes.now) ((capabilities_view c.in_ok-test.test.capabilities.items) ++ (capabilities_view c.args.held.now))) _ c.in_err-yes-in-Some-AlwaysTrue.field-0.0 c.from_residual-in_err-yes-in-Some-AlwaysTrue.result c.from_residual-in_err-yes-in-Some-AlwaysTrue.ensures (λ k h. if_always (g.E.RequestEnv.environment c.args.env.now) (capabilities_view c.args.held.now) (bare c.args.test.now) (bare c.args.yes.now) (bare c.args.no.now) (type_view c.in_ok-test.test.expr_type) (capabilities_view c.in_ok-test.test.capabilities.items) c.in_ok-test.ensures (Faulty k) told h) (yes_high c.args.depth (height (bare c.args.test.now)) (height (bare c.args.yes.now)) (height (bare c.args.no.now))) (subst (λ l. Lacks (c.args.depth < height (bare c.args.yes.now)) (type_of (g.E.RequestEnv.environment c.args.env.now) (bare c.args.yes.now) l) c.in_err-yes-in-Some-AlwaysTrue.field-0.0) (ap capabilities_view c.deref-in-Some-AlwaysTrue.ensures.value ∙ c.in_ok-more-in-Some-AlwaysTrue.ensures ∙ ap (λ l. capabilities_view l ++ (capabilities_view c.args.held.now)) c.deref.ensures.value) c.in_err-yes-in-Some-AlwaysTrue.ensures)

pub typed_if-returns-in_ok-yes-in-Some-AlwaysTrue : goal.typed_if-returns-in_ok-yes-in-Some-AlwaysTrue
typed_if-returns-in_ok-yes-in-Some-AlwaysTrue g t c =
    let told : Some AlwaysTrue ≡ bool_type_in (type_view c.in_ok-test.test.expr_type) = search rules in
    found_as ⊥ (c.args.depth + 1 < height (tree.If (bare c.args.test.now) (bare c.args.yes.now) (bare c.args.no.now))) (with_more (capabilities_view c.in_ok-test.test.capabilities.items) (typing_view c.in_ok-yes-in-Some-AlwaysTrue.yes)) _ c.with_more.result (sym (if_always (g.E.RequestEnv.environment c.args.env.now) (capabilities_view c.args.held.now) (bare c.args.test.now) (bare c.args.yes.now) (bare c.args.no.now) (type_view c.in_ok-test.test.expr_type) (capabilities_view c.in_ok-test.test.capabilities.items) c.in_ok-test.ensures (typing_view c.in_ok-yes-in-Some-AlwaysTrue.yes) told (ap (λ l. type_of (g.E.RequestEnv.environment c.args.env.now) (bare c.args.yes.now) l) (sym (ap capabilities_view c.deref-in-Some-AlwaysTrue.ensures.value ∙ c.in_ok-more-in-Some-AlwaysTrue.ensures ∙ ap (λ l. capabilities_view l ++ (capabilities_view c.args.held.now)) c.deref.ensures.value)) ∙ c.in_ok-yes-in-Some-AlwaysTrue.ensures))) (λ n. absurd n) c.with_more.ensures

pub typed_if-returns-in_err-yes-in-Some-Unsure : goal.typed_if-returns-in_err-yes-in-Some-Unsure
typed_if-returns-in_err-yes-in-Some-Unsure g t c =
    let told : Some Unsure ≡ bool_type_in (type_view c.in_ok-test.test.expr_type) = search rules in
    passed (c.args.depth < height (bare c.args.yes.now)) (c.args.depth + 1 < height (tree.If (bare c.args.test.now) (bare c.args.yes.now) (bare c.args.no.now))) (type_of (g.E.RequestEnv.environment c.args.env.now) (bare c.args.yes.now) ((capabilities_view c.in_ok-test.test.capabilities.items) ++ (capabilities_view c.args.held.now))) _ c.in_err-yes-in-Some-Unsure.field-0.0 c.from_residual-in_err-yes-in-Some-Unsure.result c.from_residual-in_err-yes-in-Some-Unsure.ensures (λ k h. if_either (g.E.RequestEnv.environment c.args.env.now) (capabilities_view c.args.held.now) (bare c.args.test.now) (bare c.args.yes.now) (bare c.args.no.now) (type_view c.in_ok-test.test.expr_type) (capabilities_view c.in_ok-test.test.capabilities.items) c.in_ok-test.ensures (Faulty k) _ told h refl) (yes_high c.args.depth (height (bare c.args.test.now)) (height (bare c.args.yes.now)) (height (bare c.args.no.now))) (subst (λ l. Lacks (c.args.depth < height (bare c.args.yes.now)) (type_of (g.E.RequestEnv.environment c.args.env.now) (bare c.args.yes.now) l) c.in_err-yes-in-Some-Unsure.field-0.0) (ap capabilities_view c.deref-in-Some-Unsure-2.ensures.value ∙ c.in_ok-more-in-Some-Unsure.ensures ∙ ap (λ l. capabilities_view l ++ (capabilities_view c.args.held.now)) c.deref-in-Some-Unsure.ensures.value) c.in_err-yes-in-Some-Unsure.ensures)

pub typed_if-returns-in_err-no-in-Some-Unsure : goal.typed_if-returns-in_err-no-in-Some-Unsure
typed_if-returns-in_err-no-in-Some-Unsure g t c =
    let told : Some Unsure ≡ bool_type_in (type_view c.in_ok-test.test.expr_type) = search rules in
    passed (c.args.depth < height (bare c.args.no.now)) (c.args.depth + 1 < height (tree.If (bare c.args.test.now) (bare c.args.yes.now) (bare c.args.no.now))) (type_of (g.E.RequestEnv.environment c.args.env.now) (bare c.args.no.now) (capabilities_view c.args.held.now)) _ c.in_err-no-in-Some-Unsure.field-0.0 c.from_residual-in_err-no-in-Some-Unsure.result c.from_residual-in_err-no-in-Some-Unsure.ensures (λ k h. if_either (g.E.RequestEnv.environment c.args.env.now) (capabilities_view c.args.held.now) (bare c.args.test.now) (bare c.args.yes.now) (bare c.args.no.now) (type_view c.in_ok-test.test.expr_type) (capabilities_view c.in_ok-test.test.capabilities.items) c.in_ok-test.ensures (typing_view c.in_ok-yes-in-Some-Unsure.yes) (Faulty k) told (ap (λ l. type_of (g.E.RequestEnv.environment c.args.env.now) (bare c.args.yes.now) l) (sym (ap capabilities_view c.deref-in-Some-Unsure-2.ensures.value ∙ c.in_ok-more-in-Some-Unsure.ensures ∙ ap (λ l. capabilities_view l ++ (capabilities_view c.args.held.now)) c.deref-in-Some-Unsure.ensures.value)) ∙ c.in_ok-yes-in-Some-Unsure.ensures) h) (no_high c.args.depth (height (bare c.args.test.now)) (height (bare c.args.yes.now)) (height (bare c.args.no.now))) c.in_err-no-in-Some-Unsure.ensures

pub typed_if-returns-in_ok-no-in-Some-Unsure : goal.typed_if-returns-in_ok-no-in-Some-Unsure
typed_if-returns-in_ok-no-in-Some-Unsure g t c =
    let told : Some Unsure ≡ bool_type_in (type_view c.in_ok-test.test.expr_type) = search rules in
    found_as ⊥ (c.args.depth + 1 < height (tree.If (bare c.args.test.now) (bare c.args.yes.now) (bare c.args.no.now))) (if_both (capabilities_view c.in_ok-test.test.capabilities.items) (typing_view c.in_ok-yes-in-Some-Unsure.yes) (typing_view c.in_ok-no-in-Some-Unsure.no)) _ c.if_type.result (sym (if_either (g.E.RequestEnv.environment c.args.env.now) (capabilities_view c.args.held.now) (bare c.args.test.now) (bare c.args.yes.now) (bare c.args.no.now) (type_view c.in_ok-test.test.expr_type) (capabilities_view c.in_ok-test.test.capabilities.items) c.in_ok-test.ensures (typing_view c.in_ok-yes-in-Some-Unsure.yes) (typing_view c.in_ok-no-in-Some-Unsure.no) told (ap (λ l. type_of (g.E.RequestEnv.environment c.args.env.now) (bare c.args.yes.now) l) (sym (ap capabilities_view c.deref-in-Some-Unsure-2.ensures.value ∙ c.in_ok-more-in-Some-Unsure.ensures ∙ ap (λ l. capabilities_view l ++ (capabilities_view c.args.held.now)) c.deref-in-Some-Unsure.ensures.value)) ∙ c.in_ok-yes-in-Some-Unsure.ensures) c.in_ok-no-in-Some-Unsure.ensures)) (λ n. absurd n) c.if_type.ensures

pub typed_and-returns-in_err-left : goal.typed_and-returns-in_err-left
typed_and-returns-in_err-left g t c =
    passed (c.args.depth < height (bare c.args.left.now)) (c.args.depth + 1 < height (tree.And (bare c.args.left.now) (bare c.args.right.now))) (type_of (g.E.RequestEnv.environment c.args.env.now) (bare c.args.left.now) (capabilities_view c.args.held.now)) _ c.in_err-left.field-0.0 c.from_residual.result c.from_residual.ensures (and_faulty (g.E.RequestEnv.environment c.args.env.now) (capabilities_view c.args.held.now) (bare c.args.left.now) (bare c.args.right.now)) (first_high c.args.depth (height (bare c.args.left.now)) (height (bare c.args.right.now))) c.in_err-left.ensures

pub typed_and-returns-in-None : goal.typed_and-returns-in-None
typed_and-returns-in-None g t c =
    let told : None ≡ bool_type_in (type_view c.in_ok-left.left.expr_type) = search rules in
    and_none (g.E.RequestEnv.environment c.args.env.now) (capabilities_view c.args.held.now) (bare c.args.left.now) (bare c.args.right.now) (type_view c.in_ok-left.left.expr_type) (capabilities_view c.in_ok-left.left.capabilities.items) c.in_ok-left.ensures told

pub typed_or-returns-in_err-left : goal.typed_or-returns-in_err-left
typed_or-returns-in_err-left g t c =
    passed (c.args.depth < height (bare c.args.left.now)) (c.args.depth + 1 < height (tree.Or (bare c.args.left.now) (bare c.args.right.now))) (type_of (g.E.RequestEnv.environment c.args.env.now) (bare c.args.left.now) (capabilities_view c.args.held.now)) _ c.in_err-left.field-0.0 c.from_residual.result c.from_residual.ensures (or_faulty (g.E.RequestEnv.environment c.args.env.now) (capabilities_view c.args.held.now) (bare c.args.left.now) (bare c.args.right.now)) (first_high c.args.depth (height (bare c.args.left.now)) (height (bare c.args.right.now))) c.in_err-left.ensures

pub typed_or-returns-in-None : goal.typed_or-returns-in-None
typed_or-returns-in-None g t c =
    let told : None ≡ bool_type_in (type_view c.in_ok-left.left.expr_type) = search rules in
    or_none (g.E.RequestEnv.environment c.args.env.now) (capabilities_view c.args.held.now) (bare c.args.left.now) (bare c.args.right.now) (type_view c.in_ok-left.left.expr_type) (capabilities_view c.in_ok-left.left.capabilities.items) c.in_ok-left.ensures told

pub typed_and-returns-in-Some-AlwaysFalse : goal.typed_and-returns-in-Some-AlwaysFalse
typed_and-returns-in-Some-AlwaysFalse g t c =
    let told : Some AlwaysFalse ≡ bool_type_in (type_view c.in_ok-left.left.expr_type) = search rules in
    and_never (g.E.RequestEnv.environment c.args.env.now) (capabilities_view c.args.held.now) (bare c.args.left.now) (bare c.args.right.now) (type_view c.in_ok-left.left.expr_type) (capabilities_view c.in_ok-left.left.capabilities.items) c.in_ok-left.ensures told ∙ sym (c.plainly.ensures ∙ ap plainly (boolean_view bool_types.AlwaysFalse))

pub typed_or-returns-in-Some-AlwaysTrue : goal.typed_or-returns-in-Some-AlwaysTrue
typed_or-returns-in-Some-AlwaysTrue g t c =
    let told : Some AlwaysTrue ≡ bool_type_in (type_view c.in_ok-left.left.expr_type) = search rules in
    or_always (g.E.RequestEnv.environment c.args.env.now) (capabilities_view c.args.held.now) (bare c.args.left.now) (bare c.args.right.now) (type_view c.in_ok-left.left.expr_type) (capabilities_view c.in_ok-left.left.capabilities.items) c.in_ok-left.ensures told ∙ sym (c.plainly.ensures ∙ ap plainly (boolean_view bool_types.AlwaysTrue))

pub typed_and-returns-in_err-more-in-Some-AlwaysTrue : goal.typed_and-returns-in_err-more-in-Some-AlwaysTrue
typed_and-returns-in_err-more-in-Some-AlwaysTrue g t c =
    refused _ _ c.from_residual-in_err-more-in-Some-AlwaysTrue.result c.from_residual-in_err-more-in-Some-AlwaysTrue.ensures

pub typed_and-returns-in_err-right-in-Some-AlwaysTrue : goal.typed_and-returns-in_err-right-in-Some-AlwaysTrue
typed_and-returns-in_err-right-in-Some-AlwaysTrue g t c =
    let told : Some AlwaysTrue ≡ bool_type_in (type_view c.in_ok-left.left.expr_type) = search rules in
    passed (c.args.depth < height (bare c.args.right.now)) (c.args.depth + 1 < height (tree.And (bare c.args.left.now) (bare c.args.right.now))) (type_of (g.E.RequestEnv.environment c.args.env.now) (bare c.args.right.now) ((capabilities_view c.in_ok-left.left.capabilities.items) ++ (capabilities_view c.args.held.now))) _ c.in_err-right-in-Some-AlwaysTrue.field-0.0 c.from_residual-in_err-right-in-Some-AlwaysTrue.result c.from_residual-in_err-right-in-Some-AlwaysTrue.ensures (λ k h. and_always (g.E.RequestEnv.environment c.args.env.now) (capabilities_view c.args.held.now) (bare c.args.left.now) (bare c.args.right.now) (type_view c.in_ok-left.left.expr_type) (capabilities_view c.in_ok-left.left.capabilities.items) c.in_ok-left.ensures (Faulty k) told h) (second_high c.args.depth (height (bare c.args.left.now)) (height (bare c.args.right.now))) (subst (λ l. Lacks (c.args.depth < height (bare c.args.right.now)) (type_of (g.E.RequestEnv.environment c.args.env.now) (bare c.args.right.now) l) c.in_err-right-in-Some-AlwaysTrue.field-0.0) (ap capabilities_view c.deref-in-Some-AlwaysTrue.ensures.value ∙ c.in_ok-more-in-Some-AlwaysTrue.ensures ∙ ap (λ l. capabilities_view l ++ (capabilities_view c.args.held.now)) c.deref.ensures.value) c.in_err-right-in-Some-AlwaysTrue.ensures)

pub typed_and-returns-in_ok-right-in-Some-AlwaysTrue : goal.typed_and-returns-in_ok-right-in-Some-AlwaysTrue
typed_and-returns-in_ok-right-in-Some-AlwaysTrue g t c =
    let told : Some AlwaysTrue ≡ bool_type_in (type_view c.in_ok-left.left.expr_type) = search rules in
    found_as ⊥ (c.args.depth + 1 < height (tree.And (bare c.args.left.now) (bare c.args.right.now))) (and_with AlwaysTrue (capabilities_view c.in_ok-left.left.capabilities.items) (typing_view c.in_ok-right-in-Some-AlwaysTrue.right)) _ c.and_type.result (sym (and_always (g.E.RequestEnv.environment c.args.env.now) (capabilities_view c.args.held.now) (bare c.args.left.now) (bare c.args.right.now) (type_view c.in_ok-left.left.expr_type) (capabilities_view c.in_ok-left.left.capabilities.items) c.in_ok-left.ensures (typing_view c.in_ok-right-in-Some-AlwaysTrue.right) told (ap (λ l. type_of (g.E.RequestEnv.environment c.args.env.now) (bare c.args.right.now) l) (sym (ap capabilities_view c.deref-in-Some-AlwaysTrue.ensures.value ∙ c.in_ok-more-in-Some-AlwaysTrue.ensures ∙ ap (λ l. capabilities_view l ++ (capabilities_view c.args.held.now)) c.deref.ensures.value)) ∙ c.in_ok-right-in-Some-AlwaysTrue.ensures))) (λ n. absurd n) c.and_type.ensures

pub typed_and-returns-in_err-more-in-Some-Unsure : goal.typed_and-returns-in_err-more-in-Some-Unsure
typed_and-returns-in_err-more-in-Some-Unsure g t c =
    refused _ _ c.from_residual-in_err-more-in-Some-Unsure.result c.from_residual-in_err-more-in-Some-Unsure.ensures

pub typed_and-returns-in_err-right-in-Some-Unsure : goal.typed_and-returns-in_err-right-in-Some-Unsure
typed_and-returns-in_err-right-in-Some-Unsure g t c =
    let told : Some Unsure ≡ bool_type_in (type_view c.in_ok-left.left.expr_type) = search rules in
    passed (c.args.depth < height (bare c.args.right.now)) (c.args.depth + 1 < height (tree.And (bare c.args.left.now) (bare c.args.right.now))) (type_of (g.E.RequestEnv.environment c.args.env.now) (bare c.args.right.now) ((capabilities_view c.in_ok-left.left.capabilities.items) ++ (capabilities_view c.args.held.now))) _ c.in_err-right-in-Some-Unsure.field-0.0 c.from_residual-in_err-right-in-Some-Unsure.result c.from_residual-in_err-right-in-Some-Unsure.ensures (λ k h. and_either (g.E.RequestEnv.environment c.args.env.now) (capabilities_view c.args.held.now) (bare c.args.left.now) (bare c.args.right.now) (type_view c.in_ok-left.left.expr_type) (capabilities_view c.in_ok-left.left.capabilities.items) c.in_ok-left.ensures (Faulty k) told h) (second_high c.args.depth (height (bare c.args.left.now)) (height (bare c.args.right.now))) (subst (λ l. Lacks (c.args.depth < height (bare c.args.right.now)) (type_of (g.E.RequestEnv.environment c.args.env.now) (bare c.args.right.now) l) c.in_err-right-in-Some-Unsure.field-0.0) (ap capabilities_view c.deref-in-Some-Unsure-2.ensures.value ∙ c.in_ok-more-in-Some-Unsure.ensures ∙ ap (λ l. capabilities_view l ++ (capabilities_view c.args.held.now)) c.deref-in-Some-Unsure.ensures.value) c.in_err-right-in-Some-Unsure.ensures)

pub typed_and-returns-in_ok-right-in-Some-Unsure : goal.typed_and-returns-in_ok-right-in-Some-Unsure
typed_and-returns-in_ok-right-in-Some-Unsure g t c =
    let told : Some Unsure ≡ bool_type_in (type_view c.in_ok-left.left.expr_type) = search rules in
    found_as ⊥ (c.args.depth + 1 < height (tree.And (bare c.args.left.now) (bare c.args.right.now))) (and_with Unsure (capabilities_view c.in_ok-left.left.capabilities.items) (typing_view c.in_ok-right-in-Some-Unsure.right)) _ c.and_type-in-Some-Unsure.result (sym (and_either (g.E.RequestEnv.environment c.args.env.now) (capabilities_view c.args.held.now) (bare c.args.left.now) (bare c.args.right.now) (type_view c.in_ok-left.left.expr_type) (capabilities_view c.in_ok-left.left.capabilities.items) c.in_ok-left.ensures (typing_view c.in_ok-right-in-Some-Unsure.right) told (ap (λ l. type_of (g.E.RequestEnv.environment c.args.env.now) (bare c.args.right.now) l) (sym (ap capabilities_view c.deref-in-Some-Unsure-2.ensures.value ∙ c.in_ok-more-in-Some-Unsure.ensures ∙ ap (λ l. capabilities_view l ++ (capabilities_view c.args.held.now)) c.deref-in-Some-Unsure.ensures.value)) ∙ c.in_ok-right-in-Some-Unsure.ensures))) (λ n. absurd n) c.and_type-in-Some-Unsure.ensures

pub typed_or-returns-in_err-typed-in-Some-AlwaysFalse : goal.typed_or-returns-in_err-typed-in-Some-AlwaysFalse
typed_or-returns-in_err-typed-in-Some-AlwaysFalse g t c =
    let told : Some AlwaysFalse ≡ bool_type_in (type_view c.in_ok-left.left.expr_type) = search rules in
    passed (c.args.depth < height (bare c.args.right.now)) (c.args.depth + 1 < height (tree.Or (bare c.args.left.now) (bare c.args.right.now))) (type_of (g.E.RequestEnv.environment c.args.env.now) (bare c.args.right.now) (capabilities_view c.args.held.now)) _ c.in_err-typed-in-Some-AlwaysFalse.field-0.0 c.from_residual-in_err-typed-in-Some-AlwaysFalse.result c.from_residual-in_err-typed-in-Some-AlwaysFalse.ensures (λ k h. or_never (g.E.RequestEnv.environment c.args.env.now) (capabilities_view c.args.held.now) (bare c.args.left.now) (bare c.args.right.now) (type_view c.in_ok-left.left.expr_type) (capabilities_view c.in_ok-left.left.capabilities.items) c.in_ok-left.ensures (Faulty k) told h) (second_high c.args.depth (height (bare c.args.left.now)) (height (bare c.args.right.now))) c.in_err-typed-in-Some-AlwaysFalse.ensures

pub typed_or-returns-in_ok-typed-in-Some-AlwaysFalse : goal.typed_or-returns-in_ok-typed-in-Some-AlwaysFalse
typed_or-returns-in_ok-typed-in-Some-AlwaysFalse g t c =
    let told : Some AlwaysFalse ≡ bool_type_in (type_view c.in_ok-left.left.expr_type) = search rules in
    found_as ⊥ (c.args.depth + 1 < height (tree.Or (bare c.args.left.now) (bare c.args.right.now))) (boolean_alone (typing_view c.in_ok-typed-in-Some-AlwaysFalse.field-0)) _ c.boolean_alone.result (sym (or_never (g.E.RequestEnv.environment c.args.env.now) (capabilities_view c.args.held.now) (bare c.args.left.now) (bare c.args.right.now) (type_view c.in_ok-left.left.expr_type) (capabilities_view c.in_ok-left.left.capabilities.items) c.in_ok-left.ensures (typing_view c.in_ok-typed-in-Some-AlwaysFalse.field-0) told c.in_ok-typed-in-Some-AlwaysFalse.ensures)) (λ n. absurd n) c.boolean_alone.ensures

pub typed_or-returns-in_err-right-in-Some-Unsure : goal.typed_or-returns-in_err-right-in-Some-Unsure
typed_or-returns-in_err-right-in-Some-Unsure g t c =
    let told : Some Unsure ≡ bool_type_in (type_view c.in_ok-left.left.expr_type) = search rules in
    passed (c.args.depth < height (bare c.args.right.now)) (c.args.depth + 1 < height (tree.Or (bare c.args.left.now) (bare c.args.right.now))) (type_of (g.E.RequestEnv.environment c.args.env.now) (bare c.args.right.now) (capabilities_view c.args.held.now)) _ c.in_err-right-in-Some-Unsure.field-0.0 c.from_residual-in_err-right-in-Some-Unsure.result c.from_residual-in_err-right-in-Some-Unsure.ensures (λ k h. or_either (g.E.RequestEnv.environment c.args.env.now) (capabilities_view c.args.held.now) (bare c.args.left.now) (bare c.args.right.now) (type_view c.in_ok-left.left.expr_type) (capabilities_view c.in_ok-left.left.capabilities.items) c.in_ok-left.ensures (Faulty k) told h) (second_high c.args.depth (height (bare c.args.left.now)) (height (bare c.args.right.now))) c.in_err-right-in-Some-Unsure.ensures

pub typed_or-returns-in_ok-right-in-Some-Unsure : goal.typed_or-returns-in_ok-right-in-Some-Unsure
typed_or-returns-in_ok-right-in-Some-Unsure g t c =
    let told : Some Unsure ≡ bool_type_in (type_view c.in_ok-left.left.expr_type) = search rules in
    found_as ⊥ (c.args.depth + 1 < height (tree.Or (bare c.args.left.now) (bare c.args.right.now))) (or_with (capabilities_view c.in_ok-left.left.capabilities.items) (typing_view c.in_ok-right-in-Some-Unsure.right)) _ c.or_type.result (sym (or_either (g.E.RequestEnv.environment c.args.env.now) (capabilities_view c.args.held.now) (bare c.args.left.now) (bare c.args.right.now) (type_view c.in_ok-left.left.expr_type) (capabilities_view c.in_ok-left.left.capabilities.items) c.in_ok-left.ensures (typing_view c.in_ok-right-in-Some-Unsure.right) told c.in_ok-right-in-Some-Unsure.ensures)) (λ n. absurd n) c.or_type.ensures

pub typed_one-returns-in_err-operand : goal.typed_one-returns-in_err-operand
typed_one-returns-in_err-operand g t c =
    passed (c.args.depth < height (bare c.deref.result.now)) (c.args.depth + 1 < height (unary (unary_operator c.args.op) (bare c.args.of.now.value))) (type_of (g.E.RequestEnv.environment c.args.env.now) (bare c.deref.result.now) (capabilities_view c.args.held.now)) _ c.in_err-operand.field-0.0 c.from_residual.result c.from_residual.ensures (λ k h. one_faulty (g.E.RequestEnv.environment c.args.env.now) (capabilities_view c.args.held.now) (unary_operator c.args.op) (bare c.args.of.now.value) k (subst (λ (x : Expr (Unit {0})). type_of (g.E.RequestEnv.environment c.args.env.now) (bare x) (capabilities_view c.args.held.now) ≡ Faulty k) c.deref.ensures h)) (λ d. first_high c.args.depth (height (bare c.args.of.now.value)) 0 (subst (λ (x : Expr (Unit {0})). c.args.depth < height (bare x)) c.deref.ensures d)) c.in_err-operand.ensures

pub typed_one-returns : goal.typed_one-returns
typed_one-returns g t c =
    found_as ⊥ (c.args.depth + 1 < height (unary (unary_operator c.args.op) (bare c.args.of.now.value))) _ _ c.unary_type.result (sym (one_typed (g.E.RequestEnv.environment c.args.env.now) (capabilities_view c.args.held.now) (unary_operator c.args.op) (bare c.args.of.now.value) (type_view c.in_ok-operand.operand.expr_type) (capabilities_view c.in_ok-operand.operand.capabilities.items) (subst (λ (x : Expr (Unit {0})). type_of (g.E.RequestEnv.environment c.args.env.now) (bare x) (capabilities_view c.args.held.now) ≡ typing_view c.in_ok-operand.operand) c.deref.ensures c.in_ok-operand.ensures))) (λ n. absurd n) c.unary_type.ensures

pub typed_two-returns-in_err-first : goal.typed_two-returns-in_err-first
typed_two-returns-in_err-first g t c =
    passed (c.args.depth < height (bare c.deref.result.now)) (c.args.depth + 1 < height (binary (binary_operator_of c.args.op) (bare c.args.left.now.value) (bare c.args.right.now.value))) (type_of (g.E.RequestEnv.environment c.args.env.now) (bare c.deref.result.now) (capabilities_view c.args.held.now)) _ c.in_err-first.field-0.0 c.from_residual.result c.from_residual.ensures (λ k h. first_faulty (g.E.RequestEnv.environment c.args.env.now) (capabilities_view c.args.held.now) (binary_operator_of c.args.op) (bare c.args.left.now.value) (bare c.args.right.now.value) k (subst (λ (x : Expr (Unit {0})). type_of (g.E.RequestEnv.environment c.args.env.now) (bare x) (capabilities_view c.args.held.now) ≡ Faulty k) c.deref.ensures h)) (λ d. first_high c.args.depth (height (bare c.args.left.now.value)) (max (height (bare c.args.right.now.value)) 0) (subst (λ (x : Expr (Unit {0})). c.args.depth < height (bare x)) c.deref.ensures d)) c.in_err-first.ensures

pub typed_two-returns-in_err-second : goal.typed_two-returns-in_err-second
typed_two-returns-in_err-second g t c =
    passed (c.args.depth < height (bare c.deref-2.result.now)) (c.args.depth + 1 < height (binary (binary_operator_of c.args.op) (bare c.args.left.now.value) (bare c.args.right.now.value))) (type_of (g.E.RequestEnv.environment c.args.env.now) (bare c.deref-2.result.now) (capabilities_view c.args.held.now)) _ c.in_err-second.field-0.0 c.from_residual-in_err-second.result c.from_residual-in_err-second.ensures (λ k h. second_faulty (g.E.RequestEnv.environment c.args.env.now) (capabilities_view c.args.held.now) (binary_operator_of c.args.op) (bare c.args.left.now.value) (bare c.args.right.now.value) (type_view c.in_ok-first.first.expr_type) (capabilities_view c.in_ok-first.first.capabilities.items) k (subst (λ (x : Expr (Unit {0})). type_of (g.E.RequestEnv.environment c.args.env.now) (bare x) (capabilities_view c.args.held.now) ≡ typing_view c.in_ok-first.first) c.deref.ensures c.in_ok-first.ensures) (subst (λ (x : Expr (Unit {0})). type_of (g.E.RequestEnv.environment c.args.env.now) (bare x) (capabilities_view c.args.held.now) ≡ Faulty k) c.deref-2.ensures h)) (λ d. yes_high c.args.depth (height (bare c.args.left.now.value)) (height (bare c.args.right.now.value)) 0 (subst (λ (x : Expr (Unit {0})). c.args.depth < height (bare x)) c.deref-2.ensures d)) c.in_err-second.ensures

pub typed_two-returns : goal.typed_two-returns
typed_two-returns g t c =
    found_as ⊥ (c.args.depth + 1 < height (binary (binary_operator_of c.args.op) (bare c.args.left.now.value) (bare c.args.right.now.value))) _ _ c.binary_type.result (sym (two_typed (g.E.RequestEnv.environment c.args.env.now) (capabilities_view c.args.held.now) (binary_operator_of c.args.op) (bare c.args.left.now.value) (bare c.args.right.now.value) (type_view c.in_ok-first.first.expr_type) (type_view c.in_ok-second.second.expr_type) (capabilities_view c.in_ok-first.first.capabilities.items) (capabilities_view c.in_ok-second.second.capabilities.items) (subst (λ (x : Expr (Unit {0})). type_of (g.E.RequestEnv.environment c.args.env.now) (bare x) (capabilities_view c.args.held.now) ≡ typing_view c.in_ok-first.first) c.deref.ensures c.in_ok-first.ensures) (subst (λ (x : Expr (Unit {0})). type_of (g.E.RequestEnv.environment c.args.env.now) (bare x) (capabilities_view c.args.held.now) ≡ typing_view c.in_ok-second.second) c.deref-2.ensures c.in_ok-second.ensures))) (λ n. absurd n) c.binary_type.ensures

pub typed_list-returns-in_err-parts : goal.typed_list-returns-in_err-parts
typed_list-returns-in_err-parts g t c =
    refused _ _ c.from_residual.result c.from_residual.ensures

pub typed_list-returns-in_err-types : goal.typed_list-returns-in_err-types
typed_list-returns-in_err-types g t c =
    let same : trees (map (λ p. bare p.now) c.deref.result.now) ≡ (list_parts c.args.op) = ap (λ ps. trees (map (λ p. bare p.now) ps)) c.deref.ensures.value ∙ parts_are (list_operator c.args.op) (list_parts c.args.op) _ (bare c.args.expr.now) c.in_ok-parts.ensures c.requires in
    list_passed (c.args.depth < heights (trees (map (λ p. bare p.now) c.deref.result.now))) (c.args.depth + 1 < height (tree.Apply (list_operator c.args.op) (list_parts c.args.op))) (types_of (g.E.RequestEnv.environment c.args.env.now) (trees (map (λ p. bare p.now) c.deref.result.now)) (capabilities_view c.args.held.now)) _ c.in_err-types.field-0.0 c.from_residual-in_err-types.result c.from_residual-in_err-types.ensures (λ k h. ap (apply_typing (g.E.RequestEnv.environment c.args.env.now) (list_operator c.args.op) (list_parts c.args.op) (capabilities_view c.args.held.now)) (ap (λ (ts : Trees). types_of (g.E.RequestEnv.environment c.args.env.now) ts (capabilities_view c.args.held.now)) (sym same) ∙ h)) (λ d. list_high c.args.depth (heights (list_parts c.args.op)) (subst (λ (ts : Trees). c.args.depth < heights ts) same d)) c.in_err-types.ensures

pub typed_list-list_type-requires : goal.typed_list-list_type-requires
typed_list-list_type-requires g t c =
    let same : trees (map (λ p. bare p.now) c.deref.result.now) ≡ (list_parts c.args.op) = ap (λ ps. trees (map (λ p. bare p.now) ps)) c.deref.ensures.value ∙ parts_are (list_operator c.args.op) (list_parts c.args.op) _ (bare c.args.expr.now) c.in_ok-parts.ensures c.requires in
    length_of c.in_ok-types.types.items (list_parts c.args.op) (counted (list_parts c.args.op) (map type_view c.in_ok-types.types.items) (g.E.RequestEnv.environment c.args.env.now) (capabilities_view c.args.held.now) (ap (λ (ts : Trees). types_of (g.E.RequestEnv.environment c.args.env.now) ts (capabilities_view c.args.held.now)) (sym same) ∙ c.in_ok-types.ensures))

pub typed_list-returns : goal.typed_list-returns
typed_list-returns g t c =
    let same : trees (map (λ p. bare p.now) c.deref.result.now) ≡ (list_parts c.args.op) = ap (λ ps. trees (map (λ p. bare p.now) ps)) c.deref.ensures.value ∙ parts_are (list_operator c.args.op) (list_parts c.args.op) _ (bare c.args.expr.now) c.in_ok-parts.ensures c.requires in
    found_as ⊥ (c.args.depth + 1 < height (tree.Apply (list_operator c.args.op) (list_parts c.args.op))) _ _ c.list_type.result (sym (list_typed (g.E.RequestEnv.environment c.args.env.now) (capabilities_view c.args.held.now) (list_operator c.args.op) (list_parts c.args.op) (map type_view c.in_ok-types.types.items) (ap (λ (ts : Trees). types_of (g.E.RequestEnv.environment c.args.env.now) ts (capabilities_view c.args.held.now)) (sym same) ∙ c.in_ok-types.ensures))) (λ n. absurd n) c.list_type.ensures

pub typed_parts-loop-part-init : goal.typed_parts-loop-part-init
typed_parts-loop-part-init g t c =
    let none : c.new-types.result.items ≡ [] = search rules in
    record { found = ap (λ ts. so_far (g.E.RequestEnv.environment c.args.env.now) (capabilities_view c.args.held.now) ts c.args.parts.now 0) (sym none); high = omega arith }

pub typed_parts-returns-in_err-part : goal.typed_parts-returns-in_err-part
typed_parts-returns-in_err-part g t c =
    part_passed (c.args.depth < height (bare c.part-item.result.now)) (c.args.depth < heights (trees (map (λ p. bare p.now) c.args.parts.now))) (type_of (g.E.RequestEnv.environment c.args.env.now) (bare c.part-item.result.now) (capabilities_view c.args.held.now)) (types_of (g.E.RequestEnv.environment c.args.env.now) (trees (map (λ p. bare p.now) c.args.parts.now)) (capabilities_view c.args.held.now)) c.in_err-part.field-0.0 c.from_residual.result c.from_residual.ensures (λ k h. c.loop-part.invariant.found ∙ part_faulty (g.E.RequestEnv.environment c.args.env.now) (capabilities_view c.args.held.now) c.loop-part.types.items c.args.parts.now c.loop-part.part-index c.part-item.result k (omega arith) c.part-item.is h) (λ d. let high = (left_high c.args.parts.now c.loop-part.part-index c.part-item.result (heights (trees (map (λ p. bare p.now) c.args.parts.now))) (omega arith) c.part-item.is c.loop-part.invariant.high).0 in omega (arith, d, high)) c.in_err-part.ensures

pub typed_parts-returns-in_err-push : goal.typed_parts-returns-in_err-push
typed_parts-returns-in_err-push g t c =
    parts_refused _ _ c.from_residual-in_err-push.result c.from_residual-in_err-push.ensures

pub typed_parts-loop-part-preserved : goal.typed_parts-loop-part-preserved
typed_parts-loop-part-preserved g t c =
    let put : c.push.new.self.items ≡ c.loop-part.types.items ++ c.in_ok-part.part.expr_type ∷ [] = search rules in
    record {
      found = c.loop-part.invariant.found ∙ sym (part_typed (g.E.RequestEnv.environment c.args.env.now) (capabilities_view c.args.held.now) c.loop-part.types.items c.in_ok-part.part.expr_type (capabilities_view c.in_ok-part.part.capabilities.items) c.args.parts.now c.loop-part.part-index c.part-item.result (omega arith) c.part-item.is c.in_ok-part.ensures) ∙ ap (λ ts. so_far (g.E.RequestEnv.environment c.args.env.now) (capabilities_view c.args.held.now) ts c.args.parts.now (c.loop-part.part-index + 1)) (sym put);
      high = (left_high c.args.parts.now c.loop-part.part-index c.part-item.result (heights (trees (map (λ p. bare p.now) c.args.parts.now))) (omega arith) c.part-item.is c.loop-part.invariant.high).1;
    }

pub typed_parts-returns : goal.typed_parts-returns
typed_parts-returns g t c =
    c.loop-part.invariant.found ∙ parts_typed (g.E.RequestEnv.environment c.args.env.now) (capabilities_view c.args.held.now) c.loop-part.types.items c.args.parts.now c.loop-part.part-index (omega arith)
