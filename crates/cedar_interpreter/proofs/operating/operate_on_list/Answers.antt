-- All values: what the construct gives for them. Else what is left of it, by what is left of its parts.
use Rattle.std.proofs.Common.{◌≡◌, ◌∙◌, subst, map, true}
use Rattle.std.proofs.lemmas.List.{length-map}
use Rattle.std.specs.List.{list_any}
use Rattle.either.specs.declared.Either.TheVariants.{Left}
use Rattle.cedar_trees.specs.Bare.{bare}
use Rattle.cedar_extensions.specs.Table.{as_table}
use Rattle.cedar_restricted.specs.PartialValues.{partial_of}
use Rattle.cedar_restricted.specs.Splitting.{IsSplitOf, ExpressEach, is_residual}
use Rattle.cedar_interpreter.proofs.Operated.{of_values, of_left, values_count, exprs_count}
use Rattle.cedar_interpreter.proofs.operating.operate_on_list.Goals as goal

pub apply_to_list-requires-clause-count : goal.apply_to_list-requires-clause-count
apply_to_list-requires-clause-count g c =
    let parts = map partial_of c.args.parts.items in
    let values : parts ≡ map Left c.in-Left.values.items = subst (IsSplitOf parts) c.in-Left.is c.in_ok-values.ensures in
    values_count parts c.in-Left.values.items values ∙ length-map c.args.parts.items partial_of ∙ c.requires.count

pub wait_for_list-requires-clause-count : goal.wait_for_list-requires-clause-count
wait_for_list-requires-clause-count g c =
    let parts = map partial_of c.args.parts.items in
    let exprs : (list_any is_residual parts ≡ true) × ExpressEach parts (map bare c.in-Right.exprs.items) = subst (IsSplitOf parts) c.in-Right.is c.in_ok-values.ensures in
    exprs_count parts c.in-Right.exprs.items exprs.1 ∙ length-map c.args.parts.items partial_of ∙ c.requires.count

pub returns-in-Left : goal.returns-in-Left
returns-in-Left g c =
    λ facts functions holds told.
    let parts = map partial_of c.args.parts.items in
    let values : parts ≡ map Left c.in-Left.values.items = subst (IsSplitOf parts) c.in-Left.is c.in_ok-values.ensures in
    of_values facts (as_table g.F.ExtensionFunctionObject.answers c.args.extensions.now).has_unknown holds (bare c.args.expr.now) c.requires.list parts c.in-Left.values.items c.apply_to_list.result values (c.apply_to_list.ensures facts functions holds told)

pub returns-in_ok-wait_for_list-in-Right : goal.returns-in_ok-wait_for_list-in-Right
returns-in_ok-wait_for_list-in-Right g c =
    λ facts functions holds told.
    let parts = map partial_of c.args.parts.items in
    let exprs : (list_any is_residual parts ≡ true) × ExpressEach parts (map bare c.in-Right.exprs.items) = subst (IsSplitOf parts) c.in-Right.is c.in_ok-values.ensures in
    of_left facts (as_table g.F.ExtensionFunctionObject.answers c.args.extensions.now).has_unknown holds (bare c.args.expr.now) c.requires.list parts (c.gathered_splits.ensures facts) (map bare c.in-Right.exprs.items) exprs ∙ c.in_ok-wait_for_list-in-Right.ensures facts holds
