-- A tag is refused only where all attributes have values; the parts are those of the entity that is made.
use Rattle.std.proofs.Common.{IfErr, sym, subst}
use Rattle.std.specs.FinSet as set
use Rattle.cedar_extensions.specs.Table.{as_table}
use Rattle.cedar_entities.specs.Attributes.{seen_entries}
use Rattle.cedar_restricted.specs.Views.{restricted_entries}
use Rattle.cedar_entity_evaluation.specs.Refused.{IsCreationRefusal}
use Rattle.cedar_entity_evaluation.proofs.Giving.{have_values}
use Rattle.cedar_entity_evaluation.proofs.Refusing.{at_err, tag_refused, evaluated}
use Rattle.cedar_entity_evaluation.proofs.evaluation.EntityEvaluateEntity.new.Goals as goal

pub returns-in_err-tags-clause-refused : goal.returns-in_err-tags-clause-refused
returns-in_err-tags-clause-refused g c =
    let table = as_table g.F.ExtensionFunctionObject.answers c.args.extensions.now in
    let attributes = restricted_entries c.args.attrs.entries in
    let tags = restricted_entries c.args.tags.entries in
    let Refused = IsCreationRefusal table c.args.depth c.args.uid attributes tags in
    at_err (λ r. IfErr r Refused) _ c.from_residual-in_err-tags.result c.from_residual-in_err-tags.ensures.1 (λ e is. subst Refused (sym is)
    (tag_refused table c.args.depth c.args.uid c.in_ok-clone-2.field-0 c.in_ok-clone-2.ensures attributes tags
    (have_values table attributes (seen_entries c.in_ok-attrs.attrs.entries) c.in_ok-attrs.ensures.given) c.in_err-tags.field-0.0 c.in_err-tags.ensures.refused))

pub returns-clause-evaluated : goal.returns-clause-evaluated
returns-clause-evaluated g c =
    evaluated (as_table g.F.ExtensionFunctionObject.answers c.args.extensions.now) c.args.uid (restricted_entries c.args.attrs.entries) (restricted_entries c.args.tags.entries) c.in_ok-attrs.attrs.entries c.in_ok-tags.tags.entries
    (set.from_list c.args.parents.items) (set.from_list c.args.indirect_ancestors.items) c.in_ok-new_with_attr_partial_value.field-0 c.in_ok-new_with_attr_partial_value.ensures c.in_ok-attrs.ensures.given c.in_ok-tags.ensures.given
