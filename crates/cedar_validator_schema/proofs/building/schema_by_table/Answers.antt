-- What is put is the schema.
use Rattle.std.proofs.Common.{◌||◌, None, refl, ap, ◌∙◌, subst}
use Rattle.std.specs.Prelude.{map}
use Rattle.cedar_language.specs.Order.{same_name, name_cmp, uid_cmp}
use Rattle.cedar_schema_resolution.specs.Declarations.{entity_view, action_view, declared_view}
use Rattle.cedar_schema_resolution.specs.Parents.{HaveNames}
use Rattle.cedar_validator_schema.specs.Hierarchies.{targets_at, leads}
use Rattle.cedar_validator_schema.specs.ActionNames.{HaveUids}
use Rattle.cedar_validator_schema.specs.EntityTypes.{HasTypes}
use Rattle.cedar_validator_schema.specs.Actions.{HasActions, types_lead, is_type_among}
use Rattle.cedar_validator_schema.proofs.Viewing.{built, no_attributes_bare}
use Rattle.cedar_validator_schema.proofs.building.schema_by_table.Goals as goal

pub returns : goal.returns
returns c = λ l is.
    let d = declared_view c.args.declared.now in
    let types = c.in_ok-entity_types.entity_types in
    let actions = c.in_ok-actions.actions in
    let entities = subst (λ es. HaveNames (map entity_view es) c.in_ok-entities.entities) c.deref.ensures.value c.in_ok-entities.ensures in
    let uids = subst (λ as_. HaveUids (map action_view as_) c.in_ok-action_names.action_names) c.deref-2.ensures.value c.in_ok-action_names.ensures in
    built d l types (record { by_name = types.by_name; parents = c.add_group_types.new.parents }) actions c.in_ok-action_types.action_types
    (record { attributes = c.new.result; tags = None })
    (subst (λ es. HasTypes d l (map entity_view es) types) c.deref-3.ensures.value (c.in_ok-entity_types.ensures d l is entities))
    (subst (λ as_. HasActions d l (map action_view as_) actions) c.deref-4.ensures.value
    (c.in_ok-actions.ensures d l (record { entities = entities; actions = uids; table = is })))
    refl
    (λ n m. c.in_ok-add_group_types.ensures n m
    ∙ ap (λ as_. leads same_name name_cmp types.parents n m || types_lead (targets_at uid_cmp actions.groups)
    (map action_view as_) n m) c.deref-5.ensures.value)
    (λ n. c.in_ok-action_types.ensures n ∙ ap (λ as_. is_type_among (map action_view as_) n) c.deref-6.ensures.value)
    (no_attributes_bare c.new.result c.new.ensures.empty)
