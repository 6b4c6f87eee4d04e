-- Entity types and actions that are put by their names are those of what is declared.
use Rattle.std.proofs.Common.{◌≡◌, false, cond, List, ◌∷◌, Some, sym, ap, ◌∙◌}
use Rattle.std.specs.Prelude.{option_map, option_and_then}
use Rattle.std.specs.Option.{option_map_or}
use Rattle.std.specs.BTreeMap.{get, is_at}
use Rattle.cedar_language.specs.Uid.{Text, Name, Uid}
use Rattle.cedar_language.specs.Order.{same_name, same_uid, name_cmp, uid_cmp}
use Rattle.cedar_literals.specs.Laws.{uid_cmp_ties}
use Rattle.cedar_schema_grammar.specs.Declared.{Library, EntityType, Action, Declared, entity_name, action_uid}
use Rattle.cedar_schema_grammar.specs.Faults.{groups_of, found_groups}
use Rattle.cedar_schema_grammar.specs.Resolving.{body_shape, body_lists, body_parents, shape_of, lists, parents_of}
use Rattle.cedar_schema_resolution.specs.Shapes.{shape_view}
use Rattle.cedar_validator_schema.specs.Hierarchies.{targets_at}
use Rattle.cedar_validator_schema.specs.EntityTypes.{may_have, first_at, HasTypes}
use Rattle.cedar_validator_schema.specs.Applying.{application_view, application_of}
use Rattle.cedar_validator_schema.specs.Actions.{first_action, HasActions}
use Rattle.cedar_validator_schema.specs.declared.applying.ValidatorAction.{ValidatorAction}
use Rattle.cedar_validator_schema.specs.declared.actions.Actions.{Actions}
use Rattle.cedar_validator_schema.specs.declared.entity_types.EntityTypes.{EntityTypes}
use Rattle.cedar_validator_schema.specs.declared.entity_types.ValidatorEntityType.{ValidatorEntityType}
use Rattle.cedar_validator_schema.proofs.Cases.{put_case, row_case}
use Rattle.cedar_validator_schema.proofs.Naming.{at_is_name}

pub at_is_uid : (u w : Uid) → is_at (uid_cmp u) w ≡ same_uid u w
at_is_uid u w = sym (uid_cmp_ties u w)

module _ (d : Declared) (l : Library) (es : List EntityType) (e : EntityType) (t : ValidatorEntityType) (name : Name) (rows : List Name)
    (old new : EntityTypes) where
  at : (n : Name) → name ≡ entity_name e → is_at (name_cmp name) n ≡ same_name (entity_name e) n
  at n is = at_is_name name n ∙ ap (λ m. same_name m n) is

  pub put_type : name ≡ entity_name e → ((n : Name) → get name_cmp new.by_name n ≡ cond (is_at (name_cmp name) n) (Some t) (get name_cmp old.by_name n))
      → ((n : Name) → targets_at name_cmp new.parents n ≡ cond (is_at (name_cmp name) n) rows (targets_at name_cmp old.parents n))
      → option_map shape_view t.shape ≡ body_shape d l e.namespace e.body → ((s : Text) → may_have t.ids s ≡ body_lists e.body s)
      → rows ≡ body_parents d e.namespace e.body → HasTypes d l es old → HasTypes d l (e ∷ es) new
  put_type is put rowed shape ids parents before = record {
    shapes = λ n. ap (option_and_then (λ x. option_map shape_view x.shape)) (put n ∙ ap (λ b. cond b (Some t) (get name_cmp old.by_name n)) (at n is))
        ∙ put_case (option_and_then (λ x. option_map shape_view x.shape)) (shape_of d l) t e (get name_cmp old.by_name n) (first_at es n) shape
        (before.shapes n)
        (same_name (entity_name e) n);
    ids = λ n s. ap (λ o. option_map_or (λ x. may_have x.ids s) o false) (put n ∙ ap (λ b. cond b (Some t) (get name_cmp old.by_name n)) (at n is))
        ∙ put_case (λ o. option_map_or (λ x. may_have x.ids s) o false) (λ o. lists o s) t e (get name_cmp old.by_name n) (first_at es n) (ids s)
        (before.ids n s)
        (same_name (entity_name e) n);
    parents = λ n. rowed n ∙ ap (λ b. cond b rows (targets_at name_cmp old.parents n)) (at n is)
        ∙ row_case (parents_of d) rows (targets_at name_cmp old.parents n) e (first_at es n) parents (before.parents n) (same_name (entity_name e) n);
  }

module _ (d : Declared) (l : Library) (as_ : List Action) (a : Action) (x : ValidatorAction) (uid : Uid) (rows : List Uid) (old new : Actions) where
  at_uid : (u : Uid) → uid ≡ action_uid a → is_at (uid_cmp uid) u ≡ same_uid (action_uid a) u
  at_uid u is = at_is_uid uid u ∙ ap (λ w. same_uid w u) is

  pub put_action : uid ≡ action_uid a → ((u : Uid) → get uid_cmp new.by_uid u ≡ cond (is_at (uid_cmp uid) u) (Some x) (get uid_cmp old.by_uid u))
      → ((u : Uid) → targets_at uid_cmp new.groups u ≡ cond (is_at (uid_cmp uid) u) rows (targets_at uid_cmp old.groups u))
      → application_view x ≡ application_of d l a → rows ≡ found_groups d a.namespace a.written.groups → HasActions d l as_ old → HasActions d l (a ∷ as_) new
  put_action is put rowed applied groups before = record {
    applications = λ u. ap (option_map application_view) (put u ∙ ap (λ b. cond b (Some x) (get uid_cmp old.by_uid u)) (at_uid u is))
        ∙ put_case (option_map application_view) (option_map (application_of d l)) x a (get uid_cmp old.by_uid u) (first_action as_ u) (ap Some applied)
        (before.applications u) (same_uid (action_uid a) u);
    groups = λ u. rowed u ∙ ap (λ b. cond b rows (targets_at uid_cmp old.groups u)) (at_uid u is)
        ∙ row_case (groups_of d) rows (targets_at uid_cmp old.groups u) a (first_action as_ u) groups (before.groups u) (same_uid (action_uid a) u);
  }
