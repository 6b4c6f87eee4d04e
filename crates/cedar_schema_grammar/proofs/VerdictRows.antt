-- Rows of policies against the schema that a text is, each by computing: what is told of them in all its environments.
use Rattle.std.proofs.Common.{◌≡◌, ℕ, pos, List, [], ◌∷◌, Option, Some, refl}
use Rattle.std.specs.Prelude.{codes, map}
use Rattle.cedar_language.specs.Tree.{Context, Equal, In, Is, Tree, Var, And}
use Rattle.cedar_grammar.specs.Steps.{◌>>=◌}
use Rattle.cedar_typing.specs.Faults.{UnrecognizedEntityType, UnrecognizedActionId, UnsafeAttributeAccess, UnsafeOptionalAttributeAccess, UnsafeTagAccess, InvalidEnumEntity, IncompatibleTypes}
use Rattle.cedar_typing.specs.Schema.{Environment}
use Rattle.cedar_typing.proofs.RowSchemas.{user, album, color, action_type, uid, paint, app_user, app_action, other_user, other_action, at, Verdict, verdict_in, Valid, Impossible, Errs}
use Rattle.cedar_typing.proofs.RowTrees.{one, two, true_tree, long, text, literal, the_principal, the_action, the_resource, dot, has, is_read, owner, mfa, age, has_age, has_tag, tag, scope, viewing, always}
use Rattle.cedar_schema_grammar.specs.Declared.{Declared, declared}
use Rattle.cedar_schema_grammar.specs.Environments.{applications_of}
use Rattle.cedar_schema_grammar.specs.Resolving.{schema_of}
use Rattle.cedar_schema_grammar.proofs.SchemaRows.{syntax, library}
use Rattle.cedar_schema_grammar.proofs.ResolvedRows.{photo_text, doc_text}

abbrev environments : Declared → List Environment
environments d = map (λ x. at (schema_of library d) x.principal x.action x.resource) (applications_of d d.actions)

unfoldable verdict_by : List ℕ → Tree → Option Verdict
unfolding syntax
verdict_by cs t = syntax cs >>= λ s. Some (verdict_in (environments (declared s)) t)

-- ---- the schema of documents

-- `permit(principal is App::User, action == App::Action::"read", resource) when { principal has mail };`
names_in_full : verdict_by doc_text (And (scope (one (Is app_user) the_principal) (is_read app_action) true_tree) (has (codes "mail") the_principal)) ≡ Some Valid
unfolding verdict_by
names_in_full = refl

-- `permit(principal is User, action, resource);`
no_user_without_a_namespace : verdict_by doc_text (scope (one (Is user) the_principal) true_tree true_tree) ≡ Some (Errs UnrecognizedEntityType)
unfolding verdict_by
no_user_without_a_namespace = refl

-- `permit(principal, action == Action::"read", resource);`
no_action_without_a_namespace : verdict_by doc_text (scope true_tree (is_read action_type) true_tree) ≡ Some (Errs UnrecognizedActionId)
unfolding verdict_by
no_action_without_a_namespace = refl

-- `permit(principal is Other::User, action == Other::Action::"read", resource) when { resource.owner == principal };`
users_of_two_namespaces :
    verdict_by doc_text (And (scope (one (Is other_user) the_principal) (is_read other_action) true_tree) (two Equal owner the_principal)) ≡ Some Impossible
unfolding verdict_by
users_of_two_namespaces = refl

-- `permit(principal, action, resource) when { principal is App::User && principal.id == "x" };`, whose id is a common type
id_of_one_namespace :
    verdict_by doc_text (always (And (one (Is app_user) the_principal) (two Equal (dot (codes "id") the_principal) (text (codes "x"))))) ≡ Some Valid
unfolding verdict_by
id_of_one_namespace = refl

-- ---- the schema of photos

-- `permit(principal, action in Action::"readOnly", resource);`: the group of one action
within_a_group : verdict_by photo_text (scope true_tree (two In the_action (literal (uid action_type (codes "readOnly")))) true_tree) ≡ Some Valid
unfolding verdict_by
within_a_group = refl

-- `permit(principal in Album::"g", action, resource);`
no_user_is_within_an_album : verdict_by photo_text (scope (two In the_principal (literal (uid album (codes "g")))) true_tree true_tree) ≡ Some Impossible
unfolding verdict_by
no_user_is_within_an_album = refl

-- `permit(principal, action, resource) when { resource.private };`
no_such_attribute_of_albums : verdict_by photo_text (always (dot (codes "private") the_resource)) ≡ Some (Errs UnsafeAttributeAccess)
unfolding verdict_by
no_such_attribute_of_albums = refl

-- `principal.age == principal.age`, and with a test before it
an_optional_mark : verdict_by photo_text (viewing (two Equal age age)) ≡ Some (Errs UnsafeOptionalAttributeAccess)
unfolding verdict_by
an_optional_mark = refl

an_optional_mark_tested : verdict_by photo_text (viewing (And has_age (two Equal age age))) ≡ Some Valid
unfolding verdict_by
an_optional_mark_tested = refl

-- `principal.getTag("x") == "y"`, and with a test before it
a_tag_without_its_test : verdict_by photo_text (viewing (two Equal (tag (codes "x") the_principal) (text (codes "y")))) ≡ Some (Errs UnsafeTagAccess)
unfolding verdict_by
a_tag_without_its_test = refl

a_tag_tested : verdict_by photo_text (viewing (And (has_tag (codes "x") the_principal) (two Equal (tag (codes "x") the_principal) (text (codes "y"))))) ≡ Some Valid
unfolding verdict_by
a_tag_tested = refl

-- `permit(principal, action == Action::"paint", resource == Color::"blue");`
a_color_that_is_not_listed :
    verdict_by photo_text (scope true_tree (two Equal the_action (literal paint)) (two Equal the_resource (literal (uid color (codes "blue"))))) ≡ Some (Errs InvalidEnumEntity)
unfolding verdict_by
a_color_that_is_not_listed = refl

-- `permit(principal, action, resource) when { context has mfa && context.mfa };`
mfa_where_it_is_edited : verdict_by photo_text (always (And (has (codes "mfa") (Var Context)) mfa)) ≡ Some Valid
unfolding verdict_by
mfa_where_it_is_edited = refl

-- ---- smaller ones

abbrev any_question : Tree
any_question = scope true_tree true_tree true_tree

-- entity types may be in a circle
circle_of_types : verdict_by (codes "entity A in [B]; entity B in [A]; action a appliesTo { principal: A, resource: B };") any_question ≡ Some Valid
unfolding verdict_by
circle_of_types = refl

-- groups alone are no environment
groups_alone : verdict_by (codes "entity A; action a; action b in a;") any_question ≡ Some Impossible
unfolding verdict_by
groups_alone = refl

-- `permit(principal, action, resource) when { principal.n == resource };`: an entity type shadows the built-in one
an_entity_type_of_a_built_in_name :
    verdict_by (codes "entity Long; entity U { n: Long }; action a appliesTo { principal: U, resource: Long };")
    (always (two Equal (dot (codes "n") the_principal) the_resource))
    ≡ Some Valid
unfolding verdict_by
an_entity_type_of_a_built_in_name = refl

-- `permit(principal, action, resource) when { principal.t == 1 };`: a common type goes before an entity type of its name
a_common_type_of_its_name :
    verdict_by (codes "type T = Long; entity T; entity U { t: T }; action a appliesTo { principal: U, resource: T };")
    (always (two Equal (dot (codes "t") the_principal) (long (pos 1))))
    ≡ Some Valid
unfolding verdict_by
a_common_type_of_its_name = refl

-- `permit(principal, action, resource) when { principal.t == resource };`: so that isn't the entity type
not_the_entity_type_of_its_name :
    verdict_by (codes "type T = Long; entity T; entity U { t: T }; action a appliesTo { principal: U, resource: T };")
    (always (two Equal (dot (codes "t") the_principal) the_resource))
    ≡ Some (Errs IncompatibleTypes)
unfolding verdict_by
not_the_entity_type_of_its_name = refl

-- `permit(principal in B::"b", action, resource);` where A is within B by another type, and where it isn't
within_two_types :
    verdict_by (codes "entity B; entity C in B; entity A in C; action a appliesTo { principal: A, resource: B };")
    (scope (two In the_principal (literal (uid (codes "B" ∷ []) (codes "b")))) true_tree true_tree)
    ≡ Some Valid
unfolding verdict_by
within_two_types = refl

not_within_turned :
    verdict_by (codes "entity B; entity C in B; entity A in C; action a appliesTo { principal: B, resource: A };")
    (scope (two In the_principal (literal (uid (codes "A" ∷ []) (codes "a")))) true_tree true_tree)
    ≡ Some Impossible
unfolding verdict_by
not_within_turned = refl

-- `permit(principal, action in Action::"a", resource);` where b is within c, and that within a
within_two_groups :
    verdict_by (codes "entity U; action a; action c in a; action b in c appliesTo { principal: U, resource: U };")
    (scope true_tree (two In the_action (literal (uid action_type (codes "a")))) true_tree)
    ≡ Some Valid
unfolding verdict_by
within_two_groups = refl
