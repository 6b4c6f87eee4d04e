-- Rows of scopes, each by computing: what is told of a policy in all environments of a schema.
use Rattle.std.proofs.Common.{◌≡◌, pos, [], ◌∷◌, refl}
use Rattle.std.specs.Prelude.{codes}
use Rattle.cedar_language.specs.Tree.{Context, PrincipalSlot, ResourceSlot, Not, Equal, Less, In, Is, MakeSet, Var, Slot, And}
use Rattle.cedar_typing.specs.Faults.{UnrecognizedEntityType, UnrecognizedActionId, UnsafeAttributeAccess, InvalidEnumEntity, UnboundSlot}
use Rattle.cedar_typing.proofs.RowSchemas.{group, user, album, photo, color, action_type, uid, view, edit, paint, read_only, linked_environments, app_user, app_action, other_user, other_action, doc_environments, verdict_in, verdict, Valid, Impossible, Errs}
use Rattle.cedar_typing.proofs.RowTrees.{one, two, true_tree, long, text, literal, the_principal, the_action, the_resource, dot, has, account, a_user, is_read, owner, mfa, hour, scope, is_view, viewing, editing, always}

-- `permit(principal, action, resource);`
any_question : verdict (scope true_tree true_tree true_tree) ≡ Valid
any_question = refl

-- `permit(principal == User::"a", action == Action::"view", resource == Photo::"p");`
named_in_the_scope : verdict (scope (two Equal the_principal a_user) is_view (two Equal the_resource (literal (uid photo (codes "p"))))) ≡ Valid
named_in_the_scope = refl

-- `permit(principal is Usr, action, resource);`
no_type_after_is : verdict (scope (one (Is (codes "Usr" ∷ [])) the_principal) true_tree true_tree) ≡ Errs UnrecognizedEntityType
no_type_after_is = refl

-- `permit(principal, action == Action::"veiw", resource);`
no_such_action : verdict (scope true_tree (two Equal the_action (literal (uid action_type (codes "veiw")))) true_tree) ≡ Errs UnrecognizedActionId
no_such_action = refl

-- `permit(principal, action in Action::"readOnly", resource);`
within_a_group : verdict (scope true_tree (two In the_action (one MakeSet (literal read_only))) true_tree) ≡ Valid
within_a_group = refl

-- `permit(principal, action == Action::"readOnly", resource);`
a_group_applies_to_nothing : verdict (scope true_tree (two Equal the_action (literal read_only)) true_tree) ≡ Impossible
a_group_applies_to_nothing = refl

-- `permit(principal, action == Action::"edit", resource is Album);`
edit_takes_no_album : verdict (scope true_tree (two Equal the_action (literal edit)) (one (Is album) the_resource)) ≡ Impossible
edit_takes_no_album = refl

-- `permit(principal is Group, action == Action::"view", resource);`
no_principal_is_a_group : verdict (scope (one (Is group) the_principal) is_view true_tree) ≡ Impossible
no_principal_is_a_group = refl

-- `permit(principal in Group::"g", action, resource);`
principal_may_be_within : verdict (scope (two In the_principal (literal (uid group (codes "g")))) true_tree true_tree) ≡ Valid
principal_may_be_within = refl

-- `permit(principal in Album::"g", action, resource);`
no_user_is_within_an_album : verdict (scope (two In the_principal (literal (uid album (codes "g")))) true_tree true_tree) ≡ Impossible
no_user_is_within_an_album = refl

-- `permit(principal, action == Action::"edit", resource in Group::"x");`
no_photo_is_within_a_group :
    verdict (scope true_tree (two Equal the_action (literal edit)) (two In the_resource (literal (uid group (codes "x"))))) ≡ Impossible
no_photo_is_within_a_group = refl

-- `permit(principal is User in Group::"g", action, resource);`
is_and_in_together : verdict (scope (And (one (Is user) the_principal) (two In the_principal (literal (uid group (codes "g"))))) true_tree true_tree) ≡ Valid
is_and_in_together = refl

-- `permit(principal, action == Action::"paint", resource == Color::"red");`
a_listed_color : verdict (scope true_tree (two Equal the_action (literal paint)) (two Equal the_resource (literal (uid color (codes "red"))))) ≡ Valid
a_listed_color = refl

-- `permit(principal == ?principal, action == Action::"view", resource in ?resource);`
template_by_scope :
    verdict_in linked_environments (scope (two Equal the_principal (Slot PrincipalSlot)) is_view (two In the_resource (Slot ResourceSlot))) ≡ Valid
template_by_scope = refl

-- `permit(principal in ?principal, action == Action::"view", resource == ?resource) when { principal.account.active };`
template_with_clause :
    verdict_in linked_environments
    (And (scope (two In the_principal (Slot PrincipalSlot)) is_view (two Equal the_resource (Slot ResourceSlot))) (dot (codes "active") account))
    ≡ Valid
template_with_clause = refl

-- `permit(principal, action, resource) when { resource.private };`
no_such_attribute_of_albums : verdict (always (dot (codes "private") the_resource)) ≡ Errs UnsafeAttributeAccess
no_such_attribute_of_albums = refl

-- `permit(principal, action, resource is Photo) when { resource.private };`
is_in_the_scope_narrows : verdict (And (scope true_tree true_tree (one (Is photo) the_resource)) (dot (codes "private") the_resource)) ≡ Valid
is_in_the_scope_narrows = refl

-- `resource is Photo && resource.private`
is_in_the_clause_narrows : verdict (viewing (And (one (Is photo) the_resource) (dot (codes "private") the_resource))) ≡ Valid
is_in_the_clause_narrows = refl

-- `permit(principal, action == Action::"view", resource) unless { resource.private } when { resource is Photo };`
test_comes_too_late : verdict (viewing (And (one Not (dot (codes "private") the_resource)) (one (Is photo) the_resource))) ≡ Errs UnsafeAttributeAccess
test_comes_too_late = refl

-- `permit(principal, action in [Action::"view", Action::"edit"], resource) when { context.hour < 3 };`
no_hour_where_it_is_edited :
    verdict (And (scope true_tree (two In the_action (two MakeSet (literal view) (literal edit))) true_tree) (two Less hour (long (pos 3))))
    ≡ Errs UnsafeAttributeAccess
no_hour_where_it_is_edited = refl

-- `permit(principal, action, resource) when { context has mfa && context.mfa };`
mfa_where_it_is_edited : verdict (always (And (has (codes "mfa") (Var Context)) mfa)) ≡ Valid
mfa_where_it_is_edited = refl

-- `context has mfa && context.mfa && resource.owner == principal`
two_clauses_of_edit : verdict (editing (And (And (has (codes "mfa") (Var Context)) mfa) (two Equal owner the_principal))) ≡ Valid
two_clauses_of_edit = refl

-- `permit(principal is App::User, action == App::Action::"read", resource) when { principal has mail };`
names_in_full :
    verdict_in doc_environments (And (scope (one (Is app_user) the_principal) (is_read app_action) true_tree) (has (codes "mail") the_principal)) ≡ Valid
names_in_full = refl

-- `permit(principal is User, action, resource);`
no_user_without_a_namespace : verdict_in doc_environments (scope (one (Is user) the_principal) true_tree true_tree) ≡ Errs UnrecognizedEntityType
no_user_without_a_namespace = refl

-- `permit(principal, action == Action::"read", resource);`
no_action_without_a_namespace : verdict_in doc_environments (scope true_tree (is_read action_type) true_tree) ≡ Errs UnrecognizedActionId
no_action_without_a_namespace = refl

-- `permit(principal is Other::User, action == Other::Action::"read", resource) when { resource.owner == principal };`
users_of_two_namespaces :
    verdict_in doc_environments (And (scope (one (Is other_user) the_principal) (is_read other_action) true_tree) (two Equal owner the_principal)) ≡ Impossible
users_of_two_namespaces = refl

-- `permit(principal, action, resource) when { principal is App::User && principal.id == "x" };`
id_of_one_namespace :
    verdict_in doc_environments (always (And (one (Is app_user) the_principal) (two Equal (dot (codes "id") the_principal) (text (codes "x"))))) ≡ Valid
id_of_one_namespace = refl

-- `permit(principal, action == Action::"paint", resource == Color::"blue");`
a_color_that_is_not_listed :
    verdict (scope true_tree (two Equal the_action (literal paint)) (two Equal the_resource (literal (uid color (codes "blue"))))) ≡ Errs InvalidEnumEntity
a_color_that_is_not_listed = refl

-- `permit(principal == ?principal, action, resource);` where no slot is bound
a_slot_that_is_not_bound : verdict (scope (two Equal the_principal (Slot PrincipalSlot)) true_tree true_tree) ≡ Errs UnboundSlot
a_slot_that_is_not_bound = refl
