-- Rows of attributes, tags and what guards them, each by computing.
use Rattle.std.proofs.Common.{◌≡◌, pos, [], ◌∷◌, refl}
use Rattle.std.specs.Prelude.{codes}
use Rattle.cedar_language.specs.Tree.{Context, Not, Equal, Less, Contains, GetTag, HasTag, HasPath, Like, MakeSet, Call, Var, If, And, Or}
use Rattle.cedar_typing.specs.Faults.{UnexpectedType, UnsafeAttributeAccess, UnsafeOptionalAttributeAccess, UnsafeTagAccess, NoTagsAllowed}
use Rattle.cedar_typing.proofs.RowSchemas.{view, is_loopback, tag_environments, verdict_in, verdict, Valid, Impossible, Errs}
use Rattle.cedar_typing.proofs.RowTrees.{one, two, true_tree, false_tree, long, text, literal, the_principal, the_resource, dot, has, pattern, with_a, age, has_age, grown, name, address, manager, has_manager, has_tag, tag, a_user, nickname, authenticated, viewing, always, acting}

-- `principal.age > 18`
no_guard : verdict (viewing grown) ≡ Errs UnsafeOptionalAttributeAccess
no_guard = refl

-- `principal has age && principal.age > 18`
guarded : verdict (viewing (And has_age grown)) ≡ Valid
guarded = refl

-- `principal.age > 18 && principal has age`
guard_comes_too_late : verdict (viewing (And grown has_age)) ≡ Errs UnsafeOptionalAttributeAccess
guard_comes_too_late = refl

-- `!(principal has age) || principal.age > 18`
negated_guard : verdict (viewing (Or (one Not has_age) grown)) ≡ Errs UnsafeOptionalAttributeAccess
negated_guard = refl

-- `if principal has age then principal.age > 18 else false`
guard_in_a_test : verdict (viewing (If has_age grown false_tree)) ≡ Valid
guard_in_a_test = refl

-- `(principal has age && true) && principal.age > 18`
guard_is_carried_out : verdict (viewing (And (And has_age true_tree) grown)) ≡ Valid
guard_is_carried_out = refl

-- `(principal has age || principal has manager) && principal.age > 18`
guard_on_one_side_alone : verdict (viewing (And (Or has_age has_manager) grown)) ≡ Errs UnsafeOptionalAttributeAccess
guard_on_one_side_alone = refl

-- `(false || principal has age) && principal.age > 18`
false_or_a_guard : verdict (viewing (And (Or false_tree has_age) grown)) ≡ Valid
false_or_a_guard = refl

-- `(if context.authenticated then principal has age else false) && principal.age > 18`
guard_in_a_part_alone : verdict (viewing (And (If authenticated has_age false_tree) grown)) ≡ Errs UnsafeOptionalAttributeAccess
guard_in_a_part_alone = refl

-- `(if principal has age then context.authenticated else false) && principal.age > 18`
false_gives_nothing : verdict (viewing (And (If has_age authenticated false_tree) grown)) ≡ Errs UnsafeOptionalAttributeAccess
false_gives_nothing = refl

-- `(if principal has age then context.authenticated else principal has age) && principal.age > 18`
guard_of_test_counts_in_the_part : verdict (viewing (And (If has_age authenticated has_age) grown)) ≡ Valid
guard_of_test_counts_in_the_part = refl

-- `principal has manager && principal.manager.name == "x"`
attribute_of_a_manager : verdict (viewing (And has_manager (two Equal (dot (codes "name") manager) (text (codes "x"))))) ≡ Valid
attribute_of_a_manager = refl

-- `principal has manager && principal.manager.age == 3`
guard_of_another_expression : verdict (viewing (And has_manager (two Equal (dot (codes "age") manager) (long (pos 3))))) ≡ Errs UnsafeOptionalAttributeAccess
guard_of_another_expression = refl

-- `principal has manager.age && principal.manager.age == 3`
path_guards_its_parts :
    verdict (viewing (And (one (HasPath (codes "manager") (codes "age" ∷ [])) the_principal) (two Equal (dot (codes "age") manager) (long (pos 3))))) ≡ Valid
path_guards_its_parts = refl

-- `principal has manager && principal.manager has age && principal.manager.age == 3`
path_written_out : verdict (viewing (And (And has_manager (has (codes "age") manager)) (two Equal (dot (codes "age") manager) (long (pos 3))))) ≡ Valid
path_written_out = refl

-- `principal.address has zip && principal.address.zip == "8000"`
guard_of_a_record : verdict (viewing (And (has (codes "zip") address) (two Equal (dot (codes "zip") address) (text (codes "8000"))))) ≡ Valid
guard_of_a_record = refl

-- `principal["address"]["street"] like "Bahn*"`
attributes_by_index : verdict (viewing (one (Like (pattern (codes "Bahn*"))) (dot (codes "street") address))) ≡ Valid
attributes_by_index = refl

-- `principal.nickname == "x"`
undeclared_attribute : verdict (viewing (two Equal nickname (text (codes "x")))) ≡ Errs UnsafeAttributeAccess
undeclared_attribute = refl

-- `principal has nickname && principal.nickname == "x"`
never_there : verdict (viewing (And (has (codes "nickname") the_principal) (two Equal nickname (text (codes "x"))))) ≡ Impossible
never_there = refl

-- `principal has name`
may_not_exist : verdict (viewing (has (codes "name") the_principal)) ≡ Valid
may_not_exist = refl

-- `{a: 1} has a`
always_in_a_record : verdict (viewing (has (codes "a") (with_a (long (pos 1))))) ≡ Valid
always_in_a_record = refl

-- `{a: 1} has b`
never_in_a_record : verdict (viewing (has (codes "b") (with_a (long (pos 1))))) ≡ Impossible
never_in_a_record = refl

-- `{a: 1}.b == 2`
no_field_in_a_record : verdict (viewing (two Equal (dot (codes "b") (with_a (long (pos 1)))) (long (pos 2)))) ≡ Errs UnsafeAttributeAccess
no_field_in_a_record = refl

-- `!({a: 1} has a)`
not_always_there : verdict (viewing (one Not (has (codes "a") (with_a (long (pos 1)))))) ≡ Impossible
not_always_there = refl

-- `context has ip && context.ip.isLoopback()`
guard_of_the_context : verdict (viewing (And (has (codes "ip") (Var Context)) (one (Call is_loopback) (dot (codes "ip") (Var Context))))) ≡ Valid
guard_of_the_context = refl

-- `context.ip.isLoopback()`
no_guard_of_the_context : verdict (viewing (one (Call is_loopback) (dot (codes "ip") (Var Context)))) ≡ Errs UnsafeOptionalAttributeAccess
no_guard_of_the_context = refl

-- `forbid(principal, action, resource) unless { principal has age && principal.age >= 18 };`
unless_guarded : verdict (always (one Not (And has_age (one Not (two Less age (long (pos 18))))))) ≡ Valid
unless_guarded = refl

-- `permit(principal, action, resource) when { principal == User::"a" && User::"a".account.active };`
attributes_of_a_named_entity : verdict (always (And (two Equal the_principal a_user) (dot (codes "active") (dot (codes "account") a_user)))) ≡ Valid
attributes_of_a_named_entity = refl

-- `Action::"view" has x`
actions_have_no_attributes : verdict (viewing (has (codes "x") (literal view))) ≡ Impossible
actions_have_no_attributes = refl

-- `principal.getTag("team") == "red"`
no_guard_of_a_tag : verdict (viewing (two Equal (tag (codes "team") the_principal) (text (codes "red")))) ≡ Errs UnsafeTagAccess
no_guard_of_a_tag = refl

-- `principal.hasTag("a") && principal.getTag("b") == "red"`
guard_of_another_tag :
    verdict (viewing (And (has_tag (codes "a") the_principal) (two Equal (tag (codes "b") the_principal) (text (codes "red"))))) ≡ Errs UnsafeTagAccess
guard_of_another_tag = refl

-- `principal.hasTag(principal.name) && principal.getTag(principal.name) == "red"`
same_key_expression : verdict (viewing (And (two HasTag the_principal name) (two Equal (two GetTag the_principal name) (text (codes "red"))))) ≡ Valid
same_key_expression = refl

-- `resource.getTag("x") == 1`
no_tags_declared : verdict_in tag_environments (acting (two Equal (tag (codes "x") the_resource) (long (pos 1)))) ≡ Errs NoTagsAllowed
no_tags_declared = refl

-- `resource.hasTag("x") && resource.getTag("x") == 1`
never_tagged :
    verdict_in tag_environments (acting (And (has_tag (codes "x") the_resource) (two Equal (tag (codes "x") the_resource) (long (pos 1))))) ≡ Impossible
never_tagged = refl

-- `principal.hasTag("x") && principal.getTag("x").contains("y")`
tags_that_are_sets :
    verdict_in tag_environments (acting (And (has_tag (codes "x") the_principal) (two Contains (tag (codes "x") the_principal) (text (codes "y"))))) ≡ Valid
tags_that_are_sets = refl

-- `principal.hasTag(1)`
key_is_no_string : verdict_in tag_environments (acting (two HasTag the_principal (long (pos 1)))) ≡ Errs UnexpectedType
key_is_no_string = refl

-- `{a: 1}.hasTag("x")`
records_have_no_tags : verdict_in tag_environments (acting (two HasTag (with_a (long (pos 1))) (text (codes "x")))) ≡ Errs UnexpectedType
records_have_no_tags = refl

-- `principal has age && [principal.age].contains(3)`
set_of_a_guarded_attribute : verdict (viewing (And has_age (two Contains (one MakeSet age) (long (pos 3))))) ≡ Valid
set_of_a_guarded_attribute = refl
