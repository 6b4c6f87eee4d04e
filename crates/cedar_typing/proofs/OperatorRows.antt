-- Rows of operators and calls, each by computing.
use Rattle.std.proofs.Common.{◌≡◌, pos, [], ◌∷◌, refl}
use Rattle.std.specs.Prelude.{codes, None}
use Rattle.cedar_language.specs.Tree.{Context, Not, Neg, IsEmpty, Equal, Less, Add, Sub, Mul, In, Contains, ContainsAll, ContainsAny, Like, Is, MakeSet, MakeRecord, Call, Var, If, And, Or, Apply, no_trees, Unknown}
use Rattle.cedar_typing.specs.Faults.{UnrecognizedEntityType, UnexpectedType, IncompatibleTypes, WrongNumberArguments, FunctionArgumentValidation, NonLitExtConstructor, EmptySetForbidden, UndefinedFunction, DuplicateKeys, UnknownNotAllowed}
use Rattle.cedar_typing.proofs.RowSchemas.{group, uid, edit, paint, read_only, ip, is_loopback, decimal, duration, offset, verdict, Valid, Impossible, Errs}
use Rattle.cedar_typing.proofs.RowTrees.{one, two, true_tree, false_tree, long, text, literal, the_principal, the_action, the_resource, dot, has, greater, pattern, with_a, with_a_b, name, roles, address, account, a_user, now, nickname, hour, authenticated, viewing, editing}

-- `[User::"a", Group::"g"].contains(principal)`
set_of_two_entity_types : verdict (viewing (two Contains (two MakeSet a_user (literal (uid group (codes "g")))) the_principal)) ≡ Errs IncompatibleTypes
set_of_two_entity_types = refl

-- `principal.roles == []`
empty_set_beside_a_set : verdict (viewing (two Equal roles (Apply MakeSet no_trees))) ≡ Errs EmptySetForbidden
empty_set_beside_a_set = refl

-- `principal.roles.isEmpty()`
is_empty_of_a_set : verdict (viewing (one IsEmpty roles)) ≡ Valid
is_empty_of_a_set = refl

-- `principal.roles.contains(3)`
contains_another_type : verdict (viewing (two Contains roles (long (pos 3)))) ≡ Errs IncompatibleTypes
contains_another_type = refl

-- `principal.roles.containsAny(["a", "b"])`
contains_any_of_strings : verdict (viewing (two ContainsAny roles (two MakeSet (text (codes "a")) (text (codes "b"))))) ≡ Valid
contains_any_of_strings = refl

-- `principal.roles.containsAll([1])`
contains_all_of_longs : verdict (viewing (two ContainsAll roles (one MakeSet (long (pos 1))))) ≡ Errs IncompatibleTypes
contains_all_of_longs = refl

-- `(if context.authenticated then 1 else "a") == 1`
parts_without_a_common_type : verdict (viewing (two Equal (If authenticated (long (pos 1)) (text (codes "a"))) (long (pos 1)))) ≡ Errs IncompatibleTypes
parts_without_a_common_type = refl

-- `(if true then 1 else "a") == 1`
part_that_is_never_taken : verdict (viewing (two Equal (If true_tree (long (pos 1)) (text (codes "a"))) (long (pos 1)))) ≡ Valid
part_that_is_never_taken = refl

-- `(if context.authenticated then {a: 1} else {a: 1, b: 2}).a == 1`
parts_with_other_fields :
    verdict (viewing (two Equal (dot (codes "a") (If authenticated (with_a (long (pos 1))) (with_a_b (long (pos 1)) (long (pos 2))))) (long (pos 1))))
    ≡ Errs IncompatibleTypes
parts_with_other_fields = refl

-- `(if context.authenticated then {a: true} else {a: false}).a`
true_and_false_have_bool : verdict (viewing (dot (codes "a") (If authenticated (with_a true_tree) (with_a false_tree)))) ≡ Valid
true_and_false_have_bool = refl

-- `(if context.authenticated then principal.address else {street: principal.name}).street == principal.name`
optional_beside_missing :
    verdict (viewing (two Equal (dot (codes "street") (If authenticated address (one (MakeRecord (codes "street" ∷ [])) name))) name))
    ≡ Errs IncompatibleTypes
optional_beside_missing = refl

-- `(if context.authenticated then principal else principal.account.active)`
entity_beside_boolean : verdict (viewing (If authenticated the_principal (dot (codes "active") account))) ≡ Errs IncompatibleTypes
entity_beside_boolean = refl

-- `principal.name == 3`
name_and_number : verdict (viewing (two Equal name (long (pos 3)))) ≡ Errs IncompatibleTypes
name_and_number = refl

-- `principal == resource`
entities_of_two_types : verdict (viewing (two Equal the_principal the_resource)) ≡ Impossible
entities_of_two_types = refl

-- `principal != resource`
entities_of_two_types_differ : verdict (viewing (one Not (two Equal the_principal the_resource))) ≡ Valid
entities_of_two_types_differ = refl

-- `1 == 1`
equal_constants : verdict (viewing (two Equal (long (pos 1)) (long (pos 1)))) ≡ Valid
equal_constants = refl

-- `1 == 2`
unequal_constants : verdict (viewing (two Equal (long (pos 1)) (long (pos 2)))) ≡ Impossible
unequal_constants = refl

-- `1 == "a"`
constants_of_two_types : verdict (viewing (two Equal (long (pos 1)) (text (codes "a")))) ≡ Impossible
constants_of_two_types = refl

-- `context.hour < "9"`
less_takes_longs : verdict (viewing (two Less hour (text (codes "9")))) ≡ Errs UnexpectedType
less_takes_longs = refl

-- `context.hour + 1 < 24`
may_overflow : verdict (viewing (two Less (two Add hour (long (pos 1))) (long (pos 24)))) ≡ Valid
may_overflow = refl

-- `-context.hour > 3 * 4 - 1`
arithmetic : verdict (viewing (greater (one Neg hour) (two Sub (two Mul (long (pos 3)) (long (pos 4))) (long (pos 1))))) ≡ Valid
arithmetic = refl

-- `!context.hour`
not_takes_booleans : verdict (viewing (one Not hour)) ≡ Errs UnexpectedType
not_takes_booleans = refl

-- `context.hour`
clause_is_no_boolean : verdict (viewing hour) ≡ Errs UnexpectedType
clause_is_no_boolean = refl

-- `context.hour && true`
and_takes_booleans : verdict (viewing (And hour true_tree)) ≡ Errs UnexpectedType
and_takes_booleans = refl

-- `principal < resource`
less_of_entities : verdict (viewing (two Less the_principal the_resource)) ≡ Errs UnexpectedType
less_of_entities = refl

-- `principal.name like "a*"`
like_a_pattern : verdict (viewing (one (Like (pattern (codes "a*"))) name)) ≡ Valid
like_a_pattern = refl

-- `context.hour like "a*"`
like_takes_strings : verdict (viewing (one (Like (pattern (codes "a*"))) hour)) ≡ Errs UnexpectedType
like_takes_strings = refl

-- `principal in resource`
never_within : verdict (viewing (two In the_principal the_resource)) ≡ Impossible
never_within = refl

-- `resource in resource`
within_itself : verdict (viewing (two In the_resource the_resource)) ≡ Valid
within_itself = refl

-- `principal in principal`
a_user_within_itself : verdict (viewing (two In the_principal the_principal)) ≡ Valid
a_user_within_itself = refl

-- `principal in principal.roles`
in_a_set_of_strings : verdict (viewing (two In the_principal roles)) ≡ Errs UnexpectedType
in_a_set_of_strings = refl

-- `principal in "x"`
in_a_string : verdict (viewing (two In the_principal (text (codes "x")))) ≡ Errs UnexpectedType
in_a_string = refl

-- `principal is Group`
is_another_type : verdict (viewing (one (Is group) the_principal)) ≡ Impossible
is_another_type = refl

-- `principal is Robot`
is_an_undeclared_type : verdict (viewing (one (Is (codes "Robot" ∷ [])) the_principal)) ≡ Errs UnrecognizedEntityType
is_an_undeclared_type = refl

-- `action in Action::"readOnly"`
view_is_read_only : verdict (viewing (two In the_action (literal read_only))) ≡ Valid
view_is_read_only = refl

-- `action in [Action::"edit", Action::"paint"]`
view_is_neither : verdict (viewing (two In the_action (two MakeSet (literal edit) (literal paint)))) ≡ Impossible
view_is_neither = refl

-- `context.authenticated && false`
and_false : verdict (viewing (And authenticated false_tree)) ≡ Impossible
and_false = refl

-- `false && principal.nickname`
false_and_anything : verdict (viewing (And false_tree nickname)) ≡ Impossible
false_and_anything = refl

-- `true || principal.nickname`
true_or_anything : verdict (viewing (Or true_tree nickname)) ≡ Valid
true_or_anything = refl

-- `ip("nonsense").isLoopback()`
no_such_address : verdict (viewing (one (Call is_loopback) (one (Call ip) (text (codes "nonsense"))))) ≡ Errs FunctionArgumentValidation
no_such_address = refl

-- `ip(principal.name).isLoopback()`
constructor_of_no_literal : verdict (viewing (one (Call is_loopback) (one (Call ip) name))) ≡ Errs NonLitExtConstructor
constructor_of_no_literal = refl

-- `ip("1.1.1.1", "2.2.2.2").isLoopback()`
two_addresses : verdict (viewing (one (Call is_loopback) (two (Call ip) (text (codes "1.1.1.1")) (text (codes "2.2.2.2"))))) ≡ Errs WrongNumberArguments
two_addresses = refl

-- `decimal("1.23") == context.cost`
equal_decimals : verdict (editing (two Equal (one (Call decimal) (text (codes "1.23"))) (dot (codes "cost") (Var Context)))) ≡ Valid
equal_decimals = refl

-- `decimal("1.23456") == context.cost`
too_many_digits :
    verdict (editing (two Equal (one (Call decimal) (text (codes "1.23456"))) (dot (codes "cost") (Var Context)))) ≡ Errs FunctionArgumentValidation
too_many_digits = refl

-- `context.now < duration("1h")`
less_of_two_extension_types : verdict (editing (two Less now (one (Call duration) (text (codes "1h"))))) ≡ Errs UnexpectedType
less_of_two_extension_types = refl

-- `context.now.offset(duration("1h")) > context.now`
offset_of_a_datetime : verdict (editing (greater (two (Call offset) now (one (Call duration) (text (codes "1h")))) now)) ≡ Valid
offset_of_a_datetime = refl

-- `sqrt("1") == 1`
no_such_function : verdict (viewing (two Equal (one (Call (codes "sqrt" ∷ [])) (text (codes "1"))) (long (pos 1)))) ≡ Errs UndefinedFunction
no_such_function = refl

-- `{a: 1, a: 2} has a`
key_that_stands_twice : verdict (viewing (has (codes "a") (two (MakeRecord (codes "a" ∷ codes "a" ∷ [])) (long (pos 1)) (long (pos 2))))) ≡ Errs DuplicateKeys
key_that_stands_twice = refl

-- `unknown("x")`
an_unknown : verdict (viewing (Unknown (codes "x") None)) ≡ Errs UnknownNotAllowed
an_unknown = refl
