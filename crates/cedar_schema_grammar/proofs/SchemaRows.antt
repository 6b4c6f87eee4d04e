-- Rows of schemas' texts, each by computing: what is told of a text.
use Rattle.std.proofs.Common.{◌≡◌, ℕ, List, [], ◌∷◌, Option, Some, None, refl}
use Rattle.std.specs.Prelude.{codes, cond}
use Rattle.cedar_language.specs.Uid.{Text, Name}
use Rattle.cedar_grammar.specs.Escape as escape
use Rattle.cedar_grammar.specs.Tokens as policies
use Rattle.cedar_grammar.specs.Steps.{◌>>=◌}
use Rattle.cedar_typing.specs.Types.{CedarType}
use Rattle.cedar_typing.proofs.RowSchemas.{extension, signatures, uid, action_type}
use Rattle.cedar_schema_grammar.specs.Syntax.{SchemaSyntax}
use Rattle.cedar_schema_grammar.specs.Tokens as tokens
use Rattle.cedar_schema_grammar.specs.Tokens.{tokens_of}
use Rattle.cedar_schema_grammar.specs.Grammar.{is_one_of}
use Rattle.cedar_schema_grammar.specs.Reading as reading
use Rattle.cedar_schema_grammar.specs.Reading.{syntax_of}
use Rattle.cedar_schema_grammar.specs.Declared.{Library, declared}
use Rattle.cedar_schema_grammar.specs.Faults.{SchemaFault, TypeNotDefined, ActionNotDefined, CycleInCommonTypeReferences, CycleInActionHierarchy, DuplicateEntityType, DuplicateCommonType, DuplicateAction, DuplicateAttribute, TypeShadowing, ActionShadowing, ContextOrShapeNotRecord, ActionEntityTypeDeclared, ReservedName, ReservedNamespace, EmptyEnum, EmptyAppliesTo, NoPrincipal, NoResource, DuplicatePrincipal, DuplicateResource, DuplicateContext, faults_in}

abbrev extension_type : Text → Option CedarType
extension_type s = cond (is_one_of (codes "ipaddr" ∷ codes "decimal" ∷ codes "datetime" ∷ codes "duration" ∷ []) s) (Some (extension s)) None

-- four extension types, and some of their functions
abbrev pub library : Library
library = record { type = extension_type; signature = signatures }

-- what the characters of a text say
unfoldable pub syntax : List ℕ → Option SchemaSyntax
unfolding tokens_of tokens.tokens_at tokens.token_read policies.after_blank policies.run_of policies.inside_of escape.string_of escape.parts_from lib.Utf8.encode syntax_of reading.schema_at reading.declarations_at reading.declaration_at reading.entry_at reading.ref_at reading.type_at reading.attributes_at reading.key_at reading.annotations_at reading.keys_at reading.items_at reading.several_at reading.path_at
syntax cs = tokens_of cs >>= syntax_of

-- all that is told of the text, where its grammar is kept
unfoldable pub told : List ℕ → Option (List SchemaFault)
unfolding syntax
told cs = syntax cs >>= λ s. Some (faults_in library s (declared s))

abbrev alone : Text → Name
alone s = s ∷ []

-- ---- names

-- `entity User { boss: Boss };`
no_such_type : told (codes "entity User { boss: Boss };") ≡ Some (TypeNotDefined (alone (codes "Boss")) ∷ [])
unfolding told
no_such_type = refl

-- `entity User in [Team];`
no_such_parent : told (codes "entity User in [Team];") ≡ Some (TypeNotDefined (alone (codes "Team")) ∷ [])
unfolding told
no_such_parent = refl

-- `entity A { x: Foo::Bar };`
a_path_is_looked_up_as_written : told (codes "entity A { x: Foo::Bar };") ≡ Some (TypeNotDefined (codes "Foo" ∷ codes "Bar" ∷ []) ∷ [])
unfolding told
a_path_is_looked_up_as_written = refl

-- `entity U { n: __cedar::Long }; action a appliesTo { principal: U, resource: U };`
built_in_by_its_full_name : told (codes "entity U { n: __cedar::Long }; action a appliesTo { principal: U, resource: U };") ≡ Some []
unfolding told
built_in_by_its_full_name = refl

-- `entity U { n: __cedar::U };`
not_built_in_by_its_full_name : told (codes "entity U { n: __cedar::U };") ≡ Some (TypeNotDefined (codes "__cedar" ∷ codes "U" ∷ []) ∷ [])
unfolding told
not_built_in_by_its_full_name = refl

-- `entity Long; entity U { n: Long }; action a appliesTo { principal: U, resource: Long };`
an_entity_type_goes_before_the_built_in : told (codes "entity Long; entity U { n: Long }; action a appliesTo { principal: U, resource: Long };") ≡ Some []
unfolding told
an_entity_type_goes_before_the_built_in = refl

-- `type T = Long; entity T; action a appliesTo { principal: T, resource: T };`
one_name_of_two_kinds : told (codes "type T = Long; entity T; action a appliesTo { principal: T, resource: T };") ≡ Some []
unfolding told
one_name_of_two_kinds = refl

-- `type T = Long; entity U in T;`
no_common_type_where_an_entity_type_is_due : told (codes "type T = Long; entity U in T;") ≡ Some (TypeNotDefined (alone (codes "T")) ∷ [])
unfolding told
no_common_type_where_an_entity_type_is_due = refl

-- `entity U { ip: ipaddr, at?: Set<datetime> };`
an_extension_type : told (codes "entity U { ip: ipaddr, at?: Set<datetime> };") ≡ Some []
unfolding told
an_extension_type = refl

-- `entity U { ip: ipadr };`
no_extension_type : told (codes "entity U { ip: ipadr };") ≡ Some (TypeNotDefined (alone (codes "ipadr")) ∷ [])
unfolding told
no_extension_type = refl

-- `namespace N { entity A; entity B in A; }`
in_its_namespace : told (codes "namespace N { entity A; entity B in A; }") ≡ Some []
unfolding told
in_its_namespace = refl

-- `entity A; namespace N { entity B in A { a: A, n: N::B }; }`
in_no_namespace : told (codes "entity A; namespace N { entity B in A { a: A, n: N::B }; }") ≡ Some []
unfolding told
in_no_namespace = refl

-- `namespace N { entity A; } namespace M { entity B in A; }`
in_another_namespace : told (codes "namespace N { entity A; } namespace M { entity B in A; }") ≡ Some (TypeNotDefined (alone (codes "A")) ∷ [])
unfolding told
in_another_namespace = refl

-- `namespace N { entity A; } namespace M { entity B in N::A; }`
in_full : told (codes "namespace N { entity A; } namespace M { entity B in N::A; }") ≡ Some []
unfolding told
in_full = refl

-- `namespace N { entity A; } namespace N { entity B in A; }`
blocks_join : told (codes "namespace N { entity A; } namespace N { entity B in A; }") ≡ Some []
unfolding told
blocks_join = refl

-- `action a in b;`
no_such_group : told (codes "action a in b;") ≡ Some (ActionNotDefined (record { type_name = None; name = codes "b" }) ∷ [])
unfolding told
no_such_group = refl

-- `action a; namespace N { action b in [a, "c", N::Action::"c"]; action c in Action::"a"; }`
groups_of_two_namespaces : told (codes "action a; namespace N { action b in [a, \"c\", N::Action::\"c\"]; action c in Action::\"a\"; }") ≡ Some []
unfolding told
groups_of_two_namespaces = refl

-- `action a in Other::Action::"b";`
no_group_in_full : told (codes "action a in Other::Action::\"b\";") ≡ Some (ActionNotDefined (record { type_name = Some (codes "Other" ∷ codes "Action" ∷ []); name = codes "b" }) ∷ [])
unfolding told
no_group_in_full = refl

-- ---- circles

-- `type A = { b: B }; type B = Set<A>; entity U { a: A };`
common_types_within_each_other : told (codes "type A = { b: B }; type B = Set<A>; entity U { a: A };") ≡ Some (CycleInCommonTypeReferences (alone (codes "A")) ∷ CycleInCommonTypeReferences (alone (codes "B")) ∷ [])
unfolding told
common_types_within_each_other = refl

-- `type A = A;`
a_common_type_within_itself : told (codes "type A = A;") ≡ Some (CycleInCommonTypeReferences (alone (codes "A")) ∷ [])
unfolding told
a_common_type_within_itself = refl

-- `type A = { b: B }; type B = Set<C>; type C = Long; entity U { a: A, b: B };`
common_types_of_common_types : told (codes "type A = { b: B }; type B = Set<C>; type C = Long; entity U { a: A, b: B };") ≡ Some []
unfolding told
common_types_of_common_types = refl

-- `action a in [b]; action b in [a];`
actions_within_each_other : told (codes "action a in [b]; action b in [a];") ≡ Some (CycleInActionHierarchy (uid action_type (codes "a")) ∷ CycleInActionHierarchy (uid action_type (codes "b")) ∷ [])
unfolding told
actions_within_each_other = refl

-- `action a in b; action b in c; action c in a;`
three_actions_in_a_circle : told (codes "action a in b; action b in c; action c in a;") ≡ Some (CycleInActionHierarchy (uid action_type (codes "a")) ∷ CycleInActionHierarchy (uid action_type (codes "b")) ∷ CycleInActionHierarchy (uid action_type (codes "c")) ∷ [])
unfolding told
three_actions_in_a_circle = refl

-- `entity A in [B]; entity B in [A]; action a appliesTo { principal: A, resource: B };`
entity_types_within_each_other : told (codes "entity A in [B]; entity B in [A]; action a appliesTo { principal: A, resource: B };") ≡ Some []
unfolding told
entity_types_within_each_other = refl

-- ---- what is declared twice

-- `entity User; entity User;`
an_entity_type_twice : told (codes "entity User; entity User;") ≡ Some (DuplicateEntityType (alone (codes "User")) ∷ [])
unfolding told
an_entity_type_twice = refl

-- `entity A, A;`
an_entity_type_twice_in_one : told (codes "entity A, A;") ≡ Some (DuplicateEntityType (alone (codes "A")) ∷ [])
unfolding told
an_entity_type_twice_in_one = refl

-- `type T = Long; type T = Long;`
a_common_type_twice : told (codes "type T = Long; type T = Long;") ≡ Some (DuplicateCommonType (alone (codes "T")) ∷ [])
unfolding told
a_common_type_twice = refl

-- `action a; action a;`
an_action_twice : told (codes "action a; action a;") ≡ Some (DuplicateAction (uid action_type (codes "a")) ∷ [])
unfolding told
an_action_twice = refl

-- `namespace N { entity A; } namespace M { entity A; }`
one_name_in_two_namespaces : told (codes "namespace N { entity A; } namespace M { entity A; }") ≡ Some []
unfolding told
one_name_in_two_namespaces = refl

-- `entity A { x: Long, x: String };`
an_attribute_twice : told (codes "entity A { x: Long, x: String };") ≡ Some (DuplicateAttribute (codes "x") ∷ [])
unfolding told
an_attribute_twice = refl

-- `type T = { r: { "x": Long, x?: Long } };`
an_attribute_twice_within : told (codes "type T = { r: { \"x\": Long, x?: Long } };") ≡ Some (DuplicateAttribute (codes "x") ∷ [])
unfolding told
an_attribute_twice_within = refl

-- `entity User; namespace N { entity User { o: User }; action a appliesTo { principal: User, resource: User }; }`
a_type_shadows : told (codes "entity User; namespace N { entity User { o: User }; action a appliesTo { principal: User, resource: User }; }") ≡ Some (TypeShadowing (codes "N" ∷ codes "User" ∷ []) ∷ [])
unfolding told
a_type_shadows = refl

-- `entity T; namespace N { type T = Long; }`
a_common_type_shadows : told (codes "entity T; namespace N { type T = Long; }") ≡ Some (TypeShadowing (codes "N" ∷ codes "T" ∷ []) ∷ [])
unfolding told
a_common_type_shadows = refl

-- `action a; namespace N { action a; }`
an_action_shadows : told (codes "action a; namespace N { action a; }") ≡ Some (ActionShadowing (uid (codes "N" ∷ codes "Action" ∷ []) (codes "a")) ∷ [])
unfolding told
an_action_shadows = refl

-- ---- names that are reserved

-- `type Long = String;`
a_built_in_name : told (codes "type Long = String;") ≡ Some (ReservedName (alone (codes "Long")) ∷ [])
unfolding told
a_built_in_name = refl

-- `namespace __cedar { entity U; }`
a_reserved_namespace : told (codes "namespace __cedar { entity U; }") ≡ Some (ReservedNamespace (alone (codes "__cedar")) ∷ [])
unfolding told
a_reserved_namespace = refl

-- `entity __cedar;`
a_reserved_type : told (codes "entity __cedar;") ≡ Some (ReservedName (alone (codes "__cedar")) ∷ [])
unfolding told
a_reserved_type = refl

-- `entity Action;`
a_type_of_actions : told (codes "entity Action;") ≡ Some (ActionEntityTypeDeclared (alone (codes "Action")) ∷ [])
unfolding told
a_type_of_actions = refl

-- ---- enumerations, and what actions apply to

-- `entity A enum [];`
no_entity_is_listed : told (codes "entity A enum [];") ≡ Some (EmptyEnum (alone (codes "A")) ∷ [])
unfolding told
no_entity_is_listed = refl

-- `entity A, B enum ["x", "y",];`
entities_are_listed : told (codes "entity A, B enum [\"x\", \"y\",];") ≡ Some []
unfolding told
entities_are_listed = refl

-- `entity A; action a appliesTo { principal: A };`
no_resource : told (codes "entity A; action a appliesTo { principal: A };") ≡ Some (NoResource (uid action_type (codes "a")) ∷ [])
unfolding told
no_resource = refl

-- `entity A; action a appliesTo { resource: A, context: {} };`
no_principal : told (codes "entity A; action a appliesTo { resource: A, context: {} };") ≡ Some (NoPrincipal (uid action_type (codes "a")) ∷ [])
unfolding told
no_principal = refl

-- `entity A; action a appliesTo { principal: A, principal: A, resource: A };`
two_principals : told (codes "entity A; action a appliesTo { principal: A, principal: A, resource: A };") ≡ Some (DuplicatePrincipal (uid action_type (codes "a")) ∷ [])
unfolding told
two_principals = refl

-- `entity A; action a appliesTo { resource: A, principal: A, resource: A };`
two_resources : told (codes "entity A; action a appliesTo { resource: A, principal: A, resource: A };") ≡ Some (DuplicateResource (uid action_type (codes "a")) ∷ [])
unfolding told
two_resources = refl

-- `entity A; action a appliesTo { context: {}, principal: A, resource: A, context: {} };`
two_contexts : told (codes "entity A; action a appliesTo { context: {}, principal: A, resource: A, context: {} };") ≡ Some (DuplicateContext (uid action_type (codes "a")) ∷ [])
unfolding told
two_contexts = refl

-- `entity A; action a appliesTo { principal: [], resource: [A] };`
applies_to_none : told (codes "entity A; action a appliesTo { principal: [], resource: [A] };") ≡ Some (EmptyAppliesTo (uid action_type (codes "a")) ∷ [])
unfolding told
applies_to_none = refl

-- `entity A; action a appliesTo { principal: [A, B], resource: A };`
applies_to_no_such_type : told (codes "entity A; action a appliesTo { principal: [A, B], resource: A };") ≡ Some (TypeNotDefined (alone (codes "B")) ∷ [])
unfolding told
applies_to_no_such_type = refl

-- `type C = Long; entity A; action a appliesTo { principal: A, resource: A, context: C };`
a_context_that_is_no_record : told (codes "type C = Long; entity A; action a appliesTo { principal: A, resource: A, context: C };") ≡ Some (ContextOrShapeNotRecord (uid action_type (codes "a")) ∷ [])
unfolding told
a_context_that_is_no_record = refl

-- `type C = { n: Long }; entity A; action a appliesTo { context: C, resource: A, principal: A };`
a_context_by_its_name : told (codes "type C = { n: Long }; entity A; action a appliesTo { context: C, resource: A, principal: A };") ≡ Some []
unfolding told
a_context_by_its_name = refl

-- `entity A in B { x: C, x: Long }; action a in b;`
all_faults_are_told : told (codes "entity A in B { x: C, x: Long }; action a in b;") ≡ Some (TypeNotDefined (alone (codes "B")) ∷ DuplicateAttribute (codes "x") ∷ TypeNotDefined (alone (codes "C")) ∷ ActionNotDefined (record { type_name = None; name = codes "b" }) ∷ [])
unfolding told
all_faults_are_told = refl

-- ---- the grammar

-- `// nothing`
nothing_is_declared : told (codes "// nothing") ≡ Some []
unfolding told
nothing_is_declared = refl

-- `entity A; entity B in A = { f?: Set<Set<Long>>, } tags A; @doc("x") action "do it", go appliesTo { principal: [A, B], resource: A, };`
signs_that_may_stand : told (codes "entity A; entity B in A = { f?: Set<Set<Long>>, } tags A; @doc(\"x\") action \"do it\", go appliesTo { principal: [A, B], resource: A, };") ≡ Some []
unfolding told
signs_that_may_stand = refl

-- `entity entity, type, appliesTo; type action = { namespace: Long, Set: entity, tags: Set<type> };`
words_as_names : told (codes "entity entity, type, appliesTo; type action = { namespace: Long, Set: entity, tags: Set<type> };") ≡ Some []
unfolding told
words_as_names = refl

-- `@a @b("c") namespace N { @a entity A { @d("e") x: Long }; @f type T = Long; @g action a; }`
annotations_of_all : told (codes "@a @b(\"c\") namespace N { @a entity A { @d(\"e\") x: Long }; @f type T = Long; @g action a; }") ≡ Some []
unfolding told
annotations_of_all = refl

-- `@doc("x") @doc("y") entity A;`
an_annotation_twice : told (codes "@doc(\"x\") @doc(\"y\") entity A;") ≡ None
unfolding told
an_annotation_twice = refl

-- `entity in;`
a_reserved_word : told (codes "entity in;") ≡ None
unfolding told
a_reserved_word = refl

-- `entity A { if: Long };`
a_reserved_attribute : told (codes "entity A { if: Long };") ≡ None
unfolding told
a_reserved_attribute = refl

-- `entity A { "if": Long };`
a_reserved_attribute_as_a_string : told (codes "entity A { \"if\": Long };") ≡ Some []
unfolding told
a_reserved_attribute_as_a_string = refl

-- `entity A`
no_semicolon : told (codes "entity A") ≡ None
unfolding told
no_semicolon = refl

-- `entity A; action a appliesTo { principal: A, resource: A } attributes {};`
attributes_of_actions : told (codes "entity A; action a appliesTo { principal: A, resource: A } attributes {};") ≡ None
unfolding told
attributes_of_actions = refl

-- `entity A; action a appliesTo { principal: A, resource: A, context: Set<Long> };`
a_context_that_is_a_set : told (codes "entity A; action a appliesTo { principal: A, resource: A, context: Set<Long> };") ≡ None
unfolding told
a_context_that_is_a_set = refl

-- `type T = {}; entity A = T;`
a_shape_that_is_a_name : told (codes "type T = {}; entity A = T;") ≡ None
unfolding told
a_shape_that_is_a_name = refl

-- `entity A { "\q": Long };`
an_escape_that_is_none : told (codes "entity A { \"\\q\": Long };") ≡ None
unfolding told
an_escape_that_is_none = refl

-- `namespace N { namespace M { entity A; } }`
namespaces_do_not_nest : told (codes "namespace N { namespace M { entity A; } }") ≡ None
unfolding told
namespaces_do_not_nest = refl

-- `entity A { x: Long,, };`
two_commas : told (codes "entity A { x: Long,, };") ≡ None
unfolding told
two_commas = refl

-- `entity A, ;`
a_comma_behind_names : told (codes "entity A, ;") ≡ None
unfolding told
a_comma_behind_names = refl

-- `entity A { x: Set<> };`
no_type_in_a_set : told (codes "entity A { x: Set<> };") ≡ None
unfolding told
no_type_in_a_set = refl

-- `entity A {}};`
a_brace_too_many : told (codes "entity A {}};") ≡ None
unfolding told
a_brace_too_many = refl
