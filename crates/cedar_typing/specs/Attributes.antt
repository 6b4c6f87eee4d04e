-- The types of `.a`, `has` and tags.
use Rattle.std.specs.Prelude.{Bool, true, false, List, [], ◌∷◌, ◌++◌, Option, Some, None}
use Rattle.cedar_language.specs.Uid.{Text}
use Rattle.cedar_language.specs.Tree.{GetAttr, Tree, Apply, Trees, no_trees, a_tree}
use Rattle.cedar_typing.specs.Types.{BoolType, AlwaysTrue, AlwaysFalse, Unsure, Presence, Required, Optional, CedarType, Booleans, Strings, Entities, Records, Fields, Field, field_at}
use Rattle.cedar_typing.specs.Capabilities.{an_attribute, a_tag, Capabilities, is_among}
use Rattle.cedar_typing.specs.Schema.{EntityShape, Schema, Environment}
use Rattle.cedar_typing.specs.Faults.{TypingFault, UnrecognizedEntityType, UnexpectedType, UnsafeAttributeAccess, UnsafeOptionalAttributeAccess, UnsafeTagAccess, NoTagsAllowed, WrongNumberArguments}
use Rattle.cedar_typing.specs.Results.{Typing, HasType, Faulty, plainly, known}
use Rattle.cedar_typing.specs.Lazies.{gives_where, and_typing}

-- the fields of a type that has attributes, and whether its values are sure to be there
pub data Attributes : Type 0 where
  of_record : Fields → Attributes
  of_entity : Fields → Attributes
  of_none : TypingFault → Attributes

abbrev pub of_shape : Option EntityShape → Attributes
of_shape (Some s) = of_entity s.attributes
of_shape None = of_none UnrecognizedEntityType

abbrev pub attributes_of : Schema → CedarType → Attributes
attributes_of s (Records fs) = of_record fs
attributes_of s (Entities n) = of_shape (s.entity n)
attributes_of s t = of_none UnexpectedType

abbrev pub where_guarded : Bool → CedarType → Typing
where_guarded true t = plainly t
where_guarded false t = Faulty UnsafeOptionalAttributeAccess

abbrev pub by_presence : Bool → Presence → CedarType → Typing
by_presence guarded Required t = plainly t
by_presence guarded Optional t = where_guarded guarded t

abbrev pub field_type : Bool → Option Field → Typing
field_type guarded None = Faulty UnsafeAttributeAccess
field_type guarded (Some f) = by_presence guarded f.presence f.type

-- `.a`: of an optional field only where a test gave it, which the first argument says
abbrev pub get_type : Bool → Text → Attributes → Typing
get_type guarded a (of_record fs) = field_type guarded (field_at fs a)
get_type guarded a (of_entity fs) = field_type guarded (field_at fs a)
get_type guarded a (of_none k) = Faulty k

-- `has a`: never where no such field is declared, always of a record where it must be there or a test gave it
abbrev pub has_by_presence : Bool → Presence → BoolType
has_by_presence guarded Required = AlwaysTrue
has_by_presence true Optional = AlwaysTrue
has_by_presence false Optional = Unsure

abbrev pub has_in_record : Bool → Option Field → BoolType
has_in_record guarded None = AlwaysFalse
has_in_record guarded (Some f) = has_by_presence guarded f.presence

abbrev pub has_in_entity : Bool → Option Field → BoolType
has_in_entity guarded None = AlwaysFalse
has_in_entity true (Some f) = AlwaysTrue
has_in_entity false (Some f) = Unsure

abbrev pub has_by : Tree → Text → BoolType → Typing
has_by x a t = HasType (Booleans t) (gives_where t (an_attribute x a ∷ []))

-- whether a test gave the attribute goes first
abbrev pub has_type : Bool → Tree → Text → Attributes → Typing
has_type guarded x a (of_record fs) = has_by x a (has_in_record guarded (field_at fs a))
has_type guarded x a (of_entity fs) = has_by x a (has_in_entity guarded (field_at fs a))
has_type guarded x a (of_none k) = Faulty k

-- as operators of one operand
abbrev pub attribute_type : Environment → Text → Trees → List CedarType → Capabilities → Typing
attribute_type e a (a_tree x no_trees) (t ∷ []) c = get_type (is_among (an_attribute x a) c) a (attributes_of e.schema t)
attribute_type e a xs ts c = Faulty WrongNumberArguments

abbrev pub has_attribute_type : Environment → Text → Trees → List CedarType → Capabilities → Typing
has_attribute_type e a (a_tree x no_trees) (t ∷ []) c = has_type (is_among (an_attribute x a) c) x a (attributes_of e.schema t)
has_attribute_type e a xs ts c = Faulty WrongNumberArguments

-- `has a.b.c` is `has a && .a has b && .a.b has c`
abbrev pub get : Tree → Text → Tree
get x a = Apply (GetAttr a) (a_tree x no_trees)

-- the type of `x.a`, and then of what follows
abbrev pub then_path : Typing → (CedarType → Typing) → Typing
then_path (HasType t c) f = f t
then_path (Faulty k) f = Faulty k

abbrev pub path_type : Environment → Tree → Text → List Text → Capabilities → CedarType → Typing
path_type e x a [] c t = has_type (is_among (an_attribute x a) c) x a (attributes_of e.schema t)
path_type e x a (b ∷ bs) c t =
    and_typing (has_type (is_among (an_attribute x a) c) x a (attributes_of e.schema t))
    (λ d. then_path (get_type true a (attributes_of e.schema t)) (λ u. path_type e (get x a) b bs (d ++ c) u))

abbrev pub has_path_type : Environment → Text → List Text → Trees → List CedarType → Capabilities → Typing
has_path_type e a as_ (a_tree x no_trees) (t ∷ []) c = path_type e x a as_ c t
has_path_type e a as_ xs ts c = Faulty WrongNumberArguments

-- the tags of an entity type
abbrev pub tags_of : Option EntityShape → Option CedarType
tags_of (Some s) = s.tags
tags_of None = None

-- `getTag`: only where a test by the same key gave it
abbrev pub where_tag_guarded : Bool → CedarType → Typing
where_tag_guarded true t = plainly t
where_tag_guarded false t = Faulty UnsafeTagAccess

abbrev pub tag_type : Bool → Option CedarType → Typing
tag_type guarded (Some t) = where_tag_guarded guarded t
tag_type guarded None = Faulty NoTagsAllowed

abbrev pub get_tag_type : Environment → Trees → List CedarType → Capabilities → Typing
get_tag_type e (a_tree x (a_tree k no_trees)) (Entities n ∷ Strings ∷ []) c = tag_type (is_among (a_tag x k) c) (tags_of (e.schema.entity n))
get_tag_type e xs ts c = Faulty UnexpectedType

-- `hasTag`: never of a type that declares none
abbrev pub has_tag_by : Bool → Tree → Tree → Option CedarType → Typing
has_tag_by guarded x k None = known false
has_tag_by true x k (Some t) = HasType (Booleans AlwaysTrue) (a_tag x k ∷ [])
has_tag_by false x k (Some t) = HasType (Booleans Unsure) (a_tag x k ∷ [])

abbrev pub where_shaped : Option EntityShape → (EntityShape → Typing) → Typing
where_shaped (Some s) f = f s
where_shaped None f = Faulty UnrecognizedEntityType

abbrev pub has_tag_type : Environment → Trees → List CedarType → Capabilities → Typing
has_tag_type e (a_tree x (a_tree k no_trees)) (Entities n ∷ Strings ∷ []) c =
    where_shaped (e.schema.entity n) (λ s. has_tag_by (is_among (a_tag x k) c) x k s.tags)
has_tag_type e xs ts c = Faulty UnexpectedType
