-- The types that a schema's text writes: its common types are unfolded. (Cedar language reference, "Schema", common types.)
use Rattle.std.specs.Prelude.{ℕ, zero, suc, Bool, List, [], ◌∷◌, ◌++◌, map, length, Option, Some, None, option_map}
use Rattle.std.specs.List.{list_any}
use Rattle.std.specs.declared.cmp.Ordering.{Ordering}
use Rattle.std.specs.declared.cmp.Ordering.TheVariants as ordering
use Rattle.cedar_language.specs.Uid.{Text, Name}
use Rattle.cedar_language.specs.Order.{text_cmp, same_name}
use Rattle.cedar_typing.specs.Types.{Presence, CedarType, Sets, Records, Fields, no_fields, a_field}
use Rattle.cedar_schema_grammar.specs.Syntax.{TypeSyntax, named, a_set, a_record, AttributesSyntax, no_attributes, an_attribute}
use Rattle.cedar_schema_grammar.specs.Declared.{Library, CommonType, Declared, type_name, type_at, Referent, to_common, to_type, referent}
use Rattle.cedar_schema_grammar.specs.Reaching.{leads_through}

-- ---- fields in rising order, none of them twice

abbrev pub placed : Ordering → Text → Presence → CedarType → Text → Presence → CedarType → Fields → Option Fields → Option Fields
placed ordering.Less k p t l q u fs more = Some (a_field k p t (a_field l q u fs))
placed ordering.Equal k p t l q u fs more = None
placed ordering.Greater k p t l q u fs more = option_map (a_field l q u) more

abbrev pub put_field : Text → Presence → CedarType → Fields → Option Fields
put_field k p t no_fields = Some (a_field k p t no_fields)
put_field k p t (a_field l q u fs) = placed (text_cmp k l) k p t l q u fs (put_field k p t fs)

abbrev pub with_field : Text → Presence → Option CedarType → Option Fields → Option Fields
with_field k p (Some t) (Some fs) = put_field k p t fs
with_field k p t fs = None

-- ---- the type that a written one is, in a namespace, where common types are these

abbrev pub stands_for : (CommonType → Option CedarType) → Option Referent → Option CedarType
stands_for common None = None
stands_for common (Some (to_common t)) = common t
stands_for common (Some (to_type t)) = Some t

abbrev mutual
  pub written : (CommonType → Option CedarType) → Declared → Library → Name → TypeSyntax → Option CedarType
  written common d l namespace (named n) = stands_for common (referent d l namespace n)
  written common d l namespace (a_set t) = option_map Sets (written common d l namespace t)
  written common d l namespace (a_record xs) = option_map Records (written_fields common d l namespace xs)

  pub written_fields : (CommonType → Option CedarType) → Declared → Library → Name → AttributesSyntax → Option Fields
  written_fields common d l namespace no_attributes = Some no_fields
  written_fields common d l namespace (an_attribute k p t xs) =
      with_field k p (written common d l namespace t) (written_fields common d l namespace xs)

-- a common type, unfolded at most so deep
abbrev pub unfolded : ℕ → Declared → Library → CommonType → Option CedarType
unfolded zero d l t = None
unfolded (suc n) d l t = written (λ u. unfolded n d l u) d l t.namespace t.type

-- common types that aren't within themselves nest at most as deep as there are common types
abbrev pub type_in : Declared → Library → Name → TypeSyntax → Option CedarType
type_in d l = written (unfolded (length d.types) d l) d l

-- ---- which common types are written in which

abbrev pub common_name : Option Referent → List Name
common_name None = []
common_name (Some (to_common t)) = type_name t ∷ []
common_name (Some (to_type t)) = []

abbrev mutual
  pub mentions : Declared → Library → Name → TypeSyntax → List Name
  mentions d l namespace (named n) = common_name (referent d l namespace n)
  mentions d l namespace (a_set t) = mentions d l namespace t
  mentions d l namespace (a_record xs) = mentions_in d l namespace xs

  pub mentions_in : Declared → Library → Name → AttributesSyntax → List Name
  mentions_in d l namespace no_attributes = []
  mentions_in d l namespace (an_attribute k p t xs) = mentions d l namespace t ++ mentions_in d l namespace xs

abbrev pub mentioned : Declared → Library → Option CommonType → List Name
mentioned d l None = []
mentioned d l (Some t) = mentions d l t.namespace t.type

-- the second common type is written in the first
abbrev pub refers : Declared → Library → Name → Name → Bool
refers d l n m = list_any (same_name m) (mentioned d l (type_at d n))

abbrev pub type_reaches : Declared → Library → Name → Name → Bool
type_reaches d l = leads_through (refers d l) (map type_name d.types)
