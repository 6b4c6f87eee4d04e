-- What is proved of schemas' texts.
use Rattle.std.specs.Prelude.{◌≡◌, ◌↔◌, Bool, true, false, List, [], ◌∷◌, length, Some, is_some}
use Rattle.cedar_language.specs.Uid.{Text, Name, Uid}
use Rattle.cedar_language.specs.Facts.{Facts, Reaches, DecidesReaches}
use Rattle.cedar_grammar.specs.Steps.{◌>>=◌}
use Rattle.cedar_typing.specs.Types.{CedarType, Records, Fields}
use Rattle.cedar_typing.specs.Schema.{Schema}
use Rattle.cedar_schema_grammar.specs.Syntax.{TypeSyntax, a_record, EntitySyntax, AppliesEntry, SchemaSyntax}
use Rattle.cedar_schema_grammar.specs.Tokens.{Token}
use Rattle.cedar_schema_grammar.specs.Grammar.{SchemaRule, Says}
use Rattle.cedar_schema_grammar.specs.Reading.{syntax_of, said}
use Rattle.cedar_schema_grammar.specs.Declared.{Library, shaped, EntityType, CommonType, Action, Declared, type_name, declared, entity_at, type_at, action_at}
use Rattle.cedar_schema_grammar.specs.Reaching.{Edge}
use Rattle.cedar_schema_grammar.specs.Written.{unfolded, type_in, refers, type_reaches}
use Rattle.cedar_schema_grammar.specs.Faults.{contexts_of, is_in_group}
use Rattle.cedar_schema_grammar.specs.Resolving.{may_have_parent, schema_of, Resolves, resolved}

-- the reading functions give what the grammar says of tokens and of a text, and nothing else
abbrev pub TokensAreRead : Type 0
TokensAreRead = (ts : List Token) (s : SchemaSyntax) → SchemaRule ts s ↔ (syntax_of ts ≡ Some s)

abbrev pub TextsAreRead : Type 0
TextsAreRead = (bytes : Text) (s : SchemaSyntax) → Says bytes s ↔ (said bytes ≡ Some s)

-- a text says one thing at most, so that it is one schema at most
abbrev pub OneSchema : Type 0
OneSchema = (bytes : Text) (s t : SchemaSyntax) → Says bytes s → Says bytes t → s ≡ t

-- an action is within those that one or more groups lead to
abbrev pub GroupsAreTransitive : Type 0
GroupsAreTransitive = (l : Library) (d : Declared) (u w : Uid) → ((schema_of l d).action_reaches u w ≡ true) ↔ Reaches (Edge (is_in_group d)) u w

-- an entity type may be within those that one or more of its parents lead to
abbrev pub ParentsAreTransitive : Type 0
ParentsAreTransitive = (l : Library) (d : Declared) (n m : Name) → ((schema_of l d).may_reach n m ≡ true) ↔ Reaches (Edge (may_have_parent d)) n m

-- a common type is told to be in a cycle exactly where references lead from it to itself
abbrev pub CyclesAreFound : Type 0
CyclesAreFound = (l : Library) (d : Declared) (n m : Name) → (type_reaches d l n m ≡ true) ↔ Reaches (Edge (refers d l)) n m

-- where no common type is within itself, each is the type that is written for it
abbrev pub CommonTypesSettle : Type 0
CommonTypesSettle =
    (l : Library) (d : Declared) → ((n : Name) → type_reaches d l n n ≡ false) → (t : CommonType) → type_at d (type_name t) ≡ Some t →
    unfolded (length d.types) d l t ≡ type_in d l t.namespace t.type

-- ---- of a schema without faults

-- common types are unfolded: each is the type that is written for it
abbrev pub CommonTypesUnfold : Type 0
CommonTypesUnfold =
    (l : Library) (s : SchemaSyntax) (schema : Schema) → resolved l s ≡ Resolves schema → (n : Name) (t : CommonType) → type_at (declared s) n ≡ Some t →
    (x : CedarType) × (unfolded (length (declared s).types) (declared s) l t ≡ Some x) ×
    (type_in (declared s) l t.namespace t.type ≡ Some x)

-- a record type that is written has its fields, and what else is written has its type
abbrev pub IsWhole : Declared → Library → Name → TypeSyntax → Type 0
IsWhole d l namespace t = is_some (type_in d l namespace t) ≡ true

-- nothing that is declared of an entity type is left out
pub record SaysAllOf (d : Declared) (l : Library) (schema : Schema) (n : Name) (e : EntityType) (w : EntitySyntax) : Type 0 where
  pub fields : Fields
  pub written : type_in d l e.namespace (a_record w.attributes) ≡ Some (Records fields)
  pub tags : (t : TypeSyntax) → w.tags ≡ Some t → IsWhole d l e.namespace t
  pub shape : schema.entity n ≡ Some (record { attributes = fields; tags = w.tags >>= type_in d l e.namespace })

abbrev pub NothingIsLeftOut : Type 0
NothingIsLeftOut =
    (l : Library) (s : SchemaSyntax) (schema : Schema) → resolved l s ≡ Resolves schema → (n : Name) (e : EntityType) (w : EntitySyntax) →
    entity_at (declared s) n ≡ Some e → e.body ≡ shaped w → SaysAllOf (declared s) l schema n e w

-- nor of what an action applies to: its context has the fields that are written
abbrev pub ContextsAreWhole : Type 0
ContextsAreWhole =
    (l : Library) (s : SchemaSyntax) (schema : Schema) → resolved l s ≡ Resolves schema →
    (u : Uid) (a : Action) (es : List AppliesEntry) (t : TypeSyntax) → action_at (declared s) u ≡ Some a → a.written.applies_to ≡ Some es →
    contexts_of es ≡ t ∷ [] →
    (fs : Fields) × (type_in (declared s) l a.namespace t ≡ Some (Records fs)) × (schema.context u ≡ fs)

-- ---- what conforms to it

-- where each direct parent is of a type that may stand there, each ancestor is
abbrev pub AncestorsConform : Type 0
AncestorsConform =
    (l : Library) (d : Declared) (is_parent : Uid → Uid → Bool) (facts : Facts) → DecidesReaches (λ u w. is_parent u w ≡ true) facts →
    ((u w : Uid) → is_parent u w ≡ true → (schema_of l d).may_reach u.type_name w.type_name ≡ true) →
    (u w : Uid) → facts.reaches u w ≡ true → (schema_of l d).may_reach u.type_name w.type_name ≡ true

-- where the direct parents of each declared action are its groups, its ancestors are those that the schema says
abbrev pub ActionsConform : Type 0
ActionsConform =
    (l : Library) (d : Declared) (is_parent : Uid → Uid → Bool) (facts : Facts) → DecidesReaches (λ u w. is_parent u w ≡ true) facts →
    ((u w : Uid) → (schema_of l d).is_action u ≡ true → is_parent u w ≡ is_in_group d u w) →
    (u w : Uid) → (schema_of l d).is_action u ≡ true → facts.reaches u w ≡ (schema_of l d).action_reaches u w
