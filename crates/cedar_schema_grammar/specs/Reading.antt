-- Reading a schema's tokens: each function gives what its rule of the grammar says, and what follows it, or nothing.
-- A number bounds how many tokens there are.
use Rattle.std.specs.Prelude.{ℕ, zero, suc, Bool, true, false, cond, List, [], ◌∷◌, length, Option, Some, None}
use Rattle.std.specs.Str.{chars}
use Rattle.cedar_language.specs.Uid.{Text, Name}
use Rattle.cedar_grammar.specs.Escape.{string_of}
use Rattle.cedar_grammar.specs.Names.{are_distinct}
use Rattle.cedar_grammar.specs.Steps.{◌>>=◌}
use Rattle.cedar_typing.specs.Types.{Presence, Required, Optional}
use Rattle.cedar_schema_grammar.specs.Syntax.{TypeSyntax, named, a_set, a_record, AttributesSyntax, no_attributes, an_attribute, ActionRef, AppliesEntry, principals, resources, context, Declaration, entities, enumeration, actions, common_type, SchemaSyntax}
use Rattle.cedar_schema_grammar.specs.Tokens.{Mark, LeftBrace, RightBrace, LeftBracket, RightBracket, LeftParen, RightParen, RightAngle, Comma, Semicolon, Colon, ColonColon, Question, Equal, At, Token, word, text, mark, tokens_of, eat}
use Rattle.cedar_schema_grammar.specs.Grammar.{is_reserved, in_word, tags_word, entity_word, enum_word, action_word, applies_word, type_word, namespace_word, principal_word, resource_word, context_word, goes_on, eat_set}

abbrev pub Read : Type 0 → Type 0
Read A = Option (A × List Token)

abbrev pub mapped : {A B : Type 0} → (A → B) → Read A → Read B
mapped f None = None
mapped f (Some x) = Some (f x.0, x.1)

abbrev pub or_read : {A : Type 0} → Read A → Read A → Read A
or_read (Some x) o = Some x
or_read None o = o

-- what is read, where this token follows it
abbrev pub ended : {A : Type 0} → Token → A → List Token → Read A
ended t x ts = eat t ts >>= λ us. Some (x, us)

-- ---- names

abbrev pub id_read : List Token → Read Text
id_read (word s ∷ ts) = cond (is_reserved s) None (Some (s, ts))
id_read ts = None

abbrev pub text_of : Option Text → List Token → Read Text
text_of None ts = None
text_of (Some s) ts = Some (s, ts)

abbrev pub string_read : List Token → Read Text
string_read (text raw ∷ ts) = text_of (string_of raw) ts
string_read ts = None

abbrev pub name_read : List Token → Read Text
name_read ts = or_read (id_read ts) (string_read ts)

abbrev pub path_then : (List Token → Read Name) → Text × List Token → Read Name
path_then more x =
    elim (goes_on x.1) as (λ _. Read Name) [
      | true ↦ eat (mark ColonColon) x.1 >>= λ us. mapped (λ p. x.0 ∷ p) (more us)
      | false ↦ Some (x.0 ∷ [], x.1)
    ]

unfoldable pub path_at : ℕ → List Token → Read Name
path_at zero ts = None
path_at (suc n) ts = id_read ts >>= path_then (path_at n)

-- ---- lists

abbrev pub several_then : {A : Type 0} → (List Token → Read (List A)) → A × List Token → Read (List A)
several_then {A} more x =
    elim (eat (mark Comma) x.1) as (λ _. Read (List A)) [ None ↦ Some (x.0 ∷ [], x.1) | Some us ↦ mapped (λ xs. x.0 ∷ xs) (more us) ]

unfoldable pub several_at : {A : Type 0} → (List Token → Read A) → ℕ → List Token → Read (List A)
several_at f zero ts = None
several_at f (suc n) ts = f ts >>= several_then (several_at f n)

abbrev pub items_then : {A : Type 0} → Mark → (List Token → Read (List A)) → A × List Token → Read (List A)
items_then {A} close more x =
    elim (eat (mark close) x.1) as (λ _. Read (List A)) [
      | Some us ↦ Some (x.0 ∷ [], us)
      | None ↦ eat (mark Comma) x.1 >>= λ us. mapped (λ xs. x.0 ∷ xs) (more us)
    ]

unfoldable pub items_at : {A : Type 0} → Mark → (List Token → Read A) → ℕ → List Token → Read (List A)
items_at close f zero ts = None
items_at {A} close f (suc n) ts =
    elim (eat (mark close) ts) as (λ _. Read (List A)) [ Some us ↦ Some ([], us) | None ↦ f ts >>= items_then close (items_at close f n) ]

-- ---- annotations

abbrev pub any_word : List Token → Read Text
any_word (word w ∷ ts) = Some (w, ts)
any_word ts = None

-- behind the key of an annotation: its value, if it has one, and the annotations after it
abbrev pub value_then : (List Token → Read (List Text)) → List Token → Read (List Text)
value_then more ts =
    elim (eat (mark LeftParen) ts) as (λ _. Read (List Text)) [
      | None ↦ more ts
      | Some us ↦ string_read us >>= λ s. eat (mark RightParen) s.1 >>= more
    ]

abbrev pub key_then : (List Token → Read (List Text)) → Text × List Token → Read (List Text)
key_then more w = mapped (λ ks. w.0 ∷ ks) (value_then more w.1)

unfoldable pub keys_at : ℕ → List Token → Read (List Text)
keys_at zero ts = None
keys_at (suc n) ts =
    elim (eat (mark At) ts) as (λ _. Read (List Text)) [ None ↦ Some ([], ts) | Some us ↦ any_word us >>= key_then (keys_at n) ]

abbrev pub where_distinct : List Text × List Token → Option (List Token)
where_distinct x = cond (are_distinct x.0) (Some x.1) None

-- what follows the annotations
unfoldable pub annotations_at : ℕ → List Token → Option (List Token)
annotations_at n ts = keys_at n ts >>= where_distinct

-- ---- types

abbrev pub presence_read : List Token → Read Presence
presence_read ts =
    elim (eat (mark Colon) ts) as (λ _. Read Presence) [
      | Some us ↦ Some (Required, us)
      | None ↦ eat (mark Question) ts >>= λ us. ended (mark Colon) Optional us
    ]

-- the name of an attribute and its presence
pub record Key : Type 0 where
  pub name : Text
  pub presence : Presence

abbrev pub presence_then : Text × List Token → Read Key
presence_then k = mapped (λ p. record { name = k.0; presence = p }) (presence_read k.1)

unfoldable pub key_at : ℕ → List Token → Read Key
key_at n ts = annotations_at n ts >>= λ us. name_read us >>= presence_then

abbrev pub attribute_then : (List Token → Read AttributesSyntax) → Key → TypeSyntax × List Token → Read AttributesSyntax
attribute_then more k x =
    elim (eat (mark Comma) x.1) as (λ _. Read AttributesSyntax) [
      | Some us ↦ mapped (an_attribute k.name k.presence x.0) (more us)
      | None ↦ ended (mark RightBrace) (an_attribute k.name k.presence x.0 no_attributes) x.1
    ]

unfoldable mutual
  pub type_at : ℕ → List Token → Read TypeSyntax
  type_at zero ts = None
  type_at (suc n) ts =
      elim (eat (mark LeftBrace) ts) as (λ _. Read TypeSyntax) [
        | Some us ↦ mapped a_record (attributes_at n us)
        | None ↦
            elim (eat_set ts) as (λ _. Read TypeSyntax) [
              | Some us ↦ type_at n us >>= λ x. ended (mark RightAngle) (a_set x.0) x.1
              | None ↦ mapped named (path_at (suc n) ts)
            ]
      ]

  pub attributes_at : ℕ → List Token → Read AttributesSyntax
  attributes_at zero ts = None
  attributes_at (suc n) ts =
      elim (eat (mark RightBrace) ts) as (λ _. Read AttributesSyntax) [
        | Some us ↦ Some (no_attributes, us)
        | None ↦ key_at (suc n) ts >>= λ k. type_at n k.1 >>= attribute_then (attributes_at n) k.0
      ]

-- ---- entity types

abbrev pub entity_types_at : ℕ → List Token → Read (List Name)
entity_types_at n ts =
    elim (eat (mark LeftBracket) ts) as (λ _. Read (List Name)) [
      | Some us ↦ items_at RightBracket (path_at n) n us
      | None ↦ mapped (λ p. p ∷ []) (path_at n ts)
    ]

abbrev pub parents_at : ℕ → List Token → Read (List Name)
parents_at n ts = elim (eat in_word ts) as (λ _. Read (List Name)) [ Some us ↦ entity_types_at n us | None ↦ Some ([], ts) ]

abbrev pub shape_at : ℕ → List Token → Read AttributesSyntax
shape_at n ts =
    elim (eat (mark Equal) ts) as (λ _. Read AttributesSyntax) [
      | Some us ↦ eat (mark LeftBrace) us >>= attributes_at n
      | None ↦ elim (eat (mark LeftBrace) ts) as (λ _. Read AttributesSyntax) [ Some us ↦ attributes_at n us | None ↦ Some (no_attributes, ts) ]
    ]

abbrev pub tags_at : ℕ → List Token → Read (Option TypeSyntax)
tags_at n ts = elim (eat tags_word ts) as (λ _. Read (Option TypeSyntax)) [ Some us ↦ mapped Some (type_at n us) | None ↦ Some (None, ts) ]

-- ---- actions

abbrev pub own_ref : Text → ActionRef
own_ref s = record { type_name = None; name = s }

abbrev pub own_path : Name → List Token → Read ActionRef
own_path (s ∷ []) ts = Some (own_ref s, ts)
own_path p ts = None

abbrev pub ref_then : Name × List Token → Read ActionRef
ref_then x =
    elim (eat (mark ColonColon) x.1) as (λ _. Read ActionRef) [
      | Some us ↦ mapped (λ s. record { type_name = Some x.0; name = s }) (string_read us)
      | None ↦ own_path x.0 x.1
    ]

unfoldable pub ref_at : ℕ → List Token → Read ActionRef
ref_at n ts = or_read (mapped own_ref (string_read ts)) (path_at n ts >>= ref_then)

abbrev pub one_group_at : ℕ → List Token → Read (List ActionRef)
one_group_at n ts = mapped (λ r. r ∷ []) (ref_at n ts)

abbrev pub some_groups_at : ℕ → List Token → Read (List ActionRef)
some_groups_at n ts =
    elim (eat (mark LeftBracket) ts) as (λ _. Read (List ActionRef)) [ Some us ↦ items_at RightBracket (ref_at n) n us | None ↦ one_group_at n ts ]

abbrev pub groups_at : ℕ → List Token → Read (List ActionRef)
groups_at n ts = elim (eat in_word ts) as (λ _. Read (List ActionRef)) [ Some us ↦ some_groups_at n us | None ↦ Some ([], ts) ]

abbrev pub context_at : ℕ → List Token → Read TypeSyntax
context_at n ts =
    elim (eat (mark LeftBrace) ts) as (λ _. Read TypeSyntax) [
      | Some us ↦ mapped a_record (attributes_at n us)
      | None ↦ mapped named (path_at n ts)
    ]

abbrev pub other_entry_at : ℕ → List Token → Read AppliesEntry
other_entry_at n ts =
    elim (eat resource_word ts) as (λ _. Read AppliesEntry) [
      | Some us ↦ eat (mark Colon) us >>= λ vs. mapped resources (entity_types_at n vs)
      | None ↦ eat context_word ts >>= λ us. eat (mark Colon) us >>= λ vs. mapped context (context_at n vs)
    ]

unfoldable pub entry_at : ℕ → List Token → Read AppliesEntry
entry_at n ts =
    elim (eat principal_word ts) as (λ _. Read AppliesEntry) [
      | Some us ↦ eat (mark Colon) us >>= λ vs. mapped principals (entity_types_at n vs)
      | None ↦ other_entry_at n ts
    ]

abbrev pub applies_at : ℕ → List Token → Read (Option (List AppliesEntry))
applies_at n ts =
    elim (eat applies_word ts) as (λ _. Read (Option (List AppliesEntry))) [
      | Some us ↦ eat (mark LeftBrace) us >>= λ vs. mapped Some (items_at RightBrace (entry_at n) n vs)
      | None ↦ Some (None, ts)
    ]

-- ---- declarations

abbrev pub enumeration_then : List Text → List Text × List Token → Read Declaration
enumeration_then ns x = ended (mark Semicolon) (enumeration ns x.0) x.1

abbrev pub tags_then : List Text → List Name → AttributesSyntax → Option TypeSyntax × List Token → Read Declaration
tags_then ns ps xs x = ended (mark Semicolon) (entities (record { names = ns; parents = ps; attributes = xs; tags = x.0 })) x.1

abbrev pub shaped_at : ℕ → List Text → List Token → Read Declaration
shaped_at n ns ts = parents_at n ts >>= λ ps. shape_at n ps.1 >>= λ xs. tags_at n xs.1 >>= tags_then ns ps.0 xs.0

abbrev pub entity_then : ℕ → List Text × List Token → Read Declaration
entity_then n x =
    elim (eat enum_word x.1) as (λ _. Read Declaration) [
      | Some us ↦ eat (mark LeftBracket) us >>= λ vs. items_at RightBracket string_read n vs >>= enumeration_then x.0
      | None ↦ shaped_at n x.0 x.1
    ]

abbrev pub applies_then : List Text → List ActionRef → Option (List AppliesEntry) × List Token → Read Declaration
applies_then ns rs x = ended (mark Semicolon) (actions (record { names = ns; groups = rs; applies_to = x.0 })) x.1

abbrev pub action_then : ℕ → List Text × List Token → Read Declaration
action_then n x = groups_at n x.1 >>= λ rs. applies_at n rs.1 >>= applies_then x.0 rs.0

abbrev pub type_then : ℕ → Text × List Token → Read Declaration
type_then n x = eat (mark Equal) x.1 >>= λ us. type_at n us >>= λ t. ended (mark Semicolon) (common_type x.0 t.0) t.1

abbrev pub action_or_type_at : ℕ → List Token → Read Declaration
action_or_type_at n ts =
    elim (eat action_word ts) as (λ _. Read Declaration) [
      | Some us ↦ several_at name_read n us >>= action_then n
      | None ↦ eat type_word ts >>= λ us. id_read us >>= type_then n
    ]

unfoldable pub declaration_at : ℕ → List Token → Read Declaration
declaration_at n ts =
    elim (eat entity_word ts) as (λ _. Read Declaration) [
      | Some us ↦ several_at id_read n us >>= entity_then n
      | None ↦ action_or_type_at n ts
    ]

abbrev pub declared_then : (List Token → Read (List Declaration)) → Declaration × List Token → Read (List Declaration)
declared_then more x = mapped (λ ds. x.0 ∷ ds) (more x.1)

unfoldable pub declarations_at : ℕ → ℕ → List Token → Read (List Declaration)
declarations_at m zero ts = None
declarations_at m (suc n) ts =
    elim (eat (mark RightBrace) ts) as (λ _. Read (List Declaration)) [
      | Some us ↦ Some ([], us)
      | None ↦ annotations_at m ts >>= λ us. declaration_at m us >>= declared_then (declarations_at m n)
    ]

-- ---- the whole

abbrev pub is_end : List Token → Bool
is_end [] = true
is_end (t ∷ ts) = false

abbrev pub block : Name → List Declaration → Option SchemaSyntax → Option SchemaSyntax
block p ds None = None
block p ds (Some ns) = Some (record { path = p; declarations = ds } ∷ ns)

abbrev pub lone_then : (List Token → Option SchemaSyntax) → Declaration × List Token → Option SchemaSyntax
lone_then more x = block [] (x.0 ∷ []) (more x.1)

abbrev pub namespace_then : ℕ → (List Token → Option SchemaSyntax) → Name × List Token → Option SchemaSyntax
namespace_then m more p = eat (mark LeftBrace) p.1 >>= λ us. declarations_at m m us >>= λ ds. block p.0 ds.0 (more ds.1)

abbrev pub block_then : ℕ → (List Token → Option SchemaSyntax) → List Token → Option SchemaSyntax
block_then m more ts =
    elim (eat namespace_word ts) as (λ _. Option SchemaSyntax) [
      | Some us ↦ path_at m us >>= namespace_then m more
      | None ↦ declaration_at m ts >>= lone_then more
    ]

unfoldable pub schema_at : ℕ → ℕ → List Token → Option SchemaSyntax
schema_at m zero ts = None
schema_at m (suc n) ts = elim (is_end ts) as (λ _. Option SchemaSyntax) [ true ↦ Some [] | false ↦ annotations_at m ts >>= block_then m (schema_at m n) ]

-- what the tokens of a schema say, if they are of one
unfoldable pub syntax_of : List Token → Option SchemaSyntax
syntax_of ts = schema_at (suc (length ts)) (suc (length ts)) ts

-- what the bytes of a text say
unfoldable pub said : Text → Option SchemaSyntax
said bytes = tokens_of (chars bytes) >>= syntax_of
