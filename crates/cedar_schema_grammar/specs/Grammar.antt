-- The strict grammar of schemas. (Cedar language reference, "Schema grammar".)
-- A rule says what the tokens mean up to a rest: tokens, meaning, rest. A part that may be left out is left out only where it isn't next.
use Rattle.std.specs.Prelude.{◌≡◌, ℕ, Bool, true, false, List, [], ◌∷◌, Option, Some, None, codes}
use Rattle.std.specs.List.{list_any}
use Rattle.std.specs.Str.{chars}
use Rattle.cedar_language.specs.Uid.{Text, Name}
use Rattle.cedar_language.specs.Order.{same_text}
use Rattle.cedar_grammar.specs.Escape.{string_of}
use Rattle.cedar_grammar.specs.Names.{are_distinct}
use Rattle.cedar_grammar.specs.Steps.{◌>>=◌}
use Rattle.cedar_typing.specs.Types.{Presence, Required, Optional}
use Rattle.cedar_schema_grammar.specs.Syntax.{TypeSyntax, named, a_set, a_record, AttributesSyntax, no_attributes, an_attribute, ActionRef, AppliesEntry, principals, resources, context, Declaration, entities, enumeration, actions, common_type, SchemaSyntax}
use Rattle.cedar_schema_grammar.specs.Tokens.{Mark, LeftBrace, RightBrace, LeftBracket, RightBracket, LeftParen, RightParen, LeftAngle, RightAngle, Comma, Semicolon, Colon, ColonColon, Question, Equal, At, Token, word, text, mark, tokens_of, eat, is_word}

abbrev pub Rule : Type 0 → Type 1
Rule A = List Token → A → List Token → Type 0

-- this token isn't next
abbrev pub Lacks : Token → List Token → Type 0
Lacks t ts = eat t ts ≡ None

abbrev pub is_one_of : List Text → Text → Bool
is_one_of ss s = list_any (same_text s) ss

-- words that are no identifiers, here as in policies
abbrev pub is_reserved : Text → Bool
is_reserved s =
    is_one_of
    (codes "true" ∷ codes "false" ∷ codes "if" ∷ codes "then" ∷ codes "else" ∷ codes "in" ∷ codes "is" ∷ codes "like" ∷ codes "has" ∷ [])
    s

-- ---- the words that the grammar names

abbrev pub in_word : Token
in_word = word (codes "in")

abbrev pub tags_word : Token
tags_word = word (codes "tags")

abbrev pub set_word : Token
set_word = word (codes "Set")

abbrev pub entity_word : Token
entity_word = word (codes "entity")

abbrev pub enum_word : Token
enum_word = word (codes "enum")

abbrev pub action_word : Token
action_word = word (codes "action")

abbrev pub applies_word : Token
applies_word = word (codes "appliesTo")

abbrev pub type_word : Token
type_word = word (codes "type")

abbrev pub namespace_word : Token
namespace_word = word (codes "namespace")

abbrev pub principal_word : Token
principal_word = word (codes "principal")

abbrev pub resource_word : Token
resource_word = word (codes "resource")

abbrev pub context_word : Token
context_word = word (codes "context")

-- ---- names

pub data Id : List Token → Text → List Token → Type 0 where
  id : {s : Text} {rest : List Token} → is_reserved s ≡ false → Id (word s ∷ rest) s rest

-- the characters of a string, by its escapes
pub data StringRule : List Token → Text → List Token → Type 0 where
  string : {raw : List ℕ} {s : Text} {rest : List Token} → string_of raw ≡ Some s → StringRule (text raw ∷ rest) s rest

-- an identifier or a string
pub data NameRule : List Token → Text → List Token → Type 0 where
  id_name : {s : Text} {ts rest : List Token} → Id ts s rest → NameRule ts s rest
  string_name : {s : Text} {ts rest : List Token} → StringRule ts s rest → NameRule ts s rest

-- whether `::` and a word are next
abbrev pub goes_on : List Token → Bool
goes_on ts = elim (eat (mark ColonColon) ts) as (λ _. Bool) [ None ↦ false | Some us ↦ is_word us ]

-- identifiers with `::` between each two, as many as there are
pub data Path : List Token → Name → List Token → Type 0 where
  one_id : {s : Text} {ts rest : List Token} → Id ts s rest → goes_on rest ≡ false → Path ts (s ∷ []) rest
  more_ids : {s : Text} {p : Name} {ts : List Token} (mid : List Token) {rest : List Token}
      → Id ts s (mark ColonColon ∷ mid) → Path mid p rest → Path ts (s ∷ p) rest

-- ---- lists

-- one or more, with a comma between each two
pub data Several {A : Type 0} (item : Rule A) : List Token → List A → List Token → Type 0 where
  one : {a : A} {ts rest : List Token} → item ts a rest → Lacks (mark Comma) rest → Several item ts (a ∷ []) rest
  more : {a : A} {xs : List A} {ts : List Token} (mid : List Token) {rest : List Token}
      → item ts a (mark Comma ∷ mid) → Several item mid xs rest → Several item ts (a ∷ xs) rest

-- none or more up to the closing mark; a comma may stand behind the last
pub data Items (close : Mark) {A : Type 0} (item : Rule A) : List Token → List A → List Token → Type 0 where
  no_items : {rest : List Token} → Items close item (mark close ∷ rest) [] rest
  last_item : {a : A} {ts rest : List Token} → item ts a (mark close ∷ rest) → Items close item ts (a ∷ []) rest
  an_item : {a : A} {xs : List A} {ts : List Token} (mid : List Token) {rest : List Token}
      → item ts a (mark Comma ∷ mid) → Items close item mid xs rest → Items close item ts (a ∷ xs) rest

-- ---- annotations, which mean nothing here

pub data Keys : List Token → List Text → List Token → Type 0 where
  no_keys : {ts : List Token} → Lacks (mark At) ts → Keys ts [] ts
  a_key : {w : Text} {ks : List Text} {ts rest : List Token}
      → Lacks (mark LeftParen) ts → Keys ts ks rest → Keys (mark At ∷ word w ∷ ts) (w ∷ ks) rest
  a_key_with : {w s : Text} {ks : List Text} {ts : List Token} (mid : List Token) {rest : List Token}
      → StringRule ts s (mark RightParen ∷ mid) → Keys mid ks rest → Keys (mark At ∷ word w ∷ mark LeftParen ∷ ts) (w ∷ ks) rest

-- none of them twice
pub data Annotations : List Token → List Token → Type 0 where
  annotations : {ks : List Text} {ts rest : List Token} → Keys ts ks rest → are_distinct ks ≡ true → Annotations ts rest

-- ---- types

pub data PresenceRule : List Token → Presence → List Token → Type 0 where
  required : {rest : List Token} → PresenceRule (mark Colon ∷ rest) Required rest
  optional : {rest : List Token} → PresenceRule (mark Question ∷ mark Colon ∷ rest) Optional rest

-- what follows `Set<`, if that is next
abbrev pub eat_set : List Token → Option (List Token)
eat_set ts = eat set_word ts >>= eat (mark LeftAngle)

mutual
  pub data TypeRule : List Token → TypeSyntax → List Token → Type 0 where
    named_is : {p : Name} {ts rest : List Token} → eat_set ts ≡ None → Path ts p rest → TypeRule ts (named p) rest
    set_is : {t : TypeSyntax} {ts rest : List Token}
        → TypeRule ts t (mark RightAngle ∷ rest) → TypeRule (set_word ∷ mark LeftAngle ∷ ts) (a_set t) rest
    record_is : {xs : AttributesSyntax} {ts rest : List Token} → AttributesRule ts xs rest → TypeRule (mark LeftBrace ∷ ts) (a_record xs) rest

  -- attributes up to the closing brace
  pub data AttributesRule : List Token → AttributesSyntax → List Token → Type 0 where
    no_more : {rest : List Token} → AttributesRule (mark RightBrace ∷ rest) no_attributes rest
    last : {k : Text} {p : Presence} {t : TypeSyntax} {ts : List Token} (t1 t2 t3 : List Token) {rest : List Token}
        → Annotations ts t1 → NameRule t1 k t2 → PresenceRule t2 p t3 → TypeRule t3 t (mark RightBrace ∷ rest)
        → AttributesRule ts (an_attribute k p t no_attributes) rest
    another : {k : Text} {p : Presence} {t : TypeSyntax} {xs : AttributesSyntax} {ts : List Token} (t1 t2 t3 t4 : List Token) {rest : List Token}
        → Annotations ts t1 → NameRule t1 k t2 → PresenceRule t2 p t3 → TypeRule t3 t (mark Comma ∷ t4) → AttributesRule t4 xs rest
        → AttributesRule ts (an_attribute k p t xs) rest

-- ---- entity types

-- a path, or paths in brackets
pub data EntityTypes : List Token → List Name → List Token → Type 0 where
  one_type : {p : Name} {ts rest : List Token} → Path ts p rest → EntityTypes ts (p ∷ []) rest
  types : {ps : List Name} {ts rest : List Token} → Items RightBracket Path ts ps rest → EntityTypes (mark LeftBracket ∷ ts) ps rest

pub data Parents : List Token → List Name → List Token → Type 0 where
  no_parents : {ts : List Token} → Lacks in_word ts → Parents ts [] ts
  parents : {ps : List Name} {ts rest : List Token} → EntityTypes ts ps rest → Parents (in_word ∷ ts) ps rest

pub data Shape : List Token → AttributesSyntax → List Token → Type 0 where
  no_shape : {ts : List Token} → Lacks (mark Equal) ts → Lacks (mark LeftBrace) ts → Shape ts no_attributes ts
  shape : {xs : AttributesSyntax} {ts rest : List Token} → AttributesRule ts xs rest → Shape (mark LeftBrace ∷ ts) xs rest
  equal_shape : {xs : AttributesSyntax} {ts rest : List Token} → AttributesRule ts xs rest → Shape (mark Equal ∷ mark LeftBrace ∷ ts) xs rest

pub data Tags : List Token → Option TypeSyntax → List Token → Type 0 where
  no_tags : {ts : List Token} → Lacks tags_word ts → Tags ts None ts
  tags : {t : TypeSyntax} {ts rest : List Token} → TypeRule ts t rest → Tags (tags_word ∷ ts) (Some t) rest

-- ---- actions

-- a name, or the path of a type with `::` and a string
pub data RefRule : List Token → ActionRef → List Token → Type 0 where
  own_string : {s : Text} {ts rest : List Token} → StringRule ts s rest → RefRule ts (record { type_name = None; name = s }) rest
  own_id : {s : Text} {ts rest : List Token}
      → Path ts (s ∷ []) rest → Lacks (mark ColonColon) rest → RefRule ts (record { type_name = None; name = s }) rest
  of_type : {p : Name} {s : Text} {ts : List Token} (mid : List Token) {rest : List Token}
      → Path ts p (mark ColonColon ∷ mid) → StringRule mid s rest → RefRule ts (record { type_name = Some p; name = s }) rest

pub data Groups : List Token → List ActionRef → List Token → Type 0 where
  no_groups : {ts : List Token} → Lacks in_word ts → Groups ts [] ts
  one_group : {r : ActionRef} {ts rest : List Token} → RefRule ts r rest → Groups (in_word ∷ ts) (r ∷ []) rest
  groups : {rs : List ActionRef} {ts rest : List Token} → Items RightBracket RefRule ts rs rest → Groups (in_word ∷ mark LeftBracket ∷ ts) rs rest

-- a context is a record, or a path that stands for one
pub data EntryRule : List Token → AppliesEntry → List Token → Type 0 where
  principals_are : {ps : List Name} {ts rest : List Token} → EntityTypes ts ps rest → EntryRule (principal_word ∷ mark Colon ∷ ts) (principals ps) rest
  resources_are : {ps : List Name} {ts rest : List Token} → EntityTypes ts ps rest → EntryRule (resource_word ∷ mark Colon ∷ ts) (resources ps) rest
  named_context : {p : Name} {ts rest : List Token} → Path ts p rest → EntryRule (context_word ∷ mark Colon ∷ ts) (context (named p)) rest
  record_context : {xs : AttributesSyntax} {ts rest : List Token}
      → AttributesRule ts xs rest → EntryRule (context_word ∷ mark Colon ∷ mark LeftBrace ∷ ts) (context (a_record xs)) rest

pub data Applies : List Token → Option (List AppliesEntry) → List Token → Type 0 where
  to_nothing : {ts : List Token} → Lacks applies_word ts → Applies ts None ts
  applies_to : {es : List AppliesEntry} {ts rest : List Token}
      → Items RightBrace EntryRule ts es rest → Applies (applies_word ∷ mark LeftBrace ∷ ts) (Some es) rest

-- ---- declarations and namespaces

-- a declaration behind its annotations
pub data DeclarationRule : List Token → Declaration → List Token → Type 0 where
  entity_is : {ns : List Text} {ps : List Name} {xs : AttributesSyntax} {g : Option TypeSyntax} {ts : List Token} (t1 t2 t3 : List Token) {rest : List Token}
      → Several Id ts ns t1 → Lacks enum_word t1 → Parents t1 ps t2 → Shape t2 xs t3 → Tags t3 g (mark Semicolon ∷ rest)
      → DeclarationRule (entity_word ∷ ts) (entities (record { names = ns; parents = ps; attributes = xs; tags = g })) rest
  enumeration_is : {ns : List Text} {cs : List Text} {ts : List Token} (t1 : List Token) {rest : List Token}
      → Several Id ts ns (enum_word ∷ mark LeftBracket ∷ t1) → Items RightBracket StringRule t1 cs (mark Semicolon ∷ rest)
      → DeclarationRule (entity_word ∷ ts) (enumeration ns cs) rest
  action_is : {ns : List Text} {rs : List ActionRef} {es : Option (List AppliesEntry)} {ts : List Token} (t1 t2 : List Token) {rest : List Token}
      → Several NameRule ts ns t1 → Groups t1 rs t2 → Applies t2 es (mark Semicolon ∷ rest)
      → DeclarationRule (action_word ∷ ts) (actions (record { names = ns; groups = rs; applies_to = es })) rest
  type_is : {s : Text} {t : TypeSyntax} {ts : List Token} (t1 : List Token) {rest : List Token}
      → Id ts s (mark Equal ∷ t1) → TypeRule t1 t (mark Semicolon ∷ rest) → DeclarationRule (type_word ∷ ts) (common_type s t) rest

-- declarations up to the closing brace
pub data Declarations : List Token → List Declaration → List Token → Type 0 where
  closed : {rest : List Token} → Declarations (mark RightBrace ∷ rest) [] rest
  a_declaration : {d : Declaration} {ds : List Declaration} {ts : List Token} (t1 t2 : List Token) {rest : List Token}
      → Annotations ts t1 → DeclarationRule t1 d t2 → Declarations t2 ds rest → Declarations ts (d ∷ ds) rest

-- the tokens of a whole text: declarations that stand in no namespace, and namespaces
pub data SchemaRule : List Token → SchemaSyntax → Type 0 where
  at_end : SchemaRule [] []
  in_none : {d : Declaration} {ns : SchemaSyntax} {ts : List Token} (t1 t2 : List Token)
      → Annotations ts t1 → DeclarationRule t1 d t2 → SchemaRule t2 ns → SchemaRule ts (record { path = []; declarations = d ∷ [] } ∷ ns)
  in_namespace : {p : Name} {ds : List Declaration} {ns : SchemaSyntax} {ts : List Token} (t1 t2 t3 : List Token)
      → Annotations ts (namespace_word ∷ t1) → Path t1 p (mark LeftBrace ∷ t2) → Declarations t2 ds t3 → SchemaRule t3 ns
      → SchemaRule ts (record { path = p; declarations = ds } ∷ ns)

-- the bytes of a text say this
abbrev pub Says : Text → SchemaSyntax → Type 0
Says bytes s = (ts : List Token) × (tokens_of (chars bytes) ≡ Some ts) × SchemaRule ts s
