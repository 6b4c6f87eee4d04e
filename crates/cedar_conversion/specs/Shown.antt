-- Which kinds of faults leaves show: one rule for a kind, at the node where it may be told.
use Rattle.std.specs.Prelude.{◌≡◌, ◌⊎◌, ⊤, ◌^◌, ℕ, nat_lt, List, [], ◌∷◌, None, MatchOption, false}
use Rattle.std.specs.Rc.{rc_str_bytes}
use Rattle.std.specs.Str.{chars}
use Rattle.cedar_grammar.specs.Token as token
use Rattle.cedar_grammar.specs.Escape.{string_of, pattern_of}
use Rattle.cedar_grammar.specs.Loose as loose
use Rattle.cedar_grammar.specs.Converting.{ident_text, alone, lone_member, lone_primary, primary_raw}
use Rattle.cedar_cst.specs.LeafView.{view_ident}
use Rattle.cedar_faults.specs.declared.kinds.ToASTErrorKind.{ToASTErrorKind}
use Rattle.cedar_faults.specs.declared.kinds.ToASTErrorKind.TheVariants as kinds

-- ---- words, names and strings

-- an empty node
abbrev pub missing_shows : ToASTErrorKind → Type 0
missing_shows kinds.EmptyNodeInvariantViolation = ⊤
missing_shows kind = ⊥

-- of a word that should be an identifier: it is reserved, or none
abbrev pub ident_shows : loose.Ident → ToASTErrorKind → Type 0
ident_shows i kinds.EmptyNodeInvariantViolation = i ≡ loose.missing_ident
ident_shows i (kinds.ReservedIdentifier word) = (view_ident word ≡ i) × (ident_text i ≡ None)
ident_shows i (kinds.ReservedNamespace e) = i ≡ loose.ident token.Cedar
ident_shows i (kinds.InvalidIdentifier text) = i ≡ loose.invalid_ident (rc_str_bytes text)
ident_shows i kind = ⊥

abbrev pub idents_show : List loose.Ident → ToASTErrorKind → Type 0
idents_show [] kind = ⊥
idents_show (i ∷ is) kind = ident_shows i kind ⊎ idents_show is kind

abbrev pub name_shows : loose.Name → ToASTErrorKind → Type 0
name_shows loose.missing_name kind = missing_shows kind
name_shows (loose.name is i) kind = idents_show is kind ⊎ ident_shows i kind

-- of a string that holds what stands for no character
abbrev pub str_shows : loose.Str → ToASTErrorKind → Type 0
str_shows s kinds.EmptyNodeInvariantViolation = s ≡ loose.missing_str
str_shows s (kinds.InvalidString text) = s ≡ loose.invalid_str (chars (rc_str_bytes text))
str_shows (loose.string raw) (kinds.Unescape e) = string_of raw ≡ None
str_shows s kind = ⊥

-- ---- literals and entities

-- a number that is no long
abbrev pub literal_shows : loose.Literal → ToASTErrorKind → Type 0
literal_shows loose.missing_literal kind = missing_shows kind
literal_shows (loose.num n) (kinds.IntegerLiteralTooLarge m) = (m ≡ n) × (nat_lt n (2 ^ 63) ≡ false)
literal_shows (loose.str s) kind = str_shows s kind
literal_shows l kind = ⊥

-- an entity that is written by its attributes
abbrev pub ref_shows : loose.Ref → ToASTErrorKind → Type 0
ref_shows loose.missing_ref kind = missing_shows kind
ref_shows (loose.uid n s) kind = name_shows n kind ⊎ str_shows s kind
ref_shows (loose.ref n inits) kinds.UnsupportedEntityLiterals = ⊤
ref_shows (loose.ref n inits) kind = ⊥

-- of a slot: none is so called
abbrev pub slot_shows : loose.Slot → ToASTErrorKind → Type 0
slot_shows loose.missing_slot (kinds.InvalidSlot text) = ⊤
slot_shows (loose.other_slot word) (kinds.InvalidSlot text) = ⊤
slot_shows s kind = ⊥

-- ---- what should stand alone

-- of a literal that should be a string
abbrev pub text_shows : loose.Literal → ToASTErrorKind → Type 0
text_shows (loose.str s) kind = str_shows s kind
text_shows l kinds.NonStringIndex = ⊤
text_shows l kind = ⊥

abbrev pub string_shows : loose.Primary → ToASTErrorKind → Type 0
string_shows (loose.literal l) kind = text_shows l kind
string_shows p (kinds.InvalidAttribute text) = ⊤
string_shows p kind = ⊥

-- a path stands where an identifier should
abbrev pub IsPath : ToASTErrorKind → Type 0
IsPath (kinds.PathAsAttribute text) = ⊤
IsPath kind = ⊥

-- of a name that should be one identifier
abbrev pub word_shows : loose.Name → ToASTErrorKind → Type 0
word_shows loose.missing_name kind = missing_shows kind
word_shows (loose.name [] i) kind = ident_shows i kind
word_shows (loose.name (j ∷ js) i) kind = IsPath kind

abbrev pub word_or_string_shows : loose.Primary → ToASTErrorKind → Type 0
word_or_string_shows (loose.named n) kind = word_shows n kind
word_or_string_shows p kind = string_shows p kind

-- of the key of an entry: neither an identifier nor a string
abbrev pub IsNoKey : ToASTErrorKind → Type 0
IsNoKey (kinds.InvalidAttribute text) = ⊤
IsNoKey kind = ⊥

abbrev pub key_shows : loose.Expr → ToASTErrorKind → Type 0
key_shows e kind = MatchOption (alone e) (IsNoKey kind) (λ p. word_or_string_shows p kind)

-- of what stands between brackets behind an operand: no string
abbrev pub IsNoIndex : ToASTErrorKind → Type 0
IsNoIndex kinds.NonStringIndex = ⊤
IsNoIndex kind = ⊥

abbrev pub index_shows : loose.Expr → ToASTErrorKind → Type 0
index_shows e kind = MatchOption (alone e) (IsNoIndex kind) (λ p. string_shows p kind)

-- of what stands behind `is`: no name
abbrev pub path_shows : loose.Primary → ToASTErrorKind → Type 0
path_shows (loose.named n) kind = name_shows n kind
path_shows p (kinds.InvalidIsType text) = ⊤
path_shows p kind = ⊥

abbrev pub IsNoType : ToASTErrorKind → Type 0
IsNoType (kinds.InvalidIsType text) = ⊤
IsNoType kind = ⊥

abbrev pub type_shows : loose.Add → ToASTErrorKind → Type 0
type_shows a kind = MatchOption (lone_primary a) (IsNoType kind) (λ p. path_shows p kind)

-- of what stands behind `like`: no string, or one that holds what stands for no character
abbrev pub IsNoPattern : ToASTErrorKind → Type 0
IsNoPattern (kinds.InvalidPattern text) = ⊤
IsNoPattern kind = ⊥

abbrev pub raw_shows : List ℕ → ToASTErrorKind → Type 0
raw_shows raw (kinds.Unescape e) = pattern_of raw ≡ None
raw_shows raw kind = ⊥

abbrev pub elems_show : loose.Primary → ToASTErrorKind → Type 0
elems_show p kind = MatchOption (primary_raw p) (IsNoPattern kind) (λ raw. raw_shows raw kind)

abbrev pub pattern_shows : loose.Add → ToASTErrorKind → Type 0
pattern_shows a kind = MatchOption (lone_primary a) (IsNoPattern kind) (λ p. elems_show p kind)

-- of what stands behind `has`: neither attributes nor a string
abbrev pub IsNoAttributes : ToASTErrorKind → Type 0
IsNoAttributes (kinds.InvalidHasRHS text) = ⊤
IsNoAttributes kind = ⊥

abbrev pub field_shows : loose.MemAccess → ToASTErrorKind → Type 0
field_shows (loose.field i) kind = ident_shows i kind
field_shows x kind = IsNoAttributes kind

abbrev pub fields_show : loose.Accesses → ToASTErrorKind → Type 0
fields_show loose.no_accesses kind = ⊥
fields_show (loose.an_access x xs) kind = field_shows x kind ⊎ fields_show xs kind

abbrev pub member_attributes_show : loose.Member → ToASTErrorKind → Type 0
member_attributes_show (loose.member (loose.named n) xs) kind = word_shows n kind ⊎ fields_show xs kind
member_attributes_show (loose.member p loose.no_accesses) kind = string_shows p kind
member_attributes_show m kind = IsNoAttributes kind

abbrev pub attributes_show : loose.Add → ToASTErrorKind → Type 0
attributes_show a kind = MatchOption (lone_member a) (IsNoAttributes kind) (λ m. member_attributes_show m kind)
