-- What a rule says, its function reads.
use Rattle.std.proofs.Common.{◌≡◌, ℕ, zero, suc, ◌<◌, ◌≤◌, true, false, List, [], ◌∷◌, length, Some, None, refl, arith}
use Rattle.cedar_language.specs.Uid.{Text, Name}
use Rattle.cedar_typing.specs.Types.{Presence}
use Rattle.cedar_schema_grammar.specs.Syntax.{ActionRef, AppliesEntry, Declaration, SchemaSyntax}
use Rattle.cedar_schema_grammar.specs.Tokens.{Mark, LeftBrace, RightBrace, LeftBracket, RightBracket, RightParen, RightAngle, ColonColon, Comma, Semicolon, At, Token, word, text, mark, same_token, eat, is_word}
use Rattle.cedar_schema_grammar.specs.Grammar.{Rule, Lacks, namespace_word, Id, id, StringRule, string, NameRule, id_name, string_name, Path, one_id, more_ids, Several, one, more, Items, no_items, last_item, an_item, Keys, no_keys, a_key, a_key_with, Annotations, annotations, PresenceRule, required, optional, TypeRule, named_is, set_is, record_is, AttributesRule, no_more, last, another, EntityTypes, one_type, types, Parents, no_parents, parents, Shape, no_shape, shape, equal_shape, Tags, no_tags, tags, RefRule, own_string, own_id, of_type, Groups, no_groups, one_group, groups, EntryRule, principals_are, resources_are, named_context, record_context, Applies, to_nothing, applies_to, DeclarationRule, entity_is, enumeration_is, action_is, type_is, Declarations, closed, a_declaration, SchemaRule, at_end, in_none, in_namespace}
use Rattle.cedar_schema_grammar.specs.Reading.{Read, path_then, several_then, items_then, value_then, where_distinct, ref_then, some_groups_at, context_at, entity_then, block_then, id_read, string_read, name_read, path_at, several_at, items_at, keys_at, annotations_at, presence_read, key_at, type_at, attributes_at, entity_types_at, parents_at, shape_at, tags_at, ref_at, groups_at, entry_at, applies_at, declaration_at, declarations_at, is_end, schema_at}
use Rattle.cedar_schema_grammar.proofs.Eats.{Eats, id_eats, string_eats, name_eats, path_eats, several_eat, annotations_eat, presence_eats, type_eats, parents_eat, shape_eats, ref_eats, groups_eat, entry_eats, declaration_eats, declarations_eat}

abbrev pub Complete : {A : Type 0} → Rule A → (List Token → Read A) → Type 0
Complete {A} rule read = (ts : List Token) (a : A) (rest : List Token) → rule ts a rest → read ts ≡ Some (a, rest)

-- the same, of fewer tokens than a bound
abbrev pub CompleteBelow : {A : Type 0} → ℕ → Rule A → (List Token → Read A) → Type 0
CompleteBelow {A} n rule read = (ts : List Token) (a : A) (rest : List Token) → length ts < n → rule ts a rest → read ts ≡ Some (a, rest)

-- ---- names

pub id_complete : Complete Id id_read
id_complete ts s rest (id h) = rw h

pub string_complete : Complete StringRule string_read
string_complete ts s rest (string h) = rw h

id_is_no_string : (ts : List Token) (s : Text) (rest : List Token) → StringRule ts s rest → id_read ts ≡ None
id_is_no_string ts s rest (string h) = refl

pub name_complete : Complete NameRule name_read
name_complete ts s rest (id_name d) = rw (id_complete ts s rest d)
name_complete ts s rest (string_name d) = rw (id_is_no_string ts s rest d, string_complete ts s rest d)

id_begins : (ts : List Token) (s : Text) (rest : List Token) → Id ts s rest → is_word ts ≡ true
id_begins ts s rest (id h) = refl

path_begins : (ts : List Token) (p : Name) (rest : List Token) → Path ts p rest → is_word ts ≡ true
path_begins ts p rest (one_id {s} d g) = id_begins ts s rest d
path_begins ts p rest (more_ids {s} mid d e) = id_begins ts s _ d

-- a word is no mark
pub word_no_mark : (m : Mark) (ts : List Token) → is_word ts ≡ true → eat (mark m) ts ≡ None
word_no_mark m (word s ∷ ts) e = refl
word_no_mark m (text raw ∷ ts) e = refl
word_no_mark m (mark n ∷ ts) e = absurd (cc e)
word_no_mark m [] e = refl

pub path_complete : (n : ℕ) → CompleteBelow n Path (path_at n)
unfolding path_at
path_complete zero ts p rest l d = absurd (omega arith)
path_complete (suc n) ts p rest l (one_id {s} d g) = rw (id_complete ts s rest d, g, path_then)
path_complete (suc n) ts p rest l (more_ids {s} {p = q} mid d e) =
    let shorter = id_eats ts s (mark ColonColon ∷ mid) d in
    rw (id_complete ts s (mark ColonColon ∷ mid) d, path_begins mid q rest e, path_then, path_complete n mid q rest (omega arith) e)

-- ---- lists

pub several_complete : {A : Type 0} (item : Rule A) (read : List Token → Read A) (m : ℕ) → CompleteBelow m item read → Eats item → (n : ℕ) → n ≤ m → CompleteBelow n (Several item) (several_at read n)
unfolding several_at
several_complete item read m f eats zero w ts xs rest l d = absurd (omega arith)
several_complete item read m f eats (suc n) w ts xs rest l (one {a} d e) = rw (f ts a rest (omega arith) d, e, several_then)
several_complete item read m f eats (suc n) w ts xs rest l (more {a} {xs = ys} mid d e) =
    let shorter = eats ts a (mark Comma ∷ mid) d in
    rw (f ts a (mark Comma ∷ mid) (omega arith) d, several_then, several_complete item read m f eats n (omega arith) mid ys rest (omega arith) e)

-- no item begins with the closing mark, and it is no comma
pub record Closes {A : Type 0} (close : Mark) (item : Rule A) : Type 0 where
  pub comma : same_token (mark close) (mark Comma) ≡ false
  pub itself : same_token (mark close) (mark close) ≡ true
  pub begins : (ts : List Token) (a : A) (rest : List Token) → item ts a rest → Lacks (mark close) ts

pub items_complete : (close : Mark) {A : Type 0} (item : Rule A) (read : List Token → Read A) (m : ℕ) → CompleteBelow m item read → Eats item → Closes close item → (n : ℕ) → n ≤ m → CompleteBelow n (Items close item) (items_at close read n)
unfolding items_at
items_complete close item read m f eats c zero w ts xs rest l d = absurd (omega arith)
items_complete close item read m f eats c (suc n) w ts xs rest l no_items = rw (c.itself, items_at)
items_complete close item read m f eats c (suc n) w ts xs rest l (last_item {a} d) = rw (c.begins ts a _ d, items_at, f ts a (mark close ∷ rest) (omega arith) d, c.itself, items_then)
items_complete close item read m f eats c (suc n) w ts xs rest l (an_item {a} {xs = ys} mid d e) =
    let shorter = eats ts a (mark Comma ∷ mid) d in
    rw (c.begins ts a _ d, items_at, f ts a (mark Comma ∷ mid) (omega arith) d, c.comma, items_then, items_complete close item read m f eats c n (omega arith) mid ys rest (omega arith) e)

-- ---- annotations

keys_complete : (n : ℕ) → CompleteBelow n Keys (keys_at n)
unfolding keys_at
keys_complete zero ts ks rest l d = absurd (omega arith)
keys_complete (suc n) ts ks rest l (no_keys h) = rw (h, keys_at)
keys_complete (suc n) ts ks rest l (a_key {w} {ks = ls} {ts = us} h d) = rw (h, value_then, keys_complete n us ls rest (omega arith) d)
keys_complete (suc n) ts ks rest l (a_key_with {w} {s} {ks = ls} {ts = us} mid d e) =
    let shorter = string_eats us s _ d in
    rw (string_complete us s (mark RightParen ∷ mid) d, keys_complete n mid ls rest (omega arith) e)

pub annotations_complete : (n : ℕ) (ts rest : List Token) → length ts < n → Annotations ts rest → annotations_at n ts ≡ Some rest
unfolding annotations_at
annotations_complete n ts rest l (annotations {ks} d h) = rw (keys_complete n ts ks rest l d, h, where_distinct)

-- what doesn't begin behind annotations doesn't begin before them
keys_lack : (m : Mark) → same_token (mark m) (mark At) ≡ false → (ts : List Token) (ks : List Text) (rest : List Token) → Keys ts ks rest → Lacks (mark m) rest → Lacks (mark m) ts
keys_lack m e ts ks rest (no_keys h) l = l
keys_lack m e ts ks rest (a_key h d) l = rw e
keys_lack m e ts ks rest (a_key_with mid d f) l = rw e

pub annotations_lack : (m : Mark) → same_token (mark m) (mark At) ≡ false → (ts rest : List Token) → Annotations ts rest → Lacks (mark m) rest → Lacks (mark m) ts
annotations_lack m e ts rest (annotations {ks} d h) l = keys_lack m e ts ks rest d l

-- ---- types

pub presence_complete : Complete PresenceRule presence_read
presence_complete ts p rest required = refl
presence_complete ts p rest optional = refl

name_lacks : (m : Mark) (ts : List Token) (s : Text) (rest : List Token) → NameRule ts s rest → Lacks (mark m) ts
name_lacks m ts s rest (id_name (id h)) = refl
name_lacks m ts s rest (string_name (string h)) = refl

key_complete : (n : ℕ) (ts t1 t2 rest : List Token) (k : Text) (p : Presence) → length ts < n → Annotations ts t1 → NameRule t1 k t2 → PresenceRule t2 p rest → key_at n ts ≡ Some (record { name = k; presence = p }, rest)
unfolding key_at
key_complete n ts t1 t2 rest k p l a b c = rw (annotations_complete n ts t1 l a, name_complete t1 k t2 b, presence_complete t2 p rest c)

mutual
  unfolding type_at

  pub type_complete : (n : ℕ) → CompleteBelow n TypeRule (type_at n)
  type_complete zero ts t rest l d = absurd (omega arith)
  type_complete (suc n) ts t rest l (named_is {p} h d) = rw (word_no_mark LeftBrace ts (path_begins ts p rest d), h, type_at, path_complete (suc n) ts p rest l d)
  type_complete (suc n) ts t rest l (set_is {t = u} {ts = us} d) = rw (type_complete n us u (mark RightAngle ∷ rest) (omega arith) d)
  type_complete (suc n) ts t rest l (record_is {xs} {ts = us} d) = rw (attributes_complete n us xs rest (omega arith) d)

  pub attributes_complete : (n : ℕ) → CompleteBelow n AttributesRule (attributes_at n)
  attributes_complete zero ts xs rest l d = absurd (omega arith)
  attributes_complete (suc n) ts xs rest l no_more = refl
  attributes_complete (suc n) ts xs rest l (last {k} {p} {t} t1 t2 t3 a b c d) =
      let one = annotations_eat ts t1 a in
      let two = name_eats t1 k t2 b in
      let three = presence_eats t2 p t3 c in
      rw (annotations_lack RightBrace refl ts t1 a (name_lacks RightBrace t1 k t2 b), attributes_at, key_complete (suc n) ts t1 t2 t3 k p l a b c, type_complete n t3 t (mark RightBrace ∷ rest) (omega arith) d)
  attributes_complete (suc n) ts xs rest l (another {k} {p} {t} {xs = ys} t1 t2 t3 t4 a b c d e) =
      let one = annotations_eat ts t1 a in
      let two = name_eats t1 k t2 b in
      let three = presence_eats t2 p t3 c in
      let four = type_eats t3 t (mark Comma ∷ t4) d in
      rw (annotations_lack RightBrace refl ts t1 a (name_lacks RightBrace t1 k t2 b), attributes_at, key_complete (suc n) ts t1 t2 t3 k p l a b c, type_complete n t3 t (mark Comma ∷ t4) (omega arith) d, attributes_complete n t4 ys rest (omega arith) e)

-- ---- entity types

path_closes : Closes RightBracket Path
path_closes = record { comma = refl; itself = refl; begins = λ ts p rest d. word_no_mark RightBracket ts (path_begins ts p rest d) }

string_closes : Closes RightBracket StringRule
string_closes = record { comma = refl; itself = refl; begins = λ ts s rest d. name_lacks RightBracket ts s rest (string_name d) }

pub entity_types_complete : (n : ℕ) → CompleteBelow n EntityTypes (entity_types_at n)
entity_types_complete n ts ps rest l (one_type {p} d) = rw (word_no_mark LeftBracket ts (path_begins ts p rest d), entity_types_at, path_complete n ts p rest l d)
entity_types_complete n ts ps rest l (types {ts = us} d) = items_complete RightBracket Path (path_at n) n (path_complete n) path_eats path_closes n (omega arith) us ps rest (omega arith) d

parents_complete : (n : ℕ) → CompleteBelow n Parents (parents_at n)
parents_complete n ts ps rest l (no_parents h) = rw (h, parents_at)
parents_complete n ts ps rest l (parents {ts = us} d) = entity_types_complete n us ps rest (omega arith) d

shape_complete : (n : ℕ) → CompleteBelow n Shape (shape_at n)
shape_complete n ts xs rest l (no_shape h e) = rw (h, e, shape_at)
shape_complete n ts xs rest l (shape {ts = us} d) = attributes_complete n us xs rest (omega arith) d
shape_complete n ts xs rest l (equal_shape {ts = us} d) = attributes_complete n us xs rest (omega arith) d

tags_complete : (n : ℕ) → CompleteBelow n Tags (tags_at n)
tags_complete n ts g rest l (no_tags h) = rw (h, tags_at)
tags_complete n ts g rest l (tags {t} {ts = us} d) = rw (type_complete n us t rest (omega arith) d)

-- ---- actions

string_read-word : (ts : List Token) → is_word ts ≡ true → string_read ts ≡ None
string_read-word (word s ∷ ts) e = refl
string_read-word (text raw ∷ ts) e = absurd (cc e)
string_read-word (mark n ∷ ts) e = refl
string_read-word [] e = refl

pub ref_complete : (n : ℕ) → CompleteBelow n RefRule (ref_at n)
unfolding ref_at
ref_complete n ts r rest l (own_string {s} d) = rw (string_complete ts s rest d)
ref_complete n ts r rest l (own_id {s} d h) = rw (string_read-word ts (path_begins ts (s ∷ []) rest d), path_complete n ts (s ∷ []) rest l d, h, ref_then)
ref_complete n ts r rest l (of_type {p} {s} mid d e) = rw (string_read-word ts (path_begins ts p _ d), path_complete n ts p (mark ColonColon ∷ mid) l d, string_complete mid s rest e)

ref_begins : (m : Mark) (ts : List Token) (r : ActionRef) (rest : List Token) → RefRule ts r rest → Lacks (mark m) ts
ref_begins m ts r rest (own_string {s} d) = name_lacks m ts s rest (string_name d)
ref_begins m ts r rest (own_id {s} d h) = word_no_mark m ts (path_begins ts (s ∷ []) rest d)
ref_begins m ts r rest (of_type {p} mid d e) = word_no_mark m ts (path_begins ts p _ d)

ref_closes : Closes RightBracket RefRule
ref_closes = record { comma = refl; itself = refl; begins = ref_begins RightBracket }

groups_complete : (n : ℕ) → CompleteBelow n Groups (groups_at n)
groups_complete n ts rs rest l (no_groups h) = rw (h, groups_at)
groups_complete n ts rs rest l (one_group {r} {ts = us} d) = rw (ref_begins LeftBracket us r rest d, some_groups_at, ref_complete n us r rest (omega arith) d)
groups_complete n ts rs rest l (groups {ts = us} d) = items_complete RightBracket RefRule (ref_at n) n (ref_complete n) ref_eats ref_closes n (omega arith) us rs rest (omega arith) d

pub entry_complete : (n : ℕ) → CompleteBelow n EntryRule (entry_at n)
unfolding entry_at
entry_complete n ts e rest l (principals_are {ps} {ts = us} d) = rw (entity_types_complete n us ps rest (omega arith) d)
entry_complete n ts e rest l (resources_are {ps} {ts = us} d) = rw (entity_types_complete n us ps rest (omega arith) d)
entry_complete n ts e rest l (named_context {p} {ts = us} d) = rw (word_no_mark LeftBrace us (path_begins us p rest d), context_at, path_complete n us p rest (omega arith) d)
entry_complete n ts e rest l (record_context {xs} {ts = us} d) = rw (attributes_complete n us xs rest (omega arith) d)

entry_begins : (m : Mark) (ts : List Token) (e : AppliesEntry) (rest : List Token) → EntryRule ts e rest → Lacks (mark m) ts
entry_begins m ts e rest (principals_are d) = refl
entry_begins m ts e rest (resources_are d) = refl
entry_begins m ts e rest (named_context d) = refl
entry_begins m ts e rest (record_context d) = refl

entry_closes : Closes RightBrace EntryRule
entry_closes = record { comma = refl; itself = refl; begins = entry_begins RightBrace }

applies_complete : (n : ℕ) → CompleteBelow n Applies (applies_at n)
applies_complete n ts es rest l (to_nothing h) = rw (h, applies_at)
applies_complete n ts es rest l (applies_to {es = fs} {ts = us} d) = rw (items_complete RightBrace EntryRule (entry_at n) n (entry_complete n) entry_eats entry_closes n (omega arith) us fs rest (omega arith) d)

-- ---- declarations

pub declaration_complete : (n : ℕ) → CompleteBelow n DeclarationRule (declaration_at n)
unfolding declaration_at
declaration_complete n ts d rest l (entity_is {ns} {ps} {xs} {g} {ts = us} t1 t2 t3 a h b c e) =
    let one = several_eat Id id_eats us ns t1 a in
    let two = parents_eat t1 ps t2 b in
    let three = shape_eats t2 xs t3 c in
    rw (several_complete Id id_read n (λ ts s rest l. id_complete ts s rest) id_eats n (omega arith) us ns t1 (omega arith) a, h, entity_then, parents_complete n t1 ps t2 (omega arith) b, shape_complete n t2 xs t3 (omega arith) c, tags_complete n t3 g (mark Semicolon ∷ rest) (omega arith) e)
declaration_complete n ts d rest l (enumeration_is {ns} {cs} {ts = us} t1 a b) =
    let one = several_eat Id id_eats us ns _ a in
    rw (several_complete Id id_read n (λ ts s rest l. id_complete ts s rest) id_eats n (omega arith) us ns _ (omega arith) a, items_complete RightBracket StringRule string_read n (λ ts s rest l. string_complete ts s rest) string_eats string_closes n (omega arith) t1 cs (mark Semicolon ∷ rest) (omega arith) b)
declaration_complete n ts d rest l (action_is {ns} {rs} {es} {ts = us} t1 t2 a b c) =
    let one = several_eat NameRule name_eats us ns t1 a in
    let two = groups_eat t1 rs t2 b in
    rw (several_complete NameRule name_read n (λ ts s rest l. name_complete ts s rest) name_eats n (omega arith) us ns t1 (omega arith) a, groups_complete n t1 rs t2 (omega arith) b, applies_complete n t2 es (mark Semicolon ∷ rest) (omega arith) c)
declaration_complete n ts d rest l (type_is {s} {t} {ts = us} t1 a b) =
    let one = id_eats us s _ a in
    rw (id_complete us s _ a, type_complete n t1 t (mark Semicolon ∷ rest) (omega arith) b)

declaration_begins : (m : Mark) (ts : List Token) (d : Declaration) (rest : List Token) → DeclarationRule ts d rest → Lacks (mark m) ts
declaration_begins m ts d rest (entity_is t1 t2 t3 a h b c e) = refl
declaration_begins m ts d rest (enumeration_is t1 a b) = refl
declaration_begins m ts d rest (action_is t1 t2 a b c) = refl
declaration_begins m ts d rest (type_is t1 a b) = refl

pub declarations_complete : (m n : ℕ) → n ≤ m → CompleteBelow n Declarations (declarations_at m n)
unfolding declarations_at
declarations_complete m zero w ts ds rest l d = absurd (omega arith)
declarations_complete m (suc n) w ts ds rest l closed = refl
declarations_complete m (suc n) w ts ds rest l (a_declaration {d} {ds = es} t1 t2 a b c) =
    let one = annotations_eat ts t1 a in
    let two = declaration_eats t1 d t2 b in
    rw (annotations_lack RightBrace refl ts t1 a (declaration_begins RightBrace t1 d t2 b), declarations_at, annotations_complete m ts t1 (omega arith) a, declaration_complete m t1 d t2 (omega arith) b, declarations_complete m n (omega arith) t2 es rest (omega arith) c)

-- ---- the whole

declaration_no_namespace : (ts : List Token) (d : Declaration) (rest : List Token) → DeclarationRule ts d rest → Lacks namespace_word ts
declaration_no_namespace ts d rest (entity_is t1 t2 t3 a h b c e) = refl
declaration_no_namespace ts d rest (enumeration_is t1 a b) = refl
declaration_no_namespace ts d rest (action_is t1 t2 a b c) = refl
declaration_no_namespace ts d rest (type_is t1 a b) = refl

-- where tokens follow the annotations, tokens stood before them
not_end : (ts rest : List Token) → length rest ≤ length ts → is_end rest ≡ false → is_end ts ≡ false
not_end [] [] l e = e
not_end [] (t ∷ rest) l e = absurd (omega arith)
not_end (t ∷ ts) rest l e = refl

declaration_is_more : (ts : List Token) (d : Declaration) (rest : List Token) → DeclarationRule ts d rest → is_end ts ≡ false
declaration_is_more ts d rest (entity_is t1 t2 t3 a h b c e) = refl
declaration_is_more ts d rest (enumeration_is t1 a b) = refl
declaration_is_more ts d rest (action_is t1 t2 a b c) = refl
declaration_is_more ts d rest (type_is t1 a b) = refl

pub schema_complete : (m n : ℕ) → n ≤ m → (ts : List Token) (s : SchemaSyntax) → length ts < n → SchemaRule ts s → schema_at m n ts ≡ Some s
unfolding schema_at
schema_complete m zero w ts s l d = absurd (omega arith)
schema_complete m (suc n) w ts s l at_end = refl
schema_complete m (suc n) w ts s l (in_none {d} {ns} t1 t2 a b c) =
    let one = annotations_eat ts t1 a in
    let two = declaration_eats t1 d t2 b in
    rw (not_end ts t1 one (declaration_is_more t1 d t2 b), schema_at, annotations_complete m ts t1 (omega arith) a, declaration_no_namespace t1 d t2 b, block_then, declaration_complete m t1 d t2 (omega arith) b, schema_complete m n (omega arith) t2 ns (omega arith) c)
schema_complete m (suc n) w ts s l (in_namespace {p} {ds} {ns} t1 t2 t3 a b c e) =
    let one = annotations_eat ts (namespace_word ∷ t1) a in
    let two = path_eats t1 p (mark LeftBrace ∷ t2) b in
    let three = declarations_eat t2 ds t3 c in
    rw (not_end ts (namespace_word ∷ t1) one refl, schema_at, annotations_complete m ts (namespace_word ∷ t1) (omega arith) a, path_complete m t1 p (mark LeftBrace ∷ t2) (omega arith) b, declarations_complete m m (omega arith) t2 ds t3 (omega arith) c, schema_complete m n (omega arith) t3 ns (omega arith) e)
