-- What a rule reads is shorter than what it was read from.
use Rattle.std.proofs.Common.{◌<◌, ◌≤◌, List, [], ◌∷◌, length, arith}
use Rattle.cedar_schema_grammar.specs.Tokens.{Mark, RightBracket, RightBrace, ColonColon, Comma, Token, mark}
use Rattle.cedar_schema_grammar.specs.Grammar.{Rule, Id, id, StringRule, string, NameRule, id_name, string_name, Path, one_id, more_ids, Several, one, more, Items, no_items, last_item, an_item, Keys, no_keys, a_key, a_key_with, Annotations, annotations, PresenceRule, required, optional, TypeRule, named_is, set_is, record_is, AttributesRule, no_more, last, another, EntityTypes, one_type, types, Parents, no_parents, parents, Shape, no_shape, shape, equal_shape, Tags, no_tags, tags, RefRule, own_string, own_id, of_type, Groups, no_groups, one_group, groups, EntryRule, principals_are, resources_are, named_context, record_context, Applies, to_nothing, applies_to, DeclarationRule, entity_is, enumeration_is, action_is, type_is, Declarations, closed, a_declaration}

abbrev pub Eats : {A : Type 0} → Rule A → Type 0
Eats {A} rule = (ts : List Token) (a : A) (rest : List Token) → rule ts a rest → length rest < length ts

-- what may be left out
abbrev pub MayEat : {A : Type 0} → Rule A → Type 0
MayEat {A} rule = (ts : List Token) (a : A) (rest : List Token) → rule ts a rest → length rest ≤ length ts

pub id_eats : Eats Id
id_eats ts s rest (id h) = omega arith

pub string_eats : Eats StringRule
string_eats ts s rest (string h) = omega arith

pub name_eats : Eats NameRule
name_eats ts s rest (id_name d) = id_eats ts s rest d
name_eats ts s rest (string_name d) = string_eats ts s rest d

pub path_eats : Eats Path
path_eats ts p rest (one_id {s} d g) = id_eats ts s rest d
path_eats ts p rest (more_ids {s} {p = q} mid d e) = let one = id_eats ts s (mark ColonColon ∷ mid) d in let two = path_eats mid q rest e in omega arith

pub several_eat : {A : Type 0} (item : Rule A) → Eats item → Eats (Several item)
several_eat item eats ts xs rest (one {a} d e) = eats ts a rest d
several_eat item eats ts xs rest (more {a} {xs = ys} mid d e) = let one = eats ts a (mark Comma ∷ mid) d in let two = several_eat item eats mid ys rest e in omega arith

pub items_eat : (close : Mark) {A : Type 0} (item : Rule A) → Eats item → Eats (Items close item)
items_eat close item eats ts xs rest no_items = omega arith
items_eat close item eats ts xs rest (last_item {a} d) = let one = eats ts a (mark close ∷ rest) d in omega arith
items_eat close item eats ts xs rest (an_item {a} {xs = ys} mid d e) =
    let one = eats ts a (mark Comma ∷ mid) d in
    let two = items_eat close item eats mid ys rest e in
    omega arith

pub keys_eat : MayEat Keys
keys_eat ts ks rest (no_keys h) = omega arith
keys_eat ts ks rest (a_key {w} {ks = ls} {ts = us} h d) = let one = keys_eat us ls rest d in omega arith
keys_eat ts ks rest (a_key_with {w} {s} {ks = ls} {ts = us} mid d e) = let one = string_eats us s _ d in let two = keys_eat mid ls rest e in omega arith

pub annotations_eat : (ts rest : List Token) → Annotations ts rest → length rest ≤ length ts
annotations_eat ts rest (annotations {ks} d h) = keys_eat ts ks rest d

pub presence_eats : Eats PresenceRule
presence_eats ts p rest required = omega arith
presence_eats ts p rest optional = omega arith

mutual
  pub type_eats : Eats TypeRule
  type_eats ts t rest (named_is {p} h d) = path_eats ts p rest d
  type_eats ts t rest (set_is {t = u} {ts = us} d) = let one = type_eats us u _ d in omega arith
  type_eats ts t rest (record_is {xs} {ts = us} d) = let one = attributes_eat us xs rest d in omega arith

  pub attributes_eat : Eats AttributesRule
  attributes_eat ts xs rest no_more = omega arith
  attributes_eat ts xs rest (last {k} {p} {t} t1 t2 t3 a b c d) =
      let one = annotations_eat ts t1 a in
      let two = name_eats t1 k t2 b in
      let three = presence_eats t2 p t3 c in
      let four = type_eats t3 t _ d in
      omega arith
  attributes_eat ts xs rest (another {k} {p} {t} {xs = ys} t1 t2 t3 t4 a b c d e) =
      let one = annotations_eat ts t1 a in
      let two = name_eats t1 k t2 b in
      let three = presence_eats t2 p t3 c in
      let four = type_eats t3 t _ d in
      let five = attributes_eat t4 ys rest e in
      omega arith

pub entity_types_eat : Eats EntityTypes
entity_types_eat ts ps rest (one_type {p} d) = path_eats ts p rest d
entity_types_eat ts ps rest (types {ts = us} d) = let one = items_eat RightBracket Path path_eats us ps rest d in omega arith

pub parents_eat : MayEat Parents
parents_eat ts ps rest (no_parents h) = omega arith
parents_eat ts ps rest (parents {ts = us} d) = let one = entity_types_eat us ps rest d in omega arith

pub shape_eats : MayEat Shape
shape_eats ts xs rest (no_shape h e) = omega arith
shape_eats ts xs rest (shape {ts = us} d) = let one = attributes_eat us xs rest d in omega arith
shape_eats ts xs rest (equal_shape {ts = us} d) = let one = attributes_eat us xs rest d in omega arith

pub tags_eat : MayEat Tags
tags_eat ts g rest (no_tags h) = omega arith
tags_eat ts g rest (tags {t} {ts = us} d) = let one = type_eats us t rest d in omega arith

pub ref_eats : Eats RefRule
ref_eats ts r rest (own_string {s} d) = string_eats ts s rest d
ref_eats ts r rest (own_id {s} d h) = path_eats ts (s ∷ []) rest d
ref_eats ts r rest (of_type {p} {s} mid d e) = let one = path_eats ts p _ d in let two = string_eats mid s rest e in omega arith

pub groups_eat : MayEat Groups
groups_eat ts rs rest (no_groups h) = omega arith
groups_eat ts rs rest (one_group {r} {ts = us} d) = let one = ref_eats us r rest d in omega arith
groups_eat ts rs rest (groups {ts = us} d) = let one = items_eat RightBracket RefRule ref_eats us rs rest d in omega arith

pub entry_eats : Eats EntryRule
entry_eats ts e rest (principals_are {ps} {ts = us} d) = let one = entity_types_eat us ps rest d in omega arith
entry_eats ts e rest (resources_are {ps} {ts = us} d) = let one = entity_types_eat us ps rest d in omega arith
entry_eats ts e rest (named_context {p} {ts = us} d) = let one = path_eats us p rest d in omega arith
entry_eats ts e rest (record_context {xs} {ts = us} d) = let one = attributes_eat us xs rest d in omega arith

pub applies_eat : MayEat Applies
applies_eat ts es rest (to_nothing h) = omega arith
applies_eat ts es rest (applies_to {es = fs} {ts = us} d) = let one = items_eat RightBrace EntryRule entry_eats us fs rest d in omega arith

pub declaration_eats : Eats DeclarationRule
declaration_eats ts d rest (entity_is {ns} {ps} {xs} {g} {ts = us} t1 t2 t3 a h b c e) =
    let one = several_eat Id id_eats us ns t1 a in
    let two = parents_eat t1 ps t2 b in
    let three = shape_eats t2 xs t3 c in
    let four = tags_eat t3 g _ e in
    omega arith
declaration_eats ts d rest (enumeration_is {ns} {cs} {ts = us} t1 a b) =
    let one = several_eat Id id_eats us ns _ a in
    let two = items_eat RightBracket StringRule string_eats t1 cs _ b in
    omega arith
declaration_eats ts d rest (action_is {ns} {rs} {es} {ts = us} t1 t2 a b c) =
    let one = several_eat NameRule name_eats us ns t1 a in
    let two = groups_eat t1 rs t2 b in
    let three = applies_eat t2 es _ c in
    omega arith
declaration_eats ts d rest (type_is {s} {t} {ts = us} t1 a b) = let one = id_eats us s _ a in let two = type_eats t1 t _ b in omega arith

pub declarations_eat : Eats Declarations
declarations_eat ts ds rest closed = omega arith
declarations_eat ts ds rest (a_declaration {d} {ds = es} t1 t2 a b c) =
    let one = annotations_eat ts t1 a in
    let two = declaration_eats t1 d t2 b in
    let three = declarations_eat t2 es rest c in
    omega arith
