-- Entities and questions have no key twice.
use Rattle.std.proofs.Common.{◌≡◌, Bool, true, false, not, cond, ◌&&◌, ◌||◌, Option, Some, None, List, [], ◌∷◌, refl, sym, ap, ◌∙◌, subst, true≢false}
use Rattle.std.specs.Prelude.{codes, option_map}
use Rattle.std.proofs.lemmas.Bool.{and_parts}
use Rattle.std.proofs.lemmas.Slice.Eq.{bytes_eq-Decides}
use Rattle.json.specs.Json.{Json, null, boolean, number, string, array, object, Items, no_items, item, Members, no_members, member, document}
use Rattle.json.specs.Strict.{keys, HasUniqueKeys, ItemsHaveUniqueKeys, MembersHaveUniqueKeys}
use Rattle.cedar_language.specs.Uid.{Text, Uid}
use Rattle.cedar_language.specs.Tree.{Tree}
use Rattle.cedar_grammar.specs.Names.{is_text, is_among, are_distinct}
use Rattle.cedar_world.specs.Asking.{Part, Given, Entries, Question}
use Rattle.cedar_world.specs.Bodies.{and_then, read_with, Fields, named_fields, entries_of, EntityBody, entity_with, question_with}
use Rattle.cedar_json.specs.Entities.{entity_in, each_entity, parents_in, fields_in, under, only_under, if_there, entity_keys, body_of, body_in, bodies_of, entities_in}
use Rattle.cedar_json.specs.Questions.{asked_in, part_in, context_in, or_empty, question_keys, asked_of, question_in}
use Rattle.cedar_json.specs.Values.{uid_in, datum}
use Rattle.cedar_json.proofs.Keys.{datum_unique, uid_unique, keys_apart, not_true, one_apart, then_is, option_is}

-- ---- members by their keys

same_key : (k : Text) → is_text k k ≡ true
same_key k = (bytes_eq-Decides k k).1 refl

found_among : (k : Text) (ms : Members) (i : Json) → under k ms ≡ Some i → is_among k (keys ms) ≡ true
found_among k no_members i e = absurd (cc e)
found_among k (member m j ms) i e = by (λ f. found_among k ms i f) (is_text k m) e
  where
    by : (under k ms ≡ Some i → is_among k (keys ms) ≡ true) → (b : Bool) → cond b (Some j) (under k ms) ≡ Some i → (b || is_among k (keys ms)) ≡ true
    by others true f = refl
    by others false f = others f

other_key : (k l : Text) (ms : Members) (i : Json) → is_among k (keys ms) ≡ false → under l ms ≡ Some i → is_text l k ≡ false
other_key k l ms i none found = by (is_text l k) refl
  where
    by : (b : Bool) → is_text l k ≡ b → b ≡ false
    by true e = absurd (true≢false (sym (found_among k ms i (ap (λ m. under m ms) (sym ((bytes_eq-Decides l k).0 e)) ∙ found)) ∙ none))
    by false e = refl

abbrev pub Reads : List Text → Members → Type 0
Reads names ms = (k : Text) (j : Json) → is_among k names ≡ true → under k ms ≡ Some j → HasUniqueKeys j

members_unique : (names : List Text) (ms : Members) → are_distinct (keys ms) ≡ true → only_under names ms ≡ true → Reads names ms → MembersHaveUniqueKeys ms
members_unique names no_members d o h = tt
members_unique names (member k j ms) d o h =
    let distinct = and_parts (not (is_among k (keys ms))) (are_distinct (keys ms)) d in
    let only = and_parts (is_among k names) (only_under names ms) o in (
      h k j only.0 (ap (λ b. cond b (Some j) (under k ms)) (same_key k)),
      members_unique names ms distinct.1 only.1
          (λ l i among found. h l i among
          (ap (λ b. cond b (Some j) (under l ms)) (other_key k l ms i (not_true (is_among k (keys ms)) distinct.0) found) ∙ found)),
    )

pub object_unique : (names : List Text) (ms : Members) → (only_under names ms && are_distinct (keys ms)) ≡ true → Reads names ms → HasUniqueKeys (object ms)
object_unique names ms h reads =
    let both = and_parts (only_under names ms) (are_distinct (keys ms)) h in (keys_apart (keys ms) both.1, members_unique names ms both.1 both.0 reads)

-- one of four keys
one_of_four : (k a b c d : Text) → is_among k (a ∷ b ∷ c ∷ d ∷ []) ≡ true → (P : Text → Type 0) → P a → P b → P c → P d → P k
one_of_four k a b c d h P pa pb pc pd = by (is_text k a) refl (is_text k b) refl (is_text k c) refl (is_text k d) refl h
  where
    at : (l : Text) → is_text k l ≡ true → P l → P k
    at l e p = subst P (sym ((bytes_eq-Decides k l).0 e)) p

    by : (w : Bool) → is_text k a ≡ w → (x : Bool) → is_text k b ≡ x → (y : Bool) → is_text k c ≡ y → (z : Bool) → is_text k d ≡ z
        → (w || (x || (y || (z || false)))) ≡ true → P k
    by true e x f y g z i h = at a e pa
    by false e true f y g z i h = at b f pb
    by false e false f true g z i h = at c g pc
    by false e false f false g true i h = at d i pd
    by false e false f false g false i h = absurd (cc h)

-- ---- parts

required_unique : {B : Type 0} → (read : Json → Option B) → ((j : Json) (b : B) → read j ≡ Some b → HasUniqueKeys j) → (o : Option Json) (b : B) (j : Json)
    → and_then o read ≡ Some b → o ≡ Some j → HasUniqueKeys j
required_unique read unique o b j e f = unique j b (ap (λ x. and_then x read) (sym f) ∙ e)

pub optional_unique : {B : Type 0} → (read : Json → Option B) → ((j : Json) (b : B) → read j ≡ Some b → HasUniqueKeys j)
    → (o : Option Json) (b : Option B) (j : Json) → if_there read o ≡ Some b → o ≡ Some j → HasUniqueKeys j
optional_unique read unique o b j e f =
    let x = option_is _ (read j) b (ap (if_there read) (sym f) ∙ e) in unique j x.0 x.1

entity_unique : (j : Json) (u : Uid) → entity_in j ≡ Some u → HasUniqueKeys j
entity_unique (object (member k j no_members)) u e = by (is_text k (codes "__entity")) e
  where
    by : (b : Bool) → cond b (uid_in j) None ≡ Some u → HasUniqueKeys (object (member k j no_members))
    by true f = (one_apart k, (uid_unique j u f, tt))
    by false f = absurd (cc f)
entity_unique (object no_members) u e = absurd (cc e)
entity_unique (object (member k j (member l i ms))) u e = uid_unique (object (member k j (member l i ms))) u e
entity_unique null u e = absurd (cc e)
entity_unique (boolean b) u e = absurd (cc e)
entity_unique (number s) u e = absurd (cc e)
entity_unique (string s) u e = absurd (cc e)
entity_unique (array js) u e = absurd (cc e)

-- what two readers read together
both_read : {B : Type 0} → (o : Option B) (os : Option (List B)) (bs : List B) → read_with o os ≡ Some bs
    → (b : B) × (o ≡ Some b) × (cs : List B) × (os ≡ Some cs)
both_read (Some b) (Some cs) bs e = (b, refl, cs, refl)
both_read (Some b) None bs e = absurd (cc e)
both_read None os bs e = absurd (cc e)

each_unique : (js : Items) (us : List Uid) → each_entity js ≡ Some us → ItemsHaveUniqueKeys js
each_unique no_items us e = tt
each_unique (item j js) us e = let x = both_read (entity_in j) (each_entity js) us e in (entity_unique j x.0 x.1, each_unique js x.2 x.3)

pub parents_unique : (j : Json) (us : List Uid) → parents_in j ≡ Some us → HasUniqueKeys j
parents_unique (array js) us e = each_unique js us e
parents_unique null us e = absurd (cc e)
parents_unique (boolean b) us e = absurd (cc e)
parents_unique (number s) us e = absurd (cc e)
parents_unique (string s) us e = absurd (cc e)
parents_unique (object ms) us e = absurd (cc e)

pub said_unique : {B : Type 0} → (read : Tree → Option B) → (j : Json) (b : B) → and_then (datum j) read ≡ Some b → HasUniqueKeys j
said_unique read j b e = let x = then_is (datum j) read b e in datum_unique j x.0 x.1

-- ---- entities

record EntityRead (ms : Members) : Type 0 where
  pub uid : Uid
  pub uid_read : and_then (under (codes "uid") ms) entity_in ≡ Some uid
  pub parents : Option (List Uid)
  pub parents_read : if_there parents_in (under (codes "parents") ms) ≡ Some parents
  pub attributes : Option Fields
  pub attributes_read : if_there fields_in (under (codes "attrs") ms) ≡ Some attributes
  pub tags : Option Fields
  pub tags_read : if_there fields_in (under (codes "tags") ms) ≡ Some tags

entity_read : (ms : Members) (body : EntityBody) → body_of ms ≡ Some body → EntityRead ms
entity_read ms body e = by (and_then (under (codes "uid") ms) entity_in) refl (if_there parents_in (under (codes "parents") ms)) refl
    (if_there fields_in (under (codes "attrs") ms)) refl (if_there fields_in (under (codes "tags") ms)) refl e
  where
    by : (u : Option Uid) → and_then (under (codes "uid") ms) entity_in ≡ u → (p : Option (Option (List Uid)))
        → if_there parents_in (under (codes "parents") ms) ≡ p
        → (a : Option (Option Fields)) → if_there fields_in (under (codes "attrs") ms) ≡ a → (t : Option (Option Fields))
        → if_there fields_in (under (codes "tags") ms) ≡ t
        → entity_with u p a t ≡ Some body → EntityRead ms
    by (Some u) f (Some p) g (Some a) h (Some t) i e =
        record { uid = u; uid_read = f; parents = p; parents_read = g; attributes = a; attributes_read = h; tags = t; tags_read = i }
    by (Some u) f (Some p) g (Some a) h None i e = absurd (cc e)
    by (Some u) f (Some p) g None h t i e = absurd (cc e)
    by (Some u) f None g a h t i e = absurd (cc e)
    by None f p g a h t i e = absurd (cc e)

entity_reads : (ms : Members) → EntityRead ms → Reads entity_keys ms
entity_reads ms read k j among =
    one_of_four k (codes "uid") (codes "parents") (codes "attrs") (codes "tags") among (λ l. under l ms ≡ Some j → HasUniqueKeys j)
    (λ f. required_unique entity_in entity_unique (under (codes "uid") ms) read.uid j read.uid_read f)
    (λ f. optional_unique parents_in parents_unique (under (codes "parents") ms) read.parents j read.parents_read f)
    (λ f. optional_unique fields_in (said_unique named_fields) (under (codes "attrs") ms) read.attributes j read.attributes_read f)
    (λ f. optional_unique fields_in (said_unique named_fields) (under (codes "tags") ms) read.tags j read.tags_read f)

body_unique : (j : Json) (body : EntityBody) → body_in j ≡ Some body → HasUniqueKeys j
body_unique (object ms) body e = by (only_under entity_keys ms && are_distinct (keys ms)) refl e
  where
    by : (b : Bool) → (only_under entity_keys ms && are_distinct (keys ms)) ≡ b → cond b (body_of ms) None ≡ Some body → HasUniqueKeys (object ms)
    by true f g = object_unique entity_keys ms f (entity_reads ms (entity_read ms body g))
    by false f g = absurd (cc g)
body_unique null body e = absurd (cc e)
body_unique (boolean b) body e = absurd (cc e)
body_unique (number s) body e = absurd (cc e)
body_unique (string s) body e = absurd (cc e)
body_unique (array js) body e = absurd (cc e)

bodies_unique : (js : Items) (bodies : List EntityBody) → bodies_of js ≡ Some bodies → ItemsHaveUniqueKeys js
bodies_unique no_items bodies e = tt
bodies_unique (item j js) bodies e = let x = both_read (body_in j) (bodies_of js) bodies e in (body_unique j x.0 x.1, bodies_unique js x.2 x.3)

pub entities_unique : (j : Json) (bodies : List EntityBody) → entities_in j ≡ Some bodies → HasUniqueKeys j
entities_unique (array js) bodies e = bodies_unique js bodies e
entities_unique null bodies e = absurd (cc e)
entities_unique (boolean b) bodies e = absurd (cc e)
entities_unique (number s) bodies e = absurd (cc e)
entities_unique (string s) bodies e = absurd (cc e)
entities_unique (object ms) bodies e = absurd (cc e)

-- ---- questions

pub asked_unique : (j : Json) (u : Uid) → asked_in j ≡ Some u → HasUniqueKeys j
asked_unique (string s) u e = tt
asked_unique (object ms) u e = entity_unique (object ms) u e
asked_unique null u e = absurd (cc e)
asked_unique (boolean b) u e = absurd (cc e)
asked_unique (number s) u e = absurd (cc e)
asked_unique (array js) u e = absurd (cc e)

part_unique : (o : Option Json) (p : Part) (j : Json) → part_in o ≡ Some p → o ≡ Some j → HasUniqueKeys j
part_unique o p j e f = let x = option_is Given (and_then o asked_in) p e in required_unique asked_in asked_unique o x.0 j x.1 f

record QuestionRead (ms : Members) : Type 0 where
  pub principal : Part
  pub principal_read : part_in (under (codes "principal") ms) ≡ Some principal
  pub action : Part
  pub action_read : part_in (under (codes "action") ms) ≡ Some action
  pub resource : Part
  pub resource_read : part_in (under (codes "resource") ms) ≡ Some resource
  pub context : Option Entries
  pub context_read : if_there context_in (under (codes "context") ms) ≡ Some context

question_read : (ms : Members) (question : Question) → asked_of ms ≡ Some question → QuestionRead ms
question_read ms question e = by (part_in (under (codes "principal") ms)) refl (part_in (under (codes "action") ms)) refl
    (part_in (under (codes "resource") ms)) refl (if_there context_in (under (codes "context") ms)) refl e
  where
    by : (p : Option Part) → part_in (under (codes "principal") ms) ≡ p → (a : Option Part) → part_in (under (codes "action") ms) ≡ a → (r : Option Part)
        → part_in (under (codes "resource") ms) ≡ r
        → (c : Option (Option Entries)) → if_there context_in (under (codes "context") ms) ≡ c → question_with p a r (option_map or_empty c) ≡ Some question
        → QuestionRead ms
    by (Some p) f (Some a) g (Some r) h (Some c) i e =
        record { principal = p; principal_read = f; action = a; action_read = g; resource = r; resource_read = h; context = c; context_read = i }
    by (Some p) f (Some a) g (Some r) h None i e = absurd (cc e)
    by (Some p) f (Some a) g None h c i e = absurd (cc e)
    by (Some p) f None g r h c i e = absurd (cc e)
    by None f a g r h c i e = absurd (cc e)

question_reads : (ms : Members) → QuestionRead ms → Reads question_keys ms
question_reads ms read k j among =
    one_of_four k (codes "principal") (codes "action") (codes "resource") (codes "context") among (λ l. under l ms ≡ Some j → HasUniqueKeys j)
    (λ f. part_unique (under (codes "principal") ms) read.principal j read.principal_read f)
    (λ f. part_unique (under (codes "action") ms) read.action j read.action_read f)
    (λ f. part_unique (under (codes "resource") ms) read.resource j read.resource_read f)
    (λ f. optional_unique context_in (said_unique entries_of) (under (codes "context") ms) read.context j read.context_read f)

pub question_unique : (j : Json) (question : Question) → question_in j ≡ Some question → HasUniqueKeys j
question_unique (object ms) question e = by (only_under question_keys ms && are_distinct (keys ms)) refl e
  where
    by : (b : Bool) → (only_under question_keys ms && are_distinct (keys ms)) ≡ b → cond b (asked_of ms) None ≡ Some question → HasUniqueKeys (object ms)
    by true f g = object_unique question_keys ms f (question_reads ms (question_read ms question g))
    by false f g = absurd (cc g)
question_unique null question e = absurd (cc e)
question_unique (boolean b) question e = absurd (cc e)
question_unique (number s) question e = absurd (cc e)
question_unique (string s) question e = absurd (cc e)
question_unique (array js) question e = absurd (cc e)

-- ---- where a key comes twice nothing is said

module _ {B : Type 0} (read : Json → Option B) (unique : (j : Json) (b : B) → read j ≡ Some b → HasUniqueKeys j) where
  pub nothing_said : (json : Text) → ((j : Json) → document json ≡ Some j → ¬ HasUniqueKeys j) → and_then (document json) read ≡ None
  nothing_said json twice = by (document json) refl
    where
      by : (o : Option Json) → document json ≡ o → and_then o read ≡ None
      by None e = refl
      by (Some j) e = with_value j e (read j) refl
        where
          with_value : (j : Json) → document json ≡ Some j → (o : Option B) → read j ≡ o → o ≡ None
          with_value j e None f = refl
          with_value j e (Some b) f = absurd (twice j e (unique j b f))
