-- Which JSON says a value, part by part.
use Rattle.std.proofs.Common.{◌≡◌, Bool, true, false, not, cond, ◌&&◌, ◌||◌, Option, Some, None, is_some, List, [], ◌∷◌, length, refl, sym, ap, ◌∙◌, subst}
use Rattle.std.specs.Prelude.{◌==◌, codes, option_map, pos, neg_ℤ}
use Rattle.std.specs.Str.Parse.{digits_value}
use Rattle.std.specs.List.{list_any}
use Rattle.json.specs.Find.{as_object}
use Rattle.json.specs.Json.{Json, null, boolean, number, string, array, object, Items, Members, no_members, member}
use Rattle.json.specs.Strict as strict
use Rattle.json.specs.Strict.{HasUniqueKeys, MembersHaveUniqueKeys, AreDistinct}
use Rattle.json.specs.Value.{value_view, members_view}
use Rattle.std.proofs.lemmas.Slice.Eq.{bytes_eq-Decides}
use Rattle.cedar_language.specs.Uid.{Text, Name, Uid}
use Rattle.cedar_language.specs.Tree.{Tree, Lit, Entity, Apply, MakeSet}
use Rattle.cedar_grammar.specs.Build.{long, trees, Keyed, keys, record_of}
use Rattle.cedar_grammar.specs.Names.{is_text, is_among, are_distinct}
use Rattle.cedar_world.specs.Bodies.{and_then, read_with, name_spelled, Fields, named_fields, entity_with}
use Rattle.cedar_json.specs.Entities.{entity_in, parents_in, fields_in, under, if_there, body_of}
use Rattle.cedar_json.specs.Values.{minus, is_at_most, long_in, uid_with, two_strings, uid_in, name_in, escapes, arguments, call_with, call_in, items_in, record_with, entry_with, entries, datum, data_of}
use Rattle.cedar_json.proofs.Keys.{distinct_keys, entry_keys}
use Rattle.cedar_json.proofs.Taken.{Entry}

pub some_map : {A B : Type 0} → (f : A → B) (o : Option A) → is_some (option_map f o) ≡ is_some o
some_map f None = refl
some_map f (Some a) = refl

pub some_read : {A : Type 0} → (o : Option A) (os : Option (List A)) → is_some (read_with o os) ≡ (is_some o && is_some os)
some_read (Some a) (Some rest) = refl
some_read (Some a) None = refl
some_read None os = refl

some_entry : (k : Text) (o : Option Tree) (os : Option (List (Keyed Tree))) → is_some (entry_with k o os) ≡ (is_some o && is_some os)
some_entry k (Some t) (Some rest) = refl
some_entry k (Some t) None = refl
some_entry k None os = refl

-- ---- records

-- no key of an escape, and each a value
abbrev pub sound : Members → Bool
sound no_members = true
sound (member k j ms) = (not (is_among k escapes) && is_some (datum j)) && sound ms

shuffled : (e d q a : Bool) → ((not e && d) && (q && not a)) ≡ ((d && q) && not (e || a))
shuffled true true true a = refl
shuffled true true false a = refl
shuffled true false q a = refl
shuffled false true true a = refl
shuffled false true false a = refl
shuffled false false q a = refl

abbrev any_escape : List Text → Bool
any_escape ks = list_any (λ k. is_among k escapes) ks

sound_is : (ms : Members) → sound ms ≡ (is_some (entries ms) && not (any_escape (strict.keys ms)))
sound_is no_members = refl
sound_is (member k j ms) =
    ap (λ b. (not (is_among k escapes) && is_some (datum j)) && b) (sound_is ms)
    ∙ shuffled (is_among k escapes) (is_some (datum j)) (is_some (entries ms)) (any_escape (strict.keys ms))
    ∙ ap (λ b. b && not (any_escape (k ∷ strict.keys ms))) (sym (some_entry k (datum j) (entries ms)))

some_record : (es : List (Keyed Tree)) → are_distinct (keys es) ≡ true → is_some (record_with es) ≡ not (any_escape (keys es))
some_record es e = by (are_distinct (keys es)) (any_escape (keys es)) e
  where
    by : (a b : Bool) → a ≡ true → is_some (cond (a && not b) (Some (record_of es)) None) ≡ not b
    by true true e = refl
    by true false e = refl
    by false b e = absurd (cc e)

pub record_said : (ms : Members) → AreDistinct (strict.keys ms) → is_some (and_then (entries ms) record_with) ≡ sound ms
record_said ms apart = by (entries ms) refl ∙ sym (sound_is ms)
  where
    by : (o : Option (List (Keyed Tree))) → entries ms ≡ o
        → is_some (and_then (entries ms) record_with) ≡ (is_some (entries ms) && not (any_escape (strict.keys ms)))
    by None e = ap (λ o. is_some (and_then o record_with)) e ∙ ap (λ o. is_some o && not (any_escape (strict.keys ms))) (sym e)
    by (Some es) e =
        let same = entry_keys ms es e in
        ap (λ o. is_some (and_then o record_with)) e ∙ some_record es (ap are_distinct same ∙ distinct_keys (strict.keys ms) apart)
        ∙ ap (λ ks. not (any_escape ks)) same ∙ ap (λ o. is_some o && not (any_escape (strict.keys ms))) (sym e)

some_call : (p : Option Name) (ts : Option (List Tree)) → is_some (call_with p ts) ≡ (is_some p && is_some ts)
some_call (Some p) (Some ts) = refl
some_call (Some p) None = refl
some_call None ts = refl

-- ---- objects

module _ {A : Type 0} where
  pub many_said : (ms : List (Entry A)) → (length ms ≡ 1 → ⊥) → datum (object (members_view ms)) ≡ and_then (entries (members_view ms)) record_with
  many_said [] other = refl
  many_said (m ∷ []) other = absurd (other refl)
  many_said (m ∷ n ∷ ms) other = refl

  pub one_said : (ms : List (Entry A)) (m : Entry A) → ms ≡ m ∷ [] → is_text m.0.now (codes "__entity") ≡ false → is_text m.0.now (codes "__extn") ≡ false
      → datum (object (members_view ms)) ≡ and_then (entries (members_view ms)) record_with
  one_said ms m e f g = rw (e, f, g) refl

  pub entity_said : (ms : List (Entry A)) (m : Entry A) → ms ≡ m ∷ [] → is_text m.0.now (codes "__entity") ≡ true
      → is_some (datum (object (members_view ms))) ≡ is_some (uid_in (value_view m.1))
  entity_said ms m e f = rw (e, f) (some_map _ (uid_in (value_view m.1)))

  pub call_said : (ms : List (Entry A)) (m : Entry A) → ms ≡ m ∷ [] → is_text m.0.now (codes "__entity") ≡ false → is_text m.0.now (codes "__extn") ≡ true
      → datum (object (members_view ms)) ≡ call_in (value_view m.1)
  call_said ms m e f g = rw (e, f, g) refl

  pub unique_one : (ms : List (Entry A)) (m : Entry A) → ms ≡ m ∷ [] → HasUniqueKeys (object (members_view ms)) → HasUniqueKeys (value_view m.1)
  unique_one ms m e h = (subst (λ ns. HasUniqueKeys (object (members_view ns))) e h).1.0

  pub unique_first : (ms : List (Entry A)) (m n : Entry A) → ms ≡ m ∷ n ∷ [] → HasUniqueKeys (object (members_view ms)) → HasUniqueKeys (value_view m.1)
  unique_first ms m n e h = (subst (λ ns. HasUniqueKeys (object (members_view ns))) e h).1.0

  pub unique_second : (ms : List (Entry A)) (m n : Entry A) → ms ≡ m ∷ n ∷ [] → HasUniqueKeys (object (members_view ms)) → HasUniqueKeys (value_view n.1)
  unique_second ms m n e h = (subst (λ ns. HasUniqueKeys (object (members_view ns))) e h).1.1.0

  -- ---- calls

  abbrev pub call_of : Entry A → Entry A → Bool
  call_of m n = is_some (name_in (value_view m.1)) && is_some (arguments n.0.now (datum (value_view n.1)) (items_in (value_view n.1)))

  pub not_two_said : (ms : List (Entry A)) → (length ms ≡ 2 → ⊥) → is_some (call_in (object (members_view ms))) ≡ false
  not_two_said [] other = refl
  not_two_said (m ∷ []) other = refl
  not_two_said (m ∷ n ∷ []) other = absurd (other refl)
  not_two_said (m ∷ n ∷ o ∷ ms) other = refl

  pub first_called : (ms : List (Entry A)) (m n : Entry A) → ms ≡ m ∷ n ∷ [] → is_text m.0.now (codes "fn") ≡ true
      → is_some (call_in (object (members_view ms))) ≡ call_of m n
  first_called ms m n e f = rw (e, f) (some_call (name_in (value_view m.1)) (arguments n.0.now (datum (value_view n.1)) (items_in (value_view n.1))))

  pub second_called : (ms : List (Entry A)) (m n : Entry A) → ms ≡ m ∷ n ∷ [] → is_text m.0.now (codes "fn") ≡ false → is_text n.0.now (codes "fn") ≡ true
      → is_some (call_in (object (members_view ms))) ≡ call_of n m
  second_called ms m n e f g = rw (e, f, g) (some_call (name_in (value_view n.1)) (arguments m.0.now (datum (value_view m.1)) (items_in (value_view m.1))))

  pub none_called : (ms : List (Entry A)) (m n : Entry A) → ms ≡ m ∷ n ∷ [] → is_text m.0.now (codes "fn") ≡ false → is_text n.0.now (codes "fn") ≡ false
      → is_some (call_in (object (members_view ms))) ≡ false
  none_called ms m n e f g = rw (e, f, g) refl

pub one_argument : (key : Text) (o : Option Tree) (os : Option (List Tree)) → is_text key (codes "arg") ≡ true → is_some (arguments key o os) ≡ is_some o
one_argument key o os e = rw e (some_map _ o)

pub some_arguments : (key : Text) (o : Option Tree) (os : Option (List Tree)) → is_text key (codes "arg") ≡ false → is_text key (codes "args") ≡ true
    → is_some (arguments key o os) ≡ is_some os
some_arguments key o os e f = rw (e, f) refl

pub no_arguments : (key : Text) (o : Option Tree) (os : Option (List Tree)) → is_text key (codes "arg") ≡ false → is_text key (codes "args") ≡ false
    → is_some (arguments key o os) ≡ false
no_arguments key o os e f = rw (e, f) refl

-- ---- entities

abbrev type_key : Text
type_key = codes "type"

abbrev id_key : Text
id_key = codes "id"

pub type_first : (k s l t : Text) → is_text k (codes "type") ≡ true
    → is_some (two_strings k s l t type_key id_key) ≡ (is_text l (codes "id") && is_some (name_spelled s))
type_first k s l t e =
    ap (λ x. is_some (two_strings x s l t type_key id_key)) ((bytes_eq-Decides k type_key).0 e) ∙ by (is_text l id_key)
  where
    by : (b : Bool) → is_some (cond b (uid_with s t) None) ≡ (b && is_some (name_spelled s))
    by true = some_map _ (name_spelled s)
    by false = refl

pub id_first : (k s l t : Text) → is_text k (codes "id") ≡ true
    → is_some (two_strings k s l t type_key id_key) ≡ (is_text l (codes "type") && is_some (name_spelled t))
id_first k s l t e =
    ap (λ x. is_some (two_strings x s l t type_key id_key)) ((bytes_eq-Decides k id_key).0 e) ∙ by (is_text l type_key)
  where
    by : (b : Bool) → is_some (cond b (uid_with t s) None) ≡ (b && is_some (name_spelled t))
    by true = some_map _ (name_spelled t)
    by false = refl

pub neither_first : (k s l t : Text) → is_text k (codes "type") ≡ false → is_text k (codes "id") ≡ false → is_some (two_strings k s l t type_key id_key) ≡ false
neither_first k s l t e f = rw (e, f) refl

-- ---- objects of values

number_none : (s : Text) → is_some (and_then (long_in s) named_fields) ≡ false
number_none [] = refl
number_none (c ∷ cs) = by (c == minus) (is_at_most 9223372036854775808 cs) (is_at_most 9223372036854775807 (c ∷ cs))
  where
    by : (a b d : Bool) → is_some (and_then
        (cond a (cond b (Some (long (neg_ℤ (pos (digits_value 10 cs))))) None) (cond d (Some (long (pos (digits_value 10 (c ∷ cs))))) None)) named_fields)
        ≡ false
    by true true d = refl
    by true false d = refl
    by false b true = refl
    by false b false = refl

pub array_none : (js : Items) → is_some (and_then (datum (array js)) named_fields) ≡ false
array_none js = by (data_of js)
  where
    by : (o : Option (List Tree)) → is_some (and_then (option_map (λ ts. Apply MakeSet (trees ts)) o) named_fields) ≡ false
    by None = refl
    by (Some ts) = refl

-- what is no object is no record
pub only_objects : (j : Json) → as_object j ≡ None → is_some (and_then (datum j) named_fields) ≡ false
only_objects null e = refl
only_objects (boolean b) e = refl
only_objects (number s) e = number_none s
only_objects (string s) e = refl
only_objects (array js) e = array_none js
only_objects (object ms) e = absurd (cc e)

record_fields : (o : Option (List (Keyed Tree))) → is_some (and_then (and_then o record_with) named_fields) ≡ is_some (and_then o record_with)
record_fields None = refl
record_fields (Some es) = by (are_distinct (keys es) && not (any_escape (keys es)))
  where
    by : (b : Bool) → is_some (and_then (cond b (Some (record_of es)) None) named_fields) ≡ is_some (cond b (Some (record_of es)) None)
    by true = refl
    by false = refl

some_call_none : (p : Option Name) (ts : Option (List Tree)) → is_some (and_then (call_with p ts) named_fields) ≡ false
some_call_none (Some p) (Some ts) = refl
some_call_none (Some p) None = refl
some_call_none None ts = refl

call_none : (j : Json) → is_some (and_then (call_in j) named_fields) ≡ false
call_none (object (member k a (member l b no_members))) = by (is_text k (codes "fn")) (is_text l (codes "fn"))
  where
    by : (p q : Bool) → is_some (and_then
        (cond p (call_with (name_in a) (arguments l (datum b) (items_in b)))
        (cond q (call_with (name_in b) (arguments k (datum a) (items_in a))) None)) named_fields) ≡ false
    by true q = some_call_none (name_in a) (arguments l (datum b) (items_in b))
    by false true = some_call_none (name_in b) (arguments k (datum a) (items_in a))
    by false false = refl
call_none j = refl

entity_none : (o : Option Uid) → is_some (and_then (option_map (λ u. Lit (Entity u)) o) named_fields) ≡ false
entity_none None = refl
entity_none (Some u) = refl

escape_none : (k : Text) (o : Option Tree) → is_among k escapes ≡ true → is_some (and_then (entry_with k o (Some [])) record_with) ≡ false
escape_none k None e = refl
escape_none k (Some t) e = by (is_among k escapes) e
  where
    by : (b : Bool) → b ≡ true → is_some (cond (true && not (b || false)) (Some (record_of ((k, t) ∷ []))) None) ≡ false
    by true f = refl
    by false f = absurd (cc f)

module _ {A : Type 0} where
  -- an object is a record where its members make one
  pub object_fields : (ms : List (Entry A))
      → is_some (and_then (datum (object (members_view ms))) named_fields) ≡ is_some (and_then (entries (members_view ms)) record_with)
  object_fields [] = record_fields (Some [])
  object_fields (m ∷ []) = by (is_text m.0.now (codes "__entity")) refl (is_text m.0.now (codes "__extn")) refl
    where
      by : (a : Bool) → is_text m.0.now (codes "__entity") ≡ a → (b : Bool) → is_text m.0.now (codes "__extn") ≡ b
          → is_some (and_then (datum (object (members_view (m ∷ [])))) named_fields) ≡ is_some (and_then (entries (members_view (m ∷ []))) record_with)
      by true e b f = rw e (entity_none (uid_in (value_view m.1))) ∙ sym (escape_none m.0.now (datum (value_view m.1)) (rw e refl))
      by false e true f = rw (e, f) (call_none (value_view m.1)) ∙ sym (escape_none m.0.now (datum (value_view m.1)) (rw (e, f) refl))
      by false e false f = rw (e, f) (record_fields (entries (members_view (m ∷ []))))
  object_fields (m ∷ n ∷ ms) = record_fields (entries (members_view (m ∷ n ∷ ms)))

-- ---- entities

some_entity : (uid : Option Uid) (parents : Option (Option (List Uid))) (attributes tags : Option (Option Fields))
    → is_some (entity_with uid parents attributes tags) ≡ (((is_some uid && is_some parents) && is_some attributes) && is_some tags)
some_entity (Some u) (Some p) (Some a) (Some t) = refl
some_entity (Some u) (Some p) (Some a) None = refl
some_entity (Some u) (Some p) None t = refl
some_entity (Some u) None a t = refl
some_entity None p a t = refl

pub some_body : (ms : Members) → is_some (body_of ms) ≡
    (((is_some (and_then (under (codes "uid") ms) entity_in) && is_some (if_there parents_in (under (codes "parents") ms)))
    && is_some (if_there fields_in (under (codes "attrs") ms))) && is_some (if_there fields_in (under (codes "tags") ms)))
some_body ms = some_entity (and_then (under (codes "uid") ms) entity_in) (if_there parents_in (under (codes "parents") ms))
    (if_there fields_in (under (codes "attrs") ms)) (if_there fields_in (under (codes "tags") ms))

pub some_there : {B : Type 0} → (read : Json → Option B) (j : Json) → is_some (if_there read (Some j)) ≡ is_some (read j)
some_there read j = some_map _ (read j)

-- what stands under a key has no key twice
pub unique_under : (key : Text) (ms : Members) (j : Json) → MembersHaveUniqueKeys ms → Some j ≡ under key ms → HasUniqueKeys j
unique_under key no_members j u e = absurd (cc e)
unique_under key (member k i ms) j u e = by (λ f. unique_under key ms j u.1 f) (is_text key k) e
  where
    by : (Some j ≡ under key ms → HasUniqueKeys j) → (b : Bool) → Some j ≡ cond b (Some i) (under key ms) → HasUniqueKeys j
    by others true f = let same : i ≡ j = cc f in subst HasUniqueKeys same u.0
    by others false f = others f

-- ---- four tests

pub first_false : (a b c d : Bool) → a ≡ false → (((a && b) && c) && d) ≡ false
first_false true b c d e = absurd (cc e)
first_false false b c d e = refl

pub second_false : (a b c d : Bool) → b ≡ false → (((a && b) && c) && d) ≡ false
second_false true true c d e = absurd (cc e)
second_false true false c d e = refl
second_false false b c d e = refl

pub third_false : (a b c d : Bool) → c ≡ false → (((a && b) && c) && d) ≡ false
third_false a b true d e = absurd (cc e)
third_false true true false d e = refl
third_false true false false d e = refl
third_false false b false d e = refl

pub fourth_is : (a b c d : Bool) → a ≡ true → b ≡ true → c ≡ true → (((a && b) && c) && d) ≡ d
fourth_is true true true d e f g = refl
fourth_is false b c d e f g = absurd (cc e)
fourth_is true false c d e f g = absurd (cc f)
fourth_is true true false d e f g = absurd (cc g)
