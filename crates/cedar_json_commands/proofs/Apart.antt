-- Questions with open parts, links and lists of entities have no key twice.
use Rattle.std.proofs.Common.{◌≡◌, Bool, true, false, cond, ◌&&◌, ◌||◌, Option, Some, None, List, [], ◌∷◌, refl, sym, ap, ◌∙◌, subst}
use Rattle.std.specs.Prelude.{codes, option_map}
use Rattle.std.specs.List.{AllByRecursion}
use Rattle.std.proofs.lemmas.Slice.Eq.{bytes_eq-Decides}
use Rattle.json.specs.Find.{as_str}
use Rattle.json.specs.Json.{Json, null, boolean, number, string, array, object, Members, no_members, member}
use Rattle.json.specs.Strict.{keys, HasUniqueKeys}
use Rattle.cedar_language.specs.Uid.{Text}
use Rattle.cedar_grammar.specs.Names.{is_text, is_among, are_distinct}
use Rattle.cedar_world.specs.Asking.{Part, Given, Entries, Question}
use Rattle.cedar_world.specs.Bodies.{and_then, entries_of, LinkBody}
use Rattle.cedar_json.specs.Entities.{under, only_under, if_there}
use Rattle.cedar_json.specs.Questions.{asked_in, context_in, or_empty, question_keys}
use Rattle.cedar_json.proofs.Keys.{one_apart, option_is}
use Rattle.cedar_json.proofs.Taken.{string_is}
use Rattle.cedar_json.proofs.Unique.{Reads, object_unique, optional_unique, said_unique, asked_unique}
use Rattle.cedar_json_commands.specs.Links.{slot_keys, link_by, link_under, file_keys, call_keys, link_of_members, link_in}
use Rattle.cedar_json_commands.specs.PartialQuestions.{type_alone, typed_or_given, open_part, open_action, is_unknown, open_context, open_of, partial_question_in}
use Rattle.cedar_json_commands.proofs.LinkTexts.{link_parts, slots_read}
use Rattle.cedar_json_commands.proofs.PartialQuestionTexts.{question_parts}

-- what holds of each name holds of one among them
among_all : (names : List Text) (k : Text) (P : Text → Type 0) → AllByRecursion P names → is_among k names ≡ true → P k
among_all [] k P all e = absurd (cc e)
among_all (n ∷ ns) k P all e = by (λ f. among_all ns k P all.1 f) (is_text k n) refl e
  where
    by : (is_among k ns ≡ true → P k) → (b : Bool) → is_text k n ≡ b → (b || is_among k ns) ≡ true → P k
    by others true f g = subst P (sym ((bytes_eq-Decides k n).0 f)) all.0
    by others false f g = others g

pub string_unique : (j : Json) (s : Text) → as_str j ≡ Some s → HasUniqueKeys j
string_unique j s e = subst HasUniqueKeys (sym (string_is j s e)) tt

-- ---- questions

type_unique : (j : Json) (s : Text) → type_alone j ≡ Some s → HasUniqueKeys j
type_unique (object (member k j no_members)) s e = by (is_text k (codes "type")) e
  where
    by : (b : Bool) → cond b (as_str j) None ≡ Some s → HasUniqueKeys (object (member k j no_members))
    by true f = (one_apart k, (string_unique j s f, tt))
    by false f = absurd (cc f)
type_unique (object no_members) s e = absurd (cc e)
type_unique (object (member k j (member l i ms))) s e = absurd (cc e)
type_unique null s e = absurd (cc e)
type_unique (boolean b) s e = absurd (cc e)
type_unique (number t) s e = absurd (cc e)
type_unique (string t) s e = absurd (cc e)
type_unique (array js) s e = absurd (cc e)

typed_unique : (j : Json) (p : Part) (o : Option Text) → type_alone j ≡ o → typed_or_given o j ≡ Some p → HasUniqueKeys j
typed_unique j p (Some s) f e = type_unique j s f
typed_unique j p None f e = let x = option_is Given (asked_in j) p e in asked_unique j x.0 x.1

open_unique : (o : Option Json) (p : Part) (j : Json) → open_part o ≡ Some p → o ≡ Some j → HasUniqueKeys j
open_unique o p j e f = typed_unique j p (type_alone j) refl (ap open_part (sym f) ∙ e)

action_unique : (o : Option Json) (p : Part) (j : Json) → open_action o ≡ Some p → o ≡ Some j → HasUniqueKeys j
action_unique o p j e f = let x = option_is Given (asked_in j) p (ap open_action (sym f) ∙ e) in asked_unique j x.0 x.1

unknown_unique : (j : Json) → is_unknown (Some j) ≡ true → HasUniqueKeys j
unknown_unique (string s) e = tt
unknown_unique null e = tt
unknown_unique (boolean b) e = tt
unknown_unique (number s) e = tt
unknown_unique (array js) e = absurd (cc e)
unknown_unique (object ms) e = absurd (cc e)

context_unique : (o : Option Json) (q : Option Entries) (j : Json) → open_context o ≡ Some q → o ≡ Some j → HasUniqueKeys j
context_unique o q j e f = by (is_unknown (Some j)) refl (ap open_context (sym f) ∙ e)
  where
    by : (b : Bool) → is_unknown (Some j) ≡ b → cond b (Some None) (option_map or_empty (if_there context_in (Some j))) ≡ Some q → HasUniqueKeys j
    by true g h = unknown_unique j g
    by false g h =
        let x = option_is or_empty (if_there context_in (Some j)) q h in
        optional_unique context_in (said_unique entries_of) (Some j) x.0 j x.1 refl

open_reads : (ms : Members) (question : Question) → open_of ms ≡ Some question → Reads question_keys ms
open_reads ms question e k j among =
    let parts = question_parts (open_part (under (codes "principal") ms)) (open_action (under (codes "action") ms)) (open_part (under (codes "resource") ms))
    (open_context (under (codes "context") ms)) question e
    in
    among_all question_keys k (λ l. under l ms ≡ Some j → HasUniqueKeys j) (
      open_unique (under (codes "principal") ms) parts.principal j parts.principal_is,
      (
        action_unique (under (codes "action") ms) parts.action j parts.action_is,
        (
          open_unique (under (codes "resource") ms) parts.resource j parts.resource_is,
          (context_unique (under (codes "context") ms) parts.context j parts.context_is, tt),
        ),
      ),
    ) among

pub partial_question_unique : (j : Json) (question : Question) → partial_question_in j ≡ Some question → HasUniqueKeys j
partial_question_unique (object ms) question e = by (only_under question_keys ms && are_distinct (keys ms)) refl e
  where
    by : (b : Bool) → (only_under question_keys ms && are_distinct (keys ms)) ≡ b → cond b (open_of ms) None ≡ Some question → HasUniqueKeys (object ms)
    by true f g = object_unique question_keys ms f (open_reads ms question g)
    by false f g = absurd (cc g)
partial_question_unique null question e = absurd (cc e)
partial_question_unique (boolean b) question e = absurd (cc e)
partial_question_unique (number s) question e = absurd (cc e)
partial_question_unique (string s) question e = absurd (cc e)
partial_question_unique (array js) question e = absurd (cc e)

-- ---- links

slots_unique : (a b : Option Text) (slots : Members) (link : LinkBody) → (only_under slot_keys slots && are_distinct (keys slots)) ≡ true
    → link_by a b slots ≡ Some link → HasUniqueKeys (object slots)
slots_unique a b slots link apart e =
    let p = under (codes "?principal") slots in
    let r = under (codes "?resource") slots in
    let parts = link_parts a b (if_there asked_in p) (if_there asked_in r) link e in
    object_unique slot_keys slots apart
    (λ k j among. among_all slot_keys k (λ l. under l slots ≡ Some j → HasUniqueKeys j) (
      optional_unique asked_in asked_unique p parts.principal j parts.principal_is,
      (optional_unique asked_in asked_unique r parts.resource j parts.resource_is, tt),
    ) among)

string_under : (o : Option Json) (s : Text) (j : Json) → and_then o as_str ≡ Some s → o ≡ Some j → HasUniqueKeys j
string_under o s j e f = string_unique j s (ap (λ x. and_then x as_str) (sym f) ∙ e)

slots_under : (o : Option Json) (slots : Members) (j : Json) → o ≡ Some (object slots) → HasUniqueKeys (object slots) → o ≡ Some j → HasUniqueKeys j
slots_under o slots j e u f = let same : object slots ≡ j = cc (e, f) in subst HasUniqueKeys same u

under_unique : (template id slots : Text) (ms : Members) (link : LinkBody) → only_under (template ∷ id ∷ slots ∷ []) ms ≡ true
    → are_distinct (keys ms) ≡ true → link_under template id slots ms ≡ Some link → HasUniqueKeys (object ms)
under_unique template id slots ms link only distinct e =
    let a = and_then (under template ms) as_str in
    let b = and_then (under id ms) as_str in
    let read = slots_read a b (under slots ms) link e in
    let parts = link_parts a b (if_there asked_in (under (codes "?principal") read.slots)) (if_there asked_in (under (codes "?resource") read.slots)) link
    read.made
    in
    object_unique (template ∷ id ∷ slots ∷ []) ms (rw (only, distinct) refl)
    (λ k j among. among_all (template ∷ id ∷ slots ∷ []) k (λ l. under l ms ≡ Some j → HasUniqueKeys j) (
      string_under (under template ms) parts.template j parts.template_is,
      (
        string_under (under id ms) parts.id j parts.id_is,
        (slots_under (under slots ms) read.slots j read.is (slots_unique a b read.slots link read.apart read.made), tt),
      ),
    ) among)

members_unique : (ms : Members) (link : LinkBody) (b c : Bool) → only_under file_keys ms ≡ b → only_under call_keys ms ≡ c → are_distinct (keys ms) ≡ true
    → cond b (link_under (codes "template_id") (codes "link_id") (codes "args") ms)
    (cond c (link_under (codes "templateId") (codes "newId") (codes "values") ms) None) ≡ Some link → HasUniqueKeys (object ms)
members_unique ms link true c f g d e = under_unique (codes "template_id") (codes "link_id") (codes "args") ms link f d e
members_unique ms link false true f g d e = under_unique (codes "templateId") (codes "newId") (codes "values") ms link g d e
members_unique ms link false false f g d e = absurd (cc e)

pub link_unique : (j : Json) (link : LinkBody) → link_in j ≡ Some link → HasUniqueKeys j
link_unique (object ms) link e = by (are_distinct (keys ms)) refl e
  where
    by : (b : Bool) → are_distinct (keys ms) ≡ b → cond b (link_of_members ms) None ≡ Some link → HasUniqueKeys (object ms)
    by true f g = members_unique ms link (only_under file_keys ms) (only_under call_keys ms) refl refl f g
    by false f g = absurd (cc g)
link_unique null link e = absurd (cc e)
link_unique (boolean b) link e = absurd (cc e)
link_unique (number s) link e = absurd (cc e)
link_unique (string s) link e = absurd (cc e)
link_unique (array js) link e = absurd (cc e)
