-- A question whose parts all stand is the same where parts may be left open.
use Rattle.std.proofs.Common.{◌≡◌, Bool, true, false, cond, Option, Some, None, refl, ap, ◌∙◌}
use Rattle.std.specs.Prelude.{◌&&◌, codes, option_map}
use Rattle.std.proofs.lemmas.Slice.Eq.{bytes_eq-Decides}
use Rattle.json.specs.Find.{as_str}
use Rattle.json.specs.Json.{Json, null, boolean, number, string, array, object, Members, no_members, member, document}
use Rattle.json.specs.Strict.{keys}
use Rattle.cedar_language.specs.Uid.{Text, Uid}
use Rattle.cedar_grammar.specs.Names.{is_text, are_distinct}
use Rattle.cedar_world.specs.Asking.{Part, Given, Entries, Question}
use Rattle.cedar_world.specs.Bodies.{and_then, question_with}
use Rattle.cedar_json.specs.Entities.{under, only_under, if_there}
use Rattle.cedar_json.specs.Questions.{asked_in, part_in, context_in, or_empty, question_keys, asked_of, question_in, question_of}
use Rattle.cedar_json.specs.Values.{uid_in}
use Rattle.cedar_json_commands.specs.PartialQuestions.{type_alone, typed_or_given, open_part, open_action, open_context, open_of, partial_question_in, partial_question_of}
use Rattle.cedar_json_commands.proofs.PartialQuestionTexts.{question_parts}

-- what is an entity states no type alone
given_alone : (j : Json) (u : Uid) → asked_in j ≡ Some u → type_alone j ≡ None
given_alone (object (member k j no_members)) u e = by (is_text k (codes "__entity")) refl e
  where
    other : is_text k (codes "__entity") ≡ true → is_text k (codes "type") ≡ false
    other f = ap (λ l. is_text l (codes "type")) ((bytes_eq-Decides k (codes "__entity")).0 f)

    by : (b : Bool) → is_text k (codes "__entity") ≡ b → cond b (uid_in j) None ≡ Some u → type_alone (object (member k j no_members)) ≡ None
    by true f g = ap (λ b. cond b (as_str j) None) (other f)
    by false f g = absurd (cc g)
given_alone (object no_members) u e = refl
given_alone (object (member k j (member l i ms))) u e = refl
given_alone null u e = refl
given_alone (boolean b) u e = refl
given_alone (number s) u e = refl
given_alone (string s) u e = refl
given_alone (array js) u e = refl

asked_open : (j : Json) (p : Part) (o : Option Uid) → asked_in j ≡ o → option_map Given o ≡ Some p → open_part (Some j) ≡ Some p
asked_open j p None f e = absurd (cc e)
asked_open j p (Some u) f e = ap (λ o. typed_or_given o j) (given_alone j u f) ∙ ap (option_map Given) f ∙ e

part_open : (o : Option Json) (p : Part) → part_in o ≡ Some p → open_part o ≡ Some p
part_open None p e = absurd (cc e)
part_open (Some j) p e = asked_open j p (asked_in j) refl e

action_open : (o : Option Json) (p : Part) → part_in o ≡ Some p → open_action o ≡ Some p
action_open None p e = absurd (cc e)
action_open (Some j) p e = e

context_open : (o : Option Json) (q : Option Entries) → option_map or_empty (if_there context_in o) ≡ Some q → open_context o ≡ Some q
context_open None q e = e
context_open (Some (string s)) q e = absurd (cc e)
context_open (Some null) q e = e
context_open (Some (boolean b)) q e = e
context_open (Some (number s)) q e = e
context_open (Some (array js)) q e = e
context_open (Some (object ms)) q e = e

members_open : (ms : Members) (question : Question) → asked_of ms ≡ Some question → open_of ms ≡ Some question
members_open ms question e =
    let parts = question_parts (part_in (under (codes "principal") ms)) (part_in (under (codes "action") ms)) (part_in (under (codes "resource") ms))
    (option_map or_empty (if_there context_in (under (codes "context") ms))) question e
    in
    let p = part_open (under (codes "principal") ms) parts.principal parts.principal_is in
    let a = action_open (under (codes "action") ms) parts.action parts.action_is in
    let r = part_open (under (codes "resource") ms) parts.resource parts.resource_is in
    let c = context_open (under (codes "context") ms) parts.context parts.context_is in
    (λ i. question_with (p i) (a i) (r i) (c i)) ∙ parts.is

question_open : (j : Json) (question : Question) → question_in j ≡ Some question → partial_question_in j ≡ Some question
question_open (object ms) question e = by (only_under question_keys ms && are_distinct (keys ms)) e
  where
    by : (b : Bool) → cond b (asked_of ms) None ≡ Some question → cond b (open_of ms) None ≡ Some question
    by true f = members_open ms question f
    by false f = absurd (cc f)
question_open null question e = absurd (cc e)
question_open (boolean b) question e = absurd (cc e)
question_open (number s) question e = absurd (cc e)
question_open (string s) question e = absurd (cc e)
question_open (array js) question e = absurd (cc e)

pub whole_is_partial : (json : Text) (question : Question) → question_of json ≡ Some question → partial_question_of json ≡ Some question
whole_is_partial json question e = by (document json) e
  where
    by : (o : Option Json) → and_then o question_in ≡ Some question → and_then o partial_question_in ≡ Some question
    by (Some j) f = question_open j question f
    by None f = absurd (cc f)
