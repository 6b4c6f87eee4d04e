-- A session's answers are those of the theorem.
use Rattle.std.proofs.Common.{◌≡◌, ◌⊎◌, inl, inr, Bool, true, false, Some, None, map, refl, sym, ◌∙◌, ap, subst}
use Rattle.cedar_language.specs.Uid.{Text, Name}
use Rattle.cedar_language.specs.Restricted.{is_restricted}
use Rattle.cedar_language.specs.Tree.{MakeRecord, Apply}
use Rattle.cedar_language.specs.Value.{Value, Outcome, Gives}
use Rattle.cedar_language.specs.Facts.{Facts}
use Rattle.cedar_language.specs.Meaning.{meaning}
use Rattle.cedar_language.specs.Answering.{Effect, Permit, Forbid, Decision, Allow, Deny, known_decision}
use Rattle.cedar_language.specs.Authorization.{Known, request_at}
use Rattle.cedar_grammar.specs.Functions.{Functions}
use Rattle.cedar_world.specs.Answer.{Answer}
use Rattle.cedar_world.specs.Answers.{judge}
use Rattle.cedar_world.specs.Asking.{Question}
use Rattle.cedar_world.specs.Bodies.{ask_body}
use Rattle.cedar_world.specs.Commands.{Ask, Refusal, NotUtf8, NotRestricted, Memory, Answered, Refused}
use Rattle.cedar_world.specs.EditLaws.{EditsAtUids}
use Rattle.cedar_world.specs.KnownQuestions as known_questions
use Rattle.cedar_world.specs.KnownQuestions.{IsAnsweredByMeaning, KnownQuestionsAreAnswered}
use Rattle.cedar_world.specs.RunText.{FrameStep}
use Rattle.cedar_world.specs.Setting.{Setting, BodiesAreOne}
use Rattle.cedar_world.specs.Step.{Step}
use Rattle.cedar_world.specs.World as worlds
use Rattle.cedar_world.specs.World.{World}
use Rattle.cedar_world.proofs.Standing.{none_stands}
use Rattle.cedar_theorem.specs.Bodies.{no_entities}
use Rattle.cedar_theorem.specs.Holdings.{AreFacts}
use Rattle.cedar_theorem.specs.Theorem.{Asks, IsSatisfied, SomeSatisfied, IsByTheRules}
use Rattle.cedar_theorem.specs.Laws.{SessionsAnswerByTheRules}
use Rattle.cedar_theorem.proofs.Asking.{same_part, same_tree, IsQuestion, question_read, is_known, means_again}
use Rattle.cedar_theorem.proofs.Holding.{policies_of, entities_of, same_in_force, holds}

-- ---- the request that a question is

value_of : Outcome → Value → Value
value_of (Gives v) other = v
value_of _ other = other

same_value : (v w : Value) → Gives v ≡ Gives w → v ≡ w
unfolding value_of
same_value v w e = ap (λ o. value_of o w) e

module _ (functions : Functions) (facts : Facts) (same : (name : Name) → facts.function name ≡ (no_entities functions).function name) (q : Question) (request other : Known)
    (asked : IsQuestion functions q request.principal request.action request.resource request.context) (asks : known_questions.Asks facts other q) where
  context_same : request.context ≡ other.context
  context_same =
      let means = means_again functions facts same (request_at other (λ s. None)) (Apply (MakeRecord asked.keys) asked.entries) asked.data_alone request.context asked.means in
      let trees = same_tree asked.keys asks.keys asked.entries asks.entries (ap (λ (x : Question). x.context) (sym asked.is) ∙ asks.context) in
      same_value request.context other.context (sym means ∙ ap (meaning facts (request_at other (λ s. None))) trees ∙ asks.means)

  same_request : other ≡ request
  same_request = λ i. record {
    principal = same_part other.principal request.principal (sym asks.principal ∙ ap (λ (x : Question). x.principal) asked.is) i;
    action = same_part other.action request.action (sym asks.action ∙ ap (λ (x : Question). x.action) asked.is) i;
    resource = same_part other.resource request.resource (sym asks.resource ∙ ap (λ (x : Question). x.resource) asked.is) i;
    context = sym context_same i;
  }

-- ---- the answer

module _ (facts : Facts) (request : Known) (policies : worlds.Policies) where
  to : (effect : Effect) (id : Text) → known_questions.IsSatisfied facts request policies effect id → IsSatisfied facts request (policies_of policies) effect id
  to effect id (s, force, of, means) = (s, same_in_force policies id ∙ force, of, means)

  back : (effect : Effect) (id : Text) → IsSatisfied facts request (policies_of policies) effect id → known_questions.IsSatisfied facts request policies effect id
  back effect id (s, force, of, means) = (s, sym (same_in_force policies id) ∙ force, of, means)

  some_to : (effect : Effect) → known_questions.SomeSatisfied facts request policies effect → SomeSatisfied facts request (policies_of policies) effect
  some_to effect (id, h) = (id, to effect id h)

  some_back : (effect : Effect) → SomeSatisfied facts request (policies_of policies) effect → known_questions.SomeSatisfied facts request policies effect
  some_back effect (id, h) = (id, back effect id h)

  decided_by : (d : Decision) → (Some d ≡ Some Allow) ⊎ (Some d ≡ Some Deny)
  decided_by Allow = inl refl
  decided_by Deny = inr refl

  by_the_rules : (answer : Answer) (d : Decision) → answer.decision ≡ Some d → known_questions.AnswersByMeaning facts request policies answer → IsByTheRules facts request (policies_of policies) answer
  by_the_rules answer d is h = record {
    decided = subst (λ o. (o ≡ Some Allow) ⊎ (o ≡ Some Deny)) (sym is) (decided_by d);
    allows = (
      λ e. let both = h.allows.0 e in (some_to Permit both.0, λ forbid. both.1 (some_back Forbid forbid)),
      λ both. h.allows.1 (some_back Permit both.0, λ forbid. both.1 (some_to Forbid forbid)),
    );
    denies = (
      λ e. elim (h.denies.0 e) [ inl forbid ↦ inl (some_to Forbid forbid) | inr none ↦ inr (λ permit. none (some_back Permit permit)) ],
      λ or. h.denies.1 (elim or [ inl forbid ↦ inl (some_back Forbid forbid) | inr none ↦ inr (λ permit. none (some_to Permit permit)) ]),
    );
    reasons = λ id. (
      λ e. elim ((h.reasons id).0 e) [ inl allow ↦ inl (allow.0, to Permit id allow.1) | inr deny ↦ inr (deny.0, to Forbid id deny.1) ],
      λ or. (h.reasons id).1 (elim or [ inl allow ↦ inl (allow.0, back Permit id allow.1) | inr deny ↦ inr (deny.0, back Forbid id deny.1) ]),
    );
    no_other = h.no_other;
    erring = λ id k. (
      λ e. let (s, force, errs) = (h.erring id k).0 e in (s, same_in_force policies id ∙ force, errs),
      λ errs. (h.erring id k).1 (errs.0, sym (same_in_force policies id) ∙ errs.1, errs.2),
    );
  }

plain : (b : Bool) (X : Type 0) → (b ≡ false → X) → (X → ⊥) → b ≡ true
plain true X f none = refl
plain false X f none = absurd (none (f refl))

abbrev Rules : Setting → World → Answer → Known → Type 0
Rules by world answer request = (facts : Facts) × AreFacts by.functions (entities_of world.entities) facts × IsByTheRules facts request (policies_of world.policies) answer

not_refused : (answer : Answer) (r : Refusal) → Answered answer ≡ Refused r → ⊥
not_refused answer r e = cc

module _ (once : (by : Setting) → BodiesAreOne by) (by : Setting) (world : World) (text : Text) (answer : Answer) (new : World) where
  answered : Step by world Ask text (Answered answer) new → IsAnsweredByMeaning by world text answer → (request : Known) → Asks by.functions text request → Rules by world answer request
  answered (none, (tree, q, reads, states, (first, is))) by_meaning request asks =
      let shut = none_stands by world text Ask none in
      let body_is : tree ≡ asks.body = once by text tree asks.body reads asks.reads in
      let restricted : is_restricted asks.body ≡ true =
      plain (is_restricted asks.body) _ (λ e. (asks.body, asks.reads, e)) (shut NotRestricted) in
      let states_it : ask_body asks.body ≡ Some q = ap ask_body (sym body_is) ∙ states in
      let asked = question_read by.functions asks.body q states_it restricted request.principal request.action request.resource request.context
      asks.principal asks.action asks.resource asks.context in
      let known = is_known by.functions q request.principal request.action request.resource request.context asked in
      let (facts, other, are, asks_other, rules) = by_meaning asks.body q asks.reads states_it known in
      let (filled, fills, whole) = first.known known in
      let same = same_request by.functions facts (λ name. are.function name) q request other asked asks_other in (
        facts,
        record { entity = are.entity; ancestors = are.ancestors; function = are.function },
        by_the_rules facts request world.policies answer (known_decision (map (judge whole.facts filled) (worlds.in_force world.policies))) (ap (λ (a : Answer). a.decision) whole.is)
            (subst (λ r. known_questions.AnswersByMeaning facts r world.policies answer) same rules),
      )

  framed : FrameStep by world Ask text (Answered answer) new → IsAnsweredByMeaning by world text answer → (request : Known) → Asks by.functions text request → Rules by world answer request
  framed (inl h) = absurd (not_refused answer Memory h.1)
  framed (inr (inl h)) = absurd (not_refused answer NotUtf8 h.1)
  framed (inr (inr h)) = answered h.1

pub sessions_answer : ((by : Setting) → BodiesAreOne by) → EditsAtUids → KnownQuestionsAreAnswered → SessionsAnswerByTheRules
sessions_answer once edits law = record {
  after_commands = λ by commands replies world new text answer answers step.
      let (reached, by_meaning) = law.after_commands by commands replies world new text answer answers step in
      record {
        policies = policies_of world.policies;
        entities = entities_of world.entities;
        holds = holds by edits commands replies world reached;
        by_the_rules = answered once by world text answer new step by_meaning;
      };
  in_runs = λ by commands replies world new text answer answers step.
      let (reached, by_meaning) = law.in_runs by commands replies world new text answer answers step in
      record {
        policies = policies_of world.policies;
        entities = entities_of world.entities;
        holds = holds by edits commands replies world reached;
        by_the_rules = framed once by world text answer new step by_meaning;
      };
}
