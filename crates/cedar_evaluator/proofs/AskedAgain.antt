-- What is held of a request with what is told, and how the policies stand that are taken up again.
use Rattle.std.proofs.Common.{◌≡◌, ℕ, Ok, Bool, true, false, cond, Option, Some, None, List, codes, refl, sym, ◌∙◌, ap}
use Rattle.std.specs.FinMap as finite
use Rattle.std.specs.declared.alloc.Global.{Global}
use Rattle.std.specs.declared.rc.RcStr.{RcStr}
use Rattle.either.specs.declared.Either.{Either}
use Rattle.cedar_language.specs.Answering as answering
use Rattle.cedar_language.specs.Facts.{Facts}
use Rattle.cedar_language.specs.Tree.{Boolean, Long, String, Entity, Variable, Principal, Action, Resource, Context, MakeRecord, SlotId, PrincipalSlot, ResourceSlot, Tree, Apply}
use Rattle.cedar_language.specs.Uid.{Text}
use Rattle.cedar_language.specs.Value.{Value, Plain, SetOf, RecordOf, ExtensionOf}
use Rattle.cedar_partial_evaluation.specs.Early.{standing_of_answer}
use Rattle.cedar_partial_evaluation.specs.Linking.{no_slots}
use Rattle.cedar_partial_evaluation.specs.MadeAgain.{HoldsMade}
use Rattle.cedar_partial_evaluation.specs.Partial.{LeafAnswers, partial_in}
use Rattle.cedar_partial_evaluation.specs.Prompt.{IsPrompt}
use Rattle.cedar_partial_evaluation.specs.Question.{Part, Given, Missing, Entries as Written, Question, Told, AreMadeTold, IsAccepted, entity_type, part_held, value_held, name_held, variable_held, context_held, held_of}
use Rattle.cedar_partial_evaluation.specs.Reauthorizing.{condition_again, judged_again}
use Rattle.cedar_partial_evaluation.specs.Unknowns.{fits}
use Rattle.cedar_policy_parts.specs.Bindings.{Bindings, binding_of, unbound}
use Rattle.cedar_entities.specs.declared.store.Entities.{Entities}
use Rattle.cedar_extensions.specs.Table.{Table}
use Rattle.cedar_evaluator.specs.Asking.{Inquiry, context_asked, variable_asked, request_held}
use Rattle.cedar_interpreter.specs.Operating.{HasFunctions}
use Rattle.cedar_policy_set.specs.Entries.{Entry}
use Rattle.cedar_policy_set.specs.Texts.{syntax_in, condition_in}
use Rattle.cedar_requests.specs.Holding.{RequestParts}
use Rattle.cedar_requests.specs.ToldContexts.{HoldTold, ToldContextsStay}
use Rattle.cedar_restricted_evaluation.specs.Evaluations.{part_answer}
use Rattle.cedar_substitution.specs.Told.{told_for}
use Rattle.cedar_evaluator.specs.Concretizing.{Conflict, OfOtherType, part_conflict, conflict_of, or_first, part_told, ContextTold, IsConcreteRequest}
use Rattle.cedar_evaluator.specs.Evaluations.{bindings_in, Kept, IsKept, IsServed}
use Rattle.cedar_evaluator.specs.Known.{policy_in}
use Rattle.cedar_evaluator.specs.Questions.{AsksContext, neither_given, both_given, Asks, IsPlainContext}
use Rattle.cedar_evaluator.proofs.Accepting.{accepts_told}
use Rattle.cedar_evaluator.proofs.AskedSo.{asked_not_failed, held_so}
use Rattle.cedar_evaluator.proofs.LeftStands.{again_is_clause, clause_stands}
use Rattle.cedar_evaluator.proofs.Standings.{judged, is_settled, stands_as_found}
use Rattle.cedar_evaluator.proofs.Taken.{clause_of, is_out, out_clause, IsLeftOf}

-- ---- a part with what is told of it

by_fit : (b : Bool) (v : Value) → ◌≡◌ {A = Option Conflict} (cond b None (Some OfOtherType)) None → value_held true v ≡ value_held b v
by_fit true v h = refl
by_fit false v h = cc

part_again : (p : Part) (o : Option Value) (n : Text) → part_conflict p o ≡ None → part_held (part_told p o) None n ≡ part_held p o n
part_again (Given u) None n h = refl
part_again (Missing ty) None n h = refl
part_again (Missing ty) (Some (Plain (Entity w))) n h = by_fit (fits (entity_type ty) (Plain (Entity w))) (Plain (Entity w)) h
part_again (Missing ty) (Some (Plain (Boolean b))) n h = absurd (cc h)
part_again (Missing ty) (Some (Plain (Long k))) n h = absurd (cc h)
part_again (Missing ty) (Some (Plain (String s))) n h = absurd (cc h)
part_again (Missing ty) (Some (SetOf vs)) n h = absurd (cc h)
part_again (Missing ty) (Some (RecordOf ks vs)) n h = absurd (cc h)
part_again (Missing ty) (Some (ExtensionOf e)) n h = absurd (cc h)
part_again (Given u) (Some (Plain (Entity w))) n h = absurd (cc h)
part_again (Given u) (Some (Plain (Boolean b))) n h = absurd (cc h)
part_again (Given u) (Some (Plain (Long k))) n h = absurd (cc h)
part_again (Given u) (Some (Plain (String s))) n h = absurd (cc h)
part_again (Given u) (Some (SetOf vs)) n h = absurd (cc h)
part_again (Given u) (Some (RecordOf ks vs)) n h = absurd (cc h)
part_again (Given u) (Some (ExtensionOf e)) n h = absurd (cc h)

none_first : (v : Variable) (o : Option Conflict) (rest : Option (Variable × Conflict)) → or_first v o rest ≡ None → (o ≡ None) × (rest ≡ None)
none_first v None rest h = (refl, h)
none_first v (Some c) rest h = absurd (cc h)

-- ---- the request with what is told of it

module _ (stay : ToldContextsStay) (facts : Facts) (good : HoldsMade facts) (q : Question) (r : RequestParts) (asks : Asks facts q r)
    (table : Table) (depth : ℕ) (served : HasFunctions table facts) (entries : List (RcStr Global × Value)) (told : Told) (same : HoldTold entries told) (made : AreMadeTold facts told) (plain : IsPlainContext table q.context r.context)
    (more : RequestParts) (concrete : IsConcreteRequest table depth entries r more) where
  part_so : (n : Text) (old new s : Part) → old ≡ s → new ≡ part_told old (told_for entries n) → part_conflict old (told_for entries n) ≡ None → part_held new None n ≡ part_held s (finite.get told n) n
  part_so n old new s e is fine =
      ap (λ (p : Part). part_held p None n) is
      ∙ part_again old (told_for entries n) n fine
      ∙ (λ i. part_held (e i) (sym (same n) i) n)

  context_so : (c : Written) (o new : Option (Either Value Tree)) → AsksContext facts c o → IsPlainContext table c o → ContextTold table depth entries o new → context_asked new ≡ context_held facts told c
  context_so c o None neither_given p none = ap (λ (o : Option Value). name_held o (codes "context") None) (sym (same (codes "context") ∙ none))
  context_so c o (Some new) neither_given p (v, is, by) = ap part_answer by ∙ ap (λ (o : Option Value). name_held o (codes "context") None) (sym (same (codes "context") ∙ is))
  context_so c o None (both_given given is) p h = absurd h
  context_so c o (Some new) (both_given {ks} {ts} {p} given is) simple (context, by, tells) =
      ap part_answer (sym by)
      ∙ (stay table depth entries told same facts served good made (Apply (MakeRecord ks) ts) given simple.untyped p is (λ u e. simple.plain u (ap Some e)) (Ok context) tells).answers

  abbrev of_context : Option (Variable × Conflict)
  of_context = or_first Context (conflict_of (told_for entries) r Context) None

  abbrev of_resource : Option (Variable × Conflict)
  of_resource = or_first Resource (conflict_of (told_for entries) r Resource) of_context

  abbrev of_action : Option (Variable × Conflict)
  of_action = or_first Action (conflict_of (told_for entries) r Action) of_resource

  no_principal : (part_conflict r.principal (told_for entries (codes "principal")) ≡ None) × (of_action ≡ None)
  no_principal = none_first Principal (conflict_of (told_for entries) r Principal) of_action concrete.no_conflict

  no_action : (part_conflict r.action (told_for entries (codes "action")) ≡ None) × (of_resource ≡ None)
  no_action = none_first Action (conflict_of (told_for entries) r Action) of_resource no_principal.1

  no_resource : (part_conflict r.resource (told_for entries (codes "resource")) ≡ None) × (of_context ≡ None)
  no_resource = none_first Resource (conflict_of (told_for entries) r Resource) of_context no_action.1

  told_so : (v : Variable) → variable_asked more v ≡ variable_held facts q told v
  told_so Principal = part_so (codes "principal") r.principal more.principal q.principal asks.principal concrete.principal no_principal.0
  told_so Action = part_so (codes "action") r.action more.action q.action asks.action concrete.action no_action.0
  told_so Resource = part_so (codes "resource") r.resource more.resource q.resource asks.resource concrete.resource no_resource.0
  told_so Context = context_so q.context r.context more.context asks.context plain concrete.context

  abbrev pub inquiry : Inquiry
  inquiry = record { request = more; told = told_for entries }

  pub told_held : (slots : Bindings) → request_held inquiry slots ≡ held_of facts q (binding_of slots) told
  told_held = held_so facts q inquiry told told_so (λ n. sym (same n))

  pub told_accepted : IsPrompt → IsAccepted facts told q.context
  told_accepted prompt = accepts_told prompt facts good told made q.context (λ k e. asked_not_failed more.context k (told_so Context ∙ e))

-- ---- the policies that are taken up again

nothing_bound : (s : SlotId) → binding_of unbound s ≡ None
nothing_bound PrincipalSlot = refl
nothing_bound ResourceSlot = refl

module _ (facts : Facts) (q : Question) (old told : Told) (e : Text × Entry) (k : Kept) where
  -- a policy is taken up as what was found of it
  pub taken_up_as : (i : Inquiry) (store : Entities) (table : Table) (depth : ℕ) → ((slots : Bindings) → request_held i slots ≡ held_of facts q (binding_of slots) old) → IsKept i store table depth e k → IsServed i store table depth facts (condition_in e.1) → is_settled k.found ≡ true →
      condition_again (partial_in facts (held_of facts q (binding_of (bindings_in e.1)) old) (condition_in e.1)) ≡ clause_of k.found
  taken_up_as i store table depth holds kept served settled =
      ap (λ (h : LeafAnswers). condition_again (partial_in facts h (condition_in e.1))) (sym (holds (bindings_in e.1)))
      ∙ again_is_clause _ k.found settled (kept.found facts served)

  module _ (taken : condition_again (partial_in facts (held_of facts q (binding_of (bindings_in e.1)) old) (condition_in e.1)) ≡ clause_of k.found) where
    -- what wasn't satisfied isn't, whatever is told
    pub out_again : is_out k.found ≡ true → (judged_again facts q old told (policy_in e)).standing ≡ answering.Unsatisfied
    out_again out = ap (λ (c : Tree). standing_of_answer (partial_in facts (held_of facts q no_slots told) c)) (taken ∙ out_clause k.found out)

    -- and what is left stands as the policy taken up
    pub stands_again : (i : Inquiry) (store : Entities) (table : Table) (depth : ℕ) → ((slots : Bindings) → request_held i slots ≡ held_of facts q (binding_of slots) told) → (l : Kept) (d : Text × Entry) → IsKept i store table depth d l → IsServed i store table depth facts (condition_in d.1) → is_settled l.found ≡ true →
        IsLeftOf k d → k.id ≡ e.0 → k.effect ≡ (syntax_in e.1).effect → judged l ≡ judged_again facts q old told (policy_in e)
    stands_again i store table depth holds l d kept served settled left named effect =
        let standing =
        stands_as_found _ l.found settled (kept.found facts served)
        ∙ ap (λ (x : Entry). standing_of_answer (partial_in facts (request_held i (bindings_in x)) (condition_in x))) left.policy
        ∙ clause_stands k.effect left.annotations facts (request_held i unbound) (clause_of k.found)
        ∙ ap (λ (h : LeafAnswers). standing_of_answer (partial_in facts h (clause_of k.found))) (holds unbound ∙ (λ j. held_of facts q (λ s. nothing_bound s j) told))
        ∙ ap (λ (c : Tree). standing_of_answer (partial_in facts (held_of facts q no_slots told) c)) (sym taken) in
        λ j. record {
          id = (kept.id ∙ left.id ∙ named) j;
          effect = (kept.effect ∙ ap (λ (x : Entry). (syntax_in x).effect) left.policy ∙ effect) j;
          standing = standing j;
        }
