-- Where a tree calls functions that are there, no look-up fails in its evaluation; and so it is of the policies of a text. Where no
-- slot stands in it either, it errs with ordinary kinds alone.
use Rattle.std.proofs.Common.{◌≡◌, ◌≢◌, Bool, true, false, cond, ◌&&◌, not, Option, Some, None, is_some, IsSome, List, [], refl, sym, ◌∙◌, ap, subst, true≢false}
use Rattle.std.proofs.lemmas.Bool.{and_parts}
use Rattle.std.specs.FinMap as finite
use Rattle.cedar_language.specs.Uid.{Text, Name, Uid}
use Rattle.cedar_language.specs.Tree.{Boolean, ValueType, Variable, Principal, Action, Resource, Context, SlotId, MakeRecord, Tree, Lit, Apply}
use Rattle.cedar_language.specs.Value.{Value, Plain, Kind, TypeError, RecordAttrDoesNotExist, FailedExtensionFunctionLookup, Outcome, Gives, Fails}
use Rattle.cedar_language.specs.Constructing.{the_constructor, is_the_constructor, constructor_function}
use Rattle.cedar_language.specs.Facts.{Facts}
use Rattle.cedar_language.specs.Operators as operators
use Rattle.cedar_language.specs.Meaning.{Slots, slot_outcome}
use Rattle.cedar_language.specs.Answering.{Erring}
use Rattle.cedar_language.specs.Authorization.{request_at}
use Rattle.cedar_partial_evaluation.specs.Early.{standing_of_answer}
use Rattle.cedar_partial_evaluation.specs.Linking.{no_slots}
use Rattle.cedar_partial_evaluation.specs.Partial.{Answer, Evaluated, ResidualTree, Failed, LeafAnswers, answer_of, partial_in, leaf_answers_of, KnownIsMeaning}
use Rattle.cedar_partial_evaluation.specs.Question.{Part, Given, Missing, Entries, NoContext, WithEntries, Question, Told, entity_type, value_held, name_held, part_held, held_names, context_held, variable_held, held_of}
use Rattle.cedar_partial_evaluation.specs.Reauthorizing.{condition_again}
use Rattle.cedar_partial_evaluation.specs.Unknowns.{fits}
use Rattle.cedar_grammar.specs.Build.{conjunction}
use Rattle.cedar_grammar.specs.Laws.{ExprsHoldNoSlot, LinkConditions}
use Rattle.cedar_grammar.specs.Policy.{scope_tree, with_body, slots, body_slots, bound}
use Rattle.cedar_grammar.specs.Functions.{body_names, function_of, is_the_unknown}
use Rattle.cedar_world.specs.KnownKinds.{IsOrdinary, IsFound, ErrsOrdinarily, TextsErrOrdinarily}
use Rattle.cedar_world.specs.LinkLaws.{LinksAreStatic}
use Rattle.cedar_world.specs.NameLaws.{is_answered, CallsAreFound}
use Rattle.cedar_world.specs.Bodies.{ask_body}
use Rattle.cedar_world.specs.Setting.{Setting, ArePolicies, IsBody}
use Rattle.cedar_world.specs.Standing.{StandsEarly}
use Rattle.cedar_world.specs.World.{Entities, AreFacts}
use Rattle.cedar_grammar.specs.Bindings.{Bindings, binding_of, linked}
use Rattle.cedar_grammar.specs.Syntax.{PolicySyntax, condition}
use Rattle.cedar_world.proofs.OrdinaryErrors.{applied_fine}
use Rattle.cedar_grammar.proofs.HeldSlots.{principal_free, resource_free, condition_free, none_left}
use Rattle.cedar_world.specs.Again.{standing_again}
use Rattle.cedar_world.specs.Lookups.{calls_among, finds_all, IsFoundAnswer, FoundAnswers, FindsFunctions, EarlyTextsFindFunctions}
use Rattle.cedar_world.proofs.CallsLeft.{AnyKind, IsKept, AreKeptLeaves, Keeps, kept}
use Rattle.cedar_world.proofs.Called.{ContextCalls, question_calls, fewer_pass, without_slots, bound_calls, of_each}
use Rattle.cedar_world.proofs.Lists.{IsAmong, contained}
use Rattle.cedar_world.proofs.Scopes.{condition_kept}

-- ---- evaluations

abbrev pub NoLookup : Kind → Type 0
NoLookup k = k ≢ FailedExtensionFunctionLookup

pub found_kind : (k : Kind) → NoLookup k → IsFound k
found_kind FailedExtensionFunctionLookup h = absurd (h refl)
found_kind k h = tt

ordinary_is_none : (k : Kind) → IsOrdinary k → NoLookup k
ordinary_is_none k h e = subst IsOrdinary e h

module _ (facts : Facts) where
  -- there is a function of this name
  abbrev pub there : Name → Bool
  there name = is_some (facts.function name)

  to_found : (p : Answer) → IsKept true there NoLookup p → IsFoundAnswer facts p
  to_found (Evaluated v) h = tt
  to_found _ h = h

  of_found : (p : Answer) → IsFoundAnswer facts p → IsKept true there NoLookup p
  of_found (Evaluated v) h = tt
  of_found _ h = h

-- where ordinary errors are fine, with functions that are there
module _ (slotted : Bool) (IsFine : Kind → Type 0) (facts : Facts) (fine : (k : Kind) → IsOrdinary k → IsFine k) (constructs : IsSome (facts.function the_constructor)) where
  abbrev IsFineAnswer : Answer → Type 0
  IsFineAnswer = IsKept slotted (there facts) IsFine

  abbrev AreFineLeaves : LeafAnswers → Type 0
  AreFineLeaves = AreKeptLeaves slotted (there facts) IsFine

  outcome_fine : (o : Outcome) → ErrsOrdinarily o → IsFineAnswer (answer_of o)
  outcome_fine (Gives v) h = tt
  outcome_fine (Fails k) h = fine k h

  pub keeps_fine : Keeps slotted (there facts) IsFine facts
  keeps_fine = record {
    constructs = constructs;
    type_error = fine TypeError tt;
    no_attribute = fine RecordAttrDoesNotExist tt;
    applied = λ o vs c. outcome_fine (operators.applied facts o vs) (applied_fine facts (there facts) (λ name h. h) o vs c);
  }

  answer_fine : (holds : LeafAnswers) → AreFineLeaves holds → (t : Tree) → calls_among slotted (there facts) t ≡ true → IsFineAnswer (partial_in facts holds t)
  answer_fine = kept slotted (there facts) IsFine facts keeps_fine

  -- ---- what is held of a question

  value_fine : (b : Bool) (v : Value) → IsFineAnswer (value_held b v)
  value_fine true v = tt
  value_fine false v = fine TypeError tt

  name_fine : (o : Option Value) (n : Text) (ty : Option ValueType) → IsFineAnswer (name_held o n ty)
  name_fine (Some v) n ty = value_fine (fits ty v) v
  name_fine None n ty = refl

  part_fine : (p : Part) (o : Option Value) (n : Text) → IsFineAnswer (part_held p o n)
  part_fine (Given u) o n = tt
  part_fine (Missing ty) o n = name_fine o n (entity_type ty)

  names_fine : (told : Told) → AreFineLeaves (held_names told)
  names_fine told = record { variable = λ v. refl; unknown = λ n ty. name_fine (finite.get told n) n ty; slot = λ h s. h }

  context_fine : (told : Told) (c : Entries) → ContextCalls slotted (there facts) c → IsFineAnswer (context_held facts told c)
  context_fine told NoContext h = name_fine _ _ None
  context_fine told (WithEntries ks ts) h = answer_fine (held_names told) (names_fine told) (Apply (MakeRecord ks) ts) h

  module _ (q : Question) (calls : ContextCalls slotted (there facts) q.context) where
    variable_fine : (told : Told) (v : Variable) → IsFineAnswer (variable_held facts q told v)
    variable_fine told Principal = part_fine q.principal _ _
    variable_fine told Action = part_fine q.action _ _
    variable_fine told Resource = part_fine q.resource _ _
    variable_fine told Context = context_fine told q.context calls

    -- where slots are fine
    held_fine : (slots : Slots) → (slotted ≡ true → (s : SlotId) → IsFineAnswer (answer_of (slot_outcome (slots s)))) → (told : Told) (t : Tree) → calls_among slotted (there facts) t ≡ true
        → IsFineAnswer (partial_in facts (held_of facts q slots told) t)
    held_fine slots bound told =
        answer_fine (held_of facts q slots told) (record { variable = variable_fine told; unknown = λ n ty. name_fine (finite.get told n) n ty; slot = bound })

pub found_answers : FoundAnswers
found_answers = λ facts constructs holds leaves t h.
    to_found facts _
    (answer_fine true NoLookup facts ordinary_is_none constructs holds
    (record { variable = λ v. of_found facts _ (leaves.variable v); unknown = λ n ty. of_found facts _ (leaves.unknown n ty); slot = λ h s. of_found facts _ (leaves.slot s) }) t h)

-- ---- how a policy stands

module _ (slotted : Bool) (IsFine : Kind → Type 0) (facts : Facts) (fine : (k : Kind) → IsOrdinary k → IsFine k) where
  kind_fine : (p : Answer) → IsKept slotted (there facts) IsFine p → (k : Kind) → Erring k ≡ standing_of_answer p → IsFine k
  kind_fine (Evaluated (Plain (Boolean true))) h k e = cc
  kind_fine (Evaluated (Plain (Boolean false))) h k e = cc
  kind_fine (Evaluated _) h k e = let same : TypeError ≡ k = cc in subst IsFine same (fine TypeError tt)
  kind_fine (ResidualTree t) h k e = cc
  kind_fine (Failed l) h k e = let same : l ≡ k = cc in subst IsFine same h

  -- what is taken up again calls what was called
  again_calls : (p : Answer) → IsKept slotted (there facts) IsFine p → calls_among slotted (there facts) (condition_again p) ≡ true
  again_calls (Evaluated (Plain (Boolean true))) h = refl
  again_calls (ResidualTree t) h = h
  again_calls _ h = refl

module _ (facts : Facts) (constructs : IsSome (facts.function the_constructor)) (q : Question) (calls : ContextCalls true (there facts) q.context) where
  slot_found : (o : Option Uid) → IsKept true (there facts) NoLookup (answer_of (slot_outcome o))
  slot_found (Some u) = tt
  slot_found None = λ e. cc

  found : (slots : Slots) (told : Told) (t : Tree) → finds_all facts t ≡ true → IsKept true (there facts) NoLookup (partial_in facts (held_of facts q slots told) t)
  found slots = held_fine true NoLookup facts ordinary_is_none constructs q calls slots (λ h s. slot_found (slots s))

  pub policy_finds : (told : Told) (s : PolicySyntax) → finds_all facts (condition s) ≡ true → FindsFunctions facts q told s
  policy_finds told s h = record {
    early = kind_fine true NoLookup facts ordinary_is_none (partial_in facts (held_of facts q no_slots told) (condition s)) (found no_slots told (condition s) h);
    again = λ slots k stands.
        let first = partial_in facts (held_of facts q slots finite.empty) (condition s) in
        kind_fine true NoLookup facts ordinary_is_none (partial_in facts (held_of facts q no_slots told) (condition_again first))
        (found no_slots told (condition_again first) (again_calls true NoLookup facts ordinary_is_none first (found slots finite.empty (condition s) h))) k stands;
  }

-- ---- where no slot stands

no_slot_stands : {A : Type 0} → false ≡ true → A
no_slot_stands e = absurd (true≢false (sym e))

clause_calls : (passes : Name → Bool) (scope c : Tree) → calls_among true passes (conjunction scope c) ≡ true → calls_among true passes c ≡ true
clause_calls passes (Lit (Boolean a)) (Lit (Boolean b)) h = refl
clause_calls passes scope c h = (and_parts (calls_among true passes scope) (calls_among true passes c) h).1

module _ (facts : Facts) (constructs : IsSome (facts.function the_constructor)) (q : Question) (calls : ContextCalls false (there facts) q.context) where
  any : (slots : Slots) (told : Told) (t : Tree) → calls_among false (there facts) t ≡ true → IsKept false (there facts) AnyKind (partial_in facts (held_of facts q slots told) t)
  any slots = held_fine false AnyKind facts (λ k o. tt) constructs q calls slots (λ e s. no_slot_stands e)

  ordinary : (told : Told) (t : Tree) → calls_among false (there facts) t ≡ true → (k : Kind) → Erring k ≡ standing_of_answer (partial_in facts (held_of facts q no_slots told) t) → IsOrdinary k
  ordinary told t h =
      kind_fine false IsOrdinary facts (λ k o. o) (partial_in facts (held_of facts q no_slots told) t) (held_fine false IsOrdinary facts (λ k o. o) constructs q calls no_slots (λ e s. no_slot_stands e) told t h)

  pub early_ordinary : (told : Told) (s : PolicySyntax) → finds_all facts (condition s) ≡ true → slots s ≡ [] → (k : Kind) → StandsEarly facts q told s (Erring k) → IsOrdinary k
  early_ordinary told s h e = ordinary told (condition s) (without_slots (there facts) (condition s) (condition_free s e) h)

  -- what was left of a condition, whose slots these bind, evaluated again without them, where the clauses hold none
  pub again_ordinary : (told : Told) (p : PolicySyntax) (b : Slots) → finds_all facts (condition p) ≡ true → slots (bound b p) ≡ [] → body_slots p.body ≡ []
      → (k : Kind) → Erring k ≡ standing_again facts q told b (condition p) → IsOrdinary k
  again_ordinary told p b h e f =
      let keeps = keeps_fine false AnyKind facts (λ k o. tt) constructs in
      let first = partial_in facts (held_of facts q b finite.empty) (condition p) in
      let left : IsKept false (there facts) AnyKind first =
      condition_kept (there facts) facts keeps q b p (principal_free (bound b p) e) (resource_free (bound b p) e) (λ c is.
      let free = without_slots (there facts) c (ap body_slots (sym is) ∙ f) (clause_calls (there facts) (scope_tree p) c (ap (λ o. calls_among true (there facts) (with_body (scope_tree p) o)) (sym is) ∙ h)) in
      (free, any b finite.empty c free)) in
      ordinary told (condition_again first) (again_calls false AnyKind facts (λ k o. tt) first left)

-- ---- policies of a text

still_some : {A : Type 0} (b : Bool) (x : A) (o : Option A) → is_some o ≡ true → is_some (cond b (Some x) o) ≡ true
still_some true x o h = refl
still_some false x o h = h

module _ (by : Setting) {entities : Entities} (facts : Facts) (are : AreFacts by.functions entities facts) where
  -- what the table answers is there, and so is the constructor
  pub answered_there : (name : Name) → is_answered by.functions name ≡ true → there facts name ≡ true
  answered_there name h = ap is_some (are.function name) ∙ still_some (is_the_constructor name) constructor_function (function_of by.functions name) h

  pub constructor_there : IsSome (facts.function the_constructor)
  constructor_there = ap is_some (are.function the_constructor)

  pub texts_find : CallsAreFound by → (text : Text) (ss : List PolicySyntax) → ArePolicies by text ss → (s : PolicySyntax) → IsAmong s ss → finds_all facts (condition s) ≡ true
  texts_find calls text ss reads s among =
      let passes : Name → Bool = λ name. is_answered by.functions name && not (is_the_unknown name) in
      fewer_pass passes (there facts) (λ name h. answered_there name (and_parts (is_answered by.functions name) _ h).0) (condition s) (of_each _ ss (calls.policies text ss reads) s among)

  body_finds : CallsAreFound by → (body : Text) (tree : Tree) → IsBody by body tree → finds_all facts tree ≡ true
  body_finds calls body tree is = fewer_pass (is_answered by.functions) (there facts) answered_there tree (calls.bodies body tree is)

  pub context_finds : CallsAreFound by → (body : Text) (tree : Tree) (q : Question) → IsBody by body tree → ask_body tree ≡ Some q → ContextCalls true (there facts) q.context
  context_finds calls body tree q is asks = question_calls true (there facts) tree q (body_finds calls body tree is) asks

  -- and no slot stands in a context
  pub context_holds_no_slot : CallsAreFound by → ExprsHoldNoSlot → (body : Text) (tree : Tree) (q : Question) → IsBody by body tree → ask_body tree ≡ Some q → ContextCalls false (there facts) q.context
  context_holds_no_slot calls free body tree q (n, is) asks =
      question_calls false (there facts) tree q (without_slots (there facts) tree (free (body_names by.functions) n is.0 tree is.2) (body_finds calls body tree (n, is))) asks

-- binding slots adds no call
pub links_find : LinkConditions → (facts : Facts) (b : Bindings) (s : PolicySyntax) → finds_all facts (condition s) ≡ true → finds_all facts (condition (linked b s)) ≡ true
links_find links facts b s h = ap (finds_all facts) (links (binding_of b) s) ∙ bound_calls (there facts) (binding_of b) (condition s) ∙ h

pub early_texts_find_functions : LinkConditions → ((by : Setting) → CallsAreFound by) → EarlyTextsFindFunctions
early_texts_find_functions links calls by entities facts are text ss reads s among body tree q is asks told =
    let context = context_finds by facts are (calls by) body tree q is asks in
    let finds = texts_find by facts are (calls by) text ss reads s (contained ss s among) in (
      policy_finds facts (constructor_there by facts are) q context told s finds,
      λ b. policy_finds facts (constructor_there by facts are) q context told (linked b s) (links_find links facts b s finds),
    )

-- ---- where all is known

meant_fine : (facts : Facts) (o : Outcome) → IsKept false (there facts) IsOrdinary (answer_of o) → ErrsOrdinarily o
meant_fine facts (Gives v) h = tt
meant_fine facts (Fails k) h = h

-- what a known request means is what is answered, and no slot is left once a policy is linked
pub texts_err_ordinarily : KnownIsMeaning → LinksAreStatic → LinkConditions → ((by : Setting) → CallsAreFound by) → TextsErrOrdinarily
texts_err_ordinarily meaning static links calls by entities facts are text ss reads s among b exact request =
    let p = linked b s in
    let finds = links_find links facts b s (texts_find by facts are (calls by) text ss reads s (contained ss s among)) in
    let asked = request_at request (λ s. None) in
    meant_fine facts _
    (subst (IsKept false (there facts) IsOrdinary) (meaning facts asked (condition p))
    (answer_fine false IsOrdinary facts (λ k o. o) (constructor_there by facts are) (leaf_answers_of asked)
    (record { variable = λ v. tt; unknown = λ n ty. tt; slot = λ e s. no_slot_stands e }) (condition p)
    (without_slots (there facts) (condition p) (condition_free p (none_left (slots p) (static b s exact))) finds)))
