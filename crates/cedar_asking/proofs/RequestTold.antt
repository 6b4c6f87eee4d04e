-- What is held of the request of a question with what is told, and that nothing told is in conflict with it.
use Rattle.std.proofs.Common.{◌≡◌, ◌∙◌, refl, ap, sym, true, false, Option, Some, None, option_map, List, codes, ℕ, true≢false}
use Rattle.std.specs.FinMap as finite
use Rattle.std.specs.FinMap.{get-empty}
use Rattle.std.specs.declared.alloc.Global.{Global}
use Rattle.std.specs.declared.rc.RcStr.{RcStr}
use Rattle.cedar_language.specs.Facts.{Facts}
use Rattle.cedar_language.specs.Meaning.{slot_outcome}
use Rattle.cedar_language.specs.Order.{text_cmp}
use Rattle.cedar_language.specs.Tree.{Variable, Principal, Action, Resource, Context, Trees}
use Rattle.cedar_language.specs.Uid.{Text}
use Rattle.cedar_language.specs.Value.{Value, Plain, SetOf, RecordOf, ExtensionOf}
use Rattle.cedar_partial_evaluation.specs.Leaves.{LeavesDontMatter}
use Rattle.cedar_partial_evaluation.specs.MadeAgain.{HoldsMade}
use Rattle.cedar_partial_evaluation.specs.Partial.{answer_of}
use Rattle.cedar_partial_evaluation.specs.Question.{Part, AreMadeTold, part_held, name_held, variable_held, context_held, held_of}
use Rattle.cedar_partial_evaluation.specs.Telling.{ContextsStay}
use Rattle.cedar_world.specs.PlainAnswers.{PlainAnswers}
use Rattle.cedar_world.specs.Asking.{Entries, NoContext, WithEntries, Question}
use Rattle.cedar_grammar.specs.UnknownCalls.{hold_call}
use Rattle.cedar_world.specs.Bodies.{some_name_of, is_one_of}
use Rattle.cedar_world.specs.Orders.{text_eq}
use Rattle.cedar_world.specs.Question.{has_name, fits_part, fits_context}
use Rattle.cedar_world.specs.Setting.{Setting}
use Rattle.cedar_world.specs.Values.{variable_names}
use Rattle.cedar_policy_parts.specs.Bindings.{unbound}
use Rattle.cedar_extensions.specs.Table.{Table}
use Rattle.cedar_evaluator.specs.Asking.{context_asked, variable_asked, request_held}
use Rattle.cedar_interpreter.specs.Operating.{HasFunctions}
use Rattle.cedar_requests.specs.Contexts.{context_part}
use Rattle.cedar_requests.specs.Creating.{is_record_value}
use Rattle.cedar_requests.specs.Holding.{RequestParts, request_parts}
use Rattle.cedar_requests.specs.declared.contexts.Context as contexts
use Rattle.cedar_requests.specs.declared.requests.Request.{Request}
use Rattle.cedar_substitution.specs.Told.{told_for}
use Rattle.cedar_evaluator.specs.Concretizing.{part_conflict, record_conflict, context_conflict, or_first, first_conflict, part_told, IsConcreteRequest}
use Rattle.cedar_asking.specs.Keeping.{IsNamed, AreTold}
use Rattle.cedar_telling.specs.Requests.{IsRequestOf}
use Rattle.cedar_telling.specs.Tells.{told_in}
use Rattle.cedar_requests.specs.ToldContexts.{ToldContextsAreEvaluated}
use Rattle.cedar_asking.proofs.ContextsTold.{holds_told, context_again, no_unknown_asked, nothing_held}
use Rattle.cedar_asking.proofs.Plainness.{or_left}
use Rattle.cedar_asking.proofs.Requested.{same_part, part_again, part_fits, all_absent, is_context, principal_fits, action_fits, resource_fits, context_fits, principal_missing, action_missing, resource_missing, context_named}
use Rattle.cedar_asking.proofs.Standings.{no_slots, nothing_bound}

record_fits : (v : Value) → fits_context NoContext v ≡ true → is_record_value v ≡ true
record_fits (RecordOf ks vs) h = refl
record_fits (Plain l) h = cc
record_fits (SetOf vs) h = cc
record_fits (ExtensionOf e) h = cc

module _ (by : Setting) (table : Table) (q : Question) (request : Request) (asked : IsRequestOf by table q (request_parts request)) (named : IsNamed q.context) (told : List (RcStr Global × Value)) (are : AreTold q told) where
  -- no unknown of the context is named as it
  not_named : (ks : List Text) (ts : Trees) → IsNamed (WithEntries ks ts) → has_name (WithEntries ks ts) (codes "context") ≡ false
  not_named ks ts well = all_absent (text_eq (codes "context")) (is_one_of variable_names) is_context ts (or_left (some_name_of (is_one_of variable_names) ts) (hold_call ts) well.well)

  module _ (facts : Facts) (served : HasFunctions table facts) where
    missing_so : (p : Part) (n : Text) → part_held p (finite.get {R = text_cmp} finite.empty n) n ≡ part_held p None n
    missing_so p n = ap (λ (o : Option Value). part_held p o n) (get-empty text_cmp n)

    principal_is : (request_parts request).principal ≡ q.principal
    principal_is = same_part _ q.principal (codes "principal") (asked.holds facts served Principal ∙ missing_so q.principal (codes "principal"))

    action_is : (request_parts request).action ≡ q.action
    action_is = same_part _ q.action (codes "action") (asked.holds facts served Action ∙ missing_so q.action (codes "action"))

    resource_is : (request_parts request).resource ≡ q.resource
    resource_is = same_part _ q.resource (codes "resource") (asked.holds facts served Resource ∙ missing_so q.resource (codes "resource"))

    context_is : context_asked (option_map context_part request.context) ≡ context_held facts finite.empty q.context
    context_is = asked.holds facts served Context

    -- ---- no conflict

    not_given : (c : Entries) (o : Option contexts.Context) → context_asked (option_map context_part o) ≡ context_held facts finite.empty c → IsNamed c → (v : Value) → fits_context c v ≡ true → has_name c (codes "context") ≡ true →
        record_conflict (option_map context_part o) (is_record_value v) ≡ None
    not_given NoContext None e well v fit has = ap (record_conflict None) (record_fits v fit)
    not_given NoContext (Some c) e well v fit has = absurd (no_unknown_asked c (codes "context") (e ∙ nothing_held))
    not_given (WithEntries ks ts) o e well v fit has = absurd (true≢false (sym has ∙ not_named ks ts well))

    context_no_conflict : (o : Option Value) → told_for told (codes "context") ≡ o → context_conflict (option_map context_part request.context) o ≡ None
    context_no_conflict None e = refl
    context_no_conflict (Some v) e = not_given q.context request.context context_is named v (context_fits q named told are v e) (context_named q named told are v e)

    part_no_conflict : (p s : Part) (o : Option Value) → p ≡ s → part_conflict s o ≡ None → part_conflict p o ≡ None
    part_no_conflict p s o e h = ap (λ (p : Part). part_conflict p o) e ∙ h

    pub no_conflicts : first_conflict (told_for told) (request_parts request) ≡ None
    no_conflicts = λ i.
        or_first Principal (part_no_conflict _ q.principal _ principal_is (part_fits q.principal (told_for told (codes "principal")) (principal_fits q named told are) (principal_missing q named told are)) i)
        (or_first Action (part_no_conflict _ q.action _ action_is (part_fits q.action (told_for told (codes "action")) (action_fits q named told are) (action_missing q named told are)) i)
        (or_first Resource (part_no_conflict _ q.resource _ resource_is (part_fits q.resource (told_for told (codes "resource")) (resource_fits q named told are) (resource_missing q named told are)) i)
        (or_first Context (context_no_conflict (told_for told (codes "context")) refl i) None)))

    -- ---- what is held

    module _ (law : PlainAnswers) (apart : LeavesDontMatter) (stay : ContextsStay) (tell : ToldContextsAreEvaluated) (good : HoldsMade facts) (now : Table) (depth : ℕ) (now_served : HasFunctions now facts)
        (made_told : AreMadeTold facts (told_in told)) (more : RequestParts) (concrete : IsConcreteRequest now depth told (request_parts request) more) where
      part_is : (n : Text) (old new s : Part) → old ≡ s → new ≡ part_told old (told_for told n) → ((v : Value) → told_for told n ≡ Some v → fits_part s v ≡ true) → part_held new None n ≡ part_held s (finite.get (told_in told) n) n
      part_is n old new s e is fit =
          ap (λ (p : Part). part_held p None n) (is ∙ ap (λ (p : Part). part_told p (told_for told n)) e)
          ∙ part_again s (told_for told n) n fit
          ∙ ap (λ (o : Option Value). part_held s o n) (sym (holds_told told n))

      pub variable_again : (v : Variable) → variable_asked more v ≡ variable_held facts q (told_in told) v
      variable_again Principal = part_is (codes "principal") _ more.principal q.principal principal_is concrete.principal (principal_fits q named told are)
      variable_again Action = part_is (codes "action") _ more.action q.action action_is concrete.action (action_fits q named told are)
      variable_again Resource = part_is (codes "resource") _ more.resource q.resource resource_is concrete.resource (resource_fits q named told are)
      variable_again Context = context_again law apart stay tell facts good now depth now_served told made_told q.context asked.is_data named request.context more.context context_is concrete.context

      pub held_again : request_held (record { request = more; told = told_for told }) unbound ≡ held_of facts q no_slots (told_in told)
      held_again = λ i. record {
        variable = λ v. variable_again v i;
        unknown = λ n ty. name_held (sym (holds_told told n) i) n ty;
        slot = λ s. answer_of (slot_outcome (nothing_bound s i));
      }
