-- A first response taken up again once values are told answers its question, and only its context may be why it isn't.
use Rattle.std.proofs.Common.{◌≡◌, inl, inr, ◌≤◌, ◌<◌, ◌∙◌, suc, refl, ap, sym, subst, arith, true≢false, Bool, Contains, true, false, Option, Some, None, option_map, List, ◌++◌, map, ℕ, Err}
use Rattle.std.proofs.lemmas.Bool.{cases_lt}
use Rattle.std.specs.FinMap as finite
use Rattle.std.specs.Map.{keys_of}
use Rattle.std.specs.declared.alloc.Global.{Global}
use Rattle.std.specs.declared.rc.RcStr.{RcStr}
use Rattle.either.specs.declared.Either.{Either}
use Rattle.either.specs.declared.Either.TheVariants.{Left, Right}
use Rattle.cedar_grammar.specs.Laws.{LinkConditions}
use Rattle.cedar_language.specs.Answering.{decision, in_must, in_may, ids_with}
use Rattle.cedar_language.specs.Facts.{Facts}
use Rattle.cedar_language.specs.Tree.{MakeRecord, Context, Tree, Apply, Trees}
use Rattle.cedar_language.specs.Uid.{Text}
use Rattle.cedar_language.specs.Value.{Value, Kind}
use Rattle.cedar_partial_evaluation.specs.Leaves.{is_left, AreKnown, KnownIsNeverLeft, LeavesDontMatter}
use Rattle.cedar_partial_evaluation.specs.MadeAgain.{HoldsMade}
use Rattle.cedar_partial_evaluation.specs.Partial.{Answer as PartialAnswer, ResidualTree, Failed, LeafAnswers}
use Rattle.cedar_partial_evaluation.specs.ReadUnknowns.{calls_unknown}
use Rattle.cedar_partial_evaluation.specs.Prompt.{IsPrompt}
use Rattle.cedar_partial_evaluation.specs.Question.{Extends, AreMadeTold, IsAccepted, held_names, context_held, held_of}
use Rattle.cedar_partial_evaluation.specs.Telling.{ContextsStay}
use Rattle.cedar_partial_evaluation.specs.Waiting.{WhatIsLeftWaits}
use Rattle.cedar_grammar.specs.Syntax.{condition}
use Rattle.cedar_world.specs.Again.{StandsAgain, AgainIsSound}
use Rattle.cedar_world.specs.ContextErrors.{ContextsErrInParts}
use Rattle.cedar_world.proofs.OrdinaryAnswers.{rules_list}
use Rattle.cedar_world.specs.Heights.{Heights, grown, grown_answer, AreWithin, told_height, context_height, AreHeights, BoundTreesGrowAlike, SomeGrowsTooHigh}
use Rattle.cedar_world.proofs.Grown.{grows, some_grown}
use Rattle.cedar_world.proofs.Written.{slot_within, context_within, held_is_within}
use Rattle.cedar_world.specs.Joined.{IsJoined, LaterAnswersStand}
use Rattle.cedar_language.specs.Constructing.{the_constructor}
use Rattle.cedar_world.specs.PlainAnswers.{PlainAnswers}
use Rattle.cedar_world.specs.Answer.{Answer, ids_of}
use Rattle.cedar_world.specs.Asking.{Entries as Written, NoContext, WithEntries, Question}
use Rattle.cedar_grammar.specs.UnknownCalls.{hold_call}
use Rattle.cedar_world.specs.Bodies.{some_name_of, is_one_of}
use Rattle.cedar_world.specs.First.{IsData}
use Rattle.cedar_world.specs.Orders.{text_eq}
use Rattle.cedar_world.specs.Question.{names_some}
use Rattle.cedar_world.specs.Setting.{Setting, functions_alone}
use Rattle.cedar_world.specs.Standing.{Says, AnswersAreMade, UnsatisfiedSayNothing}
use Rattle.cedar_world.specs.Values.{variable_names, context_errs}
use Rattle.cedar_world.specs.World.{World}
use Rattle.cedar_world.specs.WorldFacts.{AreFactsOf, facts_of, WorldsHaveFacts}
use Rattle.cedar_policy_parts.specs.Bindings.{Bindings, binding_of, unbound}
use Rattle.cedar_entities.specs.declared.store.Entities.{Entities}
use Rattle.cedar_extensions.specs.Failures.{Failure, OfKind, LimitMet, MemoryRanOut, failure_of}
use Rattle.cedar_extensions.specs.declared.evaluation_error.EvaluationError.{EvaluationError}
use Rattle.cedar_extensions.specs.Table.{Table}
use Rattle.cedar_evaluator.specs.Asking.{Inquiry, untold, context_asked, request_held}
use Rattle.cedar_interpreter.specs.Operating.{HasFunctions}
use Rattle.cedar_policy_set.specs.Entries.{Entry, Entries, policies_of}
use Rattle.cedar_restricted.specs.Laws.{WrittenValuesAreGround, GroundTreesAreRestricted}
use Rattle.cedar_policy_set.specs.declared.errors.PolicySetError.TheVariants as adding
use Rattle.cedar_held.specs.PolicyWorlds.{FindsAsWorlds}
use Rattle.cedar_replies.specs.declared.error_kind.ErrorKind.{ErrorKind}
use Rattle.cedar_requests.specs.Contexts.{context_part}
use Rattle.cedar_requests.specs.Telling.{TellsContext}
use Rattle.cedar_requests.specs.declared.contexts.Context as contexts
use Rattle.cedar_substitution.specs.Told.{told_for}
use Rattle.cedar_evaluator.specs.Concretizing.{first_conflict, IsRefused}
use Rattle.cedar_evaluator.specs.Evaluations.{Erred, bindings_in, condition_in, Kept}
use Rattle.cedar_evaluator.specs.Holding.{request_asked, holding_in}
use Rattle.cedar_evaluator.specs.Reauthorizing.{IsReauthorized, Reauthorizes}
use Rattle.cedar_evaluator.specs.Residuals.{residuals_with, is_any}
use Rattle.cedar_evaluator.proofs.Twice.{not_apart}
use Rattle.cedar_evaluator.specs.Responses.{Holding, errors_of, judged_held}
use Rattle.cedar_evaluator.specs.declared.errors.ConcretizationError.{ConcretizationError}
use Rattle.cedar_evaluator.specs.declared.errors.ConcretizationError.TheVariants as concretization
use Rattle.cedar_evaluator.specs.declared.errors.ReauthorizationError.{ReauthorizationError}
use Rattle.cedar_evaluator.specs.declared.errors.ReauthorizationError.TheVariants as reauthorization
use Rattle.cedar_evaluator.specs.declared.partial_response.PartialResponse.{PartialResponse}
use Rattle.cedar_evaluator.proofs.Standings.{judged, is_settled}
use Rattle.cedar_held.specs.Built.{GivesBuilt}
use Rattle.cedar_asking.specs.Answering.{AreOf}
use Rattle.cedar_asking.specs.Erring.{with_failure, SomeAtLimit}
use Rattle.cedar_asking.specs.Keeping.{IsNamed, AreTold, KeepsQuestion, IsFirstResponse}
use Rattle.cedar_asking.specs.Laws.{SaysHeld}
use Rattle.cedar_telling.specs.Requests.{IsRequestOf}
use Rattle.cedar_asking.specs.TellLaws.{IsAnsweredLater, IsContextFailure, IsWhyNotTold}
use Rattle.cedar_telling.specs.Tells.{told_in}
use Rattle.cedar_asking.specs.Waiting.{LeftIsUntold}
use Rattle.cedar_requests.specs.ToldContexts.{ToldContextsAreEvaluated}
use Rattle.cedar_evaluator.proofs.Accepting.{accepts_told}
use Rattle.cedar_asking.proofs.AgainJudged.{all_out, says_of_all, judges_again, once_again, alike_again, none_errs_again}
use Rattle.cedar_asking.proofs.Waiting.{left_before, alike_first, alike_through, is_last}
use Rattle.cedar_asking.proofs.Depths.{other_slots, depth_grows, clause_grows, found_grows, substituted_low}
use Rattle.cedar_asking.proofs.ContextsTold.{extends_empty, record_deep, holds_told, context_fails, no_unknown_asked, nothing_held}
use Rattle.cedar_asking.proofs.Errors.{errors_listed, settled_listed, limit_kept}
use Rattle.cedar_asking.proofs.Exactness.{clause_calls}
use Rattle.cedar_asking.proofs.InForce.{written_entry, is_bound, is_in_force}
use Rattle.cedar_evaluator.proofs.KeptOf.{kept_of}
use Rattle.cedar_evaluator.proofs.Taken.{clause_of, true_kept, is_left as is_taken_up}
use Rattle.cedar_restricted_evaluation.proofs.Made.{built_is_made}
use Rattle.cedar_asking.proofs.Facts.{store_has_facts, table_is_served}
use Rattle.cedar_asking.proofs.Known.{all_named_nothing}
use Rattle.cedar_evaluator.proofs.Lists.{IsAmong}
use Rattle.cedar_asking.proofs.Plainness.{functions_are_made, or_right}
use Rattle.cedar_asking.proofs.Rejudged.{first_served, first_made, first_found, first_names, names_nothing, clause_calls_nothing}
use Rattle.cedar_asking.proofs.Requested.{all_absent}
use Rattle.cedar_asking.proofs.RequestTold.{no_conflicts, variable_again, held_again}
use Rattle.cedar_asking.proofs.Sayings.{says_rules}
use Rattle.cedar_asking.proofs.Standings.{held_so, grown_as_written, no_slots}

-- what is held once values are told rests on these
pub record Rests : Type 0 where
  pub exist : WorldsHaveFacts
  pub finds : FindsAsWorlds
  pub apart : LeavesDontMatter
  pub stay : ContextsStay
  pub plain : PlainAnswers
  pub parts : ContextsErrInParts
  pub tell : ToldContextsAreEvaluated

-- and what is answered then on these besides
pub record AnswersRest : Type 0 where
  pub conditions : LinkConditions
  pub made : AnswersAreMade
  pub nothing : UnsatisfiedSayNothing
  pub prompt : IsPrompt
  pub again : AgainIsSound
  pub later : LaterAnswersStand
  pub waits : WhatIsLeftWaits

asked_fails : (o : Option (Either Value Tree)) (k : Kind) → context_asked o ≡ Failed k → ⊥
asked_fails None k e = cc
asked_fails (Some (Left v)) k e = cc
asked_fails (Some (Right t)) k e = cc

none_known : (holds : LeafAnswers) → AreKnown (λ v. false) false holds
none_known holds = record { variable = λ v h. absurd (true≢false (sym h)); slot = λ s h. absurd (true≢false (sym h)) }

-- what is left of a context names an unknown
names_left : KnownIsNeverLeft → (facts : Facts) (ks : List Text) (ts : Trees) → IsData (WithEntries ks ts) → (b : Bool) → some_name_of (λ n. true) ts ≡ b
    → (t : Tree) → ResidualTree t ≡ context_held facts finite.empty (WithEntries ks ts) → b ≡ true
names_left never facts ks ts given true is t e = refl
names_left never facts ks ts given false is t e =
    sym
    (ap is_left e
    ∙ never facts (λ v. false) false (held_names finite.empty) (none_known (held_names finite.empty)) (Apply (MakeRecord ks) ts)
    (all_named_nothing ts given (λ n. all_absent (text_eq n) (λ m. true) (λ m h. refl) ts is)))

not_both : {X : Type 0} (x : X) (o : Option X) → o ≡ None → o ≡ Some x → ⊥
not_both x None e f = cc
not_both x (Some y) e f = cc

module _ (c : Rests) (by : Setting) (world : World) (q : Question) (first : PartialResponse) (response : IsFirstResponse by world q first) (told : List (RcStr Global × Value)) (are : AreTold q told)
    (es : Entries) (s : Entities) (table : Table) (gives : GivesBuilt table) (depth : ℕ) (now : AreOf by world es s table depth) where
  abbrev facts : Facts
  facts = facts_of by world

  abbrev alone : Facts
  alone = functions_alone by.functions

  are_facts : AreFactsOf by world facts
  are_facts = c.exist.exist by world

  asked : IsRequestOf by response.table q (request_asked first)
  asked = subst (IsRequestOf by response.table q) (sym response.responds.asked) response.is_request

  served_first : HasFunctions response.table facts
  served_first = first_served c.plain c.finds by world facts are_facts q first response

  good : HoldsMade facts
  good = first_made c.plain c.finds by world facts are_facts q first response

  served : HasFunctions table facts
  served = table_is_served by world facts table are_facts now.setting.functions

  alone_good : HoldsMade alone
  alone_good = functions_are_made by table gives now.setting.functions

  -- each evaluation over the table knows the constructor of extension values
  made_told : (f : Facts) → HasFunctions table f → AreMadeTold f (told_in told)
  made_told f has n v e = built_is_made f (has the_constructor ∙ sym (now.setting.functions the_constructor)) v (are.built n v (sym (holds_told told n) ∙ e))

  uncalled : (ks : List Text) (ts : Trees) → IsNamed (WithEntries ks ts) → hold_call ts ≡ false
  uncalled ks ts named = or_right (some_name_of (is_one_of variable_names) ts) (hold_call ts) named.well

  errs_none : (x : Written) → IsData x → IsNamed x → ((k : Kind) → context_held alone (told_in told) x ≡ Failed k → ⊥) → context_errs by x (told_in told) ≡ false
  errs_none NoContext given named h = refl
  errs_none (WithEntries ks ts) given named h = (c.parts.accepted by (told_in told) ks ts given (uncalled ks ts named) h).0

  -- ---- where the limit is met

  module _ (h : Heights) (heights : AreHeights by world q (told_in told) h) where
    first_within : (bs : Bindings) → AreWithin h by.depth facts (request_held (untold response.request) bs)
    first_within bs =
        subst (AreWithin h by.depth facts) (sym (held_so response.table q response.request response.is_request.holds facts served_first bs))
        (held_is_within by world facts q (told_in told) finite.empty (binding_of bs) h are_facts heights (extends_empty (told_in told)))

    -- the context is too high with what is told
    context_high : WrittenValuesAreGround → GroundTreesAreRestricted → (x : Written) (o : Option contexts.Context) (p : Either Value Tree) (error : EvaluationError) → IsData x → IsNamed x
        → context_asked (option_map context_part o) ≡ context_held facts finite.empty x → option_map context_part o ≡ Some p → TellsContext table depth told p (Err error) → failure_of error ≡ LimitMet
        → by.depth < context_height h x
    context_high written ground NoContext None p error given named e is tells met = cc
    context_high written ground NoContext (Some d) p error given named e is tells met = absurd (no_unknown_asked d _ (e ∙ nothing_held))
    context_high written ground (WithEntries ks ts) o (Left v) error given named e is tells met = absurd tells
    context_high written ground (WithEntries ks ts) o (Right t) error given named e is tells met =
        let left : ResidualTree t ≡ context_held facts finite.empty (WithEntries ks ts) = sym (ap context_asked is) ∙ e in
        let (plain, more) = record_deep c.plain c.apart c.stay c.tell facts good table depth served told (made_told facts served) ks ts given named t error left tells met in
        let (u, puts, deep) = more in
        let some_named = (first_within unbound).some_named in
        let named_low : (n : Text) → told_height (told_for told n) ≤ h.named n = λ n. subst (λ (v : Option Value). told_height v ≤ h.named n) (holds_told told n) (heights.value_told n) in
        let low = substituted_low h some_named told named_low written ground t u plain puts in
        elim (cases_lt by.depth (context_height h (WithEntries ks ts))) [
          | inl high ↦ high
          | inr fits ↦
              let within : grown h t ≤ context_height h (WithEntries ks ts) =
              subst (λ (a : PartialAnswer). grown_answer h a ≤ context_height h (WithEntries ks ts)) (sym left)
              (context_within by world q (told_in told) h heights facts are_facts finite.empty (extends_empty (told_in told)) (WithEntries ks ts) fits) in
              absurd (omega (arith, deep, low, within, now.setting.depth_is))
        ]

  module _ (again : PartialResponse) (r : IsReauthorized s table depth told first again) where
    pub held : request_held (record { request = r.request; told = told_for told }) unbound ≡ held_of facts q no_slots (told_in told)
    held = held_again by response.table q first.request.value asked response.named told are facts served_first c.plain c.apart c.stay c.tell good table depth served (made_told facts served) r.request r.concrete

    abbrev inquiry : Inquiry
    inquiry = record { request = r.request; told = told_for told }

    again_within : (h : Heights) → AreHeights by world q (told_in told) h → (bs : Bindings) → AreWithin h by.depth facts (request_held inquiry bs)
    again_within h heights bs =
        let within : AreWithin h by.depth facts (request_held inquiry unbound) =
        subst (AreWithin h by.depth facts) (sym held) (held_is_within by world facts q (told_in told) (told_in told) no_slots h are_facts heights (λ n v is. is)) in
        other_slots h by.depth facts (request_held inquiry unbound) (request_held inquiry bs) within (λ v. refl) (λ n ty. refl) (λ s. slot_within h (binding_of bs s))

    -- each evaluation of what is left is too deep
    module _ (conditions : LinkConditions) (alike : BoundTreesGrowAlike) (l : Kept) (in_later : IsAmong l r.kept) (met : l.found ≡ Erred LimitMet) (h : Heights) (heights : AreHeights by world q (told_in told) h) where
      pub too_deep : SomeGrowsTooHigh by world h
      too_deep =
          let (d, in_left, of_later) = kept_of inquiry s table depth (residuals_with is_any first) r.kept r.each l in_later in
          let (k, in_ks, left) = is_taken_up response.responds.kept first (true_kept response.responds.kept (holding_in first) response.responds.holds) d in_left in
          let (e, in_set, of) = kept_of (untold response.request) response.store response.table response.depth (policies_of response.policies) response.responds.kept response.responds.each k in_ks in
          let (at, policy) = is_bound response.policies response.whole e in_set in
          let calls : calls_unknown (condition_in d.1) ≡ false =
          ap (λ (x : Entry). calls_unknown (condition_in x)) left.policy ∙ clause_calls k.effect left.annotations (clause_of k.found)
          ∙ clause_calls_nothing c.plain c.finds by world facts are_facts q first response k in_ks e in_set of in
          let bs = bindings_in d.1 in
          let deep = of_later.limit met facts
          (record { entities = store_has_facts by world facts s are_facts now.shows now.closed now.whole; functions = served; names_nothing = names_nothing table (condition_in d.1) calls }) in
          let clause : grown h (condition_in d.1) ≤ suc (grown h (clause_of k.found)) =
          subst (λ (x : Entry). grown h (condition_in x) ≤ suc (grown h (clause_of k.found))) (sym left.policy)
          (clause_grows h by.depth facts (request_held inquiry bs) (again_within h heights bs) k.effect left.annotations (clause_of k.found)) in
          let before = first_within h heights (bindings_in e.1) in
          let so : grown h (condition (written_entry e.1)) ≡ grown h (condition_in e.1) = grown_as_written conditions alike h e.1 in
          let above : by.depth ≤ grown h (condition_in e.1) = elim (cases_lt (grown h (condition_in e.1)) by.depth) [
            | inl below ↦
                let found = found_grows h _ k.found (grown h (condition_in e.1)) (first_found c.plain c.finds by world facts are_facts q first response k in_ks e in_set of)
                (grows h by.depth facts (request_held (untold response.request) (bindings_in e.1)) before (condition_in e.1) (omega arith))
                (some_grown h by.depth facts (request_held (untold response.request) (bindings_in e.1)) before (condition_in e.1)) in
                let low = depth_grows h by.depth facts (request_held inquiry bs) (again_within h heights bs) (condition_in d.1) (omega (arith, clause, found)) in
                absurd (omega (arith, deep, low, clause, found, now.setting.depth_is))
            | inr above ↦ above
          ] in (
            e.0,
            written_entry e.1,
            is_in_force response.policies response.whole response.of.slots c.finds world response.of.policies e.0 e.1 at policy,
            omega (arith, above, so),
          )

    pub limits_high : LinkConditions → BoundTreesGrowAlike → SomeAtLimit (holding_in again).errors → (h : Heights) → AreHeights by world q (told_in told) h → SomeGrowsTooHigh by world h
    limits_high conditions alike (id, some) h heights =
        let (l, in_later, found) = limit_kept r.kept id (subst (λ errors. Contains errors (id, LimitMet)) (ap (λ (h : Holding). h.errors) r.holds) some) in
        too_deep conditions alike l in_later found h heights

  -- ---- what is answered

  module _ (d : AnswersRest) (again : PartialResponse) (r : IsReauthorized s table depth told first again) where
    not_failed : (f : Facts) → HasFunctions response.table f → HasFunctions table f → HoldsMade f → (k : Kind) → context_held f (told_in told) q.context ≡ Failed k → ⊥
    not_failed f of_first of_now made_f k e =
        asked_fails r.request.context k
        (variable_again by response.table q first.request.value asked response.named told are f of_first c.plain c.apart c.stay c.tell made_f table depth of_now (made_told f of_now) r.request r.concrete Context ∙ e)

    fine : context_errs by q.context (told_in told) ≡ false
    fine = errs_none q.context asked.is_data response.named (not_failed alone response.of.setting.functions now.setting.functions alone_good)

    accepted : IsAccepted facts (told_in told) q.context
    accepted = accepts_told d.prompt facts good (told_in told) (made_told facts served) q.context (not_failed facts served_first served good)

    module _ (listed : List (Text × ErrorKind)) (new : Answer) (says : SaysHeld (holding_in again) listed new) where
      errors : map with_failure listed ≡ errors_of r.kept
      errors = says.errors ∙ ap (λ (h : Holding). h.errors) r.holds

      settled : (k : Kept) → IsAmong k r.kept → is_settled k.found ≡ true
      settled = settled_listed listed r.kept says.kinds errors

      says_again : Says (map judged r.kept) new
      says_again =
          says_rules r.kept d.made
          (once_again c.plain c.finds by world facts are_facts q first response told r.request (held again r) s table depth (store_has_facts by world facts s are_facts now.shows now.closed now.whole) served r.kept r.each settled)
          new
          (says.decided ∙ ap (λ (h : Holding). decision (judged_held h)) r.holds)
          (says.must ∙ ap (λ (h : Holding). ids_of (ids_with (in_must (judged_held h)) (judged_held h))) r.holds)
          (says.may ∙ ap (λ (h : Holding). ids_of (ids_with (in_may (judged_held h)) (judged_held h))) r.holds)
          (says.erring ∙ ap finite.from_entries (errors_listed listed r.kept errors))

      -- and of the policies besides that weren't satisfied when the question was asked
      abbrev all_later : List Kept
      all_later = all_out response.responds.kept ++ r.kept

      says_all : Says (map judged all_later) new
      says_all = says_of_all d.nothing r.kept new says_again response.responds.kept

      -- until a name is told that stands in what is left of a policy, it says what was said
      stays : (old : List (RcStr Global × Value)) (last answer : Answer) → KeepsQuestion by world q first old last → Extends (told_in old) (told_in told) → IsJoined last new answer →
          LeftIsUntold (holding_in first) (told_in told) → answer ≡ last
      stays old last answer keeps extends joined still =
          let (said, says_first) = keeps.waits (left_before (told_in old) (told_in told) extends (holding_in first) still) in
          let kept_first = alike_first response.responds.kept (holding_in first) response.responds.holds in
          let later =
          alike_again c.plain c.finds by world facts are_facts q first response told r.request (held again r) s table depth
          (store_has_facts by world facts s are_facts now.shows now.closed now.whole) served r.kept r.each settled d.waits good asked.is_data still in
          let none =
          none_errs_again c.plain c.finds by world facts are_facts q first response told r.request (held again r) s table depth
          (store_has_facts by world facts s are_facts now.shows now.closed now.whole) served r.kept r.each settled d.waits good asked.is_data still in
          is_last d.made (holding_in first) (map judged r.kept) (alike_through _ _ _ kept_first later) none said last new answer says_first says_again joined

      pub is_answered : (old : List (RcStr Global × Value)) (last answer : Answer) → KeepsQuestion by world q first old last → Extends (told_in old) (told_in told) → IsJoined last new answer → IsAnsweredLater by world q first old told last answer
      is_answered old last answer keeps extends joined =
          let judges =
          judges_again c.plain c.finds by world facts are_facts q first response told r.request (held again r) s table depth (store_has_facts by world facts s are_facts now.shows now.closed now.whole) served r.kept r.each settled in
          let stands = d.later by world facts (record { question = q; told = told_in old; last = last }) (told_in told) (map judged all_later) new answer are_facts extends (made_told facts served) accepted keeps.steady
          (d.again by world facts q (told_in told) are_facts good (first_names c.plain c.finds by world facts are_facts q first response d.conditions) asked.is_data (asked.accepted facts served_first) (made_told facts served) accepted)
          judges says_all joined in
          let same = stays old last answer keeps extends joined in
          record {
            later = stands.later;
            keeps = record {
              response = response;
              are_told = are;
              steady = stands.steady;
              waits = λ still. subst (λ (a : Answer). (listed : List (Text × ErrorKind)) × SaysHeld (holding_in first) listed a) (sym (same still)) (keeps.waits (left_before (told_in old) (told_in told) extends (holding_in first) still));
            };
            fine = fine;
            waits = same;
            joins = (new, rules_list world (StandsAgain world.policies facts q (told_in told)) (map judged all_later) new judges says_all, joined);
          }

  -- ---- why nothing is answered

  conflicts_none : first_conflict (told_for told) (request_asked first) ≡ None
  conflicts_none = no_conflicts by response.table q first.request.value asked response.named told are facts served_first

  written_errs : (x : Written) (o : Option contexts.Context) (p : Either Value Tree) (error : EvaluationError) (k : Kind) → IsData x → IsNamed x → context_asked (option_map context_part o) ≡ context_held alone finite.empty x →
      option_map context_part o ≡ Some p → TellsContext table depth told p (Err error) → failure_of error ≡ OfKind k → context_errs by x (told_in told) ≡ true
  written_errs NoContext None p error k given named e is tells of = cc
  written_errs NoContext (Some d) p error k given named e is tells of = absurd (no_unknown_asked d _ (e ∙ nothing_held))
  written_errs (WithEntries ks ts) o p error k given named e is tells of =
      c.parts.fails by (told_in told) ks ts given (uncalled ks ts named) k
      (context_fails c.plain c.apart c.stay c.tell alone alone_good table depth now.setting.functions told (made_told alone now.setting.functions) ks ts given named p (sym (ap context_asked is) ∙ e) error k tells of)

  -- a context that meets the limit names an unknown: a value isn't evaluated again
  context_open : KnownIsNeverLeft → (x : Written) (o : Option contexts.Context) (p : Either Value Tree) (error : EvaluationError) → IsData x
      → context_asked (option_map context_part o) ≡ context_held alone finite.empty x → option_map context_part o ≡ Some p → TellsContext table depth told p (Err error)
      → names_some x ≡ true
  context_open never NoContext None p error given e is tells = cc
  context_open never NoContext (Some d) p error given e is tells = absurd (no_unknown_asked d _ (e ∙ nothing_held))
  context_open never (WithEntries ks ts) o (Left v) error given e is tells = absurd tells
  context_open never (WithEntries ks ts) o (Right t) error given e is tells =
      names_left never alone ks ts given (some_name_of (λ n. true) ts) refl t (sym (ap context_asked is) ∙ e)

  context_failure : KnownIsNeverLeft → WrittenValuesAreGround → GroundTreesAreRestricted → (p : Either Value Tree) (error : EvaluationError) → (request_asked first).context ≡ Some p → TellsContext table depth told p (Err error) → (f : Failure) → failure_of error ≡ f → IsContextFailure by world q told f
  context_failure never written ground p error is tells (OfKind k) of = written_errs q.context first.request.value.context p error k asked.is_data response.named (asked.holds alone response.of.setting.functions Context) is tells of
  context_failure never written ground p error is tells LimitMet of =
      let named = context_open never q.context first.request.value.context p error asked.is_data (asked.holds alone response.of.setting.functions Context) is tells in (
        named,
        λ h heights. (
          named,
          context_high h heights written ground q.context first.request.value.context p error asked.is_data response.named (asked.holds facts served_first Context) is tells of,
        ),
      )
  context_failure never written ground p error is tells MemoryRanOut of = tt

  refused_by : KnownIsNeverLeft → WrittenValuesAreGround → GroundTreesAreRestricted → (e : ConcretizationError) → IsRefused table depth told (request_asked first) e → IsWhyNotTold by world q told (reauthorization.ConcretizationError e)
  refused_by never written ground (concretization.ValueError name kind given) (v, h, is) = not_both _ _ conflicts_none h.first
  refused_by never written ground (concretization.VarConfictError name existing given) (v, h, is) = not_both _ _ conflicts_none h.first
  refused_by never written ground (concretization.EntityTypeConfictError name existing given) (v, h, is) = not_both _ _ conflicts_none h.first
  refused_by never written ground (concretization.ValueEval error) (none, errs) = let (p, is, tells) = errs in context_failure never written ground p error is tells (failure_of error) refl
  refused_by never written ground (concretization.Memory error) h = tt

  pub is_refused : KnownIsNeverLeft → WrittenValuesAreGround → GroundTreesAreRestricted → (e : ReauthorizationError) → Reauthorizes s table depth told first (Err e) → IsWhyNotTold by world q told e
  is_refused never written ground (reauthorization.PolicySetError (adding.Occupied id)) h = not_apart (keys_of (residuals_with is_any first)) id h response.responds.apart
  is_refused never written ground (reauthorization.PolicySetError (adding.Memory e)) h = absurd h
  is_refused never written ground (reauthorization.ConcretizationError error) h = refused_by never written ground error h.1
  is_refused never written ground (reauthorization.Memory error) h = tt
