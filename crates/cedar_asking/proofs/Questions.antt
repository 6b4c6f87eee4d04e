-- A question that was just asked is kept: its first answer stays true, whatever is told later.
use Rattle.std.proofs.Common.{◌≡◌, ◌∙◌, ap, sym, subst, true, Option, Some, None, [], map, Contains}
use Rattle.std.specs.FinMap as finite
use Rattle.cedar_grammar.specs.Laws.{LinkConditions}
use Rattle.cedar_language.specs.Facts.{Facts}
use Rattle.cedar_partial_evaluation.specs.LinkingEarly.{LinkingIsWritingEarly}
use Rattle.cedar_world.specs.Again.{EarlyStaysSound}
use Rattle.cedar_world.specs.Joined.{FirstAnswersAreSteady}
use Rattle.cedar_world.specs.Asking.{Question}
use Rattle.cedar_world.specs.Standing.{AnswersAreMade}
use Rattle.cedar_world.specs.WorldFacts.{AreFactsOf, facts_of, WorldsHaveFacts}
use Rattle.cedar_extensions.specs.Failures.{LimitMet}
use Rattle.cedar_interpreter.specs.Operating.{HasFunctions}
use Rattle.cedar_operators.specs.Store.{HasFacts}
use Rattle.cedar_held.specs.PolicyWorlds.{FindsAsWorlds}
use Rattle.cedar_evaluator.specs.Evaluations.{Kept, Erred}
use Rattle.cedar_evaluator.specs.Responses.{Holding, errors_of, holding_of}
use Rattle.cedar_evaluator.proofs.Standings.{judged, is_settled}
use Rattle.cedar_asking.specs.Erring.{with_failure}
use Rattle.cedar_asking.specs.Keeping.{AreTold}
use Rattle.cedar_asking.specs.Laws.{SaysHeld}
use Rattle.cedar_asking.specs.TellLaws.{QuestionsAreKept}
use Rattle.cedar_asking.proofs.Errors.{errors_listed, settled_listed, limit_kept}
use Rattle.cedar_asking.proofs.Facts.{store_has_facts, table_is_served, facts_are_made}
use Rattle.cedar_asking.proofs.Firsts.{names_none, judges, once}
use Rattle.cedar_asking.proofs.Sayings.{says_rules}
use Rattle.cedar_asking.proofs.WithoutFalse.{says_with_all}

none_is_told : {A : Type 0} (x : A) → ◌≡◌ {A = Option A} None (Some x) → ⊥
none_is_told x e = cc

nothing_told : (q : Question) → AreTold q []
nothing_told q = record {
  built = λ n v e. absurd (none_is_told v e);
  named = λ n v e. absurd (none_is_told v e);
  fit = λ n v e. absurd (none_is_told v e);
}

unsettled : (k : Kept) → k.found ≡ Erred LimitMet → is_settled k.found ≡ true → ⊥
unsettled k e h = let no : is_settled (Erred LimitMet) ≡ true = sym (ap is_settled e) ∙ h in cc

module _ (exist : WorldsHaveFacts) (early : LinkingIsWritingEarly) (conditions : LinkConditions) (finds : FindsAsWorlds) (made : AnswersAreMade) (sound : EarlyStaysSound) (steady : FirstAnswersAreSteady) where
  pub questions_are_kept : QuestionsAreKept
  questions_are_kept by world q es s table depth r first listed answer gives whole are asked named responds says =
      let facts : Facts = facts_of by world in
      let are_facts : AreFactsOf by world facts = exist.exist by world in
      let has : HasFacts s facts = store_has_facts by world facts s are_facts are.shows are.closed are.whole in
      let served : HasFunctions table facts = table_is_served by world facts table are_facts are.setting.functions in
      let good = facts_are_made by world facts table gives served are.built are_facts in
      let kept_says : SaysHeld (holding_of responds.kept) listed answer = says_with_all (holding_of responds.kept) listed answer (subst (λ (h : Holding). SaysHeld h listed answer) responds.holds says) in
      let errors : map with_failure listed ≡ errors_of responds.kept = kept_says.errors in
      let settled = settled_listed listed responds.kept says.kinds errors in
      let names = names_none r s table depth early conditions es whole are.slots are.names finds responds.kept responds.each by world are.policies facts has served q asked in
      let judged_first = judges r s table depth early conditions es whole are.slots are.names finds responds.kept responds.each by world are.policies facts has served q asked settled in
      let once_first = once r s table depth early conditions es whole are.slots are.names finds responds.kept responds.each by world are.policies facts has served q asked settled in
      let says_first = says_rules responds.kept made once_first answer kept_says.decided kept_says.must kept_says.may (says.erring ∙ ap finite.from_entries (errors_listed listed responds.kept errors)) in
      record {
        response = record {
          policies = es;
          store = s;
          table = table;
          depth = depth;
          request = r;
          gives = gives;
          whole = whole;
          of = are;
          is_request = asked;
          named = named;
          responds = responds;
          within = λ some.
              let (k, among, found) = limit_kept responds.kept some.0 (subst (λ errors. Contains errors (some.0, LimitMet)) (ap (λ (h : Holding). h.errors) responds.holds) some.1) in
              unsettled k found (settled k among);
        };
        are_told = nothing_told q;
        steady = steady by world facts q (map judged responds.kept) answer are_facts (sound by world facts q are_facts good names asked.is_data (asked.accepted facts served)) judged_first says_first;
        waits = λ still. (listed, says);
      }
