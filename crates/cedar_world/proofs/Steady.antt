-- What the rules say of policies stays true, and names what is in force alone.
use Rattle.std.proofs.Common.{◌≡◌, Bool, true, false, cond, ◌||◌, List, Some, is_some, IsSome, refl, sym, ◌∙◌, ap, subst, true≢false}
use Rattle.std.specs.FinMap as finite
use Rattle.cedar_language.specs.Uid.{Text}
use Rattle.cedar_language.specs.Facts.{Facts}
use Rattle.cedar_language.specs.Answering.{Standing, Judged, satisfied_forbid, satisfied_permit, residual_forbid, residual_permit, some, in_must, in_may}
use Rattle.cedar_language.specs.Authorization.{Known, standing_of}
use Rattle.cedar_partial_evaluation.specs.Filling as early
use Rattle.cedar_partial_evaluation.specs.Question.{Extends}
use Rattle.cedar_grammar.specs.Syntax.{PolicySyntax, condition}
use Rattle.cedar_world.specs.Answer.{Answer}
use Rattle.cedar_world.specs.World.{World, in_force_at}
use Rattle.cedar_world.specs.Asking.{Question, Told}
use Rattle.cedar_world.specs.Setting.{Setting, functions_alone, means}
use Rattle.cedar_world.specs.Answers.{known_answer, HoldsOf, IsFair, IsKnownAnswer, NamesNoGhosts}
use Rattle.cedar_world.specs.Standing.{StandsEarly, Judges, Says}
use Rattle.cedar_world.specs.WorldFacts.{AreFactsOf}
use Rattle.cedar_world.specs.Sound.{Becomes}
use Rattle.cedar_world.specs.Joined.{FirstAnswersAreSteady}
use Rattle.cedar_world.proofs.Lists.{IsAmong, some_of}
use Rattle.cedar_world.proofs.WorldFacts.{facts_are_one}
use Rattle.cedar_world.proofs.Ids.{the_value, HasPassed, passed, has_passed, failed, has_failed}
use Rattle.cedar_world.proofs.Beside.{judged, there, here, holds}
use Rattle.cedar_world.proofs.Allowed.{allowed}

-- the facts of a world are one, so a known answer is this one
pub known_is : (by : Setting) (world : World) (facts : Facts) → AreFactsOf by world facts → (request : Known) (answer : Answer) (known : IsKnownAnswer by world request answer)
    → answer ≡ known_answer by world facts request
known_is by world facts are request answer known = known.is ∙ ap (λ f. known_answer by world f request) (facts_are_one by world known.facts facts known.facts_are are)

module _ (world : World) (Stands : PolicySyntax → Standing → Type 0) (js : List Judged) (judges : Judges world Stands js) where
  in_force_still : (j : Judged) → IsAmong j js → (id : Text) → j.id ≡ id → IsSome (in_force_at world.policies id)
  in_force_still j a id is = ap is_some (ap (in_force_at world.policies) (sym is) ∙ (judged world Stands js judges j a).in_force)

  -- a reason whatever the open policies come to can be one
  must_may : (id : Text) → HasPassed js (in_must js) id → HasPassed js (in_may js) id
  must_may id h = record { policy = h.policy; among = h.among; id_is = h.id_is; passes = by_forbids (some satisfied_forbid js) (some residual_forbid js) refl h.passes }
    where
      by_forbids : (sf rf : Bool) → some satisfied_forbid js ≡ sf → cond (sf || rf) (satisfied_forbid h.policy) (satisfied_permit h.policy) ≡ true →
          cond sf (satisfied_forbid h.policy || residual_forbid h.policy) (satisfied_permit h.policy || residual_permit h.policy || residual_forbid h.policy) ≡ true
      by_forbids true rf is e = rw e refl
      by_forbids false false is e = rw e refl
      by_forbids false true is e = absurd (true≢false (sym (some_of satisfied_forbid js h.policy h.among e) ∙ is))

  module _ (answer : Answer) (says : Says js answer) where
    errs_in_force : (id : Text) → IsSome (finite.get answer.erring id) → IsSome (in_force_at world.policies id)
    errs_in_force id h =
        let (k, is) = the_value (finite.get answer.erring id) h in
        let erred = failed js id k ((says.erring id k).0 is) in
        in_force_still erred.policy erred.among id erred.id_is

    pub names_no_ghosts : (by : Setting) → NamesNoGhosts by world answer
    names_no_ghosts by = record {
      must = λ id h. (says.may id).1 (has_passed js (in_may js) id (must_may id (passed js (in_must js) id ((says.must id).0 h))));
      may = λ id h. let p = passed js (in_may js) id ((says.may id).0 h) in in_force_still p.policy p.among id p.id_is;
      erring = errs_in_force;
    }

module _ (by : Setting) (world : World) (facts : Facts) (are : AreFactsOf by world facts) (q : Question) (told : Told) (Stands : PolicySyntax → Standing → Type 0)
    (fair : (id : Text) (s : PolicySyntax) → in_force_at world.policies id ≡ Some s → (standing : Standing) → Stands s standing
    → (filling : Told) (request : Known) → Extends told filling → early.IsFilling (functions_alone by.functions) q filling request → Becomes standing (standing_of (means facts request (condition s))))
    (js : List Judged) (judges : Judges world Stands js) (answer : Answer) (says : Says js answer) where
  pub is_fair : IsFair by world q told answer
  is_fair filling request whole agrees known =
      subst (HoldsOf answer) (sym (known_is by world facts are request whole known))
      (holds world Stands js judges facts request (λ id s force standing stands. fair id s force standing stands filling request agrees.keeps agrees.filling_is.fills) by answer says)

pub first_answers_are_steady : FirstAnswersAreSteady
first_answers_are_steady by world facts q js answer are sound judges says = record {
  fair = is_fair by world facts are q finite.empty (StandsEarly facts q finite.empty) sound.fair js judges answer says;
  in_force = names_no_ghosts world (StandsEarly facts q finite.empty) js judges answer says by;
  erred = λ id s force erred.
      let (j, a, is) = there world (StandsEarly facts q finite.empty) js judges id s force in
      let (k, errs) = erred in
      let h = here world (StandsEarly facts q finite.empty) js judges j a id is s force in
      ap is_some ((says.erring id k).1 (has_failed js id k (record { policy = j; among = a; id_is = is; errs = h.stands ∙ sym errs })));
  stays = λ later more made accepted.
      allowed by world facts q later (StandsEarly facts q finite.empty) js judges
      (λ id s force result settles standing stands. (sound.carried later more made accepted id s force result settles standing stands).0) answer says;
}
