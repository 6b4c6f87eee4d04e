-- What the rules say of the policies in force, as they stand when a question is asked, is a first answer.
use Rattle.std.proofs.Common.{◌≡◌, inl, inr, false, List, Some, ◌∙◌, subst}
use Rattle.std.specs.FinMap as finite
use Rattle.cedar_language.specs.Uid.{Text}
use Rattle.cedar_language.specs.Value.{Kind, Outcome}
use Rattle.cedar_language.specs.Facts.{Facts}
use Rattle.cedar_language.specs.Answering.{Standing, Erring, is_residual, Judged, ComesTo}
use Rattle.cedar_language.specs.Authorization.{Known, standing_of}
use Rattle.cedar_partial_evaluation.specs.Filling as early
use Rattle.cedar_partial_evaluation.specs.Errors.{SettlingIsOne}
use Rattle.cedar_partial_evaluation.specs.Leaves.{MentionedIsMeant}
use Rattle.cedar_partial_evaluation.specs.Question.{Extends}
use Rattle.cedar_grammar.specs.Syntax.{PolicySyntax, condition}
use Rattle.cedar_world.specs.Answer.{Answer}
use Rattle.cedar_world.specs.World.{World, in_force_at}
use Rattle.cedar_world.specs.Asking.{Question, Told}
use Rattle.cedar_world.specs.Question.{IsKnown}
use Rattle.cedar_world.specs.Setting.{Setting, functions_alone, means, Settles}
use Rattle.cedar_world.specs.Answers.{known_answer, SaysDecided, SaysKinds}
use Rattle.cedar_world.specs.Standing.{StandsSoFar, still_open, decided, Judges, Says}
use Rattle.cedar_world.specs.Step.{IsFirstAnswer}
use Rattle.cedar_world.specs.Sound.{Becomes, ErrsOrErred}
use Rattle.cedar_world.specs.Again.{NoneErred}
use Rattle.cedar_world.specs.WorldFacts.{AreFactsOf}
use Rattle.cedar_world.specs.First.{IsData, HasRequest, NamesNoUnknown, FirstAnswersStand}
use Rattle.cedar_world.proofs.WorldFacts.{facts_are_one}
use Rattle.cedar_world.proofs.Ids.{has_failed}
use Rattle.cedar_world.proofs.Leaves.{mentions_known}
use Rattle.cedar_world.proofs.Fillings.{filling_there}
use Rattle.cedar_world.proofs.Standings.{standing_comes, one_standing, standing_known}
use Rattle.cedar_world.proofs.Closed.{whole, whole_closed, is_theirs}
use Rattle.cedar_world.proofs.Unsatisfied.{said_with_them}
use Rattle.cedar_world.proofs.Beside.{there, here, alike_as_judged}
use Rattle.cedar_world.proofs.Allowed.{SaysSo, says_so}
use Rattle.cedar_world.proofs.Steady.{is_fair, names_no_ghosts}

-- ways in which policies stand to a question, of which the rules make a first answer
pub record IsSound (by : Setting) (world : World) (facts : Facts) (q : Question) (Stands : PolicySyntax → Standing → Type 0) : Type 0 where
  -- it holds under each filling
  pub fair : (id : Text) (s : PolicySyntax) → in_force_at world.policies id ≡ Some s → (standing : Standing) → Stands s standing
      → (filling : Told) (request : Known) → Extends finite.empty filling → early.IsFilling (functions_alone by.functions) q filling request → Becomes standing (standing_of (means facts request (condition s)))
  -- it comes to what the condition settles to
  pub comes : (id : Text) (s : PolicySyntax) → in_force_at world.policies id ≡ Some s → (result : Outcome) → Settles facts q finite.empty (condition s) result → (standing : Standing) → Stands s standing → ComesTo standing (standing_of result)
  -- .. and isn't left open, or without an error, where that isn't
  pub sharp : (id : Text) (s : PolicySyntax) → in_force_at world.policies id ≡ Some s → (result : Outcome) → Settles facts q finite.empty (condition s) result → (standing : Standing) → Stands s standing
      → (is_residual standing ≡ false) × ((k : Kind) → standing_of result ≡ Erring k → ErrsOrErred standing (NoneErred s))
  -- where the condition settles to an error, it errs with a kind to which it settles
  pub kinds : (s : PolicySyntax) (result : Outcome) (k l : Kind) → Settles facts q finite.empty (condition s) result → standing_of result ≡ Erring k → Stands s (Erring l)
      → (other : Outcome) × Settles facts q finite.empty (condition s) other × (standing_of other ≡ Erring l)
  -- where nothing is unknown, it is how the policy stands to the known question
  pub exact : (id : Text) (s : PolicySyntax) → in_force_at world.policies id ≡ Some s → IsKnown q → (request : Known) → early.IsFilling (functions_alone by.functions) q finite.empty request
      → (standing : Standing) → Stands s standing → standing_of (means facts request (condition s)) ≡ standing

-- in whatever sound way the policies stand
module _ (by : Setting) (world : World) (facts : Facts) (q : Question) (Stands : PolicySyntax → Standing → Type 0) (js : List Judged) (answer : Answer) (sound : IsSound by world facts q Stands) (are : AreFactsOf by world facts)
    (judges : Judges world Stands js) (says : Says js answer) where
  -- with nothing unknown they are judged as for the known answer
  is_known : IsKnown q → (request : Known) → early.IsFilling (functions_alone by.functions) q finite.empty request → answer ≡ known_answer by world facts request
  is_known known request fills =
      let alike = alike_as_judged world Stands js judges facts request (λ id s force standing stands. sound.exact id s force known request fills standing stands) in
      is_theirs (whole world facts request) (whole_closed world facts request) answer (said_with_them js (whole world facts request) alike.there (λ j a. inl (alike.back j a)) answer says)

  decided_too : SaysDecided by world facts q finite.empty answer
  decided_too =
      let so : SaysSo by world facts q finite.empty NoneErred answer = says_so by world facts q finite.empty Stands js judges sound.comes NoneErred sound.sharp answer says in
      record {
        denies = so.denies;
        denies_too = so.denies_too;
        allows = so.allows;
        must_forbids = so.must_forbids;
        must_permits = so.must_permits;
        may_not = so.may_not;
        may_forbids = so.may_forbids;
        erring = λ id effect k d. elim (so.erring id effect k d) [
          | inl e ↦ e
          | inr e ↦ absurd e
        ];
      }

  -- a policy that errs is told, with the kind as which it is judged
  errs_told : SaysKinds by world facts q finite.empty answer
  errs_told id effect k d =
      let (j, a, is) = there world Stands js judges id d.syntax d.in_force in
      let h = here world Stands js judges j a id is d.syntax d.in_force in
      elim ((sound.sharp id d.syntax d.in_force d.result d.settles j.standing h.stands).1 k d.standing_is) [
        | inl (l, errs) ↦
            let (other, settles, standing) = sound.kinds d.syntax d.result k l d.settles d.standing_is (subst (Stands d.syntax) errs h.stands) in (
              l,
              (says.erring id l).1 (has_failed js id l (record { policy = j; among = a; id_is = is; errs = errs })),
              record { syntax = d.syntax; in_force = d.in_force; effect_is = d.effect_is; result = other; settles = settles; standing_is = standing },
            )
        | inr e ↦ absurd e
      ]

  pub sound_answers_stand : HasRequest by q → IsFirstAnswer by world q answer
  sound_answers_stand has_request = record {
    known = λ known.
        let (request, fills) = has_request known in
        (request, fills, record { facts = facts; facts_are = are; is = is_known known request fills.fills });
    fair = is_fair by world facts are q finite.empty Stands sound.fair js judges answer says;
    prompt = λ other other_are. subst (λ f. SaysDecided by world f q finite.empty answer) (facts_are_one by world facts other are other_are) decided_too;
    kinds = λ other other_are. subst (λ f. SaysKinds by world f q finite.empty answer) (facts_are_one by world facts other are other_are) errs_told;
    in_force = names_no_ghosts world Stands js judges answer says by;
  }

-- ---- as what is settled says

settled_kinds : (facts : Facts) (q : Question) (s : PolicySyntax) (standing : Standing) (l : Kind) → standing ≡ Erring l → StandsSoFar facts q finite.empty s standing
    → (other : Outcome) × Settles facts q finite.empty (condition s) other × (standing_of other ≡ Erring l)
settled_kinds facts q s _ l e (still_open o) = cc
settled_kinds facts q s standing l e (decided result settles gives) = (result, settles, gives ∙ e)

settled_is_sound : SettlingIsOne → MentionedIsMeant → (by : Setting) (world : World) (facts : Facts) (q : Question) → AreFactsOf by world facts → NamesNoUnknown world → IsData q.context
    → IsSound by world facts q (StandsSoFar facts q finite.empty)
settled_is_sound one mentioned by world facts q are closed of_data = record {
  fair = λ id s force standing stands filling request extends fills. standing_comes facts q filling request (filling_there facts (functions_alone by.functions) are.function q filling request fills) one s standing (closed id s force) stands;
  comes = λ id s force result settles standing stands. (one_standing one facts q finite.empty s result settles standing stands).0;
  sharp = λ id s force result settles standing stands.
      let (comes, not_left, errs) = one_standing one facts q finite.empty s result settles standing stands in
      (not_left, λ k h. inl (errs k h));
  kinds = λ s result k l settles errs stands. settled_kinds facts q s (Erring l) l (λ i. Erring l) stands;
  exact = λ id s force known request fills standing stands.
      standing_known one mentioned facts q request (mentioned.fillings facts q finite.empty request (filling_there facts (functions_alone by.functions) are.function q finite.empty request fills)) s standing
      (mentions_known q of_data known s (closed id s force)) stands;
}

pub first_answers_stand : SettlingIsOne → MentionedIsMeant → FirstAnswersStand
first_answers_stand one mentioned by world facts q js answer are closed of_data has_request judges says =
    sound_answers_stand by world facts q (StandsSoFar facts q finite.empty) js answer (settled_is_sound one mentioned by world facts q are closed of_data) are judges says has_request
