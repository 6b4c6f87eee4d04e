-- What the rules say of policies that are taken up again, joined with the last answer, is the answer once more is told.
use Rattle.std.proofs.Common.{◌≡◌, inl, inr, is_some, IsTrue, IsSome, List, sym, ◌∙◌, subst}
use Rattle.std.specs.Cmp.{both_ways}
use Rattle.std.specs.FinMap as finite
use Rattle.cedar_language.specs.Uid.{Text}
use Rattle.cedar_language.specs.Value.{Kind}
use Rattle.cedar_language.specs.Facts.{Facts}
use Rattle.cedar_language.specs.Answering.{Effect, Erring, Standing, Judged}
use Rattle.cedar_language.specs.Authorization.{Known}
use Rattle.cedar_partial_evaluation.specs.Question.{Extends, AreMadeTold, IsAccepted}
use Rattle.cedar_world.specs.Answer.{has_id, Answer}
use Rattle.cedar_grammar.specs.Syntax.{PolicySyntax}
use Rattle.cedar_world.specs.World.{World, Asked}
use Rattle.cedar_world.specs.Asking.{Told}
use Rattle.cedar_world.specs.Setting.{Setting}
use Rattle.cedar_world.specs.Fillings.{IsFilling}
use Rattle.cedar_world.specs.Answers.{known_answer, HoldsOf, IsSameButKinds, IsFair, IsWhole, IsDecided, SaysDecided, IsPromptButKinds}
use Rattle.cedar_world.specs.Standing.{Judges, Says}
use Rattle.cedar_world.specs.WorldFacts.{AreFactsOf}
use Rattle.cedar_world.specs.Sound.{IsSoundLater}
use Rattle.cedar_world.specs.Again.{StandsAgain, ErredFirst}
use Rattle.cedar_world.specs.Joined.{IsJoined, Allows, IsSteady, StandsLater, LaterAnswersStand}
use Rattle.cedar_world.proofs.WorldFacts.{facts_are_one}
use Rattle.cedar_world.proofs.Ids.{same_ids}
use Rattle.cedar_world.proofs.Beside.{holds}
use Rattle.cedar_world.proofs.Allowed.{allowed as new_allows, SaysSo, says_so}
use Rattle.cedar_world.proofs.Whole.{IsAll, says_all}
use Rattle.cedar_world.proofs.Steady.{known_is, names_no_ghosts, is_fair}
use Rattle.cedar_world.proofs.Joined.{may_cases, some_decision, denied, allowed, new_must, last_error, new_error, joined_follows, joined_holds, joined_names, joined_allows}

module _ (by : Setting) (world : World) (facts : Facts) (asked : Asked) (told : Told) (Stands : PolicySyntax → Standing → Type 0) (js : List Judged) (new answer : Answer)
    (are : AreFactsOf by world facts) (more : Extends asked.told told) (made : AreMadeTold facts told) (accepted : IsAccepted facts told asked.question.context)
    (steady : IsSteady by world facts asked.question asked.told asked.last) (sound : IsSoundLater by world facts asked.question told Stands (ErredFirst facts asked.question))
    (judges : Judges world Stands js) (says : Says js new) (joined : IsJoined asked.last new answer) where
  abbrev Erred : PolicySyntax → Type 0
  Erred = ErredFirst facts asked.question

  new_is_fair : IsFair by world asked.question told new
  new_is_fair = is_fair by world facts are asked.question told Stands sound.fair js judges new says

  last_is_fair : IsFair by world asked.question told asked.last
  last_is_fair filling request whole agrees known = steady.fair filling request whole (record { filling_is = agrees.filling_is; keeps = λ n v h. agrees.keeps n v (more n v h) }) known

  fair : IsFair by world asked.question told answer
  fair filling request whole agrees known =
      joined_holds asked.last new answer joined whole (last_is_fair filling request whole agrees known) (new_is_fair filling request whole agrees known)

  -- ---- what is decided

  said : SaysSo by world facts asked.question told Erred new
  said =
      says_so by world facts asked.question told Stands js judges
      (λ id s force result settles standing stands. (sound.carried told (λ n v e. e) made accepted id s force result settles standing stands).0) Erred sound.sharp new says

  last_allows : Allows by world facts asked.question told asked.last
  last_allows = steady.stays told more made accepted

  errs : (id : Text) (effect : Effect) (k : Kind) → IsDecided by world facts asked.question told id effect (Erring k) → IsSome (finite.get answer.erring id)
  errs id effect k d =
      elim (said.erring id effect k d) [
        | inl e ↦ new_error asked.last new answer joined id e
        | inr e ↦ last_error asked.last new answer joined id (steady.erred id d.syntax d.in_force e)
      ]

  says_decided : SaysDecided by world facts asked.question told answer
  says_decided = record {
    denies = λ s. denied asked.last new answer joined (last_allows.denies s) (said.denies s);
    denies_too = λ out. denied asked.last new answer joined (last_allows.denies_too out) (said.denies_too out);
    allows = λ out s. allowed asked.last new answer joined (last_allows.allows out s) (said.allows out s);
    must_forbids = λ id d. new_must asked.last new answer joined id (last_allows.forbids_may id d) (said.must_forbids id d);
    must_permits = λ out id d. new_must asked.last new answer joined id (last_allows.permits_may out id d) (said.must_permits out id d);
    may_not = λ id effect o h.
        elim (may_cases asked.last new answer joined id h) [
          | inl e ↦ said.may_not id effect o e
          | inr (inl e) ↦ last_allows.must_not id effect o e
          | inr (inr e) ↦ said.may_not id effect o (new_within id e)
        ];
    may_forbids = λ some id s force e h.
        elim (may_cases asked.last new answer joined id h) [
          | inl m ↦ said.may_forbids some id s force e m
          | inr (inl m) ↦ last_allows.forbids_must some id s force e m
          | inr (inr m) ↦ said.may_forbids some id s force e (new_within id m)
        ];
    erring = errs;
  }
    where
      new_within : (id : Text) → IsTrue (has_id new.must id) → IsTrue (has_id new.may id)
      new_within = (names_no_ghosts world Stands js judges new says by).must

  prompt : IsPromptButKinds by world asked.question told answer
  prompt other other_are = subst (λ f. SaysDecided by world f asked.question told answer) (facts_are_one by world facts other are other_are) says_decided

  -- ---- once all is told

  module _ (request : Known) (fills : IsFilling by asked.question told request) (old : HoldsOf asked.last (known_answer by world facts request)) where
    abbrev all : Answer
    all = known_answer by world facts request

    now : HoldsOf new all
    now = holds world Stands js judges facts request (λ id s force standing stands. sound.fair id s force standing stands told request (λ n v h. h) fills.fills) by new says

    both : HoldsOf answer all
    both = joined_holds asked.last new answer joined all old now

    exact : IsAll world Erred new all
    exact = says_all by world facts asked.question told Stands Erred sound js judges request fills.fills new says

    same_decision : answer.decision ≡ all.decision
    same_decision = let (d, is) = some_decision asked.last new answer joined exact.decision.0 exact.decision.1 in is ∙ sym (both.decision d is)

    may_within : (id : Text) → IsTrue (has_id answer.may id) → IsTrue (has_id all.may id)
    may_within id h =
        elim (may_cases asked.last new answer joined id h) [
          | inl e ↦ now.must id (exact.may id e)
          | inr (inl e) ↦ old.must id e
          | inr (inr e) ↦ now.must id e
        ]

    must_back : (id : Text) → IsTrue (has_id all.must id) → IsTrue (has_id answer.must id)
    must_back id h = new_must asked.last new answer joined id (old.may id h) (exact.may id (now.may id h))

    all_told : (id : Text) → IsSome (finite.get all.erring id) → IsSome (finite.get answer.erring id)
    all_told id h =
        elim (exact.erring id h) [
          | inl e ↦ new_error asked.last new answer joined id e
          | inr (s, force, erred) ↦ last_error asked.last new answer joined id (steady.erred id s force erred)
        ]

    same : IsSameButKinds answer all
    same = record {
      decision = same_decision;
      must = same_ids answer.must all.must both.must must_back;
      may = same_ids answer.may all.may may_within both.may;
      erring = λ id. both_ways (is_some (finite.get answer.erring id)) (is_some (finite.get all.erring id)) (both.erring id) (all_told id);
    }

  whole : IsWhole by world asked.question told answer
  whole request found fills known =
      let is : found ≡ known_answer by world facts request = known_is by world facts are request found known in
      let old : HoldsOf asked.last found = last_is_fair told request found (record { filling_is = fills; keeps = λ n v h. h }) known in
      subst (IsSameButKinds answer) (sym is) (same request fills (subst (HoldsOf asked.last) is old))

  -- ---- whatever is told besides

  stays : (later : Told) → Extends told later → AreMadeTold facts later → IsAccepted facts later asked.question.context → Allows by world facts asked.question later answer
  stays later further later_made later_accepted =
      joined_allows asked.last new answer joined by world facts asked.question later (steady.stays later (λ n v h. further n v (more n v h)) later_made later_accepted)
      (new_allows by world facts asked.question later Stands js judges
      (λ id s force result settles standing stands. (sound.carried later further later_made later_accepted id s force result settles standing stands).0) new says)

  pub stands : StandsLater by world facts asked told answer
  stands =
      let in_force = joined_names asked.last new answer joined by world steady.in_force (names_no_ghosts world Stands js judges new says by) in
      record {
        later = record { follows = joined_follows asked.last new answer joined steady.in_force.must; fair = fair; prompt = prompt; whole = whole; in_force = in_force };
        steady = record { fair = fair; in_force = in_force; erred = λ id s force erred. last_error asked.last new answer joined id (steady.erred id s force erred); stays = stays };
      }

pub later_answers_stand : LaterAnswersStand
later_answers_stand by world facts asked told js new answer are more made accepted steady sound judges says joined =
    stands by world facts asked told (StandsAgain world.policies facts asked.question told) js new answer are more made accepted steady sound judges says joined
