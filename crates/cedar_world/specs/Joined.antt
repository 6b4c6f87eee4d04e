-- Answers that are joined along tells, and what stays true of them.
use Rattle.std.specs.Prelude.{◌≡◌, ◌&&◌, ◌||◌, Some, IsTrue, IsSome, List}
use Rattle.std.specs.Option.{option_or}
use Rattle.std.specs.FinMap as finite
use Rattle.cedar_language.specs.Uid.{Text}
use Rattle.cedar_language.specs.Facts.{Facts}
use Rattle.cedar_language.specs.Answering.{Effect, Permit, Forbid, Allow, Deny, Satisfied, Judged, kept}
use Rattle.cedar_partial_evaluation.specs.Question.{Extends, AreMadeTold, IsAccepted}
use Rattle.cedar_world.specs.Answer.{has_id, Answer}
use Rattle.cedar_world.specs.Answers.{IsFair, NamesNoGhosts, IsDecided, IsOut, AllOut, SomeHolds}
use Rattle.cedar_world.specs.Asking.{Question, Told}
use Rattle.cedar_world.specs.Setting.{Setting}
use Rattle.cedar_world.specs.Standing.{StandsEarly, Judges, Says}
use Rattle.cedar_world.specs.Step.{IsLaterAnswer}
use Rattle.cedar_grammar.specs.Syntax.{PolicySyntax}
use Rattle.cedar_world.specs.World.{World, Asked, in_force_at}
use Rattle.cedar_world.specs.WorldFacts.{AreFactsOf}
use Rattle.cedar_world.specs.Again.{StandsAgain, ErredFirst, NoneErred}
use Rattle.cedar_world.specs.Sound.{IsSoundLater}

-- A decision that was given stays. Of the policies that may have been reasons those stay that may still be, or that must be; and
-- those must be that had to be or have to be now. What erred still does, with the kind that it was shown with.
pub record IsJoined (last new answer : Answer) : Type 0 where
  pub decision : answer.decision ≡ kept last.decision new.decision
  pub must : (id : Text) → has_id answer.must id ≡ (has_id last.may id && (has_id last.must id || has_id new.must id))
  pub may : (id : Text) → has_id answer.may id ≡ (has_id last.may id && (has_id new.may id || (has_id last.must id || has_id new.must id)))
  pub erring : (id : Text) → finite.get answer.erring id ≡ option_or (finite.get last.erring id) (finite.get new.erring id)

-- an answer says nothing against what is decided once these values are told
pub record Allows (by : Setting) (world : World) (facts : Facts) (q : Question) (told : Told) (a : Answer) : Type 0 where
  pub denies : SomeHolds by world facts q told Forbid → a.decision ≡ Some Allow → ⊥
  pub denies_too : AllOut by world facts q told Permit → a.decision ≡ Some Allow → ⊥
  pub allows : AllOut by world facts q told Forbid → SomeHolds by world facts q told Permit → a.decision ≡ Some Deny → ⊥
  pub forbids_may : (id : Text) → IsDecided by world facts q told id Forbid Satisfied → IsTrue (has_id a.may id)
  pub permits_may : AllOut by world facts q told Forbid → (id : Text) → IsDecided by world facts q told id Permit Satisfied → IsTrue (has_id a.may id)
  pub must_not : (id : Text) (effect : Effect) → IsOut by world facts q told id effect → IsTrue (has_id a.must id) → ⊥
  pub forbids_must : SomeHolds by world facts q told Forbid → (id : Text) (s : PolicySyntax) → in_force_at world.policies id ≡ Some s → s.effect ≡ Permit → IsTrue (has_id a.must id) → ⊥

-- whatever is told besides, the answer stays true
pub record IsSteady (by : Setting) (world : World) (facts : Facts) (q : Question) (told : Told) (a : Answer) : Type 0 where
  pub fair : IsFair by world q told a
  pub in_force : NamesNoGhosts by world a
  pub erred : (id : Text) (s : PolicySyntax) → in_force_at world.policies id ≡ Some s → ErredFirst facts q s → IsSome (finite.get a.erring id)
  pub stays : (later : Told) → Extends told later → AreMadeTold facts later → IsAccepted facts later q.context → Allows by world facts q later a

abbrev pub FirstAnswersAreSteady : Type 0
FirstAnswersAreSteady =
    (by : Setting) (world : World) (facts : Facts) (q : Question) (js : List Judged) (answer : Answer)
    → AreFactsOf by world facts → IsSoundLater by world facts q finite.empty (StandsEarly facts q finite.empty) NoneErred
    → Judges world (StandsEarly facts q finite.empty) js → Says js answer
    → IsSteady by world facts q finite.empty answer

module _ (by : Setting) (world : World) (facts : Facts) (asked : Asked) (told : Told) where
  -- the answer once these values are told, which stays true
  pub record StandsLater (answer : Answer) : Type 0 where
    pub later : IsLaterAnswer by world asked told answer
    pub steady : IsSteady by world facts asked.question told answer

abbrev pub LaterAnswersStand : Type 0
LaterAnswersStand =
    (by : Setting) (world : World) (facts : Facts) (asked : Asked) (told : Told) (js : List Judged) (new answer : Answer)
    → AreFactsOf by world facts → Extends asked.told told → AreMadeTold facts told → IsAccepted facts told asked.question.context
    → IsSteady by world facts asked.question asked.told asked.last
    → IsSoundLater by world facts asked.question told (StandsAgain world.policies facts asked.question told) (ErredFirst facts asked.question)
    → Judges world (StandsAgain world.policies facts asked.question told) js → Says js new → IsJoined asked.last new answer
    → StandsLater by world facts asked told answer
