-- What is told of each id, in the texts from which all comes.
use Rattle.std.proofs.Common.{List, subst}
use Rattle.cedar_language.specs.Uid.{Text}
use Rattle.cedar_evaluator.specs.declared.partial_response.PartialResponse.{PartialResponse}
use Rattle.cedar_world.specs.World.{Policies}
use Rattle.cedar_messages.specs.Telling.{Adds, TellsEach}
use Rattle.cedar_messages.proofs.Told.{TellsEach-weaker}
use Rattle.cedar_authoring.specs.Explaining.{TellsOne, TellsPolicies}
use Rattle.cedar_authoring.specs.Pasts.{IsOfText, TellsOneOf}
use Rattle.cedar_authoring.specs.ScriptQuestions.{TellsHeld}
use Rattle.cedar_authoring.specs.declared.past.Past.{Past}

module _ (past : Past) (policies : Policies) (response : PartialResponse) (ids : List Text) (old new : Text) (adds : Adds (TellsEach (TellsOneOf past policies response) ids) old new) where
  -- of one text by its name
  pub told_of_text : IsOfText past → Adds (TellsPolicies past.script.now policies response ids) old new
  told_of_text alone = (
    adds.0,
    TellsEach-weaker (TellsOneOf past policies response) (TellsOne past.script.now policies response)
        (λ id told h. subst (λ n. TellsOne n policies response id told) (h.1 alone) h.2) ids adds.0 adds.1,
    adds.2,
  )

  -- of any by some name
  pub told_of_some : Adds (TellsEach (TellsHeld policies response) ids) old new
  told_of_some = (adds.0, TellsEach-weaker (TellsOneOf past policies response) (TellsHeld policies response) (λ id told h. (h.0, h.2)) ids adds.0 adds.1, adds.2)
