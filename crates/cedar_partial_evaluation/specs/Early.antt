-- Early answers: how policies stand to a question with unknowns.
use Rattle.std.specs.Prelude.{◌≡◌, true, false, List, map, All}
use Rattle.cedar_language.specs.Tree.{Boolean, Tree}
use Rattle.cedar_language.specs.Value.{Plain, TypeError, Kind}
use Rattle.cedar_language.specs.Facts.{Facts}
use Rattle.cedar_language.specs.Meaning.{Slots, meaning}
use Rattle.cedar_language.specs.Answering.{Standing, Satisfied, Unsatisfied, Erring, Residual, Judged, IsFair, IsAsSharp, ErringStay}
use Rattle.cedar_language.specs.Authorization as authorization
use Rattle.cedar_language.specs.Authorization.{Policy, standing_of, judged}
use Rattle.cedar_partial_evaluation.specs.Settling.{Settling, Open, Errs, Is, kindless, settled_in}
use Rattle.cedar_partial_evaluation.specs.MadeAgain.{HoldsMade}
use Rattle.cedar_partial_evaluation.specs.Partial.{Answer, Evaluated, ResidualTree, Failed, answer_of, partial_in}
use Rattle.cedar_partial_evaluation.specs.Prompt.{ErrsAs, without_kind}
use Rattle.cedar_partial_evaluation.specs.Question.{Question, Told, settled_of, held_of, Extends, AreMadeTold, IsAccepted}
use Rattle.cedar_partial_evaluation.specs.Filling.{GivesEach, TellsEach, IsFilling, request_filled, ErrsEverywhere}
use Rattle.cedar_partial_evaluation.specs.Mentions.{mentions_only}

-- how a policy stands under a filling
abbrev pub judged_filled : Facts → authorization.Known → Told → Policy → Judged
judged_filled facts known filling p = record {
  id = p.id;
  effect = p.effect;
  standing = standing_of (meaning facts (request_filled known p.slots filling) p.condition);
}

-- how a policy stands by its answer
abbrev pub standing_of_answer : Answer → Standing
standing_of_answer (Evaluated (Plain (Boolean true))) = Satisfied
standing_of_answer (Evaluated (Plain (Boolean false))) = Unsatisfied
standing_of_answer (Evaluated v) = Erring TypeError
standing_of_answer (ResidualTree r) = Residual
standing_of_answer (Failed k) = Erring k

abbrev pub judged_early : Facts → Question → Told → Policy → Judged
judged_early facts q told p = record {
  id = p.id;
  effect = p.effect;
  standing = standing_of_answer (partial_in facts (held_of facts q p.slots told) p.condition);
}

-- how a policy stands by what is settled of it; kinds are said apart
abbrev pub standing_settled : Settling → Standing
standing_settled (Is (Plain (Boolean true))) = Satisfied
standing_settled (Is (Plain (Boolean false))) = Unsatisfied
standing_settled (Is v) = Erring TypeError
standing_settled Open = Residual
standing_settled Errs = Erring TypeError

abbrev pub judged_settled : Facts → Question → Told → Policy → Judged
judged_settled facts q told p = record {
  id = p.id;
  effect = p.effect;
  standing = standing_settled (settled_in facts (settled_of facts q p.slots told) p.condition);
}

-- each unknown of the policies is given a value of its type
abbrev pub GivesPolicies : Told → List Policy → Type 0
GivesPolicies filling ps = All (λ (p : Policy). GivesEach filling p.condition) ps

-- decision, must, may and erring of an early answer hold under each filling
abbrev pub EarlyAnswersAreFair : Type 0
EarlyAnswersAreFair =
    (facts : Facts) → HoldsMade facts → (q : Question) (told filling : Told) (known : authorization.Known) → Extends told filling → AreMadeTold facts told → IsFilling facts q filling known →
    (ps : List Policy) → GivesPolicies filling ps → IsFair (map (judged_early facts q told) ps) (map (judged_filled facts known filling) ps)

-- an early answer is as sharp as the one by what is settled of the policies, and what settles to an error errs in it
abbrev pub EarlyAnswersArePrompt : Type 0
EarlyAnswersArePrompt =
    (facts : Facts) → HoldsMade facts → (q : Question) (told : Told) → AreMadeTold facts told → IsAccepted facts told q.context → (ps : List Policy) →
    IsAsSharp (map (judged_settled facts q told) ps) (map (judged_early facts q told) ps) × ErringStay (map (judged_settled facts q told) ps) (map (judged_early facts q told) ps)

-- where a policy settles to an error, its early answer errs with a kind to which it settles
abbrev pub EarlyKindsAreSettled : Type 0
EarlyKindsAreSettled =
    (facts : Facts) → HoldsMade facts → (q : Question) (told : Told) → AreMadeTold facts told → IsAccepted facts told q.context → (p : Policy) →
    settled_in facts (settled_of facts q p.slots told) p.condition ≡ Errs →
    (k : Kind) × ((judged_early facts q told p).standing ≡ Erring k) ×
    ErrsAs facts (settled_of facts q p.slots told) (ErrsEverywhere facts q p.slots told) p.condition k

-- ---- once all is told

-- the answer is what the tree means, kinds included; where a value has another type than its unknown, that is a TypeError
abbrev pub AllToldIsKnown : Type 0
AllToldIsKnown =
    (facts : Facts) → HoldsMade facts → (q : Question) (slots : Slots) (filling : Told) (known : authorization.Known) → AreMadeTold facts filling → IsFilling facts q filling known →
    (t : Tree) → TellsEach filling t → partial_in facts (held_of facts q slots filling) t ≡ answer_of (meaning facts (request_filled known slots filling) t)

-- a residual's answer is what the tree means, kinds aside
abbrev pub LastAnswersAreExact : Type 0
LastAnswersAreExact =
    (facts : Facts) → HoldsMade facts → (q : Question) (slots : Slots) (told filling : Told) (known : authorization.Known) → Extends told filling → AreMadeTold facts told → AreMadeTold facts filling →
    IsFilling facts q filling known → (t r : Tree) → GivesEach filling t → partial_in facts (held_of facts q slots told) t ≡ ResidualTree r →
    without_kind (partial_in facts (held_of facts q slots filling) r) ≡ kindless (meaning facts (request_filled known slots filling) t)

-- where no unknown stands in its condition, a policy stands under a filling as it stands to the known question
abbrev pub FilledIsKnown : Type 0
FilledIsKnown =
    (facts : Facts) (known : authorization.Known) (filling : Told) (p : Policy) → mentions_only (λ v. true) true p.condition ≡ true →
    judged_filled facts known filling p ≡ judged facts known p
