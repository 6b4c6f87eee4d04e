-- What holds of a residual that is evaluated again once more values are told, and of a context that is.
use Rattle.std.specs.Prelude.{◌≡◌, true, false, Option, Some}
use Rattle.std.specs.FinMap as finite
use Rattle.cedar_language.specs.Uid.{Text}
use Rattle.cedar_language.specs.Tree.{ValueType, Tree, Unknown}
use Rattle.cedar_language.specs.Value.{Value, TypeError}
use Rattle.cedar_language.specs.Facts.{Facts}
use Rattle.cedar_language.specs.Meaning.{Slots}
use Rattle.cedar_language.specs.Authorization as authorization
use Rattle.cedar_partial_evaluation.specs.Unknowns.{fits}
use Rattle.cedar_partial_evaluation.specs.Settling.{Below, settled_in}
use Rattle.cedar_partial_evaluation.specs.MadeAgain.{HoldsMade}
use Rattle.cedar_partial_evaluation.specs.Partial.{Evaluated, ResidualTree, Failed, best_effort, partial_in}
use Rattle.cedar_partial_evaluation.specs.Fair.{read}
use Rattle.cedar_partial_evaluation.specs.Prompt.{without_kind}
use Rattle.cedar_partial_evaluation.specs.Question.{Question, Told, Extends, AreMadeTold, IsAccepted, settled_of, held_of, held_names, is_restricted}
use Rattle.cedar_partial_evaluation.specs.Filling.{GivesEach, IsFilling, filled}

-- a told value of the stated type is the unknown's value, and another one is a TypeError
pub record ToldAreRead : Type 0 where
  pub fitting : (facts : Facts) (q : Question) (slots : Slots) (told : Told) (n : Text) (ty : Option ValueType) (v : Value) → finite.get told n ≡ Some v → fits ty v ≡ true →
      partial_in facts (held_of facts q slots told) (Unknown n ty) ≡ Evaluated v
  pub other : (facts : Facts) (q : Question) (slots : Slots) (told : Told) (n : Text) (ty : Option ValueType) (v : Value) → finite.get told n ≡ Some v → fits ty v ≡ false →
      partial_in facts (held_of facts q slots told) (Unknown n ty) ≡ Failed TypeError

-- what is settled of a tree is what it means in each filling
abbrev pub SettledIsMeant : Type 0
SettledIsMeant =
    (facts : Facts) → HoldsMade facts → (q : Question) (slots : Slots) (told filling : Told) (known : authorization.Known) → Extends told filling → AreMadeTold facts told →
    IsAccepted facts told q.context → IsFilling facts q filling known → (t : Tree) → GivesEach filling t →
    Below (settled_in facts (settled_of facts q slots told) t) (settled_in facts (filled facts q slots filling) t)

-- a residual's later answer means what the tree at first meant
abbrev pub LaterAnswersAreFair : Type 0
LaterAnswersAreFair =
    (facts : Facts) → HoldsMade facts → (q : Question) (slots : Slots) (told later filling : Told) (known : authorization.Known) → Extends told later → Extends later filling →
    AreMadeTold facts told → AreMadeTold facts later → IsFilling facts q filling known → (t r : Tree) → GivesEach filling t → partial_in facts (held_of facts q slots told) t ≡ ResidualTree r →
    settled_in facts (filled facts q slots filling) t ≡ read facts (filled facts q slots filling) (partial_in facts (held_of facts q slots later) r)

-- where the tree settles at the later values, so does the residual's later answer, kinds aside
abbrev pub LaterAnswersArePrompt : Type 0
LaterAnswersArePrompt =
    (facts : Facts) → HoldsMade facts → (q : Question) (slots : Slots) (told later : Told) → Extends told later → AreMadeTold facts told → AreMadeTold facts later →
    IsAccepted facts told q.context → IsAccepted facts later q.context → (t r : Tree) → partial_in facts (held_of facts q slots told) t ≡ ResidualTree r →
    Below (settled_in facts (settled_of facts q slots later) t) (without_kind (partial_in facts (held_of facts q slots later) r))

-- a context's answer evaluated again once more values are told is the answer for all of them at once
abbrev pub ContextsStay : Type 0
ContextsStay =
    (facts : Facts) → HoldsMade facts → (told later : Told) → Extends told later → AreMadeTold facts told → AreMadeTold facts later → (t : Tree) → is_restricted t ≡ true →
    partial_in facts (held_names later) (best_effort facts (partial_in facts (held_names told) t) t) ≡ partial_in facts (held_names later) t
