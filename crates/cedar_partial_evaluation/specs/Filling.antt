-- Fillings of a question: values under which nothing in it is unknown.
use Rattle.std.specs.Prelude.{◌≡◌, cond, true, false, Option, Some, None, codes, []}
use Rattle.std.specs.FinMap as finite
use Rattle.cedar_language.specs.Uid.{Text, Uid}
use Rattle.cedar_language.specs.Tree.{Entity, ValueType, RecordType, MakeRecord, Tree, Apply, Trees}
use Rattle.cedar_language.specs.Value.{Value, Plain, TypeError, NonValue, Outcome, Gives, Fails, RecordOf, no_values}
use Rattle.cedar_language.specs.Facts.{Facts}
use Rattle.cedar_language.specs.Meaning.{Slots, slot_outcome, variable_of, Request, meaning}
use Rattle.cedar_language.specs.Authorization as authorization
use Rattle.cedar_partial_evaluation.specs.Unknowns.{fits, EachUnknown, EachUnknownOf}
use Rattle.cedar_partial_evaluation.specs.Settling.{Open, Errs, kindless, LeafSettlings, settled_in}
use Rattle.cedar_partial_evaluation.specs.MadeAgain.{HoldsMade}
use Rattle.cedar_partial_evaluation.specs.Partial.{partial_in}
use Rattle.cedar_partial_evaluation.specs.Fair.{read}
use Rattle.cedar_partial_evaluation.specs.Prompt.{Meets, ErrsAs}
use Rattle.cedar_partial_evaluation.specs.Question.{Part, Given, Missing, Entries, NoContext, WithEntries, Question, Told, entity_type, name_settled, variable_settled, settled_of, held_of, Extends, AreMadeTold, IsAccepted, are_restricted}

-- a value is told for the name, one of the stated type
abbrev pub IsGiven : Told → Text → Option ValueType → Type 0
IsGiven told n ty = (v : Value) × (finite.get told n ≡ Some v) × (fits ty v ≡ true)

-- each unknown of the tree is given a value of its type
abbrev pub GivesEach : Told → Tree → Type 0
GivesEach told t = EachUnknown (IsGiven told) t

abbrev pub GivesEachOf : Told → Trees → Type 0
GivesEachOf told ts = EachUnknownOf (IsGiven told) ts

-- each unknown of the tree has a value, of whatever type
abbrev pub TellsEach : Told → Tree → Type 0
TellsEach told t = EachUnknown (λ n ty. (v : Value) × (finite.get told n ≡ Some v)) t

-- what an unknown means: a value of another type than the one stated is a TypeError
abbrev pub name_outcome : Option Value → Option ValueType → Outcome
name_outcome (Some v) ty = cond (fits ty v) (Gives v) (Fails TypeError)
name_outcome None ty = Fails NonValue

-- the names of a context have these values; neither variables nor slots stand in it
abbrev pub names_told : Told → Request
names_told told = record {
  variable = λ v. RecordOf [] no_values;
  unknown = λ n ty. name_outcome (finite.get told n) ty;
  slots = λ s. None;
}

-- a missing part is filled by an entity, of the stated type where one is stated
abbrev pub FillsPart : Part → Option Value → Uid → Type 0
FillsPart (Given u) o w = w ≡ u
FillsPart (Missing ty) o w = (o ≡ Some (Plain (Entity w))) × (fits (entity_type ty) (Plain (Entity w)) ≡ true)

-- a missing context is filled by a record, and a written one is data that means a value once each of its names has one
abbrev pub FillsContext : Facts → Entries → Told → Value → Type 0
FillsContext facts NoContext told w = (finite.get told (codes "context") ≡ Some w) × (fits (Some RecordType) w ≡ true)
FillsContext facts (WithEntries ks ts) told w = (are_restricted ts ≡ true) × GivesEachOf told ts × (meaning facts (names_told told) (Apply (MakeRecord ks) ts) ≡ Gives w)

-- the values fill the question, and these are then its principal, action, resource and context
pub record IsFilling (facts : Facts) (q : Question) (filling : Told) (known : authorization.Known) : Type 0 where
  pub principal : FillsPart q.principal (finite.get filling (codes "principal")) known.principal
  pub action : FillsPart q.action (finite.get filling (codes "action")) known.action
  pub resource : FillsPart q.resource (finite.get filling (codes "resource")) known.resource
  pub context : FillsContext facts q.context filling known.context

-- the known question, in which unknowns have the values of the filling
abbrev pub request_filled : authorization.Known → Slots → Told → Request
request_filled known slots filling = record {
  variable = variable_of known.principal known.action known.resource known.context;
  unknown = λ n ty. name_outcome (finite.get filling n) ty;
  slots = slots;
}

-- what is settled of the leaves under a filling
abbrev pub filled : Facts → Question → Slots → Told → LeafSettlings
filled facts q slots filling = record {
  variable = variable_settled facts q filling;
  unknown = λ n ty. name_settled (finite.get filling n) ty;
  slot = λ s. kindless (slot_outcome (slots s));
  in_context = λ a. Open;
  has_in_context = λ a. Open;
  variable_type = λ v. None;
  untold = λ n. false;
}

-- the tree errs under each filling that keeps what is told
abbrev pub ErrsEverywhere : Facts → Question → Slots → Told → Tree → Type 0
ErrsEverywhere facts q slots told t =
    (filling : Told) (known : authorization.Known) → Extends told filling → IsFilling facts q filling known → GivesEach filling t → settled_in facts (filled facts q slots filling) t ≡ Errs

-- every answer means under each filling what its tree means, kinds of errors aside
abbrev pub AnswersAreFair : Type 0
AnswersAreFair =
    (facts : Facts) → HoldsMade facts → (q : Question) (slots : Slots) (told filling : Told) (known : authorization.Known) → Extends told filling → AreMadeTold facts told →
    IsFilling facts q filling known → (t : Tree) → GivesEach filling t →
    settled_in facts (filled facts q slots filling) t ≡ read facts (filled facts q slots filling) (partial_in facts (held_of facts q slots told) t)

-- every answer of a question is a result to which its tree settles, where there is one
abbrev pub AnswersArePrompt : Type 0
AnswersArePrompt =
    (facts : Facts) → HoldsMade facts → (q : Question) (slots : Slots) (told : Told) → AreMadeTold facts told → IsAccepted facts told q.context → (t : Tree) →
    Meets (ErrsAs facts (settled_of facts q slots told) (ErrsEverywhere facts q slots told) t)
    (settled_in facts (settled_of facts q slots told) t) (partial_in facts (held_of facts q slots told) t)

-- what is settled under a filling is what the known question means
abbrev pub FilledIsMeant : Type 0
FilledIsMeant =
    (facts : Facts) (q : Question) (slots : Slots) (filling : Told) (known : authorization.Known) → IsFilling facts q filling known → (t : Tree) → GivesEach filling t →
    settled_in facts (filled facts q slots filling) t ≡ kindless (meaning facts (request_filled known slots filling) t)
