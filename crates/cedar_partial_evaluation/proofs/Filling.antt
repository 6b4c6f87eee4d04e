-- What is settled and answered under a filling.
use Rattle.std.proofs.Common.{◌≡◌, ◌≢◌, Option, refl, sym, ◌∙◌, ap}
use Rattle.std.specs.FinMap as finite
use Rattle.std.specs.Prelude.{codes}
use Rattle.cedar_language.specs.Uid.{Text, Uid}
use Rattle.cedar_language.specs.Tree.{Entity, ValueType, Variable, Principal, Action, Resource, Context, Tree, MakeRecord, Apply}
use Rattle.cedar_language.specs.Value.{Value, Plain, Kind, Outcome}
use Rattle.cedar_language.specs.Facts.{Facts}
use Rattle.cedar_language.specs.Meaning.{Slots, meaning}
use Rattle.cedar_language.specs.Authorization as authorization
use Rattle.cedar_partial_evaluation.specs.Settling.{Settling, Open, Errs, Is, kindless, Below, settled_in}
use Rattle.cedar_partial_evaluation.specs.Unknowns.{of_unknowns}
use Rattle.cedar_partial_evaluation.specs.MadeAgain.{HoldsMade}
use Rattle.cedar_partial_evaluation.specs.Partial.{Failed, partial_in}
use Rattle.cedar_partial_evaluation.specs.Fair.{read}
use Rattle.cedar_partial_evaluation.specs.Question.{Part, Given, Missing, Entries, NoContext, WithEntries, Question, Told, name_settled, part_settled, context_settled, variable_settled, settled_of, held_of, Extends, AreMadeTold, settled_names}
use Rattle.cedar_partial_evaluation.specs.Filling.{IsGiven, GivesEach, FillsPart, FillsContext, IsFilling, name_outcome, request_filled, filled, ErrsEverywhere, AnswersAreFair, AnswersArePrompt, FilledIsMeant, names_told}
use Rattle.cedar_partial_evaluation.proofs.Passing.{of_data, data_passes}
use Rattle.cedar_partial_evaluation.proofs.Known.{settled_at}
use Rattle.cedar_partial_evaluation.proofs.Sound.{never_open}
use Rattle.cedar_partial_evaluation.proofs.Seam.{residuals_settle}
use Rattle.cedar_partial_evaluation.proofs.Prompt.{prompt}
use Rattle.cedar_partial_evaluation.proofs.Question.{weak_carries, held_made, question_shows}

-- ---- the question's leaves

part_filled : (p : Part) (o : Option Value) (w : Uid) → FillsPart p o w → part_settled p o ≡ Is (Plain (Entity w))
part_filled (Given u) o w h = rw h refl
part_filled (Missing ty) o w (e, fit) = rw (e, fit) refl

name_filled : (filling : Told) (n : Text) (ty : Option ValueType) → IsGiven filling n ty → name_settled (finite.get filling n) ty ≡ kindless (name_outcome (finite.get filling n) ty)
name_filled filling n ty (v, e, fit) = rw (e, fit) refl

pub context_filled : (facts : Facts) (c : Entries) (filling : Told) (w : Value) → FillsContext facts c filling w → context_settled facts filling c ≡ Is w
context_filled facts NoContext filling w (e, fit) = rw e refl
context_filled facts (WithEntries ks ts) filling w (restricted, given, e) =
    settled_at facts (names_told filling) (settled_names filling) (of_data (IsGiven filling)) (λ v h. absurd h) (name_filled filling) (λ s h. absurd h) (Apply (MakeRecord ks) ts)
    (data_passes (IsGiven filling) (Apply (MakeRecord ks) ts) restricted given) ∙ ap kindless e

-- ---- where something is closed, no less is the same

pub below_closed : (x y : Settling) (o : Outcome) → x ≡ kindless o → Below x y → x ≡ y
below_closed Open y o e h = absurd (never_open o (sym e))
below_closed Errs y o e h = h
below_closed (Is v) y o e h = h

module _ (facts : Facts) (q : Question) (filling : Told) (known : authorization.Known) (fills : IsFilling facts q filling known) where
  pub variable_filled : (slots : Slots) (v : Variable) → variable_settled facts q filling v ≡ Is ((request_filled known slots filling).variable v)
  variable_filled slots Principal = part_filled q.principal (finite.get filling (codes "principal")) known.principal fills.principal
  variable_filled slots Action = part_filled q.action (finite.get filling (codes "action")) known.action fills.action
  variable_filled slots Resource = part_filled q.resource (finite.get filling (codes "resource")) known.resource fills.resource
  variable_filled slots Context = context_filled facts q.context filling known.context fills.context

  pub means_filled : (slots : Slots) (t : Tree) → GivesEach filling t → settled_in facts (filled facts q slots filling) t ≡ kindless (meaning facts (request_filled known slots filling) t)
  means_filled slots t given =
      settled_at facts (request_filled known slots filling) (filled facts q slots filling) (of_unknowns (IsGiven filling))
      (λ v h. variable_filled slots v) (name_filled filling) (λ s h. refl) t given

  pub context_not : context_settled facts filling q.context ≢ Errs
  context_not h = let e : ◌≡◌ {A = Settling} Errs (Is known.context) = sym h ∙ context_filled facts q.context filling known.context fills.context in cc

  -- what is settled under the filling is what the answer means there
  module _ (good : HoldsMade facts) (slots : Slots) (told : Told) (extends : Extends told filling) (are_made : AreMadeTold facts told) where
    pub reads_below : (t : Tree) → Below (settled_in facts (filled facts q slots filling) t) (read facts (filled facts q slots filling) (partial_in facts (held_of facts q slots told) t))
    reads_below t =
        residuals_settle facts good (filled facts q slots filling) (held_of facts q slots told)
        (weak_carries facts good q slots told filling extends are_made context_not) (held_made facts good q slots told are_made) t

    pub reads_filled : (t : Tree) → GivesEach filling t →
        settled_in facts (filled facts q slots filling) t ≡ read facts (filled facts q slots filling) (partial_in facts (held_of facts q slots told) t)
    reads_filled t given = below_closed _ _ (meaning facts (request_filled known slots filling) t) (means_filled slots t given) (reads_below t)

pub filled_is_meant : FilledIsMeant
filled_is_meant facts q slots filling known fills t given = means_filled facts q filling known fills slots t given

pub answers_are_fair : AnswersAreFair
answers_are_fair facts good q slots told filling known extends are_made fills t given = reads_filled facts q filling known fills good slots told extends are_made t given

-- what is refused errs in every filling
everywhere : (facts : Facts) → HoldsMade facts → (q : Question) (slots : Slots) (told : Told) → AreMadeTold facts told → (t : Tree) (k : Kind) →
    partial_in facts (held_of facts q slots told) t ≡ Failed k → ErrsEverywhere facts q slots told t
everywhere facts good q slots told are_made t k e filling known extends fills given =
    answers_are_fair facts good q slots told filling known extends are_made fills t given ∙ rw e refl

pub answers_prompt : AnswersArePrompt
answers_prompt facts good q slots told are_made ok t =
    prompt facts good (settled_of facts q slots told) (held_of facts q slots told) (question_shows facts good q slots told are_made ok) (held_made facts good q slots told are_made)
    (ErrsEverywhere facts q slots told) (everywhere facts good q slots told are_made) t
