-- How policies stand when a question is asked stays true.
use Rattle.std.proofs.Common.{◌≡◌, inl, true, false, Some, sym, ◌∙◌, ap, subst}
use Rattle.std.specs.FinMap as finite
use Rattle.cedar_language.specs.Uid.{Text}
use Rattle.cedar_language.specs.Tree.{Tree}
use Rattle.cedar_language.specs.Value.{Value, Kind, Outcome}
use Rattle.cedar_language.specs.Facts.{Facts}
use Rattle.cedar_language.specs.Meaning.{Slots, meaning}
use Rattle.cedar_language.specs.Answering.{Standing, Erring, is_residual}
use Rattle.cedar_language.specs.Authorization.{Known, request_at, standing_of}
use Rattle.cedar_partial_evaluation.specs.Unknowns.{of_unknowns}
use Rattle.cedar_partial_evaluation.proofs.Passing.{each_weaker}
use Rattle.cedar_partial_evaluation.specs.Settling.{kindless, settled_in}
use Rattle.cedar_partial_evaluation.specs.MadeAgain.{HoldsMade}
use Rattle.cedar_partial_evaluation.specs.Partial.{Answer, answer_of, partial_in}
use Rattle.cedar_partial_evaluation.specs.Fair.{read}
use Rattle.cedar_partial_evaluation.specs.Prompt.{ErrsAs}
use Rattle.cedar_partial_evaluation.specs.Linking.{no_slots}
use Rattle.cedar_partial_evaluation.specs.Question.{Question, Told, settled_of, held_of, Extends, AreMadeTold, IsAccepted, TellingCarries}
use Rattle.cedar_partial_evaluation.specs.Filling.{IsGiven, GivesEach, TellsEach, IsFilling, request_filled, filled, ErrsEverywhere, AnswersAreFair, AnswersArePrompt, FilledIsMeant}
use Rattle.cedar_partial_evaluation.specs.Mentions.{mentions_only, NamesDontMatter, WithoutUnknowns}
use Rattle.cedar_partial_evaluation.specs.Early.{standing_of_answer, AllToldIsKnown}
use Rattle.cedar_partial_evaluation.specs.Seam.{ResidualsSettle}
use Rattle.cedar_partial_evaluation.specs.Errors.{SettlingIsOne}
use Rattle.cedar_grammar.specs.Syntax.{PolicySyntax, condition}
use Rattle.cedar_world.specs.World.{World, in_force_at}
use Rattle.cedar_world.specs.Setting.{Setting, functions_alone, means, Settles}
use Rattle.cedar_world.specs.WorldFacts.{AreFactsOf}
use Rattle.cedar_world.specs.First.{IsData, NamesNoUnknown}
use Rattle.cedar_world.specs.Sound.{Becomes, ErrsOrErred}
use Rattle.cedar_world.specs.Again.{NoneErred, EarlyStaysSound}
use Rattle.cedar_world.proofs.Fillings.{filling_there, made_at_first, extends_nothing}
use Rattle.cedar_partial_evaluation.proofs.Question.{held_made}
use Rattle.cedar_world.proofs.Standings.{not_residual, settled_as}
use Rattle.cedar_world.proofs.LaterStandings.{result_standing, below_closed, answer_becomes, prompt_stands}

-- ---- what a first answer is read as

-- under a filling it is read as what the tree means
pub reads_filled : AnswersAreFair → FilledIsMeant → (facts : Facts) → HoldsMade facts → (q : Question) (slots : Slots) (filling : Told) (known : Known) → IsFilling facts q filling known →
    (t : Tree) → GivesEach filling t → kindless (meaning facts (request_filled known slots filling) t) ≡ read facts (filled facts q slots filling) (partial_in facts (held_of facts q slots finite.empty) t)
reads_filled fairly meant facts made q slots filling known fills t gives =
    sym (meant facts q slots filling known fills t gives)
    ∙ fairly facts made q slots finite.empty filling known (extends_nothing filling) (made_at_first facts) fills t gives

-- once more is told it is read as what is settled then
pub reads_later : TellingCarries → ResidualsSettle → (facts : Facts) → HoldsMade facts → (q : Question) (slots : Slots) (told later : Told) → Extends told later → AreMadeTold facts told →
    IsAccepted facts told q.context → IsAccepted facts later q.context → (t : Tree) (o : Outcome) → settled_in facts (settled_of facts q slots later) t ≡ kindless o →
    kindless o ≡ read facts (settled_of facts q slots later) (partial_in facts (held_of facts q slots told) t)
reads_later carries settle facts made q slots told later extends are_made now then t o is =
    below_closed (settled_in facts (settled_of facts q slots later) t) _ o is
    (settle facts made (settled_of facts q slots later) (held_of facts q slots told) (carries facts made q slots told later extends are_made now then) (held_made facts made q slots told are_made) t)

-- a condition in which no name stands means one thing whatever stands for names
pub means_known : NamesDontMatter → (facts : Facts) (known : Known) (filling : Told) (t : Tree) → mentions_only (λ v. true) true t ≡ true → meaning facts (request_filled known no_slots filling) t ≡ means facts known t
means_known nameless facts known filling t names = nameless facts (request_filled known no_slots filling) (request_at known no_slots).unknown t names

-- ---- nothing is left once all is told

tells : (told : Told) (t : Tree) → GivesEach told t → TellsEach told t
tells told = each_weaker (of_unknowns (IsGiven told)) (of_unknowns (λ n ty. (v : Value) × (finite.get told n ≡ Some v))) (λ v k. k) (λ s k. k) (λ n ty k. (k.0, k.1))

-- ---- the law

module _ (fairly : AnswersAreFair) (meant : FilledIsMeant) (promptly : AnswersArePrompt) (carries : TellingCarries) (settle : ResidualsSettle) (one : SettlingIsOne) (nameless : NamesDontMatter)
    (given : WithoutUnknowns) (at_last : AllToldIsKnown) where
  module _ (by : Setting) (world : World) (facts : Facts) (q : Question) (are : AreFactsOf by world facts) (made : HoldsMade facts) (closed : NamesNoUnknown world) (of_data : IsData q.context)
      (accepted : IsAccepted facts finite.empty q.context) where
    abbrev first : PolicySyntax → Answer
    first s = partial_in facts (held_of facts q no_slots finite.empty) (condition s)

    there : (filling : Told) (known : Known) → IsFilling (functions_alone by.functions) q filling known → IsFilling facts q filling known
    there filling known fills = filling_there facts (functions_alone by.functions) are.function q filling known fills

    becomes_filled : (id : Text) (s : PolicySyntax) → in_force_at world.policies id ≡ Some s → (filling : Told) (request : Known) → IsFilling facts q filling request →
        Becomes (standing_of_answer (first s)) (standing_of (means facts request (condition s)))
    becomes_filled id s force filling request fills =
        let names = closed id s force in
        answer_becomes facts (filled facts q no_slots filling) (first s) (means facts request (condition s))
        (ap kindless (sym (means_known nameless facts request filling (condition s) names))
        ∙ reads_filled fairly meant facts made q no_slots filling request fills (condition s) (given filling (λ v. true) true (condition s) names))

    becomes_settled : (later : Told) → IsAccepted facts later q.context → (s : PolicySyntax) (result : Outcome) → Settles facts q later (condition s) result → Becomes (standing_of_answer (first s)) (standing_of result)
    becomes_settled later then s result settles =
        answer_becomes facts (settled_of facts q no_slots later) (first s) result
        (reads_later carries settle facts made q no_slots finite.empty later (extends_nothing later) (made_at_first facts) accepted then (condition s) result
        (settled_as one facts q later (condition s) result settles))

    abbrev IsClosed : PolicySyntax → Outcome → Standing → Type 0
    IsClosed s result standing = (is_residual standing ≡ false) × ((k : Kind) → standing_of result ≡ Erring k → ErrsOrErred standing (NoneErred s))

    sharply : (s : PolicySyntax) (result : Outcome) → Settles facts q finite.empty (condition s) result → IsClosed s result (standing_of_answer (first s))
    sharply s result settles =
        let (not_left, errs) =
        prompt_stands (ErrsAs facts (settled_of facts q no_slots finite.empty) (ErrsEverywhere facts q no_slots finite.empty) (condition s)) (settled_in facts (settled_of facts q no_slots finite.empty) (condition s)) (first s)
        (promptly facts made q no_slots finite.empty (made_at_first facts) accepted (condition s)) result (settled_as one facts q finite.empty (condition s) result settles) in
        (not_left, λ k h. inl (errs k h))

    exactly : (id : Text) (s : PolicySyntax) → in_force_at world.policies id ≡ Some s → (request : Known) → IsFilling facts q finite.empty request → IsClosed s (means facts request (condition s)) (standing_of_answer (first s))
    exactly id s force request fills =
        let names = closed id s force in
        let is : first s ≡ answer_of (means facts request (condition s)) =
        at_last facts made q no_slots finite.empty request (made_at_first facts) fills (condition s) (tells finite.empty (condition s) (given finite.empty (λ v. true) true (condition s) names))
        ∙ ap answer_of (means_known nameless facts request finite.empty (condition s) names) in
        let stands : standing_of_answer (first s) ≡ standing_of (means facts request (condition s)) = ap standing_of_answer is ∙ result_standing (means facts request (condition s)) in
        (ap is_residual stands ∙ not_residual (means facts request (condition s)), λ k h. inl (k, stands ∙ h))

  pub early_stays_sound : EarlyStaysSound
  early_stays_sound by world facts q are made closed of_data accepted = record {
    fair = λ id s force standing stands filling request extends fills.
        subst (λ x. Becomes x (standing_of (means facts request (condition s)))) (sym stands)
        (becomes_filled by world facts q are made closed of_data accepted id s force filling request (there by world facts q are made closed of_data accepted filling request fills));
    carried = λ later extends are_made then id s force result settles standing stands.
        subst (λ x. Becomes x (standing_of result)) (sym stands) (becomes_settled by world facts q are made closed of_data accepted later then s result settles);
    sharp = λ id s force result settles standing stands.
        subst (IsClosed by world facts q are made closed of_data accepted s result) (sym stands) (sharply by world facts q are made closed of_data accepted s result settles);
    exact = λ id s force standing stands request fills.
        subst (IsClosed by world facts q are made closed of_data accepted s (means facts request (condition s))) (sym stands)
        (exactly by world facts q are made closed of_data accepted id s force request (there by world facts q are made closed of_data accepted finite.empty request fills));
  }
