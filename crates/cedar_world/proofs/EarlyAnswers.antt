-- What the rules say of the policies in force, as evaluations of their conditions have them stand, is a first answer.
use Rattle.std.proofs.Common.{◌≡◌, true, None, sym, ◌∙◌, ap}
use Rattle.std.specs.FinMap as finite
use Rattle.cedar_language.specs.Tree.{Tree}
use Rattle.cedar_language.specs.Value.{Kind, Outcome, Gives, Fails}
use Rattle.cedar_language.specs.Facts.{Facts}
use Rattle.cedar_language.specs.Answering.{Erring}
use Rattle.cedar_language.specs.Authorization.{Known, standing_of}
use Rattle.cedar_partial_evaluation.specs.Settling.{Settling, Open, Errs, Is, kindless, LeafSettlings, settled_in}
use Rattle.cedar_partial_evaluation.specs.MadeAgain.{HoldsMade}
use Rattle.cedar_partial_evaluation.specs.Partial.{Answer, Evaluated, answer_of, partial_in}
use Rattle.cedar_partial_evaluation.specs.Prompt.{ErrsAs, Meets}
use Rattle.cedar_partial_evaluation.specs.Question.{held_of, settled_of, IsAccepted}
use Rattle.cedar_partial_evaluation.specs.Filling as early
use Rattle.cedar_partial_evaluation.specs.Filling.{ErrsEverywhere, AnswersArePrompt}
use Rattle.cedar_partial_evaluation.specs.Mentions.{mentions_only, is_known}
use Rattle.cedar_partial_evaluation.specs.Early.{standing_of_answer}
use Rattle.cedar_partial_evaluation.specs.Errors.{SettlingIsOne}
use Rattle.cedar_partial_evaluation.specs.Leaves.{MentionedIsMeant}
use Rattle.cedar_grammar.specs.Syntax.{PolicySyntax, condition}
use Rattle.cedar_world.specs.World.{World}
use Rattle.cedar_world.specs.Asking.{Question, Told}
use Rattle.cedar_world.specs.Setting.{Setting, functions_alone, means, Settles}
use Rattle.cedar_world.specs.Standing.{StandsEarly}
use Rattle.cedar_world.specs.WorldFacts.{AreFactsOf}
use Rattle.cedar_world.specs.Again.{EarlyStaysSound}
use Rattle.cedar_world.specs.First.{IsData, NamesNoUnknown, EarlyAnswersStand}
use Rattle.cedar_world.proofs.Leaves.{mentions_known}
use Rattle.cedar_world.proofs.Fillings.{filling_there, made_at_first, extends_nothing}
use Rattle.cedar_world.proofs.Standings.{settled_as}
use Rattle.cedar_world.proofs.LaterStandings.{value_standing, result_standing}
use Rattle.cedar_world.proofs.First.{IsSound, sound_answers_stand}

-- ---- a kind to which it settles

module _ (facts : Facts) (q : Question) (s : PolicySyntax) where
  abbrev around : LeafSettlings
  around = settled_of facts q (λ x. None) finite.empty

  abbrev Errs_as : Kind → Type 0
  Errs_as k = ErrsAs facts around (ErrsEverywhere facts q (λ x. None) finite.empty) (condition s) k

  a_kind : (x : Settling) (p : Answer) → Meets Errs_as x p → (result : Outcome) → Settles facts q finite.empty (condition s) result → x ≡ kindless result → (k l : Kind) → standing_of result ≡ Erring k → Erring l ≡ standing_of_answer p
      → (other : Outcome) × Settles facts q finite.empty (condition s) other × (standing_of other ≡ Erring l)
  a_kind Open p m (Gives v) settles e k l is told = cc
  a_kind Open p m (Fails j) settles e k l is told = cc
  a_kind Errs p m (Fails j) settles e k l is told = (Fails m.0, m.2, sym (told ∙ ap standing_of_answer m.1))
  a_kind Errs p m (Gives v) settles e k l is told = cc
  a_kind (Is w) p m (Gives v) settles e k l is told =
      let same : w ≡ v = cc in
      (Gives v, settles, sym (told ∙ ap standing_of_answer (m ∙ ap (λ x. Evaluated x) same) ∙ sym (value_standing v)))
  a_kind (Is w) p m (Fails j) settles e k l is told = cc

-- ---- evaluations have the policies stand soundly

-- a tree that mentions nothing missing is answered by what it means
abbrev pub AnsweredAsMeant : Type 0
AnsweredAsMeant =
    (facts : Facts) (q : Question) (filling : Told) (known : Known) → early.IsFilling facts q filling known
    → (t : Tree) → mentions_only (is_known q) true t ≡ true → partial_in facts (held_of facts q (λ x. None) finite.empty) t ≡ answer_of (means facts known t)

pub as_meant : MentionedIsMeant → AnsweredAsMeant
as_meant mentioned facts q filling known fills t h = mentioned.answers facts q (λ x. None) finite.empty known (mentioned.fillings facts q filling known fills) t h

module _ (one : SettlingIsOne) (stays : EarlyStaysSound) (promptly : AnswersArePrompt) (as_meant : AnsweredAsMeant) where
  module _ (by : Setting) (world : World) (facts : Facts) (q : Question) (are : AreFactsOf by world facts) (made : HoldsMade facts) (closed : NamesNoUnknown world) (of_data : IsData q.context)
      (accepted : IsAccepted facts finite.empty q.context) where
    abbrev answered : PolicySyntax → Answer
    answered s = partial_in facts (held_of facts q (λ x. None) finite.empty) (condition s)

    is_prompt : (s : PolicySyntax) → Meets (Errs_as facts q s) (settled_in facts (settled_of facts q (λ x. None) finite.empty) (condition s)) (answered s)
    is_prompt s = promptly facts made q (λ x. None) finite.empty (made_at_first facts) accepted (condition s)

    early_is_sound : IsSound by world facts q (StandsEarly facts q finite.empty)
    early_is_sound =
        let sound = stays by world facts q are made closed of_data accepted in
        record {
          fair = sound.fair;
          comes = λ id s force result settles standing stands.
              (sound.carried finite.empty (extends_nothing finite.empty) (made_at_first facts) accepted id s force result settles standing stands).0;
          sharp = sound.sharp;
          kinds = λ s result k l settles errs stands. a_kind facts q s _ (answered s) (is_prompt s) result settles (settled_as one facts q finite.empty (condition s) result settles) k l errs stands;
          exact = λ id s force known request fills standing stands.
              sym (result_standing (means facts request (condition s)))
              ∙ ap standing_of_answer (sym (as_meant facts q finite.empty request (filling_there facts (functions_alone by.functions) are.function q finite.empty request fills) (condition s) (mentions_known q of_data known s (closed id s force))))
              ∙ sym stands;
        }

  pub early_answers_stand : EarlyAnswersStand
  early_answers_stand by world facts q js answer are made closed of_data has_request accepted judges says =
      sound_answers_stand by world facts q (StandsEarly facts q finite.empty) js answer (early_is_sound by world facts q are made closed of_data accepted) are judges says has_request
