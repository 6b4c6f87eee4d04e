-- How policies stand that are taken up again once more is told.
use Rattle.std.specs.Prelude.{◌≡◌, true, Some}
use Rattle.std.specs.FinMap as finite
use Rattle.cedar_language.specs.Uid.{Text}
use Rattle.cedar_language.specs.Facts.{Facts}
use Rattle.cedar_language.specs.Meaning.{Slots}
use Rattle.cedar_language.specs.Tree.{Tree}
use Rattle.cedar_language.specs.Value.{Kind}
use Rattle.cedar_language.specs.Answering.{Standing, Erring}
use Rattle.cedar_partial_evaluation.specs.Early.{standing_of_answer}
use Rattle.cedar_partial_evaluation.specs.Linking.{no_slots}
use Rattle.cedar_partial_evaluation.specs.MadeAgain.{HoldsMade}
use Rattle.cedar_partial_evaluation.specs.Mentions.{mentions_only}
use Rattle.cedar_partial_evaluation.specs.Partial.{partial_in}
use Rattle.cedar_partial_evaluation.specs.Question.{held_of, AreMadeTold, IsAccepted}
use Rattle.cedar_partial_evaluation.specs.Reauthorizing.{condition_again}
use Rattle.cedar_grammar.specs.Policy.{bound}
use Rattle.cedar_grammar.specs.Syntax.{PolicySyntax, condition}
use Rattle.cedar_world.specs.World.{World, Policies, Policy}
use Rattle.cedar_world.specs.Asking.{Question, Told}
use Rattle.cedar_world.specs.Setting.{Setting}
use Rattle.cedar_world.specs.First.{IsData, NamesNoUnknown}
use Rattle.cedar_world.specs.Standing.{StandsEarly}
use Rattle.cedar_world.specs.WorldFacts.{AreFactsOf}
use Rattle.cedar_world.specs.Sound.{IsSoundLater}

-- what was left of a condition when the question was asked is evaluated again; no slot is bound any more
abbrev pub standing_again : Facts → Question → Told → Slots → Tree → Standing
standing_again facts q told slots t =
    standing_of_answer (partial_in facts (held_of facts q no_slots told) (condition_again (partial_in facts (held_of facts q slots finite.empty) t)))

-- so the policy stands that is, with its slots bound, a static policy or the template of a link that these hold
pub record StandsAgain (policies : Policies) (facts : Facts) (q : Question) (told : Told) (s : PolicySyntax) (standing : Standing) : Type 0 where
  pub id : Text
  pub unbound : PolicySyntax
  pub held : finite.get policies id ≡ Some (Policy unbound)
  pub slots : Slots
  pub binds : s ≡ bound slots unbound
  pub names_nothing : mentions_only (λ v. true) true (condition unbound) ≡ true
  pub stands : standing ≡ standing_again facts q told slots (condition unbound)

-- the policy erred when the question was asked
abbrev pub ErredFirst : Facts → Question → PolicySyntax → Type 0
ErredFirst facts q s = (k : Kind) × StandsEarly facts q finite.empty s (Erring k)

-- nothing errs that erred before
abbrev pub NoneErred : PolicySyntax → Type 0
NoneErred s = ⊥

abbrev pub EarlyStaysSound : Type 0
EarlyStaysSound =
    (by : Setting) (world : World) (facts : Facts) (q : Question)
    → AreFactsOf by world facts → HoldsMade facts → NamesNoUnknown world → IsData q.context → IsAccepted facts finite.empty q.context
    → IsSoundLater by world facts q finite.empty (StandsEarly facts q finite.empty) NoneErred

abbrev pub AgainIsSound : Type 0
AgainIsSound =
    (by : Setting) (world : World) (facts : Facts) (q : Question) (told : Told)
    → AreFactsOf by world facts → HoldsMade facts → NamesNoUnknown world → IsData q.context → IsAccepted facts finite.empty q.context
    → AreMadeTold facts told → IsAccepted facts told q.context
    → IsSoundLater by world facts q told (StandsAgain world.policies facts q told) (ErredFirst facts q)
