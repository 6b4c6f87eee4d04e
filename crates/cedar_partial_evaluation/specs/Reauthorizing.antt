-- Policies taken up again once more values are told.
use Rattle.std.specs.Prelude.{◌≡◌, ◌⊎◌, true, false, List, map}
use Rattle.cedar_language.specs.Tree.{Boolean, Tree, Lit}
use Rattle.cedar_language.specs.Value.{Plain, Kind}
use Rattle.cedar_language.specs.Facts.{Facts}
use Rattle.cedar_language.specs.Answering.{Standing, Erring, Judged, IsFair, IsAsSharp, IsExact}
use Rattle.cedar_language.specs.Authorization as authorization
use Rattle.cedar_language.specs.Authorization.{Policy}
use Rattle.cedar_partial_evaluation.specs.MadeAgain.{HoldsMade}
use Rattle.cedar_partial_evaluation.specs.Partial.{Answer, Evaluated, ResidualTree, partial_in}
use Rattle.cedar_partial_evaluation.specs.Linking.{no_slots}
use Rattle.cedar_partial_evaluation.specs.Question.{Question, Told, held_of, Extends, AreMadeTold, IsAccepted}
use Rattle.cedar_partial_evaluation.specs.Filling.{GivesEach, IsFilling}
use Rattle.cedar_partial_evaluation.specs.Early.{GivesPolicies, judged_filled, judged_early, judged_settled}

-- a satisfied policy is taken up as `true`, an open one as what was left of it, and any other as `false`: what erred is not
-- evaluated again
abbrev pub condition_again : Answer → Tree
condition_again (Evaluated (Plain (Boolean true))) = Lit (Boolean true)
condition_again (ResidualTree r) = r
condition_again _ = Lit (Boolean false)

-- with no slot bound
abbrev pub taken_up : Facts → Question → Told → Policy → Policy
taken_up facts q told p = record {
  id = p.id;
  effect = p.effect;
  condition = condition_again (partial_in facts (held_of facts q p.slots told) p.condition);
  slots = no_slots;
}

-- how a policy that was first judged at `told` stands once it is taken up again at `later`
abbrev pub judged_again : Facts → Question → Told → Told → Policy → Judged
judged_again facts q told later p = judged_early facts q later (taken_up facts q told p)

abbrev pub IsErring : Standing → Type 0
IsErring s = (k : Kind) × (s ≡ Erring k)

-- decision, must, may and erring hold under each filling
abbrev pub ReauthorizingIsFair : Type 0
ReauthorizingIsFair =
    (facts : Facts) → HoldsMade facts → (q : Question) (told later filling : Told) (known : authorization.Known) → Extends told later → Extends later filling →
    AreMadeTold facts told → AreMadeTold facts later → IsFilling facts q filling known → (ps : List Policy) → GivesPolicies filling ps →
    IsFair (map (judged_again facts q told later) ps) (map (judged_filled facts known filling) ps)

-- the answer is as sharp as the one by what is settled of the policies at the later values
abbrev pub ReauthorizingIsSharp : Type 0
ReauthorizingIsSharp =
    (facts : Facts) → HoldsMade facts → (q : Question) (told later : Told) → Extends told later → AreMadeTold facts told → AreMadeTold facts later →
    IsAccepted facts told q.context → IsAccepted facts later q.context → (ps : List Policy) →
    IsAsSharp (map (judged_settled facts q later) ps) (map (judged_again facts q told later) ps)

-- a policy that settles to an error at the later values erred at first, or errs now
abbrev pub ErrorsAreNamed : Type 0
ErrorsAreNamed =
    (facts : Facts) → HoldsMade facts → (q : Question) (told later : Told) → Extends told later → AreMadeTold facts told → AreMadeTold facts later →
    IsAccepted facts told q.context → IsAccepted facts later q.context → (p : Policy) →
    IsErring (judged_settled facts q later p).standing → IsErring (judged_early facts q told p).standing ⊎ IsErring (judged_again facts q told later p).standing

-- once all is told, decision and reasons are those of the known question, and what errs there erred at first or errs now
pub record ReauthorizingEnds (facts : Facts) (q : Question) (told filling : Told) (known : authorization.Known) : Type 0 where
  pub exact : (ps : List Policy) → GivesPolicies filling ps → IsExact (map (judged_again facts q told filling) ps) (map (judged_filled facts known filling) ps)
  pub erring : (p : Policy) → GivesEach filling p.condition → IsErring (judged_filled facts known filling p).standing →
      IsErring (judged_early facts q told p).standing ⊎ IsErring (judged_again facts q told filling p).standing

abbrev pub ReauthorizingIsExact : Type 0
ReauthorizingIsExact =
    (facts : Facts) → HoldsMade facts → (q : Question) (told filling : Told) (known : authorization.Known) → Extends told filling → AreMadeTold facts told → AreMadeTold facts filling →
    IsFilling facts q filling known → ReauthorizingEnds facts q told filling known
