-- A policy of which the scope doesn't hold has no part in any answer.
use Rattle.std.specs.Prelude.{◌≡◌, true, false, Some, None}
use Rattle.std.specs.FinMap as map
use Rattle.cedar_language.specs.Uid.{Text}
use Rattle.cedar_language.specs.Facts.{Facts}
use Rattle.cedar_language.specs.Operators.{is_within}
use Rattle.cedar_language.specs.Authorization.{Known}
use Rattle.cedar_world.specs.Answer.{Answer}
use Rattle.cedar_grammar.specs.Bindings.{Bindings, linked, binds_exactly}
use Rattle.cedar_grammar.specs.Syntax.{PolicySyntax, is_template}
use Rattle.cedar_world.specs.World.{World, Asked, Policy, Link, template_at, AreFacts}
use Rattle.cedar_world.specs.Asking.{Given, NoContext, Question, Told}
use Rattle.cedar_world.specs.Setting.{Setting}
use Rattle.cedar_world.specs.Answers.{known_answer, IsFair, IsPromptButKinds, NamesKinds}
use Rattle.cedar_world.specs.Fillings.{Agrees}
use Rattle.cedar_world.specs.Scope.{scope_met}
use Rattle.cedar_world.specs.Step.{IsFirstAnswer, IsLaterAnswer}

-- the world with this policy besides
abbrev pub with_policy : World → Text → PolicySyntax → World
with_policy world id s = record world { policies = map.insert world.policies id (Policy s) }

-- the world with this link besides
abbrev pub with_link : World → Text → Text → Bindings → World
with_link world id template b = record world { policies = map.insert world.policies id (Link template b) }

-- the parts of a known question that scopes look at
abbrev pub parts_of : Known → Question
parts_of request = record { principal = Given request.principal; action = Given request.action; resource = Given request.resource; context = NoContext }

-- what is known of principal, action and resource suffices to see that the scope doesn't hold
abbrev pub IsUnmet : Facts → Question → PolicySyntax → Type 0
IsUnmet facts q s = scope_met (is_within facts) s q ≡ Some false

abbrev pub IsUnmetIn : Setting → World → Question → PolicySyntax → Type 0
IsUnmetIn by world q s = (facts : Facts) → AreFacts by.functions world.entities facts → IsUnmet facts q s

-- some values fill the question, which keep what is told
abbrev pub CanBeFilled : Setting → Question → Told → Type 0
CanBeFilled by q told = (filling : Told) × (request : Known) × Agrees by q told filling request

-- the second world is the first with this policy in force besides
module _ (by : Setting) (world more : World) (s : PolicySyntax) where
  pub record SaysNothing : Type 0 where
    -- a known question has the same answer with it and without
    pub known : (facts : Facts) (request : Known) → IsUnmet facts (parts_of request) s
        → known_answer by more facts request ≡ known_answer by world facts request
    -- what is fair, prompt, and names the kinds of errors with it does so without it too
    pub fair : (q : Question) (told : Told) (answer : Answer) → IsUnmetIn by world q s → IsFair by more q told answer → IsFair by world q told answer
    pub prompt : (q : Question) (told : Told) (answer : Answer) → IsUnmetIn by world q s
        → IsPromptButKinds by more q told answer → IsPromptButKinds by world q told answer
    pub kinds : (q : Question) (told : Told) (answer : Answer) → IsUnmetIn by world q s → NamesKinds by more q told answer → NamesKinds by world q told answer
    -- so an answer with it is one without it, and doesn't name it, where some values fill the question
    pub first : (q : Question) (answer : Answer) → IsUnmetIn by world q s → CanBeFilled by q map.empty
        → IsFirstAnswer by more q answer → IsFirstAnswer by world q answer
    pub later : (asked : Asked) (told : Told) (answer : Answer) → IsUnmetIn by world asked.question s → CanBeFilled by asked.question told
        → IsLaterAnswer by more asked told answer → IsLaterAnswer by world asked told answer

-- A static policy that is added says nothing where its scope doesn't hold.
abbrev pub UnmetScopesSayNothing : Type 0
UnmetScopesSayNothing =
    (by : Setting) (world : World) (id : Text) (s : PolicySyntax) → map.get world.policies id ≡ None → is_template s ≡ false
    → SaysNothing by world (with_policy world id s) s

-- Nor does a link where the scope of its template, with its entities in the slots, doesn't hold.
abbrev pub UnmetLinksSayNothing : Type 0
UnmetLinksSayNothing =
    (by : Setting) (world : World) (id template : Text) (b : Bindings) (s : PolicySyntax)
    → map.get world.policies id ≡ None → template_at world.policies template ≡ Some s → binds_exactly b s ≡ true
    → SaysNothing by world (with_link world id template b) (linked b s)
