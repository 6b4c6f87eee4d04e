-- Answers read nothing of a world's policies but what is in force.
use Rattle.std.specs.Prelude.{◌≡◌, ◌↔◌, true, Some, List, [], ◌∷◌, All, Contains}
use Rattle.std.specs.FinMap as map
use Rattle.std.specs.FinMap.Entries.{find}
use Rattle.cedar_language.specs.Uid.{Text}
use Rattle.cedar_language.specs.Facts.{Facts}
use Rattle.cedar_language.specs.Authorization.{Known}
use Rattle.cedar_grammar.specs.Token.{Token}
use Rattle.cedar_grammar.specs.Tokens.{IsTokens}
use Rattle.cedar_grammar.specs.Policies.{IsWrittenLink}
use Rattle.cedar_world.specs.Orders.{text_cmp}
use Rattle.cedar_world.specs.Answer.{Answer}
use Rattle.cedar_grammar.specs.Functions.{policy_names}
use Rattle.cedar_grammar.specs.Bindings.{Bindings, binding_of, linked, binds_exactly}
use Rattle.cedar_grammar.specs.Syntax.{PolicySyntax}
use Rattle.cedar_world.specs.World.{World, Asked, Policy, Link, Policies, template_at, in_force, in_force_at}
use Rattle.cedar_world.specs.Asking.{Question, Told}
use Rattle.cedar_world.specs.Setting.{Setting, ArePolicies}
use Rattle.cedar_world.specs.Answers.{known_answer}
use Rattle.cedar_world.specs.Step.{IsFirstAnswer, IsLaterAnswer}

-- just the policies in force, in any order
pub record AreInForce (world : World) (ps : List (Text × PolicySyntax)) : Type 0 where
  pub each : All (λ p. in_force_at world.policies p.0 ≡ Some p.1) ps
  pub every : (id : Text) (s : PolicySyntax) → in_force_at world.policies id ≡ Some s → Contains ps (id, s)

-- two worlds hold the same entities, and under each id the same policy is in force
pub record AreAlike (world other : World) : Type 0 where
  pub entities : world.entities ≡ other.entities
  pub policies : (id : Text) → in_force_at world.policies id ≡ in_force_at other.policies id

-- each question has the same answers in both worlds: those when it is asked, and those after values are told
pub record AnswerAlike (by : Setting) (world other : World) : Type 0 where
  pub first : (q : Question) (answer : Answer) → IsFirstAnswer by world q answer ↔ IsFirstAnswer by other q answer
  pub later : (asked : Asked) (told : Told) (answer : Answer) → IsLaterAnswer by world asked told answer ↔ IsLaterAnswer by other asked told answer

pub record AnswersReadWhatIsInForce : Type 0 where
  -- the list of the policies in force holds those that are in force under their ids
  pub listed : (world : World) → AreInForce world (in_force world.policies)
  pub found : (policies : Policies) (id : Text) → find text_cmp id (in_force policies) ≡ in_force_at policies id
  -- worlds that are alike have the same answers
  pub known : (by : Setting) (world other : World) (facts : Facts) (request : Known) → AreAlike world other → known_answer by world facts request ≡ known_answer by other facts request
  pub alike : (by : Setting) (world other : World) → AreAlike world other → AnswerAlike by world other

-- A link is answered as the policy that it writes.
abbrev pub LinksAreAnsweredAsWritten : Type 0
LinksAreAnsweredAsWritten =
    (by : Setting) (world : World) (id template : Text) (b : Bindings) (s : PolicySyntax)
    → map.get world.policies id ≡ Some (Link template b) → template_at world.policies template ≡ Some s → binds_exactly b s ≡ true
    → AnswerAlike by world (record world { policies = map.insert world.policies id (Policy (linked b s)) })

-- Any text that writes a link, its template's tokens with some spelling of the bound entity in the place of each slot, is read as one policy, and the link is answered as that policy.
abbrev pub WrittenLinksAreAnswered : Type 0
WrittenLinksAreAnswered =
    (by : Setting) (world : World) (id template : Text) (b : Bindings) (s : PolicySyntax)
    → map.get world.policies id ≡ Some (Link template b) → template_at world.policies template ≡ Some s → binds_exactly b s ≡ true
    → (text : Text) (tokens : List Token) → IsTokens text tokens → IsWrittenLink (policy_names by.functions) s (binding_of b) tokens
    → (p : PolicySyntax) × ArePolicies by text (p ∷ []) × AnswerAlike by world (record world { policies = map.insert world.policies id (Policy p) })
