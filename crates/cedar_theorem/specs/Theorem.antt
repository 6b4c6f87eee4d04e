-- What a session answers to a question in which nothing is unknown, whatever commands it was sent before.
-- (Cedar language reference, "Authorization".)
use Rattle.std.specs.Prelude.{◌≡◌, ◌↔◌, ◌⊎◌, true, Some, None, IsTrue, List, codes}
use Rattle.std.specs.FinMap as map
use Rattle.cedar_language.specs.Uid.{Text}
use Rattle.cedar_language.specs.Tree.{Boolean, Entity, Tree, Lit}
use Rattle.cedar_language.specs.Value.{Plain, Kind, Outcome, Gives}
use Rattle.cedar_language.specs.Facts.{Facts}
use Rattle.cedar_language.specs.Meaning.{meaning}
use Rattle.cedar_language.specs.Answering.{Effect, Permit, Forbid, Allow, Deny, Erring}
use Rattle.cedar_language.specs.Authorization.{Known, request_at, standing_of}
use Rattle.cedar_grammar.specs.Functions.{Functions}
use Rattle.cedar_grammar.specs.Syntax.{PolicySyntax, condition}
use Rattle.cedar_world.specs.Answer.{Answer, has_id}
use Rattle.cedar_world.specs.Commands.{Reply}
use Rattle.cedar_theorem.specs.Bodies.{field, value_in}
use Rattle.cedar_theorem.specs.Holdings.{Policies, Entities, in_force, IsBody, Command, Holds, AreFacts}

-- The body asks this: it gives principal, action, resource and context, and the context has a value.
pub record Asks (functions : Functions) (text : Text) (request : Known) : Type 0 where
  pub body : Tree
  pub reads : IsBody functions text body
  pub principal : field (codes "principal") body ≡ Some (Lit (Entity request.principal))
  pub action : field (codes "action") body ≡ Some (Lit (Entity request.action))
  pub resource : field (codes "resource") body ≡ Some (Lit (Entity request.resource))
  pub context : value_in functions (field (codes "context") body) ≡ Some request.context

module _ (facts : Facts) (request : Known) (policies : Policies) where
  -- what the condition of a policy means
  abbrev pub means : PolicySyntax → Outcome
  means s = meaning facts (request_at request (λ slot. None)) (condition s)

  -- a policy of this effect is in force under this id, and its condition means true
  abbrev pub IsSatisfied : Effect → Text → Type 0
  IsSatisfied effect id = (s : PolicySyntax) × (in_force policies id ≡ Some s) × (s.effect ≡ effect) × (means s ≡ Gives (Plain (Boolean true)))

  abbrev pub SomeSatisfied : Effect → Type 0
  SomeSatisfied effect = (id : Text) × IsSatisfied effect id

  -- one is in force under this id, and its condition means an error of this kind; a value that isn't Boolean is a TypeError
  abbrev pub Errs : Text → Kind → Type 0
  Errs id k = (s : PolicySyntax) × (in_force policies id ≡ Some s) × (standing_of (means s) ≡ Erring k)

  -- `allow` where some permit is satisfied and no forbid is; `deny` where a forbid is, or no permit. The reasons are the satisfied
  -- policies of the effect that decides, and what errs is named, with the kind of its error.
  pub record IsByTheRules (answer : Answer) : Type 0 where
    pub decided : (answer.decision ≡ Some Allow) ⊎ (answer.decision ≡ Some Deny)
    pub allows : (answer.decision ≡ Some Allow) ↔ (SomeSatisfied Permit × (SomeSatisfied Forbid → ⊥))
    pub denies : (answer.decision ≡ Some Deny) ↔ (SomeSatisfied Forbid ⊎ (SomeSatisfied Permit → ⊥))
    pub reasons : (id : Text) → IsTrue (has_id answer.must id)
        ↔ (((answer.decision ≡ Some Allow) × IsSatisfied Permit id) ⊎ ((answer.decision ≡ Some Deny) × IsSatisfied Forbid id))
    pub no_other : answer.may ≡ answer.must
    pub erring : (id : Text) (k : Kind) → (map.get answer.erring id ≡ Some k) ↔ Errs id k

-- After these commands and replies an `ask` with this body has an answer by the rules: on what these commands led to.
pub record IsAnsweredByTheRules (functions : Functions) (commands : List Command) (replies : List Reply) (text : Text) (answer : Answer) : Type 0 where
  pub policies : Policies
  pub entities : Entities
  pub holds : Holds functions commands replies policies entities
  pub by_the_rules : (request : Known) → Asks functions text request
      → (facts : Facts) × AreFacts functions entities facts × IsByTheRules facts request policies answer
