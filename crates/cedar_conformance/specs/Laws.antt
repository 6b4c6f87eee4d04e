-- What it means that a request which is known is accepted.
use Rattle.std.specs.Prelude.{◌≡◌, true, Option, Some, None}
use Rattle.either.specs.declared.Either.TheVariants.{Left}
use Rattle.cedar_language.specs.Uid.{Name, Uid}
use Rattle.cedar_language.specs.Tree.{Entity, Principal, Action, Resource, Context}
use Rattle.cedar_language.specs.Value.{Value, Plain}
use Rattle.cedar_language.specs.Meaning.{Request}
use Rattle.cedar_language.specs.WellFormed.{IsWellFormed}
use Rattle.cedar_typing.specs.Schema.{Signature, Schema, Environment}
use Rattle.cedar_typing.specs.Conforming.{IsRequestOf}
use Rattle.cedar_validator_schema.specs.Views.{schema_view}
use Rattle.cedar_validator_schema.specs.declared.schema.ValidatorSchema.{ValidatorSchema}
use Rattle.cedar_partial_evaluation.specs.Question.{Given}
use Rattle.cedar_requests.specs.Holding.{RequestParts}
use Rattle.cedar_conformance.specs.Requests.{request_fault}

-- a request that is known
abbrev pub known : Uid → Uid → Uid → Value → RequestParts
known p a q c = record { principal = Given p; action = Given a; resource = Given q; context = Some (Left c) }

-- its variables mean these
pub record Asks (p a q : Uid) (c : Value) (r : Request) : Type 0 where
  pub principal : r.variable Principal ≡ Plain (Entity p)
  pub action : r.variable Action ≡ Plain (Entity a)
  pub resource : r.variable Resource ≡ Plain (Entity q)
  pub context : r.variable Context ≡ c

-- the environment that it is of, for policies without slots
abbrev pub environment_of : Schema → Uid → Uid → Uid → Environment
environment_of s p a q = record { schema = s; principal = p.type_name; action = a; resource = q.type_name; slot = λ _. None }

pub record Conforming (s : Schema) (p a q : Uid) (r : Request) : Type 0 where
  pub declared : s.is_action a ≡ true
  pub applies : s.applies a p.type_name q.type_name ≡ true
  pub request : IsRequestOf (environment_of s p a q) r

-- a known request that is accepted is one of an environment of the schema
abbrev pub AcceptedRequestsConform : Type 0
AcceptedRequestsConform =
    (v : ValidatorSchema) (signature : Name → Option Signature) (p a q : Uid) (c : Value) → IsWellFormed c → request_fault v (known p a q c) ≡ None →
    (r : Request) → Asks p a q c r → Conforming (schema_view signature v) p a q r
