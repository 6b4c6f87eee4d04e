-- A known request without a fault is one of an environment.
use Rattle.std.proofs.Common.{◌≡◌, Bool, true, false, ◌&&◌, Option, Some, None, refl, sym, subst}
use Rattle.std.specs.Prelude.{is_some}
use Rattle.either.specs.declared.Either.TheVariants.{Left}
use Rattle.cedar_language.specs.Uid.{Name, Uid}
use Rattle.cedar_language.specs.Tree.{Variable, Principal, Action, Resource, Context}
use Rattle.cedar_language.specs.Value.{Value}
use Rattle.cedar_language.specs.Meaning.{Request}
use Rattle.cedar_language.specs.Order.{same_name}
use Rattle.cedar_language.specs.WellFormed.{IsWellFormed}
use Rattle.std.specs.List.{list_any}
use Rattle.cedar_typing.specs.Types.{Records}
use Rattle.cedar_typing.specs.Conforming.{IsOf}
use Rattle.cedar_typing.specs.Deciding.{is_value_of, TypesAreDecided}
use Rattle.cedar_typing.specs.Leaves.{variable_type}
use Rattle.cedar_schema_grammar.specs.Declared.{or_else}
use Rattle.cedar_validator_schema.specs.Applying.{Application, applies_in}
use Rattle.cedar_validator_schema.specs.Actions.{application_at}
use Rattle.cedar_validator_schema.specs.Views.{schema_view, context_in}
use Rattle.cedar_conformance.specs.Requests.{RequestFault, unless, types_fault, uids_fault, application_fault}
use Rattle.cedar_conformance.specs.Laws.{Asks, environment_of, AcceptedRequestsConform}

neither : (a b : Option RequestFault) → or_else a b ≡ None → (a ≡ None) × (b ≡ None)
neither None b h = (refl, h)
neither (Some k) b h = cc

holds : (b : Bool) (k : RequestFault) → unless b k ≡ None → b ≡ true
holds true k h = refl
holds false k h = cc

both : (a b : Bool) → a ≡ true → b ≡ true → (a && b) ≡ true
both true b h k = k
both false b h k = h

record Applies (o : Option Application) (n m : Name) (c : Value) : Type 0 where
  declared : is_some o ≡ true
  applies : applies_in o n m ≡ true
  context : is_value_of (Records (context_in o)) c ≡ true

by_application : (o : Option Application) (a : Uid) (n m : Name) (c : Value) → application_fault o a (Some n) (Some m) (Some (Left c)) ≡ None → Applies o n m c
by_application None a n m c h = cc
by_application (Some x) a n m c h =
    let two = neither _ _ h in
    let taken = neither _ _ two.0 in
    record {
      declared = refl;
      applies = both (list_any (same_name n) x.principals) (list_any (same_name m) x.resources) (holds _ _ taken.0) (holds _ _ taken.1);
      context = holds _ _ two.1;
    }

pub accepted : TypesAreDecided → AcceptedRequestsConform
accepted decided v signature p a q c well h r asks =
    let acts = neither _ _ (neither (types_fault v (Some p.type_name) (Some q.type_name)) _ h).1 in
    let x = by_application (application_at v.actions a) a p.type_name q.type_name c acts.1 in
    record {
      declared = x.declared;
      applies = x.applies;
      request = record { variables = variables x.context; action = asks.action; slots = λ s n e. cc };
    }
  where
    variables : is_value_of (Records (context_in (application_at v.actions a))) c ≡ true → (w : Variable) → IsOf (variable_type (environment_of (schema_view signature v) p a q) w) (r.variable w)
    variables k Principal = (p, asks.principal, refl)
    variables k Action = (a, asks.action, refl)
    variables k Resource = (q, asks.resource, refl)
    variables k Context = subst (IsOf (Records (context_in (application_at v.actions a)))) (sym asks.context) ((decided (Records (context_in (application_at v.actions a))) c well).0 k)
