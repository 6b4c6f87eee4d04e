-- A limit that is met once more is told is met by what was left of a policy that is in force.
use Rattle.std.proofs.Common.{ap, subst, ℕ, List, Contains}
use Rattle.std.specs.declared.alloc.Global.{Global}
use Rattle.std.specs.declared.rc.RcStr.{RcStr}
use Rattle.cedar_language.specs.Value.{Value}
use Rattle.cedar_world.specs.Asking.{Question}
use Rattle.cedar_world.specs.Setting.{Setting}
use Rattle.cedar_world.specs.Step.{SomeInForce}
use Rattle.cedar_world.specs.World.{World}
use Rattle.cedar_entities.specs.declared.store.Entities.{Entities}
use Rattle.cedar_extensions.specs.Failures.{LimitMet}
use Rattle.cedar_extensions.specs.Table.{Table}
use Rattle.cedar_evaluator.specs.Asking.{untold}
use Rattle.cedar_policy_set.specs.Entries.{policies_of}
use Rattle.cedar_held.specs.PolicyWorlds.{FindsAsWorlds}
use Rattle.cedar_substitution.specs.Told.{told_for}
use Rattle.cedar_evaluator.specs.Holding.{holding_in}
use Rattle.cedar_evaluator.specs.Reauthorizing.{IsReauthorized}
use Rattle.cedar_evaluator.specs.Residuals.{residuals_with, is_any}
use Rattle.cedar_evaluator.specs.Responses.{Holding}
use Rattle.cedar_evaluator.specs.declared.partial_response.PartialResponse.{PartialResponse}
use Rattle.cedar_asking.specs.Erring.{SomeAtLimit}
use Rattle.cedar_asking.specs.Keeping.{IsFirstResponse}
use Rattle.cedar_asking.proofs.Errors.{limit_kept}
use Rattle.cedar_evaluator.proofs.KeptOf.{kept_of}
use Rattle.cedar_asking.proofs.InForce.{some_in_force}
use Rattle.cedar_evaluator.proofs.Taken.{true_kept, is_left}

module _ (finds : FindsAsWorlds) (by : Setting) (world : World) (q : Question) (first : PartialResponse) (response : IsFirstResponse by world q first) where
  pub met_again : (told : List (RcStr Global × Value)) (s : Entities) (table : Table) (depth : ℕ) (again : PartialResponse)
      → IsReauthorized s table depth told first again → SomeAtLimit (holding_in again).errors → SomeInForce world
  met_again told s table depth again r (id, c) =
      let (l, in_later, found) = limit_kept r.kept id (subst (λ errors. Contains errors (id, LimitMet)) (ap (λ (h : Holding). h.errors) r.holds) c) in
      let (d, in_left, of_later) = kept_of (record { request = r.request; told = told_for told }) s table depth (residuals_with is_any first) r.kept r.each l in_later in
      let (k, in_ks, left) = is_left response.responds.kept first (true_kept response.responds.kept (holding_in first) response.responds.holds) d in_left in
      let (e, in_set, of) =
      kept_of (untold response.request) response.store response.table response.depth (policies_of response.policies) response.responds.kept
      response.responds.each k in_ks in
      some_in_force response.policies response.whole response.of.slots finds world response.of.policies e in_set
