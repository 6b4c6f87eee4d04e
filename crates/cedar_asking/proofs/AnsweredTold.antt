-- Why nothing is answered once more is told.
use Rattle.std.proofs.Common.{◌≡◌, inl, inr, sym, subst, ℕ, List, Err}
use Rattle.std.specs.declared.alloc.Global.{Global}
use Rattle.std.specs.declared.rc.RcStr.{RcStr}
use Rattle.cedar_language.specs.Value.{Value}
use Rattle.cedar_world.specs.Answer.{Answer}
use Rattle.cedar_world.specs.Asking.{Question}
use Rattle.cedar_world.specs.Heights.{Heights, AreHeights, SomeGrowsTooHigh}
use Rattle.cedar_world.specs.Setting.{Setting}
use Rattle.cedar_world.specs.Step.{SomeInForce}
use Rattle.cedar_world.specs.World.{World}
use Rattle.cedar_held.specs.BodyRefusals.{refusal_by}
use Rattle.cedar_entities.specs.declared.store.Entities.{Entities}
use Rattle.cedar_extensions.specs.Failures.{Failure, OfKind, LimitMet, MemoryRanOut, failure_of}
use Rattle.cedar_extensions.specs.Table.{Table}
use Rattle.cedar_replies.specs.declared.refusal.Refusal.{Refusal}
use Rattle.cedar_replies.specs.declared.refusal.Refusal.TheVariants as refusal
use Rattle.cedar_evaluator.specs.Holding.{holding_in}
use Rattle.cedar_evaluator.specs.Reauthorizing.{Reauthorizes}
use Rattle.cedar_evaluator.specs.declared.errors.ConcretizationError.TheVariants as concretization
use Rattle.cedar_evaluator.specs.declared.errors.ReauthorizationError.{ReauthorizationError}
use Rattle.cedar_evaluator.specs.declared.errors.ReauthorizationError.TheVariants as reauthorization
use Rattle.cedar_evaluator.specs.declared.partial_response.PartialResponse.{PartialResponse}
use Rattle.cedar_asking.specs.Erring.{SomeAtLimit}
use Rattle.cedar_asking.specs.Responses.{SaysResponse, AnswersTold, IsToldAs}
use Rattle.cedar_asking.specs.TellLaws.{IsContextFailure, IsWhyNotTold}
use Rattle.cedar_telling.specs.Tells.{told_in}
use Rattle.std.specs.Prelude.{Result}

-- what an authorizer with this table and this limit makes of a response
pub reauthorizes_at : (s : Entities) (t table : Table) (n depth : ℕ) (told : List (RcStr Global × Value)) (first : PartialResponse) (found : Result PartialResponse ReauthorizationError)
    → t ≡ table → n ≡ depth → Reauthorizes s t n told first found → Reauthorizes s table depth told first found
reauthorizes_at s t table n depth told first found e f h =
    subst (λ (m : ℕ). Reauthorizes s table m told first found) f (subst (λ (u : Table). Reauthorizes s u n told first found) e h)

module _ (by : Setting) (world : World) (q : Question) (first : PartialResponse) (old told : List (RcStr Global × Value)) (last : Answer) where
  by_failure : (f : Failure) → IsContextFailure by world q told f → AnswersTold by world q first old told last (Err (refusal_by f))
  by_failure (OfKind k) h = h
  by_failure LimitMet h = (inr h.0, λ heights are. inr (h.1 heights are))
  by_failure MemoryRanOut h = tt

  refused_by : (r s : Refusal) → r ≡ s → AnswersTold by world q first old told last (Err s) → AnswersTold by world q first old told last (Err r)
  refused_by r s is h = subst (λ (x : Refusal). AnswersTold by world q first old told last (Err x)) (sym is) h

  -- what is refused of values that aren't taken
  pub tells_nothing : (e : ReauthorizationError) (r : Refusal) → IsWhyNotTold by world q told e → IsToldAs e r → AnswersTold by world q first old told last (Err r)
  tells_nothing (reauthorization.ConcretizationError (concretization.ValueEval e)) r why is = refused_by r (refusal_by (failure_of e)) is (by_failure (failure_of e) why)
  tells_nothing (reauthorization.ConcretizationError (concretization.Memory e)) r why is = refused_by r refusal.Memory is tt
  tells_nothing (reauthorization.Memory e) r why is = refused_by r refusal.Memory is tt
  tells_nothing e r why is = absurd why

  -- and what isn't said of values that are
  abbrev IsOfPolicies : Type 0
  IsOfPolicies = SomeInForce world × ((h : Heights) → AreHeights by world q (told_in told) h → SomeGrowsTooHigh by world h)

  pub says_nothing : (again : PartialResponse) → (SomeAtLimit (holding_in again).errors → IsOfPolicies) → (r : Refusal) → SaysResponse again (Err r)
      → AnswersTold by world q first old told last (Err r)
  says_nothing again of_policies refusal.Depth some = let (force, high) = of_policies some in (inl force, λ heights are. inl (high heights are))
  says_nothing again of_policies refusal.Memory h = tt
  says_nothing again of_policies r h = absurd h
