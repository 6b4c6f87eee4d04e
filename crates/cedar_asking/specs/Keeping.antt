-- What is kept of an open question, by which it is answered once more is told.
use Rattle.std.specs.Prelude.{◌≡◌, ℕ, false, true, Some, None, List}
use Rattle.std.specs.declared.alloc.Global.{Global}
use Rattle.std.specs.declared.rc.RcStr.{RcStr}
use Rattle.cedar_language.specs.Uid.{Text}
use Rattle.cedar_language.specs.Value.{Value}
use Rattle.cedar_partial_evaluation.specs.Unknowns.{EachUnknownOf}
use Rattle.cedar_world.specs.Answer.{Answer}
use Rattle.cedar_world.specs.Asking.{Entries as Written, NoContext, WithEntries, Question}
use Rattle.cedar_world.specs.Question.{is_unknown, fits}
use Rattle.cedar_world.specs.Setting.{Setting}
use Rattle.cedar_world.specs.Values.{holds_bad_unknown}
use Rattle.cedar_world.specs.World.{World}
use Rattle.cedar_world.specs.WorldFacts.{facts_of}
use Rattle.cedar_world.specs.Joined.{IsSteady}
use Rattle.cedar_entities.specs.declared.store.Entities.{Entities}
use Rattle.cedar_extensions.specs.Table.{Table}
use Rattle.cedar_evaluator.specs.Asking.{untold}
use Rattle.cedar_policy_set.specs.Entries.{Entries, IsWhole}
use Rattle.cedar_requests.specs.Holding.{RequestParts}
use Rattle.cedar_substitution.specs.Told.{told_for}
use Rattle.cedar_held.specs.Built.{IsBuilt, GivesBuilt}
use Rattle.cedar_evaluator.specs.Authorizing.{RespondsWithoutFalse}
use Rattle.cedar_evaluator.specs.Holding.{holding_in}
use Rattle.cedar_evaluator.specs.declared.partial_response.PartialResponse.{PartialResponse}
use Rattle.cedar_asking.specs.Answering.{AreOf}
use Rattle.cedar_asking.specs.Erring.{SomeAtLimit}
use Rattle.cedar_telling.specs.Requests.{IsRequestOf}
use Rattle.cedar_telling.specs.Tells.{told_in}
use Rattle.cedar_asking.specs.Waiting.{SaysUntilTold}

-- no unknown of it states a type
abbrev pub StatesNoTypes : Written → Type 0
StatesNoTypes NoContext = Unit {0}
StatesNoTypes (WithEntries ks ts) = EachUnknownOf (λ n ty. ty ≡ None) ts

-- the unknowns of a context are named: none as a variable, none with a type, and no call of `unknown` is left
pub record IsNamed (context : Written) : Type 0 where
  pub well : holds_bad_unknown context ≡ false
  pub untyped : StatesNoTypes context

-- the response to a request of the question, by the policies and entities of the world, without those that aren't satisfied; no limit was met
pub record IsFirstResponse (by : Setting) (world : World) (q : Question) (first : PartialResponse) : Type 0 where
  pub policies : Entries
  pub store : Entities
  pub table : Table
  pub depth : ℕ
  pub request : RequestParts
  pub gives : GivesBuilt table
  pub whole : IsWhole policies
  pub of : AreOf by world policies store table depth
  pub is_request : IsRequestOf by table q request
  pub named : IsNamed q.context
  pub responds : RespondsWithoutFalse (untold request) store table depth policies first
  pub within : SomeAtLimit (holding_in first).errors → ⊥

-- the values told are for unknowns of the question and of their kinds, and their trees make them again
pub record AreTold (q : Question) (told : List (RcStr Global × Value)) : Type 0 where
  pub built : (n : Text) (v : Value) → told_for told n ≡ Some v → IsBuilt v
  pub named : (n : Text) (v : Value) → told_for told n ≡ Some v → is_unknown q n ≡ true
  pub fit : (n : Text) (v : Value) → told_for told n ≡ Some v → fits q n v ≡ true

-- the first response, the values told since, and the last answer, which stays true whatever is told besides; it is the first
-- response's until a name is told that stands in what is left of a policy
pub record KeepsQuestion (by : Setting) (world : World) (q : Question) (first : PartialResponse) (told : List (RcStr Global × Value)) (last : Answer) : Type 0 where
  pub response : IsFirstResponse by world q first
  pub are_told : AreTold q told
  pub steady : IsSteady by world (facts_of by world) q (told_in told) last
  pub waits : SaysUntilTold (holding_in first) (told_in told) last
