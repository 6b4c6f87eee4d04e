-- No answer names a failed look-up of a function, and none to a question that is asked a slot that isn't linked. (Cedar language
-- reference, "Extension functions" and "Policy templates".)
use Rattle.std.specs.Prelude.{◌≡◌, ◌≢◌, Bool, true, ◌&&◌, Option, Some, is_some, IsSome, List, [], Contains}
use Rattle.std.specs.FinMap as finite
use Rattle.cedar_language.specs.Uid.{Text, Name}
use Rattle.cedar_language.specs.Tree.{Variable, SlotId, ValueType, Tree, Slot, If, And, Or, Apply, Trees, no_trees, a_tree}
use Rattle.cedar_language.specs.Value.{Kind, FailedExtensionFunctionLookup}
use Rattle.cedar_language.specs.Facts.{Facts}
use Rattle.cedar_language.specs.Constructing.{the_constructor}
use Rattle.cedar_language.specs.Answering.{Standing, Erring}
use Rattle.cedar_language.specs.Slots.{Slots}
use Rattle.cedar_partial_evaluation.specs.Partial.{Answer, Evaluated, ResidualTree, Failed, LeafAnswers, partial_in}
use Rattle.cedar_grammar.specs.Calls.{calls_none_but}
use Rattle.cedar_grammar.specs.Policy.{body_slots}
use Rattle.cedar_world.specs.Answer.{Answer as Answered}
use Rattle.cedar_world.specs.Asking.{Question, Told}
use Rattle.cedar_world.specs.Bodies.{ask_body}
use Rattle.cedar_world.specs.Commands.{Reply}
use Rattle.cedar_world.specs.KnownKinds.{IsOrdinary, IsFound}
use Rattle.cedar_world.specs.Session.{Command, IsReached}
use Rattle.cedar_world.specs.Setting.{Setting, ArePolicies, IsBody}
use Rattle.cedar_world.specs.Standing.{StandsEarly}
use Rattle.cedar_grammar.specs.Bindings.{Bindings, linked}
use Rattle.cedar_grammar.specs.Syntax.{PolicySyntax, condition}
use Rattle.cedar_world.specs.World.{World, Policies, Policy, Entities, AreFacts, in_force_at}
use Rattle.cedar_world.specs.WorldFacts.{facts_of}
use Rattle.cedar_world.specs.Again.{standing_again, StandsAgain}
use Rattle.cedar_world.specs.Joined.{IsJoined}

-- ---- trees

module _ (slots : Bool) (passes : Name → Bool) where
  -- each function that the tree calls has a name that passes, and slots stand in it only where they may; unknowns may stand in it
  abbrev mutual
    pub calls_among : Tree → Bool
    calls_among (Slot s) = slots
    calls_among (If t y n) = calls_among t && (calls_among y && calls_among n)
    calls_among (And l r) = calls_among l && calls_among r
    calls_among (Or l r) = calls_among l && calls_among r
    calls_among (Apply op ts) = calls_none_but passes op && all_call_among ts
    calls_among t = true

    pub all_call_among : Trees → Bool
    all_call_among no_trees = true
    all_call_among (a_tree t ts) = calls_among t && all_call_among ts

-- each function that the tree calls is there
abbrev pub finds_all : Facts → Tree → Bool
finds_all facts = calls_among true (λ name. is_some (facts.function name))

-- ---- evaluations

-- what is left calls functions that are there, and an error is no failed look-up
abbrev pub IsFoundAnswer : Facts → Answer → Type 0
IsFoundAnswer facts (Evaluated v) = Unit {0}
IsFoundAnswer facts (ResidualTree t) = finds_all facts t ≡ true
IsFoundAnswer facts (Failed k) = k ≢ FailedExtensionFunctionLookup

pub record AreFoundLeaves (facts : Facts) (holds : LeafAnswers) : Type 0 where
  pub variable : (v : Variable) → IsFoundAnswer facts (holds.variable v)
  pub unknown : (n : Text) (ty : Option ValueType) → IsFoundAnswer facts (holds.unknown n ty)
  pub slot : (s : SlotId) → IsFoundAnswer facts (holds.slot s)

-- so is the answer to a tree whose functions are there; values in what is left are written by the constructor
abbrev pub FoundAnswers : Type 0
FoundAnswers =
    (facts : Facts) → IsSome (facts.function the_constructor) → (holds : LeafAnswers) → AreFoundLeaves facts holds
    → (t : Tree) → finds_all facts t ≡ true → IsFoundAnswer facts (partial_in facts holds t)

-- ---- policies

-- the policy errs with no failed look-up, neither when the question is asked nor where what was left, with any slots bound, is
-- evaluated again
pub record FindsFunctions (facts : Facts) (q : Question) (told : Told) (s : PolicySyntax) : Type 0 where
  pub early : (k : Kind) → StandsEarly facts q told s (Erring k) → k ≢ FailedExtensionFunctionLookup
  pub again : (slots : Slots) (k : Kind) → Erring k ≡ standing_again facts q told slots (condition s) → k ≢ FailedExtensionFunctionLookup

-- So does each policy of a text, as it is written and with slots bound, for a question that a body asks, whatever is told.
abbrev pub EarlyTextsFindFunctions : Type 0
EarlyTextsFindFunctions =
    (by : Setting) (entities : Entities) (facts : Facts) → AreFacts by.functions entities facts
    → (text : Text) (ss : List PolicySyntax) → ArePolicies by text ss
    → (s : PolicySyntax) → Contains ss s
    → (body : Text) (tree : Tree) (q : Question) → IsBody by body tree → ask_body tree ≡ Some q
    → (told : Told) → FindsFunctions facts q told s × ((b : Bindings) → FindsFunctions facts q told (linked b s))

-- no clause of a policy or template that these hold has a slot
abbrev pub ClausesHoldNoSlot : Policies → Type 0
ClausesHoldNoSlot policies = (id : Text) (s : PolicySyntax) → finite.get policies id ≡ Some (Policy s) → body_slots s.body ≡ []

-- The policy errs with no failed look-up, neither when the question is asked, and then with no slot that isn't linked either,
-- nor where what was left is evaluated again: that may hold a slot of a clause, which isn't bound any more.
pub record StandsOrdinarily (policies : Policies) (facts : Facts) (q : Question) (told : Told) (s : PolicySyntax) : Type 0 where
  pub early : (k : Kind) → StandsEarly facts q told s (Erring k) → IsOrdinary k
  pub again : (k : Kind) → StandsAgain policies facts q told s (Erring k) → IsFound k
  pub again_without_slots : ClausesHoldNoSlot policies → (k : Kind) → StandsAgain policies facts q told s (Erring k) → IsOrdinary k

-- So does each policy that is in force after any list of commands.
abbrev pub PoliciesInForceErrOrdinarily : Type 0
PoliciesInForceErrOrdinarily =
    (by : Setting) (commands : List Command) (replies : List Reply) (world : World) → IsReached by commands replies world
    → (facts : Facts) → AreFacts by.functions world.entities facts
    → (id : Text) (s : PolicySyntax) → in_force_at world.policies id ≡ Some s
    → (body : Text) (tree : Tree) (q : Question) → IsBody by body tree → ask_body tree ≡ Some q
    → (told : Told) → StandsOrdinarily world.policies facts q told s

-- ---- answers

-- each error that the answer lists is one with which a policy in force stands
abbrev pub ListsStanding : World → (PolicySyntax → Standing → Type 0) → Answered → Type 0
ListsStanding world Stands answer =
    (id : Text) (k : Kind) → finite.get answer.erring id ≡ Some k → (s : PolicySyntax) × (in_force_at world.policies id ≡ Some s) × Stands s (Erring k)

-- each error that the answer names is of a kind that is fine
abbrev pub NamesErrors : (Kind → Type 0) → Answered → Type 0
NamesErrors IsFine answer = (id : Text) (k : Kind) → finite.get answer.erring id ≡ Some k → IsFine k

-- no error is a failed look-up, or a slot that isn't linked
abbrev pub NamesOrdinaryErrors : Answered → Type 0
NamesOrdinaryErrors = NamesErrors IsOrdinary

-- no error is a failed look-up
abbrev pub NamesFoundErrors : Answered → Type 0
NamesFoundErrors = NamesErrors IsFound

-- some body asks the question
abbrev pub IsAskedBy : Setting → Question → Type 0
IsAskedBy by q = (body : Text) × (tree : Tree) × IsBody by body tree × (ask_body tree ≡ Some q)

-- So no answer names a failed look-up, in a world that is reached by commands: neither one to a question that a body asks, nor one
-- that is joined with it once more is told. The first one names no slot that isn't linked either, nor does the later one where no
-- clause has a slot.
pub record AnswersErrOrdinarily : Type 0 where
  pub first : (by : Setting) (commands : List Command) (replies : List Reply) (world : World) → IsReached by commands replies world
      → (q : Question) → IsAskedBy by q → (answer : Answered) → ListsStanding world (StandsEarly (facts_of by world) q finite.empty) answer → NamesOrdinaryErrors answer
  pub later : (by : Setting) (commands : List Command) (replies : List Reply) (world : World) → IsReached by commands replies world
      → (q : Question) → IsAskedBy by q → (told : Told) (last new answer : Answered) → ListsStanding world (StandsAgain world.policies (facts_of by world) q told) new
      → IsJoined last new answer → NamesFoundErrors last → NamesFoundErrors answer
  pub later_without_slots : (by : Setting) (commands : List Command) (replies : List Reply) (world : World) → IsReached by commands replies world
      → ClausesHoldNoSlot world.policies
      → (q : Question) → IsAskedBy by q → (told : Told) (last new answer : Answered) → ListsStanding world (StandsAgain world.policies (facts_of by world) q told) new
      → IsJoined last new answer → NamesOrdinaryErrors last → NamesOrdinaryErrors answer
  pub weaker : (answer : Answered) → NamesOrdinaryErrors answer → NamesFoundErrors answer
