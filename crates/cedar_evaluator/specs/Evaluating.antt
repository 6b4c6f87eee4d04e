-- What the evaluation of a policy answers, against partial evaluation of its condition.
use Rattle.std.specs.Prelude.{◌≡◌, ◌⊎◌, ◌<◌, ⊤, ℕ, Bool, true, false, Result}
use Rattle.either.specs.declared.Either.{Either}
use Rattle.either.specs.declared.Either.TheVariants.{Left, Right}
use Rattle.cedar_language.specs.Answering as answering
use Rattle.cedar_language.specs.Answering.{Standing, Erring}
use Rattle.cedar_language.specs.Authorization.{standing_of}
use Rattle.cedar_language.specs.Facts.{Facts}
use Rattle.cedar_language.specs.Height.{height}
use Rattle.cedar_language.specs.Meaning.{Request, meaning}
use Rattle.cedar_language.specs.Tree.{Boolean, Tree}
use Rattle.cedar_language.specs.Value.{Plain, Outcome, NonValue}
use Rattle.cedar_grammar.specs.Policy as grammar
use Rattle.cedar_grammar.specs.Policy.{scope_tree}
use Rattle.cedar_partial_evaluation.specs.Early.{standing_of_answer}
use Rattle.cedar_partial_evaluation.specs.Leaves.{is_left}
use Rattle.cedar_partial_evaluation.specs.Mentions.{mentions_only}
use Rattle.cedar_partial_evaluation.specs.Partial.{Answer, Evaluated, LeafAnswers, partial_in}
use Rattle.cedar_policies.specs.Policies.{bindings_of, policy_syntax}
use Rattle.cedar_policies.specs.declared.policies.Policy.{Policy}
use Rattle.cedar_trees.specs.Bare.{bare}
use Rattle.cedar_trees.specs.declared.expr.Expr.{Expr}
use Rattle.cedar_extensions.specs.Answering.{FunctionAnswers}
use Rattle.cedar_extensions.specs.Giving.{GivesBy}
use Rattle.cedar_extensions.specs.declared.evaluation_error.EvaluationError.{EvaluationError}
use Rattle.cedar_interpreter.specs.Asking.{is_known_in, IsHeldOf}
use Rattle.cedar_interpreter.specs.Holding.{held_by, Knows, Serves, ServesRead}
use Rattle.cedar_interpreter.specs.declared.evaluator.Evaluator.{Evaluator}
use Rattle.cedar_evaluator.specs.Evaluations.{Found, Satisfied, Unsatisfied, Open, Finds, found_read}

-- the condition of a policy, its template's; slots stand there unbound
abbrev pub condition_of : Policy → Tree
condition_of p = grammar.condition (policy_syntax p)

-- the scope of a policy holds
abbrev pub IsInScope : {F : Type 0} → Evaluator F → Facts → Policy → Type 0
IsInScope ev facts p = partial_in facts (held_by ev (bindings_of p)) (scope_tree (policy_syntax p)) ≡ Evaluated (Plain (Boolean true))

-- so it is over facts that serve an evaluator, where the scope of the policy holds
abbrev pub InScope : {F : Type 0} → (F → FunctionAnswers) → Evaluator F → Policy → (Facts → LeafAnswers → Type 0) → Type 0
InScope answers ev p says = (facts : Facts) → Serves answers ev facts (condition_of p) → IsInScope ev facts p → says facts (held_by ev (bindings_of p))

-- the same over facts that the evaluator knows
abbrev pub InScopeKnown : {F : Type 0} → (F → FunctionAnswers) → Evaluator F → Policy → (Facts → LeafAnswers → Type 0) → Type 0
InScopeKnown answers ev p says = (facts : Facts) → Knows answers ev facts → IsInScope ev facts p → says facts (held_by ev (bindings_of p))

-- the same where calls of `unknown` are read as unknowns
abbrev pub InScopeRead : {F : Type 0} → (F → FunctionAnswers) → Evaluator F → Policy → (Facts → LeafAnswers → Type 0) → Type 0
InScopeRead answers ev p says = (facts : Facts) → ServesRead answers ev facts (condition_of p) → IsInScope ev facts p → says facts (held_by ev (bindings_of p))

-- satisfied or not, or what is left of the condition
abbrev pub found_by : Either Bool (Expr (Unit {0})) → Found
found_by (Left true) = Satisfied
found_by (Left false) = Unsatisfied
found_by (Right rest) = Open (bare rest)

-- the answer b to the condition: a Boolean, what is left of one, or an error, another value being a TypeError; the limit may be met
abbrev pub JudgesAt : Answer → Result (Either Bool (Expr (Unit {0}))) EvaluationError → Type 0
JudgesAt b result = GivesBy (λ e. Finds b (found_by e)) (λ k. standing_of_answer b ≡ Erring k) ⊤ result

-- the same where what is left is read
abbrev pub JudgesReadAt : Answer → Result (Either Bool (Expr (Unit {0}))) EvaluationError → Type 0
JudgesReadAt b result = GivesBy (λ e. Finds b (found_read (found_by e))) (λ k. standing_of_answer b ≡ Erring k) ⊤ result

-- ---- where nothing may be left

abbrev pub standing_by : Bool → Standing
standing_by true = answering.Satisfied
standing_by false = answering.Unsatisfied

-- how a policy stands by what its condition means, kinds of errors included; the limit may be met where the evaluation is deep
abbrev pub StandsBy : Type 0 → Outcome → Result Bool EvaluationError → Type 0
StandsBy deep meant result = GivesBy (λ s. standing_of meant ≡ standing_by s) (λ k. standing_of meant ≡ Erring k) deep result

-- a condition that mentions only variables that have a value, and no unknown, is answered by how the policy stands by what it means
-- for each such request; the limit may be met where the condition is higher, and want of memory says nothing
abbrev pub MeansStanding : Facts → LeafAnswers → ℕ → Tree → Result Bool EvaluationError → Type 0
MeansStanding facts holds depth t result =
    mentions_only (is_known_in holds) true t ≡ true →
    (request : Request) → IsHeldOf holds request →
    StandsBy (depth < height t) (meaning facts request t) result

-- how it stands by the answer b to the condition, an error, or `NonValue` where something is left; the limit may be met
abbrev pub StandsAt : Answer → Result Bool EvaluationError → Type 0
StandsAt b result =
    GivesBy (λ s. standing_of_answer b ≡ standing_by s) (λ k. (standing_of_answer b ≡ Erring k) ⊎ ((k ≡ NonValue) × (is_left b ≡ true))) ⊤ result
