-- What an evaluation of a policy for a request finds.
use Rattle.std.specs.Prelude.{◌≡◌, ◌<◌, ◌≤◌, ⊤, ℕ, Bool, true, false, List, [], ◌∷◌}
use Rattle.cedar_language.specs.Uid.{Text}
use Rattle.cedar_language.specs.Tree.{Boolean, Variable, Context, Tree}
use Rattle.cedar_language.specs.Value.{Plain}
use Rattle.cedar_language.specs.Facts.{Facts}
use Rattle.cedar_language.specs.Answering.{Effect, Erring}
use Rattle.cedar_grammar.specs.Build.{Keyed}
use Rattle.cedar_partial_evaluation.specs.Early.{standing_of_answer}
use Rattle.cedar_partial_evaluation.specs.Partial.{Answer, Evaluated, ResidualTree, partial_in}
use Rattle.cedar_partial_evaluation.specs.ReadUnknowns.{read_unknowns, calls_unknown}
use Rattle.cedar_policy_parts.specs.Bindings.{Bindings, unbound}
use Rattle.cedar_extensions.specs.Failures.{Failure, OfKind, LimitMet, MemoryRanOut}
use Rattle.cedar_extensions.specs.Table.{Table}
use Rattle.cedar_entities.specs.declared.store.Entities.{Entities}
use Rattle.cedar_operators.specs.Store.{HasFacts}
use Rattle.cedar_evaluator.specs.Asking.{Inquiry, variable_asked, request_held}
use Rattle.cedar_interpreter.specs.Depths.{evaluation_depth}
use Rattle.cedar_interpreter.specs.Holding.{is_evaluated}
use Rattle.cedar_interpreter.specs.Naming.{naming_depth, IsPlain}
use Rattle.cedar_interpreter.specs.Operating.{HasFunctions, NamesNothing}
use Rattle.cedar_policy_set.specs.Entries.{Entry, static_policy, template, link, Entries}
pub use Rattle.cedar_policy_set.specs.Texts.{condition_in}
use Rattle.cedar_policy_set.specs.Texts.{syntax_in}

-- satisfied, not satisfied, an error, or the tree that is left of the condition
pub data Found : Type 0 where
  Satisfied : Found
  Unsatisfied : Found
  Erred : Failure → Found
  Open : Tree → Found

-- This was found where partial evaluation answers b; where the limit was met it says nothing of b, and want of memory is never kept.
abbrev pub Finds : Answer → Found → Type 0
Finds b Satisfied = b ≡ Evaluated (Plain (Boolean true))
Finds b Unsatisfied = b ≡ Evaluated (Plain (Boolean false))
Finds b (Erred (OfKind k)) = standing_of_answer b ≡ Erring k
Finds b (Erred LimitMet) = ⊤
Finds b (Erred MemoryRanOut) = ⊥
Finds b (Open r) = b ≡ ResidualTree r

-- the same with what is left read: calls of `unknown` on one string literal are unknowns
abbrev pub found_read : Found → Found
found_read (Open r) = Open (read_unknowns r)
found_read f = f

-- the entities that the slots of a policy's template are bound to
abbrev pub bindings_in : Entry → Bindings
bindings_in (static_policy s) = unbound
bindings_in (template s) = unbound
bindings_in (link t s b) = b

-- whether the request gives the variable a value
abbrev pub is_given : Inquiry → Variable → Bool
is_given i v = is_evaluated (variable_asked i.request v)

-- a policy's own, in their order
abbrev pub Annotations : Type 0
Annotations = List (Keyed Text)

-- what is kept of a policy: its id, its effect, its annotations, and what was found
pub record Kept : Type 0 where
  pub id : Text
  pub effect : Effect
  pub annotations : Annotations
  pub found : Found

module _ (i : Inquiry) (store : Entities) (table : Table) (depth : ℕ) where
  -- these are the facts by which the inquiry is answered, and no call in the tree names an unknown
  pub record IsServed (facts : Facts) (t : Tree) : Type 0 where
    pub entities : HasFacts store facts
    pub functions : HasFunctions table facts
    pub names_nothing : NamesNothing table t

  -- what partial evaluation of the policy's condition answers
  abbrev pub policy_answer : Facts → Entry → Answer
  policy_answer facts e = partial_in facts (request_held i (bindings_in e)) (condition_in e)

  -- with its slots bound so, the evaluation of a condition nests deeper than the limit
  abbrev pub IsTooDeep : Bindings → Tree → Type 0
  IsTooDeep slots t = (facts : Facts) → IsServed facts t → depth < evaluation_depth facts (request_held i slots) t

  -- the same, whatever calls in the condition may name
  abbrev pub NestsTooDeep : Bindings → Tree → Type 0
  NestsTooDeep slots t =
      (facts : Facts) → HasFacts store facts → HasFunctions table facts →
      depth < naming_depth table.has_unknown facts (request_held i slots) t

  -- these are the facts, and each call of `unknown`, which the table has, is on one string literal in the tree; none stands in what is
  -- left of the request's context
  pub record IsServedRead (facts : Facts) (t : Tree) : Type 0 where
    pub entities : HasFacts store facts
    pub functions : HasFunctions table facts
    pub naming : table.has_unknown ≡ true
    pub written : calls_unknown (read_unknowns t) ≡ false
    pub context : IsPlain (variable_asked i.request Context)

  -- what partial evaluation answers to the policy's condition with unknowns in the places of these calls
  abbrev pub read_answer : Facts → Entry → Answer
  read_answer facts e = partial_in facts (request_held i (bindings_in e)) (read_unknowns (condition_in e))

  -- with unknowns in the places of these calls, the evaluation of a condition nests as deep as the limit: a call is a level above its text
  abbrev pub IsTooDeepRead : Bindings → Tree → Type 0
  IsTooDeepRead slots t = (facts : Facts) → IsServedRead facts t → depth ≤ evaluation_depth facts (request_held i slots) (read_unknowns t)

  -- what is kept of the policy of this id
  pub record IsKept (e : Text × Entry) (k : Kept) : Type 0 where
    pub id : k.id ≡ e.0
    pub effect : k.effect ≡ (syntax_in e.1).effect
    pub annotations : k.annotations ≡ (syntax_in e.1).annotations
    pub found : (facts : Facts) → IsServed facts (condition_in e.1) → Finds (policy_answer facts e.1) k.found
    pub limit : k.found ≡ Erred LimitMet → IsTooDeep (bindings_in e.1) (condition_in e.1)
    pub named_limit : k.found ≡ Erred LimitMet → NestsTooDeep (bindings_in e.1) (condition_in e.1)
    pub read : (facts : Facts) → IsServedRead facts (condition_in e.1) → Finds (read_answer facts e.1) (found_read k.found)
    pub read_limit : k.found ≡ Erred LimitMet → IsTooDeepRead (bindings_in e.1) (condition_in e.1)

  -- what is kept of each policy, one after another
  abbrev pub AreKept : Entries → List Kept → Type 0
  AreKept [] [] = ⊤
  AreKept (e ∷ es) (k ∷ ks) = IsKept e k × AreKept es ks
  AreKept es ks = ⊥
