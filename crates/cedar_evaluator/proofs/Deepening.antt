-- An evaluation that nests too deep by an evaluator nests too deep for the inquiry that it answers for.
use Rattle.std.proofs.Common.{◌<◌, ◌≤◌, ℕ, sym, subst}
use Rattle.cedar_language.specs.Facts.{Facts}
use Rattle.cedar_language.specs.Tree.{Tree}
use Rattle.cedar_partial_evaluation.specs.Partial.{LeafAnswers}
use Rattle.cedar_partial_evaluation.specs.ReadUnknowns.{read_unknowns}
use Rattle.cedar_policy_parts.specs.Bindings.{Bindings}
use Rattle.cedar_entities.specs.declared.store.Entities.{Entities}
use Rattle.cedar_extensions.specs.Answering.{FunctionAnswers}
use Rattle.cedar_extensions.specs.Table.{Table}
use Rattle.cedar_operators.specs.Store.{HasFacts}
use Rattle.cedar_interpreter.specs.Depths.{evaluation_depth}
use Rattle.cedar_interpreter.specs.Holding.{held_by, Knows, is_naming, depth_of}
use Rattle.cedar_interpreter.specs.Naming.{naming_depth}
use Rattle.cedar_interpreter.specs.Operating.{HasFunctions}
use Rattle.cedar_interpreter.specs.declared.evaluator.Evaluator.{Evaluator}
use Rattle.cedar_evaluator.specs.Asking.{Inquiry, request_held, IsEvaluatorOf}

module _ {F : Type 0} (answers : F → FunctionAnswers) (i : Inquiry) (store : Entities) (table : Table) (depth : ℕ) (ev : Evaluator F) (is : IsEvaluatorOf answers i store table depth ev) where
  pub knows : (facts : Facts) → HasFacts store facts → HasFunctions table facts → Knows answers ev facts
  knows facts has functions = record {
    entities = subst (λ (e : Entities). HasFacts e facts) (sym is.store) has;
    functions = subst (λ (x : Table). HasFunctions x facts) (sym is.functions) functions;
  }

  module _ (facts : Facts) (slots : Bindings) (t : Tree) where
    pub deep_as : depth_of ev < evaluation_depth facts (held_by ev slots) t → depth < evaluation_depth facts (request_held i slots) t
    deep_as h =
        subst (λ (d : ℕ). d < evaluation_depth facts (request_held i slots) t) is.limit
        (subst (λ (holds : LeafAnswers). depth_of ev < evaluation_depth facts holds t) (is.holds slots) h)

    pub nests_as : depth_of ev < naming_depth (is_naming answers ev) facts (held_by ev slots) t → depth < naming_depth table.has_unknown facts (request_held i slots) t
    nests_as h =
        subst (λ (x : Table). depth < naming_depth x.has_unknown facts (request_held i slots) t) is.functions
        (subst (λ (d : ℕ). d < naming_depth (is_naming answers ev) facts (request_held i slots) t) is.limit
        (subst (λ (holds : LeafAnswers). depth_of ev < naming_depth (is_naming answers ev) facts holds t) (is.holds slots) h))

    pub deep_read_as : depth_of ev ≤ evaluation_depth facts (held_by ev slots) (read_unknowns t) → depth ≤ evaluation_depth facts (request_held i slots) (read_unknowns t)
    deep_read_as h =
        subst (λ (d : ℕ). d ≤ evaluation_depth facts (request_held i slots) (read_unknowns t)) is.limit
        (subst (λ (holds : LeafAnswers). depth_of ev ≤ evaluation_depth facts holds (read_unknowns t)) (is.holds slots) h)
