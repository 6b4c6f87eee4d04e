-- What is served, from a conjunction to its right operand.
use Rattle.std.proofs.Common.{◌≡◌, refl, Bool, true, false}
use Rattle.std.specs.Prelude.{◌&&◌, ◌||◌}
use Rattle.cedar_language.specs.Tree.{Tree, And}
use Rattle.cedar_language.specs.Facts.{Facts}
use Rattle.cedar_partial_evaluation.specs.ReadUnknowns.{calls_unknown}
use Rattle.cedar_extensions.specs.Answering.{FunctionAnswers}
use Rattle.cedar_extensions.specs.Table.{as_table}
use Rattle.cedar_interpreter.specs.Holding.{Serves}
use Rattle.cedar_interpreter.specs.declared.evaluator.Evaluator.{Evaluator}

nothing_right : (b x y : Bool) → (b && (x || y)) ≡ false → (b && y) ≡ false
nothing_right false x y h = refl
nothing_right true false y h = h
nothing_right true true y h = cc

pub serves_and_right : {F : Type 0} (answers : F → FunctionAnswers) (ev : Evaluator F) (facts : Facts) (l r : Tree) → Serves answers ev facts (And l r) → Serves answers ev facts r
serves_and_right answers ev facts l r s = record {
  entities = s.entities;
  functions = s.functions;
  names_nothing = nothing_right (as_table answers ev.extensions.now).has_unknown (calls_unknown l) (calls_unknown r) s.names_nothing;
}
