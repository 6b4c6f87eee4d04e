-- What is told whether or not calls may name unknowns is told where none may.
use Rattle.cedar_language.specs.Tree.{Boolean}
use Rattle.cedar_language.specs.Value.{Plain}
use Rattle.cedar_trees.specs.Bare.{bare}
use Rattle.cedar_interpreter.proofs.Glanced.{told_plainly}
use Rattle.cedar_interpreter.proofs.evaluator.Evaluator.glance.Goals as goal

pub returns-clause-told : goal.returns-clause-told
returns-clause-told g c = λ facts slots has.
    let ev = c.args.self.now in
    told_plainly ev ev.depth (bare c.args.expr.now) (Plain (Boolean c.in_ok-told.told)) c.in_ok-told.ensures facts slots has
