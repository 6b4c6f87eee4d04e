-- By what is taken from the tree that is written.
use Rattle.cedar_parser.specs.Literals.{free_operand}
use Rattle.cedar_cst.specs.View.{shown_primary}
use Rattle.cedar_trees.specs.Bare.{bare}
use Rattle.cedar_parser.proofs.Operands.{taken_is_written}
use Rattle.cedar_parser.proofs.Faults.{taken_tells}
use Rattle.cedar_parser.proofs.literals.written.Goals as goal

pub returns-in-Ok-clause-literal : goal.returns-in-Ok-clause-literal
returns-in-Ok-clause-literal c =
    taken_is_written (bare c.in-Ok.expr) (free_operand c.args.styles.now (shown_primary c.args.tree.now)) c.literal.result c.in-Ok.ensures.tree c.literal.ensures

pub returns-in-Ok-clause-shown : goal.returns-in-Ok-clause-shown
returns-in-Ok-clause-shown c = taken_tells (bare c.in-Ok.expr) c.literal.result _ c.literal.ensures
