-- Why no expression was made of the tree is what the first error tells, which else tells of memory; one that was made is what the tree
-- writes, and it is given where no slot stands in it.
use Rattle.std.proofs.Common.{inl}
use Rattle.cedar_grammar.specs.Converting.{expr_tree}
use Rattle.cedar_cst.specs.View.{shown_expr}
use Rattle.cedar_faults.specs.Reasons.{reason}
use Rattle.cedar_faults.proofs.Telling.{tells_more}
use Rattle.cedar_parser.specs.Errors.{cause_of}
use Rattle.cedar_builders.specs.Own.{own_operations}
use Rattle.cedar_conversion.specs.Building.{IsRefused}
use Rattle.cedar_conversion.specs.Shows.{expr_shows}
use Rattle.cedar_parser.proofs.Reading.{expr_written, told_misses}
use Rattle.cedar_parser.proofs.Faults.{refused_tells}
use Rattle.cedar_parser.proofs.NoSlots.{unwritten_free, written_free, shown_free}
use Rattle.cedar_parser.proofs.expressions.converted.Goals as goal

pub returns-in-Ok-clause-tree : goal.returns-in-Ok-clause-tree
returns-in-Ok-clause-tree c =
    let e = shown_expr c.args.tree.now in
    written_free (expr_tree c.args.styles.now e) c.in-Ok.expr (expr_written c.trees_are_built.ensures c.args.styles.now e c.in-Ok.expr c.in-Ok.ensures.tree) c.without_slots.result c.without_slots.ensures.tree

pub returns-in-Ok-clause-shown : goal.returns-in-Ok-clause-shown
returns-in-Ok-clause-shown c =
    let e = shown_expr c.args.tree.now in
    shown_free (expr_tree c.args.styles.now e) c.in-Ok.expr (expr_written c.trees_are_built.ensures c.args.styles.now e c.in-Ok.expr c.in-Ok.ensures.tree) c.without_slots.result (expr_shows c.args.styles.now e) c.without_slots.ensures.shown

pub returns-in-Err-clause-tree : goal.returns-in-Err-clause-tree
returns-in-Err-clause-tree c =
    let written = expr_tree c.args.styles.now (shown_expr c.args.tree.now) in
    let told = cause_of c.refused.result.0.head in
    unwritten_free told written (told_misses (IsRefused own_operations) _ (reason c.in-Err.error) told written c.refused.ensures.cause c.in-Err.ensures.tree)

pub returns-in-Err-clause-shown : goal.returns-in-Err-clause-shown
returns-in-Err-clause-shown c =
    refused_tells c.refused.result c.in-Err.error _ c.refused.ensures.faults c.refused.ensures.alone
    (tells_more c.in-Err.error (expr_shows c.args.styles.now (shown_expr c.args.tree.now)) _ (λ k s. inl s) c.in-Err.ensures.shown)
