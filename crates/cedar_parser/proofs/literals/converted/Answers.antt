-- By the law of what the own builder makes, and by the reason of the refusal; what was made is given where no slot stands in it.
use Rattle.std.proofs.Common.{inl}
use Rattle.cedar_grammar.specs.Converting.{primary_tree}
use Rattle.cedar_cst.specs.View.{shown_primary}
use Rattle.cedar_faults.specs.Reasons.{reason}
use Rattle.cedar_faults.proofs.Telling.{tells_more}
use Rattle.cedar_parser.specs.Errors.{cause_of}
use Rattle.cedar_builders.specs.Own.{own_operations}
use Rattle.cedar_conversion.specs.Building.{IsRefused}
use Rattle.cedar_conversion.specs.Shows.{operand_shows}
use Rattle.cedar_parser.proofs.Operands.{operand_written}
use Rattle.cedar_parser.proofs.Reading.{told_misses}
use Rattle.cedar_parser.proofs.Faults.{refused_tells}
use Rattle.cedar_parser.proofs.NoSlots.{unwritten_free, written_free, shown_free}
use Rattle.cedar_parser.proofs.literals.converted.Goals as goal

pub returns-in-Ok-clause-tree : goal.returns-in-Ok-clause-tree
returns-in-Ok-clause-tree c =
    let p = shown_primary c.args.tree.now in
    written_free (primary_tree c.args.styles.now p) c.in-Ok.expr (operand_written c.trees_are_built.ensures c.args.styles.now p c.in-Ok.expr c.in-Ok.ensures.tree) c.without_slots.result c.without_slots.ensures.tree

pub returns-in-Ok-clause-shown : goal.returns-in-Ok-clause-shown
returns-in-Ok-clause-shown c =
    let p = shown_primary c.args.tree.now in
    shown_free (primary_tree c.args.styles.now p) c.in-Ok.expr (operand_written c.trees_are_built.ensures c.args.styles.now p c.in-Ok.expr c.in-Ok.ensures.tree) c.without_slots.result (operand_shows c.args.styles.now p) c.without_slots.ensures.shown

pub returns-in-Err-clause-tree : goal.returns-in-Err-clause-tree
returns-in-Err-clause-tree c =
    let written = primary_tree c.args.styles.now (shown_primary c.args.tree.now) in
    let told = cause_of c.refused.result.0.head in
    unwritten_free told written (told_misses (IsRefused own_operations) _ (reason c.in-Err.error) told written c.refused.ensures.cause c.in-Err.ensures.tree)

pub returns-in-Err-clause-shown : goal.returns-in-Err-clause-shown
returns-in-Err-clause-shown c =
    refused_tells c.refused.result c.in-Err.error _ c.refused.ensures.faults c.refused.ensures.alone
    (tells_more c.in-Err.error (operand_shows c.args.styles.now (shown_primary c.args.tree.now)) _ (λ k s. inl s) c.in-Err.ensures.shown)
