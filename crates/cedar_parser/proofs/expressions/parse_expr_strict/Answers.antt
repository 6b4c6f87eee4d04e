-- Loose reading and conversion are the strict grammar: a text has one list of tokens, and wider limits keep its tree.
use Rattle.cedar_cst.specs.View.{shown_expr}
use Rattle.cedar_parser.proofs.Reading.{tree_unread, tree_read}
use Rattle.cedar_grammar.specs.LooseReading.{read_expr}
use Rattle.cedar_parser.specs.Faults.{strict_shows}
use Rattle.cedar_parser.proofs.Faults.{unread_tells, text_told}
use Rattle.cedar_parser.proofs.expressions.parse_expr_strict.Goals as goal

pub returns-in-Ok-clause-tree : goal.returns-in-Ok-clause-tree
returns-in-Ok-clause-tree c =
    tree_read c.converting_is_the_grammar.ensures.expressions c.args.styles.now c.args.depth c.args.text.now (shown_expr c.in-Ok.tree) c.in-Ok.ensures.read c.at_most_one_meaning.ensures.tokens c.wider_limits_change_nothing.ensures.expressions_stand c.converted.result c.converted.ensures.tree

pub returns-in-Err-clause-tree : goal.returns-in-Err-clause-tree
returns-in-Err-clause-tree c =
    tree_unread c.converting_is_the_grammar.ensures.expressions c.args.styles.now c.args.depth c.args.text.now c.in-Err.errors c.in-Err.ensures.refused

pub returns-in-Ok-clause-shown : goal.returns-in-Ok-clause-shown
returns-in-Ok-clause-shown c = text_told read_expr c.args.depth c.args.text.now c.converted.result (shown_expr c.in-Ok.tree) (strict_shows c.args.styles.now) c.in-Ok.ensures.read c.converted.ensures.shown

pub returns-in-Err-clause-shown : goal.returns-in-Err-clause-shown
returns-in-Err-clause-shown c = unread_tells read_expr c.args.depth c.args.text.now c.in-Err.errors _ c.in-Err.ensures.refused c.in-Err.ensures.alone
