-- By the laws of literals, of what is read loosely and of what that writes.
use Rattle.cedar_cst.specs.View.{shown_primary}
use Rattle.cedar_parser.proofs.Operands.{literal_unread, literal_read}
use Rattle.cedar_grammar.specs.LooseReading.{read_primary}
use Rattle.cedar_parser.specs.Faults.{strict_operand_shows}
use Rattle.cedar_parser.proofs.Faults.{unread_tells, literal_told}
use Rattle.cedar_parser.proofs.literals.parse_literal_strict.Goals as goal

pub returns-in-Ok-clause-literal : goal.returns-in-Ok-clause-literal
returns-in-Ok-clause-literal c =
    literal_read c.converting_is_the_grammar.ensures.literals c.args.styles.now c.args.depth c.args.text.now (shown_primary c.in-Ok.tree) c.in-Ok.ensures.read c.at_most_one_meaning.ensures.tokens c.wider_limits_change_nothing.ensures.literals_stand c.written.result c.written.ensures.literal

pub returns-in-Err-clause-literal : goal.returns-in-Err-clause-literal
returns-in-Err-clause-literal c =
    literal_unread c.converting_is_the_grammar.ensures.literals c.args.styles.now c.args.depth c.args.text.now c.in-Err.errors c.in-Err.ensures.refused

pub returns-in-Ok-clause-shown : goal.returns-in-Ok-clause-shown
returns-in-Ok-clause-shown c = literal_told read_primary c.args.depth c.args.text.now c.written.result (shown_primary c.in-Ok.tree) (strict_operand_shows c.args.styles.now) c.in-Ok.ensures.read c.written.ensures.shown

pub returns-in-Err-clause-shown : goal.returns-in-Err-clause-shown
returns-in-Err-clause-shown c = unread_tells read_primary c.args.depth c.args.text.now c.in-Err.errors _ c.in-Err.ensures.refused c.in-Err.ensures.alone
