-- The policies that a loose tree is converted to are those of the strict grammar, which wider limits keep.
use Rattle.std.proofs.Common.{sym, subst}
use Rattle.cedar_grammar.specs.Loose as loose
use Rattle.cedar_grammar.specs.LooseReading.{read_policies}
use Rattle.cedar_loose.specs.Texts.{IsRefused}
use Rattle.cedar_policy_conversion.specs.Shows.{policies_show}
use Rattle.cedar_parser.proofs.Reading.{set_unread, set_read}
use Rattle.cedar_parser.proofs.Faults.{unread_tells, text_told}
use Rattle.cedar_parser.proofs.sets.parse_policyset_strict.Goals as goal

pub returns-in-Ok-clause-set : goal.returns-in-Ok-clause-set
returns-in-Ok-clause-set c =
    let names = c.args.styles.now in
    let read = c.in-Ok.ensures.read in
    set_read c.converting_is_the_grammar.ensures.policies names c.args.depth c.args.text.now (loose.policies read.0) read.1 c.at_most_one_meaning.ensures.tokens c.wider_limits_change_nothing.ensures.policies_stand c.converted.result (c.converted.ensures.set names read.0 read.2)

pub returns-in-Err-clause-set : goal.returns-in-Err-clause-set
returns-in-Err-clause-set c =
    let refused = subst (IsRefused read_policies c.args.depth c.args.text.now) (sym c.unread.ensures.cause) c.in-Err.ensures.refused in
    set_unread c.converting_is_the_grammar.ensures.policies c.args.styles.now c.args.depth c.args.text.now c.unread.result refused

pub returns-in-Ok-clause-shown : goal.returns-in-Ok-clause-shown
returns-in-Ok-clause-shown c =
    let names = c.args.styles.now in
    let read = c.in-Ok.ensures.read in
    text_told read_policies c.args.depth c.args.text.now c.converted.result (loose.policies read.0) (policies_show names) read.1 (c.converted.ensures.shown names read.0 read.2)

pub returns-in-Err-clause-shown : goal.returns-in-Err-clause-shown
returns-in-Err-clause-shown c =
    let refused = subst (IsRefused read_policies c.args.depth c.args.text.now) (sym c.unread.ensures.cause) c.in-Err.ensures.refused in
    unread_tells read_policies c.args.depth c.args.text.now c.unread.result _ refused c.unread.ensures.alone
