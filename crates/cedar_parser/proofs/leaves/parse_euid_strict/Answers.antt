-- References of both grammars are the same entities, and a text has one list of tokens.
use Rattle.cedar_cst.specs.LeafView.{shown_ref}
use Rattle.cedar_grammar.specs.LooseReading.{read_ref}
use Rattle.cedar_conversion.specs.Shown.{ref_shows}
use Rattle.cedar_loose.specs.Texts.{flat}
use Rattle.cedar_parser.proofs.Reading.{uid_unread, uid_read}
use Rattle.cedar_parser.proofs.Faults.{outside_tells, text_told}
use Rattle.cedar_parser.proofs.leaves.parse_euid_strict.Goals as goal

pub returns-in-Ok-clause-uid : goal.returns-in-Ok-clause-uid
returns-in-Ok-clause-uid c =
    uid_read c.converting_is_the_grammar.ensures.entities c.args.text.now (shown_ref c.in-Ok.tree) c.in-Ok.ensures.read c.at_most_one_meaning.ensures.tokens c.converted.result c.converted.ensures.uid

pub returns-in-Err-clause-uid : goal.returns-in-Err-clause-uid
returns-in-Err-clause-uid c =
    uid_unread c.converting_is_the_grammar.ensures.entities c.args.text.now c.in-Err.errors c.in-Err.ensures.refused

pub returns-in-Ok-clause-shown : goal.returns-in-Ok-clause-shown
returns-in-Ok-clause-shown c = text_told (flat read_ref) 0 c.args.text.now c.converted.result (shown_ref c.in-Ok.tree) ref_shows c.in-Ok.ensures.read c.converted.ensures.shown

pub returns-in-Err-clause-shown : goal.returns-in-Err-clause-shown
returns-in-Err-clause-shown c = outside_tells (flat read_ref) 0 c.args.text.now c.in-Err.errors _ c.in-Err.ensures.refused c.in-Err.ensures.alone
