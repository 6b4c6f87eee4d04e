-- The names are those of the table.
use Rattle.std.proofs.Common.{Err, Ok, subst}
use Rattle.cedar_grammar.specs.Names.{Names}
use Rattle.cedar_parser.specs.Strict.{ReadsRestricted}
use Rattle.cedar_refusals.proofs.reasons.read.Goals as goal

pub returns-in-Ok-clause-body : goal.returns-in-Ok-clause-body
returns-in-Ok-clause-body g c =
    let P : Names → Type 0 = λ names. ReadsRestricted names c.args.seen.now.depth c.args.text.now (Ok c.in-Ok.body) in
    (c.in-Ok.body, subst P c.in_ok-styles.ensures c.in-Ok.ensures.body)

pub returns-clause-unread : goal.returns-clause-unread
returns-clause-unread g c =
    let P : Names → Type 0 = λ names. ReadsRestricted names c.args.seen.now.depth c.args.text.now (Err c.in-Err.error) in
    (c.in-Err.error, subst P c.in_ok-styles.ensures c.in-Err.ensures.body, c.in_ok-faults-in-Err.ensures)
