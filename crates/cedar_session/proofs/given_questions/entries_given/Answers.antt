-- The entries are those that are listed.
use Rattle.std.proofs.Common.{ap, ◌∙◌}
use Rattle.cedar_restricted.specs.Views.{restricted_entries}
use Rattle.cedar_session.proofs.Given.{entries_listed}
use Rattle.cedar_session.proofs.given_questions.entries_given.Goals as goal

pub returns : goal.returns
returns c =
    let p = c.in_ok-principal in
    let a = c.in_ok-action in
    let r = c.in_ok-resource in
    let x = c.in_ok-context in
    ap restricted_entries c.in_ok-vec.ensures.items
    ∙ entries_listed c.args.question.now p.principal a.action r.resource x.context p.ensures.key p.ensures.entity a.ensures.key a.ensures.entity r.ensures.key r.ensures.entity x.ensures.key x.ensures.record
