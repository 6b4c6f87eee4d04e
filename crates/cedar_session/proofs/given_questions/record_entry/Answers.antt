-- The record has the attributes of the question's context.
use Rattle.std.proofs.Common.{subst, sym}
use Rattle.cedar_restricted.specs.Expressing.{Expresses}
use Rattle.cedar_restricted.specs.Views.{restricted_tree}
use Rattle.cedar_session.proofs.given_questions.record_entry.Goals as goal

pub returns-clause-record : goal.returns-clause-record
returns-clause-record c =
    let t = restricted_tree c.in_ok-from_in.field-0 in
    rw (sym c.in_ok-clone.ensures.cases) (subst (λ v. Expresses v t) c.record_arc-record.ensures c.in_ok-from_in.ensures)
