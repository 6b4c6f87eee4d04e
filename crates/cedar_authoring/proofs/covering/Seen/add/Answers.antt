-- One answer more (Covered).
use Rattle.std.proofs.Common.{not, ◌||◌, ap, sym, ◌∙◌}
use Rattle.cedar_authoring.proofs.Covered.{never_more}
use Rattle.cedar_authoring.proofs.covering.Seen.add.Goals as goal

pub returns-clause-satisfied : goal.returns-clause-satisfied
returns-clause-satisfied c = λ responses keeps.
    never_more responses c.args.response.now c.args.id.now c.args.self.now.satisfied keeps
    ∙ ap not (ap (λ b. c.args.self.now.satisfied || b) (sym c.is_satisfied.ensures) ∙ sym c.either-self.ensures)
