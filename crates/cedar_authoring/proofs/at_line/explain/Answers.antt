-- The line of the answer, and then what is held.
use Rattle.std.proofs.Common.{◌++◌, ◌∙◌, ap}
use Rattle.cedar_authoring.proofs.at_line.explain.Goals as goal

pub returns-clause-told : goal.returns-clause-told
returns-clause-told g c =
    let adds = c.in_ok-tell_asked.ensures in
    (adds.0, adds.1, adds.2 ∙ ap (λ t. t ++ adds.0) c.in_ok-text.ensures)
