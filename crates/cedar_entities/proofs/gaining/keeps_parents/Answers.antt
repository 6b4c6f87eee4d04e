-- A subset of parents is kept (GainedEdges).
use Rattle.std.proofs.Common.{ap, ◌∙◌}
use Rattle.cedar_entities.specs.Kept.{in_map}
use Rattle.cedar_entities.proofs.GainedEdges.{keeps_held, keeps_none}
use Rattle.cedar_entities.proofs.gaining.keeps_parents.Goals as goal

pub returns-in-Some : goal.returns-in-Some
returns-in-Some c =
    let m = in_map c.args.map.now in
    keeps_held m c.args.entity.now c.in-Some.held.now (c.in-Some.ensures.value ∙ ap m c.uid.ensures) c.shares_parents.result c.shares_parents.ensures

pub returns-in-None : goal.returns-in-None
returns-in-None c = λ t. keeps_none (in_map c.args.map.now) c.args.entity.now (c.in-None.ensures.value ∙ ap (in_map c.args.map.now) c.uid.ensures)
