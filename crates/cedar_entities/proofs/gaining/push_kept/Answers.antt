-- Nothing is kept where nothing is held (GainedEdges).
use Rattle.cedar_entities.specs.Kept.{in_map}
use Rattle.cedar_entities.proofs.GainedEdges.{nothing_pushed}
use Rattle.cedar_entities.proofs.gaining.push_kept.Goals as goal

pub returns-in_default : goal.returns-in_default
returns-in_default c = nothing_pushed (in_map c.args.map.now) c.args.at.now c.args.uids.now.items c.in_default.ensures.value
