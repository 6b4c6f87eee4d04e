-- What is held lacks those that aren't its ancestors (GainedEdges).
use Rattle.cedar_entities.specs.Kept.{in_map}
use Rattle.cedar_entities.proofs.GainedEdges.{lacks_held, lacks_none}
use Rattle.cedar_entities.proofs.Passing.{ok_weaker}
use Rattle.cedar_entities.proofs.gaining.lacking_at.Goals as goal

pub returns-in-Some : goal.returns-in-Some
returns-in-Some c =
    ok_weaker c.lacking.result (λ others is. lacks_held (in_map c.args.map.now) c.args.at.now c.in-Some.entity.now c.args.uids.now others
    c.in-Some.ensures.value is) c.lacking.ensures

pub returns-in-None : goal.returns-in-None
returns-in-None c = ok_weaker c.clone.result (λ others is. lacks_none (in_map c.args.map.now) c.args.at.now c.args.uids.now others c.in-None.ensures.value
    is) c.clone.ensures
