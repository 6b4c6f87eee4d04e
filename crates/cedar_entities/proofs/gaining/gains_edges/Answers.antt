-- A list of one entity (GainedEdges).
use Rattle.std.proofs.Common.{◌≡◌, length, arith}
use Rattle.cedar_entities.proofs.GainedEdges.{single}
use Rattle.cedar_entities.proofs.gaining.gains_edges.Goals as goal

pub returns : goal.returns
returns c = λ t.
    let n : length c.args.entities.now ≡ 1 = omega arith in
    record {
      one = c.index-entities-0.result;
      are = single c.args.entities.now c.index-entities-0.result n c.index-entities-0.is;
      keeps = c.keeps_parents.ensures t;
    }
