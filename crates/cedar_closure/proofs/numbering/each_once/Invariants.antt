use Rattle.std.proofs.Common.{◌++◌, drop}
use Rattle.cedar_closure.specs.Graph.{SameKeys}
use Rattle.cedar_closure.specs.Keys.{digest, IsFound}
use Rattle.cedar_closure.proofs.numbering.each_once.Given as goal

abbrev pub invariant-loop-key : goal.invariant-loop-key
invariant-loop-key g l =
    let eq = g.K.PartialEq.eq in
    record {
      found : IsFound eq (λ x. digest (g.K.Hash.hash_input x)) l.keys.keys.items l.keys.numbers;
      keys : SameKeys eq l.listed (l.keys.keys.items ++ drop l.key-index l.listed);
    }
