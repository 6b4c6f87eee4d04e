use Rattle.std.proofs.Common.{drop}
use Rattle.cedar_entities.specs.Kept.{in_map}
use Rattle.cedar_entities.proofs.Gathering.{IsCutting}
use Rattle.cedar_entities.proofs.Beside.{IsPassing}
use Rattle.cedar_entities.proofs.edits.cut_all.Given as goal

abbrev pub invariant-loop-at : goal.invariant-loop-at
invariant-loop-at l =
    IsCutting (in_map l.fn.map) (in_map l.map) l.uids.keys (drop l.at-index l.touched)
    × IsPassing (λ u. u) (in_map l.fn.map) (in_map l.map) l.touched (drop l.at-index l.touched)
