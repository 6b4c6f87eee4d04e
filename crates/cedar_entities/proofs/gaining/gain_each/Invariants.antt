use Rattle.std.proofs.Common.{drop}
use Rattle.cedar_entities.specs.Gaining.{Gains, HasGained}
use Rattle.cedar_entities.specs.Kept.{in_map, Lookup}
use Rattle.cedar_entities.proofs.Gained.{is_passed}
use Rattle.cedar_entities.proofs.gaining.gain_each.Given as goal

abbrev pub invariant-loop-at : goal.invariant-loop-at
invariant-loop-at l = record {
  gains : Gains (in_map l.fn.map) (in_map l.map) l.from l.more (is_passed l.below (drop l.at-index l.below));
  gained : (before : Lookup) → HasGained before (in_map l.fn.map) l.fn.added.items → HasGained before (in_map l.map) l.added.items;
}
