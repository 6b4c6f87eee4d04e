-- An entity is gathered or still to come where an unknown stands for it, and what is gathered can be written.
use Rattle.std.proofs.Common.{◌≡◌, ◌||◌, true}
use Rattle.std.specs.List.{list_any}
use Rattle.std.specs.BTreeSet.{contains}
use Rattle.cedar_language.specs.Uid.{Uid}
use Rattle.cedar_language.specs.Order.{uid_cmp}
use Rattle.cedar_trees.specs.Bare.{bare}
use Rattle.cedar_shapes.specs.PositionsLeft.{unknowns_left}
use Rattle.cedar_policies.specs.Unknowns.{IsWrittenUid, stands_for, is_unknown_entity}
use Rattle.cedar_policies.proofs.unknowns.gather_entities.Given as goal

abbrev pub invariant-loop-unknown : goal.invariant-loop-unknown
invariant-loop-unknown l = record {
  stand : (u : Uid) → IsWrittenUid u → (contains uid_cmp l.uids u || list_any (λ x. stands_for x u) (unknowns_left l.unknown-iterator)) ≡ is_unknown_entity (bare l.expr) u;
  written : (u : Uid) → contains uid_cmp l.uids u ≡ true → IsWrittenUid u;
}
