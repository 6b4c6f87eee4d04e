use Rattle.std.proofs.Common.{◌≡◌, drop}
use Rattle.std.specs.Option.{option_copied}
use Rattle.cedar_language.specs.Order.{all_of}
use Rattle.cedar_operators.specs.Hierarchy.{is_within_entity}
use Rattle.cedar_operators.proofs.ByHierarchy.{any_left}
use Rattle.cedar_operators.proofs.hierarchy.is_within_some.Given as goal

abbrev pub invariant-loop-member : goal.invariant-loop-member
invariant-loop-member l =
    let test = is_within_entity l.uid1.value (option_copied l.entity1) in
    any_left test l.is_found (all_of (drop l.member-index l.members)) ≡ any_left test l.initial.is_found (all_of l.members)
