-- An entity is tested; other values are looked at as sets.
use Rattle.std.specs.Option.{option_copied}
use Rattle.std.proofs.Common.{ap, Some, sym, ◌∙◌}
use Rattle.cedar_operators.specs.Hierarchy.{is_within_entity}
use Rattle.cedar_operators.proofs.ByHierarchy.{within_uid}
use Rattle.cedar_operators.proofs.hierarchy.eval_in.Goals as goal

pub returns-in-Some : goal.returns-in-Some
returns-in-Some c =
    within_uid (is_within_entity c.args.uid1.now.value (option_copied c.args.entity1)) c.args.arg2.now c.in-Some.uid2.now.value c.in-Some.ensures
    ∙ ap Some (sym c.is_within.ensures)
