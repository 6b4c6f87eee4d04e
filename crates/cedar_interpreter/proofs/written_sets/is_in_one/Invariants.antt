-- The entity is in none that was passed, so those that are left decide.
use Rattle.std.proofs.Common.{◌≡◌, map, drop}
use Rattle.cedar_grammar.specs.Build.{trees}
use Rattle.cedar_trees.specs.Bare.{bare}
use Rattle.std.specs.List.{list_any}
use Rattle.std.specs.Option.{option_copied}
use Rattle.cedar_operators.specs.Hierarchy.{is_within_entity}
use Rattle.cedar_interpreter.specs.Written.{entities_in}
use Rattle.cedar_interpreter.proofs.written_sets.is_in_one.Given as goal

abbrev pub invariant-loop-entity : goal.invariant-loop-entity
invariant-loop-entity l =
    let test = is_within_entity l.given.uid.now (option_copied l.given.entity) in
    list_any test (entities_in (trees (map bare l.entities))) ≡ list_any test (entities_in (trees (map bare (drop l.entity-index l.entities))))
