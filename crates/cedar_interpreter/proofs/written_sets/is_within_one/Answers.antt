-- The set has the entities that are written.
use Rattle.std.proofs.Common.{◌∙◌, map, sym}
use Rattle.cedar_grammar.specs.Build.{trees}
use Rattle.cedar_trees.specs.Bare.{bare}
use Rattle.cedar_interpreter.proofs.Written.{is_within_literals}
use Rattle.cedar_interpreter.proofs.written_sets.is_within_one.Goals as goal

pub returns-then-are_entities : goal.returns-then-are_entities
returns-then-are_entities c = λ facts has.
    is_within_literals c.args.entities.now facts has c.args.uid.now c.held.result c.held.ensures (trees (map bare c.args.literals.now)) c.is_in_one.result
    (sym c.are_entities.ensures ∙ c.if-are_entities.true) c.is_in_one.ensures
