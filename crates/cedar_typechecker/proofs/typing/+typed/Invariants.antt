use Rattle.std.proofs.Common.{◌≡◌, ◌≤◌, ◌+◌, ◌*◌, map}
use Rattle.cedar_language.specs.Height.{heights}
use Rattle.cedar_grammar.specs.Build.{trees}
use Rattle.cedar_trees.specs.Bare.{bare}
use Rattle.cedar_typing.specs.Typing.{types_of}
use Rattle.cedar_typechecker.specs.Capabilities.{capabilities_view}
use Rattle.cedar_typechecker.proofs.Found.{left_trees, so_far}
use Rattle.cedar_typechecker.proofs.typing.+typed.Given as goal

abbrev pub invariant-typed_parts-loop-part : goal.invariant-typed_parts-loop-part
invariant-typed_parts-loop-part g l =
    let e = g.E.RequestEnv.environment l.env in
    record {
      found : types_of e (trees (map (λ p. bare p.now) l.parts)) (capabilities_view l.held) ≡ so_far e (capabilities_view l.held) l.types.items l.parts l.part-index;
      high : heights (left_trees l.parts l.part-index) ≤ heights (trees (map (λ p. bare p.now) l.parts));
    }

abbrev pub decreases-typed : goal.decreases-typed
decreases-typed g l = 3 * l.depth

abbrev pub decreases-typed_if : goal.decreases-typed_if
decreases-typed_if g l = 3 * l.depth + 2

abbrev pub decreases-typed_and : goal.decreases-typed_and
decreases-typed_and g l = 3 * l.depth + 2

abbrev pub decreases-typed_or : goal.decreases-typed_or
decreases-typed_or g l = 3 * l.depth + 2

abbrev pub decreases-typed_one : goal.decreases-typed_one
decreases-typed_one g l = 3 * l.depth + 2

abbrev pub decreases-typed_two : goal.decreases-typed_two
decreases-typed_two g l = 3 * l.depth + 2

abbrev pub decreases-typed_list : goal.decreases-typed_list
decreases-typed_list g l = 3 * l.depth + 2

abbrev pub decreases-typed_parts : goal.decreases-typed_parts
decreases-typed_parts g l = 3 * l.depth + 1
