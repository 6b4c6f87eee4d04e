-- What is on the stack and what is still to be pushed are together the old stack and the parts.
use Rattle.std.proofs.Common.{◌≡◌, ◌+◌, ◌++◌, length}
use Rattle.std.specs.Vec.{vec_len, vec_capacity}
use Rattle.cedar_trees.specs.Bare.{bare}
use Rattle.cedar_shapes.specs.Parts.{parts}
use Rattle.cedar_shapes.specs.PartsLeft.{parts_left}
use Rattle.cedar_shapes.specs.Stack.{stack_of}
use Rattle.cedar_shapes.proofs.iteration.push_parts.Given as goal

abbrev pub invariant-loop-part : goal.invariant-loop-part
invariant-loop-part g l =
    (vec_len l.ahead + length (parts_left l.part-iterator) ≡ vec_len l.initial.ahead + length (parts (bare l.expr))) ×
    (vec_capacity l.ahead ≡ vec_capacity l.initial.ahead) ×
    (stack_of l.ahead.items ++ parts_left l.part-iterator ≡ stack_of l.initial.ahead.items ++ parts (bare l.expr))
