-- The own builder takes every call and the keys of records rise, so no repeated key is refused.
use Rattle.std.proofs.Common.{◌≡◌, ap}
use Rattle.std.specs.Prelude.{None}
use Rattle.cedar_trees.specs.Records.{refused_key}
use Rattle.cedar_substitution.proofs.Typing.{own_calls}
use Rattle.cedar_substitution.proofs.substitution.SubstituteExprs.substitute_exprs.Goals as goal

pub unreachable-requires : goal.unreachable-requires
unreachable-requires g c =
    let none : refused_key c.in-Err.error ≡ None = c.in-Err.ensures.rising own_calls in
    let repeated = ap refused_key c.in-DuplicateKey.is in
    cc
