-- The names so far with those in what is left of the policies to come are those before and all of the group.
use Rattle.std.proofs.Common.{◌≡◌, ◌++◌, map}
use Rattle.std.specs.Slice.Iter.{iter_rest}
use Rattle.cedar_trees.specs.Bare.{bare}
use Rattle.cedar_authoring.specs.Names.{names_of}
use Rattle.cedar_authoring.proofs.explaining.push_group.Given as goal

abbrev pub invariant-loop-id : goal.invariant-loop-id
invariant-loop-id l =
    map (λ n. n.now) l.names.items ++ names_of (map (λ e. bare e.1.0.value) (iter_rest l._id-iterator)) ≡ map (λ n. n.now) l.fn.names.items ++ names_of (map (λ e. bare e.1.0.value) l.group)
