use Rattle.std.proofs.Common.{◌≡◌, drop}
use Rattle.std.specs.List.{find}
use Rattle.cedar_names.specs.Raw.{candidates_of, is_declared, reference_type_of}
use Rattle.cedar_names.proofs.raw_names.ConditionalName.first_defined.Given as goal

abbrev pub invariant-loop-index : goal.invariant-loop-index
invariant-loop-index l =
    find (is_declared l.all_defs (reference_type_of l.self)) (candidates_of l.self) ≡ find (is_declared l.all_defs (reference_type_of l.self)) (drop l.index (candidates_of l.self))
