-- What goes on from here answers the whole, and the templates that are left list their slots.
use Rattle.std.proofs.Common.{Result}
use Rattle.cedar_extensions.specs.Table.{as_table}
use Rattle.cedar_policy_set.specs.Bounds.{seen, ListTheirSlots}
use Rattle.cedar_policy_set.specs.Validated.{ValidatesAll}
use Rattle.cedar_policy_set.specs.declared.errors.PolicySetValidationError.{PolicySetValidationError}
use Rattle.cedar_policy_set.proofs.sets.PolicySet.try_validate.Given as goal

abbrev pub invariant-loop-bound : goal.invariant-loop-bound
invariant-loop-bound g l = record {
  answers : (r : Result Unit PolicySetValidationError)
      → ValidatesAll (as_table g.F.ExtensionFunctionObject.answers l.extensions) (seen l.bound-iterator) r → ValidatesAll (as_table g.F.ExtensionFunctionObject.answers l.extensions) l.self r;
  listed : ListTheirSlots l.bound-iterator;
}
