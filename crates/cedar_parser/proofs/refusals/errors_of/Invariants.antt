-- Each fault that was passed stands as an error, in order, and those to come follow.
use Rattle.std.proofs.Common.{◌≡◌, ◌++◌, map}
use Rattle.cedar_parser.specs.declared.errors.ParseError.TheVariants.{ToAST}
use Rattle.cedar_parser.proofs.refusals.errors_of.Given as goal

-- the errors so far and those to come are all
abbrev pub invariant-loop-fault : goal.invariant-loop-fault
invariant-loop-fault l = l.tail.items ++ map (λ f. ToAST f) l.fault-iterator.rest.items ≡ map (λ f. ToAST f) l.fn.faults.tail.items
