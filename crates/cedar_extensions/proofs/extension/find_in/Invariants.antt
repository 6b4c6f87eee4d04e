-- A function of another name can be passed over.
use Rattle.std.proofs.Common.{◌≡◌, drop}
use Rattle.cedar_extensions.specs.Holding.{found_in}
use Rattle.cedar_extensions.proofs.extension.find_in.Given as goal

-- what is found is found among the functions that are left
abbrev pub invariant-loop-function : goal.invariant-loop-function
invariant-loop-function g l = found_in (drop l.function-index l.functions) l.name ≡ found_in l.functions l.name
