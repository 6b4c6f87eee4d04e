-- Patterns are the same where their elements are, one by one and each as what it means.
use Rattle.std.proofs.Common.{rules}
use Rattle.std.specs.Cmp.Derive.Mapped.{pointwise-map}
use Rattle.cedar_literals.specs.Patterns.{same_elem, elem_of}
use Rattle.cedar_literals.proofs.patterns.PatternPartialEq.eq.Goals as goal

pub returns : goal.returns
returns c = search (rules, pointwise-map elem_of same_elem)
