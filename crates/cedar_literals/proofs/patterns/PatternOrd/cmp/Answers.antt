-- Elements are compared one after the other, each as what it means.
use Rattle.std.proofs.Common.{rules}
use Rattle.std.specs.Cmp.Derive.Mapped.{lex_map}
use Rattle.cedar_literals.specs.Patterns.{elem_cmp, elem_of}
use Rattle.cedar_literals.proofs.patterns.PatternOrd.cmp.Goals as goal

pub returns : goal.returns
returns c = search (rules, lex_map elem_of elem_cmp)
