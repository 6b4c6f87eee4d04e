-- The elements so far and those of the parts that are left are the elements of all parts.
use Rattle.std.proofs.Common.{◌≡◌, ◌++◌, map, drop}
use Rattle.cedar_grammar.specs.Escape.{pattern_elem}
use Rattle.cedar_tokens.specs.Parts.{part_view}
use Rattle.cedar_literals.specs.Patterns.{elem_of}
use Rattle.cedar_conversion.proofs.strings.pattern_of_parts.Given as goal

abbrev pub invariant-parts : goal.invariant-parts
invariant-parts g l = map elem_of l.elems.items ++ map pattern_elem (map part_view (drop l.part-index l.part-items)) ≡ map pattern_elem (map part_view l.part-items)
