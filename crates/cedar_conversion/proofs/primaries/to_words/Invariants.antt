-- The words so far and those of the accesses that are left are the attributes of all accesses.
use Rattle.std.proofs.Common.{◌≡◌, ◌++◌, map, drop, Some}
use Rattle.std.specs.Rc.{rc_str_bytes}
use Rattle.cedar_grammar.specs.Steps.{◌>>=◌}
use Rattle.cedar_grammar.specs.Loose as loose
use Rattle.cedar_grammar.specs.Converting.{fields}
use Rattle.cedar_cst.specs.View.{shown_mem_access}
use Rattle.cedar_conversion.proofs.primaries.to_words.Given as goal

abbrev pub invariant-accesses : goal.invariant-accesses
invariant-accesses g l = fields (loose.accesses (map shown_mem_access l.access-items)) ≡ (fields (loose.accesses (map shown_mem_access (drop l.access-index l.access-items))) >>= λ more. Some (map rc_str_bytes l.words.items ++ more))
