-- Where the names that are taken differ, no function has the constructor's.
use Rattle.std.proofs.Common.{rules}
use Rattle.std.specs.List.{flat_map, IsDistinct}
use Rattle.cedar_language.specs.Order.{same_name}
use Rattle.cedar_extensions.specs.Holding.{extension_functions}
use Rattle.cedar_extensions.specs.Making.{names_taken}
use Rattle.cedar_extensions.proofs.Apart.{distinct_apart}
use Rattle.cedar_extensions.proofs.extensions.Extensions.specific_extensions.Goals as goal

pub invariant_of-result : goal.invariant_of-result
invariant_of-result g c =
    let distinct : IsDistinct same_name (names_taken (flat_map extension_functions c.args.extensions.items)) = search rules in
    record { named = c.requires.named; apart = distinct_apart (flat_map extension_functions c.args.extensions.items) distinct }
