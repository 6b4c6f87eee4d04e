-- It gives no unknown, and no text.
use Rattle.std.proofs.Common.{rules, ◌≡◌, refl, Some}
use Rattle.cedar_language.specs.Constructing.{constructed, constructor_function}
use Rattle.cedar_language.specs.Order.{all_of}
use Rattle.cedar_restricted.specs.PartialValues.{partial_of}
use Rattle.cedar_restricted_evaluation.proofs.Naming.{constructed_called}
use Rattle.cedar_restricted_evaluation.proofs.calls.construct.Goals as goal

pub returns-in-Some : goal.returns-in-Some
returns-in-Some c has_unknown =
    let given : Some c.in-Some.value ≡ constructed (all_of c.args.args.now) = search rules in
    constructed_called c.args.name.now c.requires (Some constructor_function) has_unknown refl (all_of c.args.args.now) c.in-Some.value (partial_of c.from.result) given c.from.ensures
