-- The set has the literals that are written.
use Rattle.std.proofs.Common.{◌≡◌, ◌∙◌, map, ap, sym}
use Rattle.cedar_grammar.specs.Build.{trees}
use Rattle.cedar_language.specs.Order.{all_of, set_of}
use Rattle.cedar_trees.specs.Bare.{bare}
use Rattle.cedar_interpreter.specs.Glancing.{value_lent}
use Rattle.cedar_interpreter.specs.Written.{literals_in}
use Rattle.cedar_interpreter.proofs.Written.{some_among_written}
use Rattle.cedar_interpreter.proofs.lent_operators.contains_any_held.Goals as goal

pub returns-in-Written : goal.returns-in-Written
returns-in-Written c =
    let literals = literals_in (trees (map bare c.deref.result.now)) in
    some_among_written c.sets_are_finite.ensures (value_lent c.args.set) literals (all_of c.args.others.now) c.has_one.result
    (ap value_lent c.in-Written.is ∙ ap (λ es. set_of (literals_in (trees (map bare es)))) (sym c.deref.ensures.value)) c.has_one.ensures
