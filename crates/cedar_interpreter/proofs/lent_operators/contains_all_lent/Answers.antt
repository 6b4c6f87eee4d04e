-- The set has the literals that are written.
use Rattle.std.proofs.Common.{◌≡◌, ◌∙◌, map, ap, sym}
use Rattle.cedar_grammar.specs.Build.{trees}
use Rattle.cedar_language.specs.Order.{all_of, set_of}
use Rattle.cedar_trees.specs.Bare.{bare}
use Rattle.cedar_interpreter.specs.Glancing.{value_lent}
use Rattle.cedar_interpreter.specs.Written.{literals_in}
use Rattle.cedar_interpreter.proofs.Written.{each_written}
use Rattle.cedar_interpreter.proofs.lent_operators.contains_all_lent.Goals as goal

pub returns-in_ok-set-in-Written : goal.returns-in_ok-set-in-Written
returns-in_ok-set-in-Written c =
    let literals = literals_in (trees (map bare c.deref.result.now)) in
    each_written c.sets_are_finite.ensures (value_lent c.args.right) literals (value_lent c.args.left) (all_of c.in_ok-set-in-Written.field-0.now)
    c.has_each.result
    (ap value_lent c.in-Written.is ∙ ap (λ es. set_of (literals_in (trees (map bare es)))) (sym c.deref.ensures.value))
    c.in_ok-set-in-Written.ensures c.has_each.ensures
