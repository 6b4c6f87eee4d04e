-- The set has the literals that are written.
use Rattle.std.proofs.Common.{◌≡◌, ◌∙◌, map, ap, sym, subst, IfSome}
use Rattle.cedar_grammar.specs.Build.{trees}
use Rattle.cedar_language.specs.Order.{all_of, set_of}
use Rattle.cedar_language.specs.Operators.{truth, of_two_sets, has_all}
use Rattle.cedar_language.specs.Value.{SetOf}
use Rattle.cedar_value_operators.specs.Operands.{two}
use Rattle.cedar_trees.specs.Bare.{bare}
use Rattle.cedar_interpreter.specs.Glancing.{value_lent}
use Rattle.cedar_interpreter.specs.Written.{literals_in}
use Rattle.cedar_interpreter.proofs.Written.{all_among_written}
use Rattle.cedar_interpreter.proofs.lent_operators.contains_all_held.Goals as goal

pub returns-in-Written : goal.returns-in-Written
returns-in-Written c =
    let literals = literals_in (trees (map bare c.deref.result.now)) in
    subst (λ ms. IfSome c.are_among.result (λ b. of_two_sets has_all (two (value_lent c.args.set) (SetOf (all_of ms))) ≡ truth b))
    c.authoritative.ensures.members
    (all_among_written c.sets_are_finite.ensures (value_lent c.args.set) literals (all_of c.authoritative.result.now) c.are_among.result
    (ap value_lent c.in-Written.is ∙ ap (λ es. set_of (literals_in (trees (map bare es)))) (sym c.deref.ensures.value)) c.are_among.ensures)
