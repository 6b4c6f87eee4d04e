-- The set has the entities that are written.
use Rattle.std.proofs.Common.{◌∙◌, map, ap, sym}
use Rattle.cedar_grammar.specs.Build.{trees}
use Rattle.cedar_language.specs.Order.{set_of}
use Rattle.cedar_language.specs.Tree.{Entity}
use Rattle.cedar_language.specs.Value.{Plain}
use Rattle.cedar_trees.specs.Bare.{bare}
use Rattle.cedar_interpreter.specs.Glancing.{value_lent}
use Rattle.cedar_interpreter.specs.Written.{literals_in}
use Rattle.cedar_interpreter.proofs.Written.{in_written}
use Rattle.cedar_interpreter.proofs.lent_operators.in_lent.Goals as goal

pub returns-in-Written : goal.returns-in-Written
returns-in-Written c = λ facts has.
    in_written facts (value_lent c.args.left) (value_lent c.args.right) c.deref.result.now
    (literals_in (trees (map bare c.deref-in-Written.result.now))) c.is_within_one.result
    (c.in_ok-uid.ensures ∙ ap (λ u. Plain (Entity u)) (sym c.deref.ensures))
    (ap value_lent c.in-Written.is ∙ ap (λ es. set_of (literals_in (trees (map bare es)))) (sym c.deref-in-Written.ensures.value))
    (c.is_within_one.ensures facts has)
