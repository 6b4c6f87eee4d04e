-- Each member is a literal, so the set is that of these.
use Rattle.std.proofs.Common.{◌∙◌, map, ap, sym, arith}
use Rattle.cedar_grammar.specs.Build.{trees}
use Rattle.cedar_trees.specs.Bare.{bare}
use Rattle.cedar_interpreter.specs.Written.{are_literals}
use Rattle.cedar_interpreter.proofs.Written.{set_tells}
use Rattle.cedar_interpreter.proofs.evaluator.Evaluator.glance_set.Goals as goal

pub returns-then-are_literals : goal.returns-then-are_literals
returns-then-are_literals g c =
    set_tells c.args.self.now c.args.depth (trees (map bare c.args.members.now.items)) (omega (arith, c.in_ok-_level.ensures))
    (ap (λ es. are_literals (trees (map bare es))) (sym c.deref.ensures.value) ∙ sym c.are_literals.ensures ∙ c.if-are_literals.true)
