-- What is answered of a tree that mentions only what is known is what it means.
use Rattle.cedar_trees.specs.Bare.{bare}
use Rattle.cedar_interpreter.specs.Holding.{depth_of}
use Rattle.cedar_interpreter.proofs.Meant.{means_tree}
use Rattle.cedar_interpreter.proofs.Read.{value_read_as, read_answer}
use Rattle.cedar_interpreter.proofs.evaluator.Evaluator.interpret.Goals as goal

pub returns-clause-means : goal.returns-clause-means
returns-clause-means g c =
    λ facts serves.
    means_tree g.F.ExtensionFunctionObject.answers c.leaves_dont_matter.ensures c.known_is_meaning.ensures c.known_is_never_left.ensures c.args.self.now c.args.slots.now (depth_of c.args.self.now) (bare c.args.expr.now) c.value_of.result
    (λ facts serves. c.value_of.ensures.found _ (c.partial_interpret.ensures.found facts serves))
    (λ l. c.partial_interpret.ensures.limit (c.value_of.ensures.limit l)) facts serves

pub returns-clause-found : goal.returns-clause-found
returns-clause-found g c = λ facts serves. c.value_of.ensures.found _ (c.partial_interpret.ensures.found facts serves)

pub returns-clause-limit : goal.returns-clause-limit
returns-clause-limit g c = λ l. c.partial_interpret.ensures.limit (c.value_of.ensures.limit l)

pub returns-clause-read : goal.returns-clause-read
returns-clause-read g c = λ facts serves.
    value_read_as c.value_of.result _ _ (read_answer g.F.ExtensionFunctionObject.answers c.unknowns_are_read.ensures c.args.self.now c.args.slots.now (depth_of c.args.self.now) (bare c.args.expr.now) c.args.self.now.extensions.now.named facts serves)
    (c.value_of.ensures.found _ (c.partial_interpret.ensures.named facts serves.knows))

pub returns-clause-read_limit : goal.returns-clause-read_limit
returns-clause-read_limit g c = λ l. c.partial_interpret.ensures.read_limit (c.value_of.ensures.limit l)

pub returns-clause-named_limit : goal.returns-clause-named_limit
returns-clause-named_limit g c = λ l. c.partial_interpret.ensures.named_limit (c.value_of.ensures.limit l)
