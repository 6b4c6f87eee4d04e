-- What is found where calls may name unknowns, where none does and where each is on a literal.
use Rattle.cedar_trees.specs.Bare.{bare}
use Rattle.cedar_interpreter.specs.Holding.{depth_of}
use Rattle.cedar_interpreter.proofs.Read.{found_served, deep_served, found_read, deep_read}
use Rattle.cedar_interpreter.proofs.evaluator.Evaluator.partial_interpret.Goals as goal

pub returns-clause-found : goal.returns-clause-found
returns-clause-found g c =
    found_served g.F.ExtensionFunctionObject.answers c.unknowns_are_read.ensures c.args.self.now c.args.slots.now (depth_of c.args.self.now) (bare c.args.expr.now) c.interpret_within.result c.interpret_within.ensures.found

pub returns-clause-limit : goal.returns-clause-limit
returns-clause-limit g c =
    λ l. deep_served g.F.ExtensionFunctionObject.answers c.unknowns_are_read.ensures c.args.self.now c.args.slots.now (depth_of c.args.self.now) (bare c.args.expr.now) (c.interpret_within.ensures.limit l)

pub returns-clause-read : goal.returns-clause-read
returns-clause-read g c =
    found_read g.F.ExtensionFunctionObject.answers c.unknowns_are_read.ensures c.args.self.now c.args.slots.now (depth_of c.args.self.now) (bare c.args.expr.now) c.args.self.now.extensions.now.named c.interpret_within.result c.interpret_within.ensures.found

pub returns-clause-read_limit : goal.returns-clause-read_limit
returns-clause-read_limit g c =
    λ l. deep_read g.F.ExtensionFunctionObject.answers c.unknowns_are_read.ensures c.args.self.now c.args.slots.now (depth_of c.args.self.now) (bare c.args.expr.now) c.args.self.now.extensions.now.named (c.interpret_within.ensures.limit l)

pub returns-clause-named : goal.returns-clause-named
returns-clause-named g c = c.interpret_within.ensures.found

pub returns-clause-named_limit : goal.returns-clause-named_limit
returns-clause-named_limit g c = c.interpret_within.ensures.limit
