-- The one that can't be given its name ends it.
use Rattle.cedar_held.specs.PolicyWorlds.{policies_in}
use Rattle.cedar_named_sessions.proofs.Placed.{given_more, stopped}
use Rattle.cedar_named_sessions.proofs.placing.give_all.Goals as goal

pub returns-in-Err : goal.returns-in-Err
returns-in-Err c =
    stopped (policies_in c.args.held.now) c.args.names.now c.loop-index.names c.give_placed.new.names c.take_back_all.new.names c.args.placed.now c.loop-index.index
    c.index-placed-index.result c.in-Err.refusal c.loop-index-test.true c.index-placed-index.is c.loop-index.invariant c.in-Err.ensures c.take_back_all.ensures

pub loop-index-preserved : goal.loop-index-preserved
loop-index-preserved c =
    given_more (policies_in c.args.held.now) c.args.names.now c.loop-index.names c.give_placed.new.names c.args.placed.now c.loop-index.index
    c.index-placed-index.result c.loop-index-test.true c.index-placed-index.is c.loop-index.invariant c.in_default.ensures
