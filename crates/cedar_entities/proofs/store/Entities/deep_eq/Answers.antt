-- Stores are the same where each holds what the other does.
use Rattle.cedar_entities.specs.Store.{found_in}
use Rattle.cedar_entities.proofs.Sameness.{decides, refuses}
use Rattle.cedar_entities.proofs.store.Entities.deep_eq.Goals as goal

pub returns-then-agree_where_held : goal.returns-then-agree_where_held
returns-then-agree_where_held c =
    decides (found_in c.args.self.now) (found_in c.args.other.now) c.agree_where_held.result c.has_uids_of.result c.if-agree_where_held.true c.agree_where_held.ensures c.has_uids_of.ensures

pub returns-else-agree_where_held : goal.returns-else-agree_where_held
returns-else-agree_where_held c = refuses (found_in c.args.self.now) (found_in c.args.other.now) c.agree_where_held.result c.if-agree_where_held.false c.agree_where_held.ensures
