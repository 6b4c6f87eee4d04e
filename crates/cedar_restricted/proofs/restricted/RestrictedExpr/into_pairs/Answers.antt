-- As into_exprs does, each tree beside its key.
use Rattle.std.proofs.Common.{◌≡◌, ap, rules}
use Rattle.cedar_trees.specs.Bare.{bare_entries}
use Rattle.cedar_restricted.specs.Views.{restricted_entries}
use Rattle.cedar_restricted.proofs.Making.{start}
use Rattle.cedar_restricted.proofs.restricted.RestrictedExpr.into_pairs.Goals as goal

pub loop-key-init : goal.loop-key-init
loop-key-init c =
    let same : c.into_iter-key-iterator.result.rest.items ≡ c.args.pairs.items = search rules in
    start _ _ _ (ap bare_entries c.new-exprs.ensures.items) (ap restricted_entries same)
