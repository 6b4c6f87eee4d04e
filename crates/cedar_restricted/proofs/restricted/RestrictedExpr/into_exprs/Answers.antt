-- What is unwrapped so far and what is left are together the trees of all; at first nothing is unwrapped.
use Rattle.std.proofs.Common.{◌≡◌, ap, map, rules}
use Rattle.cedar_trees.specs.Bare.{bare}
use Rattle.cedar_restricted.specs.Views.{restricted_tree}
use Rattle.cedar_restricted.proofs.Making.{start}
use Rattle.cedar_restricted.proofs.restricted.RestrictedExpr.into_exprs.Goals as goal

pub loop-item-init : goal.loop-item-init
loop-item-init c =
    let same : c.into_iter-item-iterator.result.rest.items ≡ c.args.items.items = search rules in
    start _ _ _ (ap (map bare) c.new-exprs.ensures.items) (ap (map restricted_tree) same)
