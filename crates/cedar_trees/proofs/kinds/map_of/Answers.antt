-- What all pairs make is the map with the rest of them put in: the empty map and all of them at first.
use Rattle.std.proofs.Common.{◌≡◌, ◌∙◌, ap, sym, rules}
use Rattle.cedar_trees.specs.Bare.{bare_entries}
use Rattle.cedar_trees.proofs.Records.{all_put, entries_put}
use Rattle.cedar_trees.proofs.kinds.map_of.Goals as goal

pub loop-key-init : goal.loop-key-init
loop-key-init g c =
    let same : c.into_iter-key-iterator.result.rest.items ≡ c.args.pairs.items = search rules in
    entries_put (bare_entries c.args.pairs.items)
    ∙ ap (λ es. all_put (bare_entries es) (bare_entries c.args.pairs.items)) (sym c.new-map.ensures.empty)
    ∙ ap (λ es. all_put (bare_entries c.new-map.result.entries) (bare_entries es)) (sym same)
