-- The sources are those of the set at the key, or none (Leading).
use Rattle.std.proofs.Common.{length, map, refl, ap, ◌∙◌}
use Rattle.std.specs.BTreeMap.{get}
use Rattle.std.specs.Map.Iter.{deref}
use Rattle.std.proofs.lemmas.Option.{slice_get_read}
use Rattle.cedar_closure.proofs.Turned.{on_ok, sources_at, no_sources_at}
use Rattle.cedar_closure.proofs.Leading.{finds_same, finds_none, now_is}
use Rattle.cedar_closure.proofs.sources.Found.add_sources.Goals as goal

pub returns-in-Some-clause-finds : goal.returns-in-Some-clause-finds
returns-in-Some-clause-finds g c =
    let cmp = g.K.Ord.cmp in
    let keys = c.args.self.now.keys.items in
    let graph = c.args.graph.now in
    let at = slice_get_read keys (length keys) c.args.at c.index.result.now refl c.requires.below c.index.ensures in
    on_ok c.add_each.result c.add_each.ensures.finds (λ f t here.
    let same = now_is keys c.args.at c.index.result.now t at here in
    finds_same c.args.most (map deref keys) (map deref c.add_each.new.self.keys.items)
    (sources_at cmp graph t c.in-Some.sources.now (c.in-Some.ensures.value ∙ ap (λ k. get cmp graph.by_target k) same)) f)

pub returns-in-None-clause-finds : goal.returns-in-None-clause-finds
returns-in-None-clause-finds g c = λ t here.
    let cmp = g.K.Ord.cmp in
    let keys = c.args.self.now.keys.items in
    let graph = c.args.graph.now in
    let at = slice_get_read keys (length keys) c.args.at c.index.result.now refl c.requires.below c.index.ensures in
    let same = now_is keys c.args.at c.index.result.now t at here in
    finds_none c.args.most (map deref keys) (no_sources_at cmp graph t (c.in-None.ensures.value ∙ ap (λ k. get cmp graph.by_target k) same))
