-- What writes the items that are left, put behind what is written, writes all; in the end none is left.
use Rattle.std.proofs.Common.{◌≡◌, ◌∙◌, sym, [], map}
use Rattle.std.proofs.lemmas.List.{nil_from_length}
use Rattle.cedar_trees.specs.Bare.{bare}
use Rattle.cedar_restricted.specs.PartialValues.{partial_of}
use Rattle.cedar_restricted.proofs.Splits.{each_written}
use Rattle.cedar_restricted.proofs.split.exprs.Goals as goal

pub returns : goal.returns
returns c =
    let none : c.loop-item.item-iterator.rest.items ≡ [] = nil_from_length c.loop-item.item-iterator.rest.items (sym c.loop-item.item-iterator.rest.ok.0 ∙ c.in-None.ensures.steps.0) in
    each_written c.loop-item.item-iterator.rest.items (map partial_of c.args.items.items) (map bare c.loop-item.exprs.items) c.loop-item.invariant none
