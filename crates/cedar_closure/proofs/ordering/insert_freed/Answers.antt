-- Each source has a count.
use Rattle.std.proofs.Common.{◌≡◌, ◌<◌, length, slice_index_or, arith}
use Rattle.std.proofs.lemmas.Cmp.{nat_eq_equiv}
use Rattle.std.proofs.lemmas.Option.{slice_get-get_or}
use Rattle.cedar_closure.proofs.Members.{member_at}
use Rattle.cedar_closure.proofs.ordering.insert_freed.Goals as goal

pub index-requires : goal.index-requires
index-requires c =
    let i = c.loop-source.source-index in
    let ns = c.args.sources.now in
    let here : c.loop-source.source-index < length c.args.sources.now = omega arith in
    let x = slice_index_or ns i 0 in
    let below : slice_index_or c.args.sources.now c.loop-source.source-index 0 < length c.args.left.now.items = c.requires.below x (member_at nat_eq_equiv ns i x (slice_get-get_or ns i 0 here)) in
    let same : length c.loop-source.left.items ≡ length c.args.left.now.items = c.loop-source.invariant.left in
    let full : c.loop-source.left.len ≡ length c.loop-source.left.items = c.loop-source.left.ok.0 in
    omega arith

pub index_mut-requires : goal.index_mut-requires
index_mut-requires c =
    let i = c.loop-source.source-index in
    let ns = c.args.sources.now in
    let here : c.loop-source.source-index < length c.args.sources.now = omega arith in
    let x = slice_index_or ns i 0 in
    let below : slice_index_or c.args.sources.now c.loop-source.source-index 0 < length c.args.left.now.items = c.requires.below x (member_at nat_eq_equiv ns i x (slice_get-get_or ns i 0 here)) in
    let same : length c.loop-source.left.items ≡ length c.args.left.now.items = c.loop-source.invariant.left in
    let full : c.loop-source.left.len ≡ length c.loop-source.left.items = c.loop-source.left.ok.0 in
    omega arith

pub index-requires-in-loop-source : goal.index-requires-in-loop-source
index-requires-in-loop-source c =
    let i = c.loop-source.source-index in
    let ns = c.args.sources.now in
    let here : c.loop-source.source-index < length c.args.sources.now = omega arith in
    let x = slice_index_or ns i 0 in
    let below : slice_index_or c.args.sources.now c.loop-source.source-index 0 < length c.args.left.now.items = c.requires.below x (member_at nat_eq_equiv ns i x (slice_get-get_or ns i 0 here)) in
    let same : length c.loop-source.left.items ≡ length c.args.left.now.items = c.loop-source.invariant.left in
    let full : c.loop-source.left.len ≡ length c.loop-source.left.items = c.loop-source.left.ok.0 in
    omega arith

pub insert-requires-clause-below : goal.insert-requires-clause-below
insert-requires-clause-below c =
    let i = c.loop-source.source-index in
    let ns = c.args.sources.now in
    let here : c.loop-source.source-index < length c.args.sources.now = omega arith in
    let x = slice_index_or ns i 0 in
    let below : slice_index_or c.args.sources.now c.loop-source.source-index 0 < length c.args.left.now.items = c.requires.below x (member_at nat_eq_equiv ns i x (slice_get-get_or ns i 0 here)) in
    let same : length c.loop-source.left.items ≡ length c.args.left.now.items = c.loop-source.invariant.left in
    let full : c.loop-source.left.len ≡ length c.loop-source.left.items = c.loop-source.left.ok.0 in
    let marks : length c.args.left.now.items ≡ length c.args.order.now.is_member.items = c.requires.left in
    let bound : length c.loop-source.order.is_member.items ≡ length c.args.order.now.is_member.items = c.loop-source.invariant.bound in
    omega arith
