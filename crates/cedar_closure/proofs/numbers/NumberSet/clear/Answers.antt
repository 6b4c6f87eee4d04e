-- Each member loses its mark.
use Rattle.std.proofs.Common.{◌≡◌, ◌≤◌, ◌<◌, ◌+◌, Some, length, drop, slice_get, slice_index_or, false, refl, ap, ◌∙◌, arith}
use Rattle.std.proofs.Math.ListN.{drop_of_length-le}
use Rattle.std.proofs.lemmas.Cmp.{nat_eq_equiv}
use Rattle.std.proofs.lemmas.List.{length-set}
use Rattle.std.proofs.lemmas.Option.{slice_get_read}
use Rattle.cedar_closure.proofs.Members.{member_at}
use Rattle.cedar_closure.proofs.NumberSets.{member_below, unmarked_start, unmarked_step, unmarked_end, empty_set}
use Rattle.cedar_closure.proofs.Numbered.{drop_here}
use Rattle.cedar_closure.proofs.numbers.NumberSet.clear.Goals as goal

pub loop-index-init : goal.loop-index-init
loop-index-init c = record {
  left = unmarked_start c.args.self.now c.requires;
  members = refl;
  bound = refl;
}

pub index_mut-requires : goal.index_mut-requires
index_mut-requires c =
    let inv = c.loop-index.invariant in
    let i = c.loop-index.index in
    let x = c.index-number.result.now in
    let xs = c.args.self.now.members.items in
    let full : c.args.self.now.members.len ≡ length c.args.self.now.members.items = c.args.self.now.members.ok.0 in
    let end : c.len-index-end.result ≡ c.args.self.now.members.len = c.len-index-end.ensures in
    let here : c.loop-index.index < length c.args.self.now.members.items = omega arith in
    let at : slice_get xs i ≡ Some x = slice_get_read xs (length xs) i x refl here (c.index-number.ensures ∙ ap (λ m. slice_index_or m.items i x) inv.members) in
    let below : c.index-number.result.now < length c.args.self.now.is_member.items = member_below c.args.self.now c.requires x (member_at nat_eq_equiv xs i x at) in
    let same : length c.loop-index.self.is_member.items ≡ length c.args.self.now.is_member.items = inv.bound in
    let marks : c.loop-index.self.is_member.len ≡ length c.loop-index.self.is_member.items = c.loop-index.self.is_member.ok.0 in
    omega arith

pub loop-index-preserved : goal.loop-index-preserved
loop-index-preserved c =
    let inv = c.loop-index.invariant in
    let i = c.loop-index.index in
    let x = c.index-number.result.now in
    let xs = c.args.self.now.members.items in
    let ms = c.loop-index.self.is_member.items in
    let full : c.args.self.now.members.len ≡ length c.args.self.now.members.items = c.args.self.now.members.ok.0 in
    let end : c.len-index-end.result ≡ c.args.self.now.members.len = c.len-index-end.ensures in
    let here : c.loop-index.index < length c.args.self.now.members.items = omega arith in
    let at : slice_get xs i ≡ Some x = slice_get_read xs (length xs) i x refl here (c.index-number.ensures ∙ ap (λ m. slice_index_or m.items i x) inv.members) in
    let below : c.index-number.result.now < length c.args.self.now.is_member.items = member_below c.args.self.now c.requires x (member_at nat_eq_equiv xs i x at) in
    let same : length c.loop-index.self.is_member.items ≡ length c.args.self.now.is_member.items = inv.bound in
    let marked : c.index-number.result.now < length c.loop-index.self.is_member.items = omega arith in
    record {
      left = unmarked_step ms _ (drop i xs) (drop (i + 1) xs) x (drop_here xs i x at) marked refl inv.left;
      members = inv.members;
      bound = length-set ms x false ∙ inv.bound;
    }

pub returns-clause-set : goal.returns-clause-set
returns-clause-set c =
    let i = c.loop-index.index in
    let xs = c.args.self.now.members.items in
    let full : c.args.self.now.members.len ≡ length c.args.self.now.members.items = c.args.self.now.members.ok.0 in
    let end : c.len-index-end.result ≡ c.args.self.now.members.len = c.len-index-end.ensures in
    let past : length c.args.self.now.members.items ≤ c.loop-index.index = omega arith in
    empty_set _ c.clear.ensures.items (unmarked_end c.loop-index.self.is_member.items (drop i xs) (drop_of_length-le xs past) c.loop-index.invariant.left)
