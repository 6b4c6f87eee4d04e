-- Where no number is left, all were put behind.
use Rattle.std.proofs.Common.{◌≡◌, ◌≤◌, ◌<◌, drop, length, slice_index_or, arith}
use Rattle.std.proofs.Math.ListN.{drop_of_length-le}
use Rattle.std.proofs.lemmas.Cmp.{nat_eq_equiv}
use Rattle.std.proofs.lemmas.Option.{slice_get-get_or}
use Rattle.cedar_closure.proofs.Members.{union_is, member_at}
use Rattle.cedar_closure.proofs.numbers.NumberSet.insert_all.Goals as goal

pub returns-clause-union : goal.returns-clause-union
returns-clause-union c =
    let past : length c.args.numbers.now ≤ c.loop-number.number-index = omega arith in
    union_is nat_eq_equiv c.args.self.now.members.items c.loop-number.self.members.items (drop c.loop-number.number-index c.args.numbers.now) c.args.numbers.now (drop_of_length-le c.args.numbers.now past) c.loop-number.invariant.union

pub insert-requires-clause-below : goal.insert-requires-clause-below
insert-requires-clause-below c =
    let i = c.loop-number.number-index in
    let ns = c.args.numbers.now in
    let here : c.loop-number.number-index < length c.args.numbers.now = omega arith in
    let x = slice_index_or ns i 0 in
    let below : slice_index_or c.args.numbers.now c.loop-number.number-index 0 < length c.args.self.now.is_member.items = c.requires.below x (member_at nat_eq_equiv ns i x (slice_get-get_or ns i 0 here)) in
    let same : length c.loop-number.self.is_member.items ≡ length c.args.self.now.is_member.items = c.loop-number.invariant.bound in
    omega arith
