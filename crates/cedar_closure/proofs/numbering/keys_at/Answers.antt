-- Each number is below the length, and the clone of its key stands for it.
use Rattle.std.proofs.Common.{◌≡◌, ◌<◌, ◌+◌, drop, length, slice_get, slice_index_or, Some, IsTrue, refl, arith}
use Rattle.std.proofs.lemmas.Cmp.{nat_eq_equiv}
use Rattle.std.proofs.lemmas.Option.{slice_get-get_or, slice_get_read}
use Rattle.cedar_closure.proofs.Members.{member_at}
use Rattle.cedar_closure.proofs.Numbered.{keys_step, drop_at}
use Rattle.cedar_closure.proofs.numbering.keys_at.Goals as goal

pub offset_bounds-keys-number : goal.offset_bounds-keys-number
offset_bounds-keys-number g c =
    let i = c.loop-number.number-index in
    let ns = c.args.numbers.now in
    let here : c.loop-number.number-index < length c.args.numbers.now = omega arith in
    let n = slice_index_or ns i 0 in
    let below : slice_index_or c.args.numbers.now c.loop-number.number-index 0 < length c.args.keys.now = c.requires.below n (member_at nat_eq_equiv ns i n (slice_get-get_or ns i 0 here)) in
    omega arith

pub bounds-keys-number : goal.bounds-keys-number
bounds-keys-number g c =
    let i = c.loop-number.number-index in
    let ns = c.args.numbers.now in
    let here : c.loop-number.number-index < length c.args.numbers.now = omega arith in
    let n = slice_index_or ns i 0 in
    c.requires.below n (member_at nat_eq_equiv ns i n (slice_get-get_or ns i 0 here))

pub loop-number-preserved : goal.loop-number-preserved
loop-number-preserved g c =
    let eq = g.K.PartialEq.eq in
    let laws = g.met.K.Eq.laws in
    let keys = c.args.keys.now in
    let ns = c.args.numbers.now in
    let i = c.loop-number.number-index in
    let here : c.loop-number.number-index < length c.args.numbers.now = omega arith in
    let n = slice_index_or ns i 0 in
    let x = c.index-keys-number.result in
    let y = c.in_ok-clone.field-0 in
    let clone : IsTrue (eq x y) = c.requires.clones x y c.in_ok-clone.ensures.cases in
    let below = c.requires.below n (member_at nat_eq_equiv ns i n (slice_get-get_or ns i 0 here)) in
    let at : slice_get keys n ≡ Some x = slice_get_read keys (length keys) n x refl below c.index-keys-number.is in
    keys_step laws keys c.loop-number.all.items c.push.new.self.items x y ns (drop i ns) (drop (i + 1) ns) n c.in_ok-push.ensures.items (drop_at ns i here) at clone c.loop-number.invariant
