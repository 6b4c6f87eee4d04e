-- Each number is below the length; one that doesn't stand for the key may be passed.
use Rattle.std.proofs.Common.{◌≡◌, ◌<◌, length, slice_get, slice_index_or, Some, refl, sym, ◌∙◌, arith}
use Rattle.std.proofs.lemmas.Cmp.{nat_eq_equiv}
use Rattle.std.proofs.lemmas.Option.{slice_get-get_or, slice_get_read}
use Rattle.cedar_closure.proofs.Members.{member_at}
use Rattle.cedar_closure.proofs.Numbered.{stands}
use Rattle.cedar_closure.proofs.KeysFound.{pass_number}
use Rattle.cedar_closure.proofs.keys.find_among.Goals as goal

pub offset_bounds-keys-number : goal.offset_bounds-keys-number
offset_bounds-keys-number g c =
    let i = c.loop-number.number-index in
    let ns = c.args.numbers.now in
    let here : c.loop-number.number-index < length c.args.numbers.now = omega arith in
    let n = slice_index_or ns i 0 in
    let below : slice_index_or c.args.numbers.now c.loop-number.number-index 0 < length c.args.keys.now = c.requires n (member_at nat_eq_equiv ns i n (slice_get-get_or ns i 0 here)) in
    omega arith

pub bounds-keys-number : goal.bounds-keys-number
bounds-keys-number g c =
    let i = c.loop-number.number-index in
    let ns = c.args.numbers.now in
    let here : c.loop-number.number-index < length c.args.numbers.now = omega arith in
    let n = slice_index_or ns i 0 in
    c.requires n (member_at nat_eq_equiv ns i n (slice_get-get_or ns i 0 here))

pub returns-then-eq-clause-found : goal.returns-then-eq-clause-found
returns-then-eq-clause-found g c =
    let laws = g.met.K.Eq.laws in
    let keys = c.args.keys.now in
    let ns = c.args.numbers.now in
    let i = c.loop-number.number-index in
    let here : c.loop-number.number-index < length c.args.numbers.now = omega arith in
    let n = slice_index_or ns i 0 in
    let x = c.index-keys-number.result in
    let below = c.requires n (member_at nat_eq_equiv ns i n (slice_get-get_or ns i 0 here)) in
    let at : slice_get keys n ≡ Some x = slice_get_read keys (length keys) n x refl below c.index-keys-number.is in
    stands laws keys c.args.key.now x n at (laws.symm c.args.key.now x ∙ sym c.if-eq.ensures)

pub loop-number-preserved : goal.loop-number-preserved
loop-number-preserved g c =
    let laws = g.met.K.Eq.laws in
    let keys = c.args.keys.now in
    let ns = c.args.numbers.now in
    let i = c.loop-number.number-index in
    let here : c.loop-number.number-index < length c.args.numbers.now = omega arith in
    let n = slice_index_or ns i 0 in
    let x = c.index-keys-number.result in
    let below = c.requires n (member_at nat_eq_equiv ns i n (slice_get-get_or ns i 0 here)) in
    let at : slice_get keys n ≡ Some x = slice_get_read keys (length keys) n x refl below c.index-keys-number.is in
    pass_number laws keys ns i c.args.key.now x here at (laws.symm c.args.key.now x ∙ sym c.if-eq.ensures) c.loop-number.invariant
