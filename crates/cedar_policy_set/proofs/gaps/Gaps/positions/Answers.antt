-- Each of them is moved to where it stands (Moving).
use Rattle.std.proofs.Common.{◌≡◌, ◌≤◌, ◌++◌, length, take, drop, sym, ap, subst, ◌∙◌, arith}
use Rattle.cedar_policy_set.specs.ScopeFinding.{is_listed}
use Rattle.cedar_policy_set.specs.ClosedPlaces.{position_of}
use Rattle.cedar_policy_set.proofs.Moving.{AreMoved, all_moved, written_back}
use Rattle.cedar_policy_set.proofs.gaps.Gaps.positions.Goals as goal

pub returns-after-loop-place : goal.returns-after-loop-place
returns-after-loop-place c = λ t h.
    let f = position_of c.args.self.now.taken.items in
    let ps = c.args.places.items in
    let qs = c.loop-place.place-items in
    let moved : AreMoved f ps qs c.loop-place.place-index = subst (λ xs. AreMoved f xs qs c.loop-place.place-index) c.deref_mut-place-items.ensures.value c.loop-place.invariant in
    let long = moved.long in
    let ended = c.loop-place-test.false in
    let own = c.args.places.ok.0 in
    let size : length qs ≡ c.args.places.len = omega arith in
    let all : length ps ≤ c.loop-place.place-index = omega arith in
    let back : take c.args.places.len (qs ++ drop (length qs) ps) ≡ qs = ap (λ n. take n (qs ++ drop (length qs) ps)) (sym size) ∙ written_back qs ps long in
    ap (λ xs. is_listed xs (f t)) back ∙ all_moved f ps qs c.loop-place.place-index moved all t h
