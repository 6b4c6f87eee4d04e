-- One more number, which stands for the next target.
use Rattle.std.proofs.Common.{◌≡◌, ◌≤◌, ◌<◌, ◌+◌, ◌∷◌, map, drop, length, ap, sym, ◌∙◌, arith}
use Rattle.std.proofs.Math.ListN.{drop_of_length-le}
use Rattle.std.specs.Map.Iter.{deref}
use Rattle.std.proofs.lemmas.List.{drop_more}
use Rattle.cedar_closure.proofs.Members.{union_is}
use Rattle.cedar_closure.proofs.NumberSets.{union_step, behind_then}
use Rattle.cedar_closure.proofs.Numbered.{numbers_step, below_step, longer, stands_below}
use Rattle.cedar_closure.proofs.numbering.numbers_of.Goals as goal

pub loop-target-preserved : goal.loop-target-preserved
loop-target-preserved g c =
    let eq = g.K.PartialEq.eq in
    let laws = g.met.K.Eq.laws in
    let targets = c.args.targets.now in
    let i = c.loop-target.target-index in
    let here : c.loop-target.target-index < length c.args.targets.now = omega arith in
    let t = c.target-item.result in
    let cut : drop i targets ≡ t ∷ drop (i + 1) targets = drop_more targets i t here ∙ ap (λ y. y ∷ drop (i + 1) targets) (sym c.target-item.is) in
    let left : map deref (drop i targets) ≡ t.now ∷ map deref (drop (i + 1) targets) = ap (map deref) cut in
    let old = c.loop-target.keys.keys.items in
    let new = c.number_of.new.self.keys.items in
    let n = c.in_ok-number_of.field-0 in
    let made = c.in_ok-number_of.ensures in
    let pushed = c.in_ok-push.ensures.items in
    record {
      found = made.found;
      numbers = numbers_step laws old made.behind.0 new c.loop-target.numbers.items c.push.new.self.items n (map deref targets) (map deref (drop i targets)) (map deref (drop (i + 1) targets)) t.now
          made.behind.1 pushed made.stands left c.loop-target.invariant.below c.loop-target.invariant.numbers;
      below = below_step c.loop-target.numbers.items c.push.new.self.items n (length old) (length new) pushed (longer old made.behind.0 new made.behind.1) (stands_below laws new t.now n made.stands) c.loop-target.invariant.below;
      union = union_step eq _ old new (map deref (drop i targets)) (map deref (drop (i + 1) targets)) t.now left made.union c.loop-target.invariant.union;
      behind = behind_then c.args.keys.now.keys.items old new c.loop-target.invariant.behind made.behind;
    }

pub returns-clause-union : goal.returns-clause-union
returns-clause-union g c =
    let targets = c.args.targets.now in
    let past : length c.args.targets.now ≤ c.loop-target.target-index = omega arith in
    union_is g.met.K.Eq.laws c.args.keys.now.keys.items c.loop-target.keys.keys.items (map deref (drop c.loop-target.target-index targets)) (map deref targets) (ap (map deref) (drop_of_length-le targets past)) c.loop-target.invariant.union
