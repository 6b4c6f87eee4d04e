-- One more clone stands for the next key (Leading).
use Rattle.std.proofs.Common.{◌≡◌, ◌≤◌, ◌<◌, ◌+◌, ◌∷◌, ◌||◌, map, drop, length, ap, sym, ◌∙◌, arith}
use Rattle.std.proofs.Math.ListN.{drop_of_length-le}
use Rattle.std.specs.Map.Iter.{deref}
use Rattle.std.specs.Set.{is_member}
use Rattle.std.proofs.lemmas.List.{drop_more, length_push}
use Rattle.cedar_closure.proofs.Members.{or_none}
use Rattle.cedar_closure.proofs.Leading.{cloned_on}
use Rattle.cedar_closure.proofs.sources.cloned.Goals as goal

pub loop-key-preserved : goal.loop-key-preserved
loop-key-preserved g c =
    let keys = c.args.keys.now in
    let i = c.loop-key.key-index in
    let here : c.loop-key.key-index < length c.args.keys.now = omega arith in
    let k = c.key-item.result in
    let y = c.in_ok-clone.field-0 in
    let cut : drop i keys ≡ k ∷ drop (i + 1) keys = drop_more keys i k here ∙ ap (λ x. x ∷ drop (i + 1) keys) (sym c.key-item.is) in
    let left : map deref (drop i keys) ≡ k.now ∷ map deref (drop (i + 1) keys) = ap (map deref) cut in
    let pushed = c.in_ok-push.ensures.items in
    record {
      members = cloned_on g.met.K.Eq.laws c.loop-key.all.items c.push.new.self.items (map deref (drop i keys)) (map deref (drop (i + 1) keys)) (map deref keys) k.now y left (c.requires k.now y c.in_ok-clone.ensures.cases) pushed c.loop-key.invariant.members;
      len = ap length pushed ∙ length_push c.loop-key.all.items y ∙ ap (λ n. n + 1) c.loop-key.invariant.len;
    }

pub returns-clause-members : goal.returns-clause-members
returns-clause-members g c = λ q.
    let eq = g.K.PartialEq.eq in
    let past : length c.args.keys.now ≤ c.loop-key.key-index = omega arith in
    sym (or_none (is_member eq c.loop-key.all.items q)) ∙ ap (λ ks. is_member eq c.loop-key.all.items q || is_member eq (map deref ks) q) (sym (drop_of_length-le c.args.keys.now past)) ∙ c.loop-key.invariant.members q
