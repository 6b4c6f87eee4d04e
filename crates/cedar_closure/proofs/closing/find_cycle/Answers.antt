-- Each key that was passed doesn't reach itself, so a cycle lies in what is left.
use Rattle.std.proofs.Common.{◌≡◌, ◌<◌, ◌+◌, ◌∷◌, Some, sym, ap, ◌∙◌, drop, length, slice_get, refl, arith}
use Rattle.std.specs.List.{list_any}
use Rattle.std.proofs.lemmas.List.{drop_more}
use Rattle.std.proofs.lemmas.Option.{slice_get_read}
use Rattle.cedar_closure.proofs.Members.{member_turned}
use Rattle.cedar_closure.proofs.Finding.{finds_here, finds_past}
use Rattle.cedar_closure.proofs.closing.find_cycle.Goals as goal

pub returns-then-contains-clause-found : goal.returns-then-contains-clause-found
returns-then-contains-clause-found g c =
    let all = c.args.all.now in
    let i = c.loop-reached.reached-index in
    let r = c.reached-item.result in
    let here : c.loop-reached.reached-index < length c.args.all.now = omega arith in
    let at : slice_get all i ≡ Some r = slice_get_read all (length all) i r refl here c.reached-item.is in
    finds_here g.met.K.Eq.laws all i r at (sym (member_turned g.met.K.Eq.laws r.keys.items r.from) ∙ ap (λ ks. list_any (λ y. g.K.PartialEq.eq y r.from) ks) (sym c.deref.ensures.value) ∙ sym c.contains.ensures.value ∙ c.if-contains.true)

pub loop-reached-preserved : goal.loop-reached-preserved
loop-reached-preserved g c = λ a h.
    let all = c.args.all.now in
    let i = c.loop-reached.reached-index in
    let r = c.reached-item.result in
    let here : c.loop-reached.reached-index < length c.args.all.now = omega arith in
    let cut = drop_more all i r here ∙ ap (λ x. x ∷ drop (i + 1) all) (sym c.reached-item.is) in
    finds_past g.met.K.Eq.laws (drop i all) (drop (i + 1) all) r cut (sym (member_turned g.met.K.Eq.laws r.keys.items r.from) ∙ ap (λ ks. list_any (λ y. g.K.PartialEq.eq y r.from) ks) (sym c.deref.ensures.value) ∙ sym c.contains.ensures.value ∙ c.if-contains.false) a (c.loop-reached.invariant a h)
