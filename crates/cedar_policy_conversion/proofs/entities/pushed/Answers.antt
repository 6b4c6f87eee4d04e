-- The longer list is found where the shorter one and the entity are, and lacks where one of the two does.
use Rattle.std.proofs.Common.{◌≡◌, Some, Vec, Global, [], ◌∷◌, ◌++◌, sym, ap, ◌∙◌, rules}
use Rattle.cedar_language.specs.Uid.{Uid}
use Rattle.cedar_grammar.specs.Steps.{◌>>=◌}
use Rattle.cedar_faults.proofs.Telling.{flat_tells, handed_on}
use Rattle.cedar_policy_conversion.proofs.Finding.{passed, two_lack, two_found, found, early, late}
use Rattle.cedar_policy_conversion.proofs.entities.pushed.Goals as goal

pub returns-in_err-uids-clause-pushed : goal.returns-in_err-uids-clause-pushed
returns-in_err-uids-clause-pushed g c v w hv hw =
    let e = c.in_err-uids.field-0.0 in
    passed (λ (us : Vec Uid Global). us.items) c.from_residual.result e _ c.from_residual.ensures
    (two_lack (λ (us : Vec Uid Global). us.items) (λ (u : Uid). u) c.args.uids c.args.next v w _ e c.in_err-uids.ensures hv hw (early v (λ us. w >>= λ u. Some (us ++ u ∷ []))) (late v w (λ us u. Some (us ++ u ∷ []))))

pub returns-clause-pushed : goal.returns-clause-pushed
returns-clause-pushed g c v w hv hw =
    let us = c.in_ok-uids.uids in
    let u = c.in_ok-uids.next in
    let both = two_found c.args.uids c.args.next (us, u) c.in_ok-uids.ensures in
    let first : v ≡ Some us.items = found (λ (us : Vec Uid Global). us.items) c.args.uids v us hv both.0 in
    let second : w ≡ Some u = found (λ (u : Uid). u) c.args.next w u hw both.1 in
    let more : c.push.new.self.items ≡ us.items ++ u ∷ [] = search rules in
    ap (λ o. o >>= λ xs. w >>= λ x. Some (xs ++ x ∷ [])) first ∙ ap (λ o. o >>= λ x. Some (us.items ++ x ∷ [])) second ∙ ap Some (sym more)

pub returns-in_err-uids-clause-told : goal.returns-in_err-uids-clause-told
returns-in_err-uids-clause-told g c =
    handed_on c.from_residual.result _ _ c.from_residual.ensures (flat_tells c.args.uids c.args.next _ c.in_err-uids.ensures)
