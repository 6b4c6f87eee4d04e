-- Where the node holds a value, it is that value and the node's place that the function is called with.
use Rattle.std.proofs.Common.{◌≡◌, refl, sym, ap, ◌∙◌, subst, None, Some, MatchOption}
use Rattle.std.specs.Option.{option_copied}
use Rattle.cedar_cst.specs.Nodes.{GivesAtNode}
use Rattle.cedar_cst.proofs.node.Node+Option+T.apply.Goals as goal

pub returns-in-Some : goal.returns-in-Some
returns-in-Some g c =
    let here : Some c.in-Some.node.now ≡ c.args.self.now.node = sym (ap option_copied c.in-Some.is) ∙ c.as_inner.ensures in
    subst (λ o. MatchOption o (c.f.result ≡ None) (λ x. GivesAtNode g.F.FnOnce c.args.f x c.args.self.now.loc c.f.result)) here
    record { value = c.in-Some.node; place = c.loc.result; value_is = refl; place_is = c.loc.ensures; given = c.f.ensures }
