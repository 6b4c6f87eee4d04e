-- What is lent of the session has its setting.
use Rattle.std.proofs.Common.{◌≡◌, sym, ap, ◌∙◌, subst}
use Rattle.std.specs.Prelude.{IfOk}
use Rattle.cedar_refusals.specs.Reasons.{ShowsWhy}
use Rattle.cedar_session.specs.Owning.{owned_setting}
use Rattle.cedar_c.proofs.Lent.{lent_setting}
use Rattle.cedar_c.proofs.open_session.why_owned.Goals as goal

pub returns : goal.returns
returns g c =
    subst (λ s. IfOk c.why.result (λ faults. ShowsWhy s c.args.verb c.args.body.now faults.items))
    (lent_setting c.extensions.result.now c.depth.result c.args.session.now c.extensions.ensures c.depth.ensures) c.why.ensures
