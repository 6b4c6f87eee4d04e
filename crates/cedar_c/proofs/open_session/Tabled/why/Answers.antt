-- The setting of either table's session.
use Rattle.std.proofs.Common.{◌≡◌, sym, subst}
use Rattle.std.specs.Prelude.{IfOk}
use Rattle.cedar_refusals.specs.Reasons.{ShowsWhy}
use Rattle.cedar_c.specs.Opened.{setting_in}
use Rattle.cedar_c.proofs.open_session.Tabled.why.Goals as goal

pub returns-in-Bare : goal.returns-in-Bare
returns-in-Bare c =
    subst (λ t. IfOk c.why_owned.result (λ faults. ShowsWhy (setting_in t) c.args.verb c.args.body.now faults.items)) (sym c.in-Bare.is) c.why_owned.ensures

pub returns-in-Standard : goal.returns-in-Standard
returns-in-Standard c =
    subst (λ t. IfOk c.why_owned-in-Standard.result (λ faults. ShowsWhy (setting_in t) c.args.verb c.args.body.now faults.items)) (sym c.in-Standard.is)
    c.why_owned-in-Standard.ensures
