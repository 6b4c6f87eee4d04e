-- Bytes are a text, or the first that shows that they are none is told.
use Rattle.std.proofs.Common.{◌∙◌, inl, inr, rules, subst}
use Rattle.std.proofs.lemmas.Result.{IfOk-weaker}
use Rattle.std.specs.Prelude.{IsUtf8}
use Rattle.cedar_session.specs.Settings.{setting_with}
use Rattle.cedar_refusals.specs.Reasons.{ShowsNoText, ShowsText, ShowsWhy}
use Rattle.cedar_refusals.proofs.reasons.why.Goals as goal

pub returns-in-Ok : goal.returns-in-Ok
returns-in-Ok g c =
    let by = setting_with g.F.ExtensionFunctionObject.answers c.args.seen.now.extensions.now c.args.seen.now.depth in
    let body = c.args.body.now in
    let is : IsUtf8 body = search rules in
    IfOk-weaker c.text_faults.result (λ faults. ShowsText by c.args.verb c.in-Ok.text.now faults.items) (λ faults. ShowsWhy by c.args.verb body faults.items)
    (λ faults told. inr (is, subst (λ t. ShowsText by c.args.verb t faults.items) c.in-Ok.ensures.cases.0 told)) c.text_faults.ensures

pub returns-in-Err : goal.returns-in-Err
returns-in-Err g c =
    let by = setting_with g.F.ExtensionFunctionObject.answers c.args.seen.now.extensions.now c.args.seen.now.depth in
    let body = c.args.body.now in
    IfOk-weaker c.no_text.result (λ faults. ShowsNoText body c.valid_up_to.result faults.items) (λ faults. ShowsWhy by c.args.verb body faults.items)
    (λ faults told. inl (c.in-Err.ensures.cases.0, subst (λ n. ShowsNoText body n faults.items) (c.valid_up_to.ensures ∙ c.in-Err.ensures.valid_len) told)) c.no_text.ensures
