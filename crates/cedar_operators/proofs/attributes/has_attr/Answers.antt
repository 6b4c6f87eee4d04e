-- What the look-up shows is there, or isn't; its errors are passed on.
use Rattle.std.proofs.Common.{◌≡◌, ap, sym, ◌∙◌, rules}
use Rattle.cedar_language.specs.Tree.{Boolean}
use Rattle.cedar_language.specs.Value.{Plain, Gives}
use Rattle.cedar_language.specs.Operators.{attribute, is_there}
use Rattle.cedar_operators.proofs.ByLookup.{shows_on, there_errs}
use Rattle.cedar_operators.proofs.Passing.{passed}
use Rattle.cedar_operators.proofs.attributes.has_attr.Goals as goal

pub returns : goal.returns
returns c = λ facts f.
    let made : c.from.result ≡ Plain (Boolean c.is_found.result) = search rules in
    let meant = is_there (attribute facts c.as_str.result.now c.args.of.now) in
    let shown = shows_on (λ o. attribute facts c.as_str.result.now c.args.of.now ≡ o) (λ o. is_there o ≡ meant) (λ o e. sym (ap is_there e)) c.in_ok-lookup.lookup (c.in_ok-lookup.ensures facts f) in
    ap (λ a. is_there (attribute facts a c.args.of.now)) (sym c.as_str.ensures.value) ∙ c.is_found.ensures meant shown ∙ ap Gives (sym made)

pub returns-in_err-lookup : goal.returns-in_err-lookup
returns-in_err-lookup c = λ facts f.
    passed (λ v. _) c.in_err-lookup.field-0.0 c.from_residual.result (λ k h. ap (λ a. is_there (attribute facts a c.args.of.now)) (sym c.as_str.ensures.value) ∙ ap is_there h.0 ∙ there_errs k h.1) c.from_residual.ensures (c.in_err-lookup.ensures facts f)
