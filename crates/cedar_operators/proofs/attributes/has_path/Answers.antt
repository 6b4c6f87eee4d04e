-- What the chain ends with is there, or isn't; its errors are passed on.
use Rattle.std.proofs.Common.{◌≡◌, List, map, ap, sym, ◌∙◌, rules, Global}
use Rattle.std.specs.declared.rc.RcStr.{RcStr}
use Rattle.std.specs.Rc.{rc_str_bytes}
use Rattle.cedar_language.specs.Tree.{Boolean}
use Rattle.cedar_language.specs.Value.{Plain, Gives}
use Rattle.cedar_language.specs.Operators.{attribute, path_from}
use Rattle.cedar_operators.proofs.ByLookup.{shows_on, path_errs}
use Rattle.cedar_operators.proofs.Passing.{passed}
use Rattle.cedar_operators.proofs.attributes.has_path.Goals as goal

pub returns-in_err-first : goal.returns-in_err-first
returns-in_err-first c = λ facts f.
    let names = map rc_str_bytes c.args.attrs.now.tail.items in
    passed (λ v. _) c.in_err-first.field-0.0 c.from_residual.result
    (λ k h. ap (λ a. path_from facts names (attribute facts a c.args.of.now)) (sym c.as_str.ensures.value) ∙ ap (path_from facts names) h.0 ∙ path_errs facts names k h.1)
    c.from_residual.ensures (c.in_err-first.ensures facts f)

pub returns-in_err-last : goal.returns-in_err-last
returns-in_err-last c = λ facts f.
    let first = attribute facts c.as_str.result.now c.args.of.now in
    let names = map rc_str_bytes c.deref.result.now in
    let meant = path_from facts names first in
    let shown = shows_on (λ o. first ≡ o) (λ o. path_from facts names o ≡ meant) (λ o e. sym (ap (path_from facts names) e)) c.in_ok-first.first (c.in_ok-first.ensures facts f) in
    let same = ap (λ a. path_from facts (map rc_str_bytes c.args.attrs.now.tail.items) (attribute facts a c.args.of.now)) (sym c.as_str.ensures.value)
    ∙ ap (λ (as_ : List (RcStr Global)). path_from facts (map rc_str_bytes as_) first) (sym c.deref.ensures.value) in
    passed (λ v. _) c.in_err-last.field-0.0 c.from_residual-in_err-last.result (λ k h. same ∙ h) c.from_residual-in_err-last.ensures (c.in_err-last.ensures facts meant f shown)

pub returns : goal.returns
returns c = λ facts f.
    let made : c.from.result ≡ Plain (Boolean c.is_found.result) = search rules in
    let first = attribute facts c.as_str.result.now c.args.of.now in
    let names = map rc_str_bytes c.deref.result.now in
    let meant = path_from facts names first in
    let shown = shows_on (λ o. first ≡ o) (λ o. path_from facts names o ≡ meant) (λ o e. sym (ap (path_from facts names) e)) c.in_ok-first.first (c.in_ok-first.ensures facts f) in
    let same = ap (λ a. path_from facts (map rc_str_bytes c.args.attrs.now.tail.items) (attribute facts a c.args.of.now)) (sym c.as_str.ensures.value)
    ∙ ap (λ (as_ : List (RcStr Global)). path_from facts (map rc_str_bytes as_) first) (sym c.deref.ensures.value) in
    same ∙ c.is_found.ensures meant (c.in_ok-last.ensures facts meant f shown) ∙ ap Gives (sym made)
