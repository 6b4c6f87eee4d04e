-- What is left of the chain means what the whole chain means.
use Rattle.std.proofs.Common.{◌≡◌, ◌∷◌, ◌+◌, [], map, drop, subst, sym, arith}
use Rattle.std.proofs.lemmas.Grind.{common_steps}
use Rattle.std.specs.Rc.{rc_str_bytes}
use Rattle.cedar_language.specs.Operators.{is_there, path_from}
use Rattle.cedar_operators.specs.Lookups.{Shows}
use Rattle.cedar_operators.proofs.ByLookup.{path_cut, path_ends}
use Rattle.cedar_operators.proofs.Passing.{passed}
use Rattle.cedar_operators.proofs.lookups.find_along.Goals as goal

pub loop-attr-preserved : goal.loop-attr-preserved
loop-attr-preserved c = λ facts meant f h.
    let rest = map rc_str_bytes (drop (c.loop-attr.attr-index + 1) c.args.attrs.now) in
    let cut = path_cut facts c.args.attrs.now c.loop-attr.attr-index c.attr-item.result meant c.loop-attr.lookup c.loop-attr-test.true c.attr-item.is (c.loop-attr.invariant facts meant f h) in
    c.in_ok-next.ensures facts rest meant f (subst (λ a. Shows (λ o. path_from facts (a ∷ rest) o ≡ meant) c.loop-attr.lookup) (sym c.as_str.ensures.value) cut)

pub returns-in_err-next : goal.returns-in_err-next
returns-in_err-next c = λ facts meant f h.
    let rest = map rc_str_bytes (drop (c.loop-attr.attr-index + 1) c.args.attrs.now) in
    let cut = path_cut facts c.args.attrs.now c.loop-attr.attr-index c.attr-item.result meant c.loop-attr.lookup c.loop-attr-test.true c.attr-item.is (c.loop-attr.invariant facts meant f h) in
    passed (Shows (λ o. is_there o ≡ meant)) c.in_err-next.field-0.0 c.from_residual.result (λ k e. e) c.from_residual.ensures
    (c.in_err-next.ensures facts rest meant f (subst (λ a. Shows (λ o. path_from facts (a ∷ rest) o ≡ meant) c.loop-attr.lookup) (sym c.as_str.ensures.value) cut))

pub returns : goal.returns
returns c = λ facts meant f h.
    let none : drop c.loop-attr.attr-index c.args.attrs.now ≡ [] = grind (arith, common_steps) in
    path_ends facts (drop c.loop-attr.attr-index c.args.attrs.now) meant c.loop-attr.lookup none (c.loop-attr.invariant facts meant f h)
