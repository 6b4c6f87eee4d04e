-- The last identifier is the basename, and those before it are the namespace.
use Rattle.std.proofs.Common.{◌≡◌, true, map, sym, ◌∙◌, subst}
use Rattle.cedar_language.specs.Order.{same_text}
use Rattle.cedar_data.proofs.Spelled.{name_spelled}
use Rattle.cedar_data.proofs.names.is_spelled.Goals as goal

pub returns-then-is_same : goal.returns-then-is_same
returns-then-is_same c = λ so.
    let is = sym c.as_ref.ensures.name ∙ sym c.components.ensures.components ∙ c.in-Some.ensures.cases.0 in
    let same = subst (λ t. true ≡ same_text t c.args.basename.now) c.as_str.ensures.text c.if-is_same.ensures in
    name_spelled c.args.name.now c.in-Some.path.now (map (λ word. word.now) c.args.namespace.now) c.in-Some.last.now c.args.basename.now is same c.are_same.result c.are_same.ensures so
