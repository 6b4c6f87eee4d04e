-- The first of its name gets what is written for it, and any other changes nothing.
use Rattle.std.proofs.Common.{◌≡◌, true, sym, ap, ◌∙◌, subst}
use Rattle.std.specs.Prelude.{option_map}
use Rattle.cedar_schema_grammar.specs.Written.{written}
use Rattle.cedar_schema.specs.Types as types
use Rattle.cedar_schema_resolution.specs.Declarations.{declared_view, type_view}
use Rattle.cedar_schema_resolution.specs.Numbers.{number_at}
use Rattle.cedar_schema_resolution.proofs.Resolving.{passed_over, resolved, read_at}
use Rattle.cedar_schema_resolution.proofs.resolution.resolve_one.Goals as goal

pub returns-then-not-has : goal.returns-then-not-has
returns-then-not-has c = λ l common are is.
    passed_over (declared_view c.args.declared.now) c.args.numbers.now are c.args.number (type_view c.index-common.result.now)
    (read_at c.args.declared.now.types.items c.args.number c.index-common.result.now c.requires c.index-common.ensures)
    (λ f. let yes : c.has.result ≡ true = c.has.ensures.1 (ap (number_at c.args.numbers.now) c.in_ok-name.ensures ∙ f) in cc (sym yes ∙ c.if-not-has.true))
    l common c.args.table.now is

pub returns : goal.returns
returns c = λ l common are is.
    let d = declared_view c.args.declared.now in
    let u = type_view c.index-common.result.now in
    let o = option_map types.type_view c.in_ok-known.known in
    resolved d c.args.numbers.now are c.args.number u
    (read_at c.args.declared.now.types.items c.args.number c.index-common.result.now c.requires c.index-common.ensures)
    (ap (number_at c.args.numbers.now) (sym c.in_ok-name.ensures) ∙ c.has.ensures.0 c.if-not-has.false)
    l common c.args.table.now c.declare.new.self c.in_ok-name.name o c.in_ok-name.ensures is
    (subst (λ ns. o ≡ written common d l ns u.type) c.words.ensures (c.in_ok-known.ensures common d l is))
    c.in_ok-declare.ensures.declared c.in_ok-declare.ensures.built_in
