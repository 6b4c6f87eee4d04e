-- One that doesn't hold decides; else those left do.
use Rattle.std.proofs.Common.{◌≡◌, ◌∙◌, sym, true, false, rules}
use Rattle.cedar_trees.specs.Bare.{bare}
use Rattle.cedar_schema_grammar.specs.Environments.{Application}
use Rattle.cedar_validator.specs.SchemaTypes.{types_view}
use Rattle.cedar_validator.specs.Environments.{slots_view, environment_of}
use Rattle.cedar_validator.specs.Validating.{is_valid_in}
use Rattle.cedar_validator.proofs.Valid.{next_holds, next_fails}
use Rattle.cedar_validator.proofs.conditions.is_boolean_in_each.Goals as goal

pub loop-request-preserved : goal.loop-request-preserved
loop-request-preserved g c =
    let holds = λ (a : Application). is_valid_in (environment_of (types_view (g.F.FunctionSignatures.signatures c.args.functions.now) c.args.types.now)
    (slots_view c.args.slots.now) a) (bare c.args.condition.now) in
    let ok : c.in_ok-is_valid.is_valid ≡ true = search rules in
    sym (next_holds holds c.args.requests.now c.loop-request.request-index c.request-item.result c.loop-request-test.true c.request-item.is
    (sym c.in_ok-is_valid.ensures ∙ ok)) ∙ c.loop-request.invariant

pub returns-then-not-is_valid : goal.returns-then-not-is_valid
returns-then-not-is_valid g c =
    let holds = λ (a : Application). is_valid_in (environment_of (types_view (g.F.FunctionSignatures.signatures c.args.functions.now) c.args.types.now)
    (slots_view c.args.slots.now) a) (bare c.args.condition.now) in
    let fails : c.in_ok-is_valid.is_valid ≡ false = search rules in
    sym (next_fails holds c.args.requests.now c.loop-request.request-index c.request-item.result c.loop-request-test.true c.request-item.is
    (sym c.in_ok-is_valid.ensures ∙ fails)) ∙ c.loop-request.invariant
