-- Those passed hold, so those left decide.
use Rattle.std.proofs.Common.{◌≡◌, map, drop}
use Rattle.std.specs.List.{list_all}
use Rattle.cedar_trees.specs.Bare.{bare}
use Rattle.cedar_schema_grammar.specs.Environments.{Application}
use Rattle.cedar_validator.specs.SchemaTypes.{types_view}
use Rattle.cedar_validator.specs.Environments.{request_view, slots_view, environment_of}
use Rattle.cedar_validator.specs.Validating.{is_valid_in}
use Rattle.cedar_validator.proofs.conditions.is_boolean_in_each.Given as goal

abbrev pub invariant-loop-request : goal.invariant-loop-request
invariant-loop-request g l =
    let holds = λ (r : Application). is_valid_in (environment_of (types_view (g.F.FunctionSignatures.signatures l.functions) l.types) (slots_view l.slots) r)
    (bare l.condition) in
    list_all holds (map request_view (drop l.request-index l.requests)) ≡ list_all holds (map request_view l.requests)
