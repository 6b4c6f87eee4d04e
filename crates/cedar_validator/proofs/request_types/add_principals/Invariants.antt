-- The requests of the principals passed and of those left are those of the action.
use Rattle.std.proofs.Common.{◌≡◌, ◌++◌, map, drop}
use Rattle.cedar_schema_grammar.specs.Environments.{pairs}
use Rattle.cedar_validator.specs.Environments.{request_view}
use Rattle.cedar_validator.proofs.request_types.add_principals.Given as goal

abbrev pub invariant-loop-principal : goal.invariant-loop-principal
invariant-loop-principal l =
    map request_view l.listed.items ++ pairs l.action.value (drop l.principal-index l.principals) l.resources
    ≡ map request_view l.fn.listed.items ++ pairs l.action.value l.principals l.resources
