-- The requests of the resources passed are added.
use Rattle.std.proofs.Common.{◌≡◌, ◌++◌, map, take}
use Rattle.cedar_schema_grammar.specs.Environments.{application}
use Rattle.cedar_validator.specs.Environments.{request_view}
use Rattle.cedar_validator.proofs.request_types.add_resources.Given as goal

abbrev pub invariant-loop-resource : goal.invariant-loop-resource
invariant-loop-resource l =
    map request_view l.listed.items ≡ map request_view l.fn.listed.items ++ map (application l.action.value l.principal) (take l.resource-index l.resources)
