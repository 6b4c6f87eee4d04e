-- The types of the first entries.
use Rattle.std.proofs.Common.{◌≡◌, take}
use Rattle.std.specs.Prelude.{map}
use Rattle.cedar_schema_grammar.specs.Faults.{principals_of, resources_of}
use Rattle.cedar_schema_syntax.specs.View.{entry_view}
use Rattle.cedar_validator_schema.specs.Applying.{types_named}
use Rattle.cedar_validator_schema.proofs.applying.Applied.of.Given as goal

abbrev pub invariant-loop-entry : goal.invariant-loop-entry
invariant-loop-entry l = record {
  principals : l.applied.principals.items ≡ types_named l.names l.namespace (principals_of (map entry_view (take l.entry-index l.entries)));
  resources : l.applied.resources.items ≡ types_named l.names l.namespace (resources_of (map entry_view (take l.entry-index l.entries)));
}
