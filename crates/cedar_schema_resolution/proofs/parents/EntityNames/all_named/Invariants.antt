-- Those so far are found.
use Rattle.std.proofs.Common.{◌≡◌, take}
use Rattle.cedar_schema_syntax.specs.View.{paths_view}
use Rattle.cedar_schema_resolution.specs.Parents.{all_named}
use Rattle.cedar_schema_resolution.proofs.parents.EntityNames.all_named.Given as goal

abbrev pub invariant-loop-path : goal.invariant-loop-path
invariant-loop-path l = record { found : l.found.items ≡ all_named l.self l.namespace (paths_view (take l.path-index l.paths)) }
