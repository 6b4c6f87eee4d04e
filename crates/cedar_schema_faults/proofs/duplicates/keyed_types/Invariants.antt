-- Those so far have their keys.
use Rattle.std.proofs.Common.{take}
use Rattle.std.specs.Prelude.{map}
use Rattle.cedar_schema_grammar.specs.Faults as grammar
use Rattle.cedar_schema_grammar.specs.Declared.{type_name}
use Rattle.cedar_schema_resolution.specs.Declarations.{type_view}
use Rattle.cedar_schema_faults.specs.Repeats.{HaveKeys}
use Rattle.cedar_schema_faults.proofs.duplicates.keyed_types.Given as goal

abbrev pub invariant-loop-common : goal.invariant-loop-common
invariant-loop-common l = record { keys : HaveKeys grammar.DuplicateCommonType (map type_name (map type_view (take l.common-index l.types))) l.keyed.items }
