-- Those so far are put.
use Rattle.std.proofs.Common.{take, None}
use Rattle.std.specs.Prelude.{map}
use Rattle.cedar_schema_grammar.specs.Declared.{type_name}
use Rattle.cedar_schema_resolution.specs.Declarations.{type_view}
use Rattle.cedar_schema_resolution.specs.Puts.{ArePut, SameBuiltIn}
use Rattle.cedar_schema_resolution.proofs.table.put_types.Given as goal

abbrev pub invariant-loop-common : goal.invariant-loop-common
invariant-loop-common l = record {
  put : ArePut (map (λ x. type_name (type_view x)) (take l.common-index l.types)) (λ n. None) l.fn.table l.table;
  built_in : SameBuiltIn l.fn.table l.table;
}
