-- Those from a number on are built in.
use Rattle.std.proofs.Common.{drop}
use Rattle.cedar_schema_resolution.specs.BuiltIn.{AreBuiltIn}
use Rattle.cedar_schema_resolution.specs.Puts.{SameDeclared}
use Rattle.cedar_schema_resolution.proofs.built_in.put_extensions.Given as goal

abbrev pub invariant-loop-number : goal.invariant-loop-number
invariant-loop-number l = record {
  built_in : AreBuiltIn (drop l.number l.extensions) l.fn.table l.table;
  declared : SameDeclared l.fn.table l.table;
}
