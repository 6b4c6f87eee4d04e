-- What is typed so far stands before what is typed of the rest.
use Rattle.std.proofs.Common.{drop}
use Rattle.cedar_schema.specs.Types.{typed_views}
use Rattle.cedar_schema.proofs.WrittenBy.{SoFar}
use Rattle.cedar_schema.proofs.tables.TypeTable.+written_type.Given as goal

abbrev pub invariant-typed_attributes-loop-attribute : goal.invariant-typed_attributes-loop-attribute
invariant-typed_attributes-loop-attribute l = record {
  far : SoFar l.self l.namespace l.attributes (typed_views l.typed) (drop l.attribute-index l.attributes);
}
