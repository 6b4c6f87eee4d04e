-- The attributes so far are mentioned.
use Rattle.cedar_schema_resolution.proofs.Mentioning.{SoFar}
use Rattle.cedar_schema_resolution.proofs.numbers.CommonNumbers.+mentions.Given as goal

abbrev pub invariant-add_mentioned_in-loop-attribute : goal.invariant-add_mentioned_in-loop-attribute
invariant-add_mentioned_in-loop-attribute l = record {
  far : SoFar l.self l.namespace l.attributes l.attribute-index l.fn.mentioned.items l.mentioned.items;
}
