-- The table has all common types unfolded.
use Rattle.cedar_validator_schema.proofs.schema.ValidatorSchema.from_declarations.Goals as goal

pub returns-clause-schema : goal.returns-clause-schema
returns-clause-schema c = λ l has. c.in_ok-schema.ensures l (c.in_ok-resolve_common_types.ensures.filled l (c.in_ok-table.ensures l has))
