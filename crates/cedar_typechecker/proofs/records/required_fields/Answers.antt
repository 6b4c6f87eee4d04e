-- The keys of a map rise.
use Rattle.cedar_typechecker.proofs.Recorded.{texts_rise}
use Rattle.cedar_typechecker.proofs.records.required_fields.Goals as goal

pub returns-clause-rise : goal.returns-clause-rise
returns-clause-rise c = texts_rise c.args.entries.now.entries c.into_iter-key-iterator.ensures.into_iter_gives.5
