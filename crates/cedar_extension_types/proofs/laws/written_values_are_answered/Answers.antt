use Rattle.cedar_extension_types.proofs.Writing.{numbers_answered}
use Rattle.cedar_extension_types.proofs.laws.written_values_are_answered.Goals as goal

pub returns-clause-numbers : goal.returns-clause-numbers
returns-clause-numbers c = numbers_answered
