use Rattle.cedar_extension_types.proofs.Reading.{instants_ordered, durations_ordered}
use Rattle.cedar_extension_types.proofs.laws.operators_go_as_numbers.Goals as goal

pub returns-clause-instants : goal.returns-clause-instants
returns-clause-instants c = instants_ordered

pub returns-clause-durations : goal.returns-clause-durations
returns-clause-durations c = durations_ordered
