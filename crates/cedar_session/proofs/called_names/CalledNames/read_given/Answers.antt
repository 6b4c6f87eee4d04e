-- The types alone change.
use Rattle.cedar_session.proofs.called_names.CalledNames.read_given.Goals as goal

pub returns-clause-called : goal.returns-clause-called
returns-clause-called c = λ functions are. record { bodies = are.bodies; policies = are.policies }
