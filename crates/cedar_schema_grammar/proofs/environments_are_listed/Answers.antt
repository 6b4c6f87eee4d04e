-- By the lemma of this name.
use Rattle.cedar_schema_grammar.proofs.Environments.{environments_are_listed as law}
use Rattle.cedar_schema_grammar.proofs.environments_are_listed.Goals as goal

pub returns : goal.returns
returns c = law
