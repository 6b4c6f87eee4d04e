-- The names of kinds are those that the table of all kinds has for them.
use Rattle.cedar_tokens.proofs.expected_kinds.Kinds.names.Goals as goal

pub returns : goal.returns
returns c = c.names_in.ensures
