-- The entries of a context in which something is unknown.
use Rattle.std.specs.Prelude.{List}
use Rattle.cedar_language.specs.Tree.{Tree}
use Rattle.cedar_grammar.specs.Build.{Keyed}
use Rattle.cedar_trees.specs.Bare.{bare_entries}
use Rattle.cedar_requests.specs.declared.residuals.ResidualEntries.{ResidualEntries}

-- their trees, by their keys in rising order
abbrev pub residual_entries : ResidualEntries → List (Keyed Tree)
residual_entries r = bare_entries r.entries.value.entries
