-- What is left has all that are of a context.
use Rattle.std.proofs.Common.{◌≡◌, drop}
use Rattle.std.specs.Prelude.{map}
use Rattle.cedar_schema_grammar.specs.Faults.{contexts_of}
use Rattle.cedar_schema_syntax.specs.View.{entry_view}
use Rattle.cedar_validator_schema.proofs.applying.written_context.Given as goal

abbrev pub invariant-loop-entry : goal.invariant-loop-entry
invariant-loop-entry l = record { rest : contexts_of (map entry_view (drop l.entry-index l.entries)) ≡ contexts_of (map entry_view l.entries) }
