-- It is the type that is written, as the table has it.
use Rattle.std.proofs.Common.{length, ap, ◌∙◌}
use Rattle.std.specs.Prelude.{map, option_map, option_and_then}
use Rattle.std.proofs.lemmas.Result.{IfOk-weaker}
use Rattle.cedar_schema_grammar.specs.Faults.{contexts_of}
use Rattle.cedar_schema_grammar.specs.Written.{unfolded, type_in}
use Rattle.cedar_schema_syntax.specs.View as syntax
use Rattle.cedar_schema.specs.Types.{type_view}
use Rattle.cedar_schema.specs.Tables.{IsWritten}
use Rattle.cedar_validator_schema.specs.Applying.{IsContextType}
use Rattle.cedar_validator_schema.proofs.applying.context_type.Goals as goal

pub returns-in-Some : goal.returns-in-Some
returns-in-Some c =
    let ts = contexts_of (map syntax.entry_view c.args.entries.now) in
    IfOk-weaker c.written_type.result
    (λ o. IsWritten c.args.table.now c.args.namespace.now (syntax.type_view c.in-Some.written.now) (option_map type_view o))
    (λ o. IsContextType c.args.table.now c.args.namespace.now ts (option_map type_view o))
    (λ o f d l is. f (unfolded (length d.types) d l) d l is ∙ ap (option_and_then (type_in d l c.args.namespace.now)) c.in-Some.ensures)
    c.written_type.ensures

pub returns-in-None : goal.returns-in-None
returns-in-None c = λ d l is. ap (option_and_then (type_in d l c.args.namespace.now)) c.in-None.ensures
