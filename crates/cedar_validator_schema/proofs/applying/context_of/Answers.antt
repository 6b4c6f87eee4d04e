-- The attributes are those of the type that is written.
use Rattle.std.proofs.Common.{◌≡◌, sym, ap, ◌∙◌}
use Rattle.std.specs.Prelude.{map}
use Rattle.std.proofs.lemmas.Result.{IfOk-weaker}
use Rattle.cedar_typing.specs.Types.{no_fields}
use Rattle.cedar_schema_grammar.specs.Faults.{contexts_of}
use Rattle.cedar_schema_grammar.specs.Resolving.{fields_of, context_fields}
use Rattle.cedar_schema_syntax.specs.View as syntax
use Rattle.cedar_schema.specs.Types as schema
use Rattle.cedar_validator_schema.specs.Applying.{IsContextOf}
use Rattle.cedar_validator_schema.proofs.Applied.{context_first}
use Rattle.cedar_validator_schema.proofs.applying.context_of.Goals as goal

pub returns-in-Some : goal.returns-in-Some
returns-in-Some c = λ d l is.
    let ts = contexts_of (map syntax.entry_view c.args.entries.now) in
    ap context_fields c.in-Some.ensures ∙ ap (λ o. context_fields (fields_of o)) (c.in_ok-known.ensures d l is)
    ∙ sym (context_first d l c.args.namespace.now ts)

pub returns-in-None : goal.returns-in-None
returns-in-None c =
    let ts = contexts_of (map syntax.entry_view c.args.entries.now) in
    IfOk-weaker c.no_attributes.result (λ none. schema.fields_of none.value ≡ no_fields)
    (λ none. IsContextOf c.args.table.now c.args.namespace.now ts (schema.fields_of none.value))
    (λ none e d l is. e ∙ ap context_fields c.in-None.ensures ∙ ap (λ o. context_fields (fields_of o)) (c.in_ok-known.ensures d l is)
    ∙ sym (context_first d l c.args.namespace.now ts))
    c.no_attributes.ensures
