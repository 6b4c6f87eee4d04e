-- It is made of its types and its context.
use Rattle.std.proofs.Common.{◌≡◌, List, Some, ap, ◌∙◌}
use Rattle.std.specs.Prelude.{map}
use Rattle.cedar_language.specs.Uid.{Name}
use Rattle.cedar_typing.specs.Types.{Fields}
use Rattle.cedar_schema_grammar.specs.Environments as environments
use Rattle.cedar_schema_grammar.specs.Faults.{principals_of, resources_of, contexts_of}
use Rattle.cedar_schema_grammar.specs.Resolving.{entries_of, context_by}
use Rattle.cedar_schema_syntax.specs.View as syntax
use Rattle.cedar_schema.specs.Types.{fields_of}
use Rattle.cedar_schema_resolution.specs.Declarations.{action_view}
use Rattle.cedar_validator_schema.specs.Applying.{Application, types_named}
use Rattle.cedar_validator_schema.proofs.Applied.{types_are}
use Rattle.cedar_validator_schema.proofs.applying.application_of.Goals as goal

three : (p q : List Name) (r s : List Name) (x y : Fields) → p ≡ q → r ≡ s → x ≡ y
    → (let a : Application = record { principals = p; resources = r; context = x } in a) ≡ record { principals = q; resources = s; context = y }
three p q r s x y e f g = cc

pub returns : goal.returns
returns c = λ d l names is.
    let a = action_view c.args.action.now in
    let es = entries_of (Some a) in
    let n = c.args.names.now in
    let written = map syntax.entry_view c.entries_of-entries.result.now in
    three c.in_ok-applied.applied.principals.items (environments.all_named d a.namespace (principals_of es)) c.in_ok-applied.applied.resources.items
    (environments.all_named d a.namespace (resources_of es)) (fields_of c.in_ok-context.context.value) (context_by d l a.namespace (contexts_of es))
    (c.in_ok-applied.ensures.principals ∙ ap (λ m. types_named n m (principals_of written)) c.words-namespace.ensures
    ∙ ap (λ xs. types_named n a.namespace (principals_of xs)) c.entries_of-entries.ensures ∙ types_are d n names a.namespace (principals_of es))
    (c.in_ok-applied.ensures.resources ∙ ap (λ m. types_named n m (resources_of written)) c.words-namespace.ensures
    ∙ ap (λ xs. types_named n a.namespace (resources_of xs)) c.entries_of-entries.ensures ∙ types_are d n names a.namespace (resources_of es))
    (c.in_ok-context.ensures d l is ∙ ap (λ m. context_by d l m (contexts_of written)) c.words-namespace.ensures
    ∙ ap (λ xs. context_by d l a.namespace (contexts_of xs)) c.entries_of-entries.ensures)
