-- What is listed is what actions apply to, whose uids rise.
use Rattle.std.proofs.Common.{◌≡◌, ◌∙◌, ◌++◌, ap, sym, map, append-nil}
use Rattle.std.specs.List.{list_any}
use Rattle.cedar_schema_grammar.specs.Environments.{application}
use Rattle.cedar_validator.specs.Environments.{request_view, same_request}
use Rattle.cedar_validator.specs.SchemaTypes.{requests_in}
use Rattle.cedar_validator.proofs.Requested.{requests_are}
use Rattle.cedar_validator.proofs.schema_types.SchemaTypes.request_types.Goals as goal

pub returns-clause-applied : goal.returns-clause-applied
returns-clause-applied c = λ s u n m.
    let entries = c.args.self.now.actions.entries in
    let listed = map request_view c.loop-uid.listed.items in
    let all = sym (append-nil listed) ∙ ap (λ es. listed ++ requests_in es) (sym c.in-None.ensures.steps.0) ∙ c.loop-uid.invariant.2 in
    ap (list_any (same_request (application u n m))) all ∙ requests_are u n m entries c.into_iter-uid-iterator.ensures.into_iter_gives.5
