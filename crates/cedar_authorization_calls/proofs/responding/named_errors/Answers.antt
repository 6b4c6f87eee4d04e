use Rattle.std.proofs.Common.{ap, ◌∙◌}
use Rattle.std.specs.List.{flat_map}
use Rattle.std.specs.Map.{keys_of}
use Rattle.std.proofs.lemmas.Result.{IfOk-weaker}
use Rattle.cedar_authorization_calls.specs.Naming.{names_at}
use Rattle.cedar_authorization_calls.proofs.Erring.{kept_ids}
use Rattle.cedar_authorization_calls.proofs.responding.named_errors.Goals as goal

pub returns : goal.returns
returns c =
    let f = names_at c.args.names.now in
    let told = c.as_slice in
    IfOk-weaker c.named_entries.result _ _
    (λ errors e. e ∙ (kept_ids f told.result.now told.ensures.kinds ∙ ap (λ es. flat_map f (keys_of es)) told.ensures.entries)) c.named_entries.ensures
