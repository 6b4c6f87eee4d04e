-- Those that are found are the groups.
use Rattle.std.proofs.Common.{◌≡◌, ap, ◌∙◌}
use Rattle.std.specs.Prelude.{map}
use Rattle.std.proofs.lemmas.Result.{IfOk-weaker}
use Rattle.cedar_schema_grammar.specs.Declared.{Declared}
use Rattle.cedar_schema_grammar.specs.Faults.{found_groups}
use Rattle.cedar_schema_syntax.specs.View.{ref_view}
use Rattle.cedar_schema_resolution.specs.Declarations.{action_view}
use Rattle.cedar_validator_schema.specs.ActionNames.{AreUidsOf, all_referred}
use Rattle.cedar_validator_schema.proofs.Naming.{groups_are}
use Rattle.cedar_validator_schema.proofs.action_names.ActionNames.groups_of.Goals as goal

pub returns : goal.returns
returns c =
    let names = c.args.self.now in
    let a = action_view c.args.action.now in
    IfOk-weaker c.all_named.result (λ found. found.items ≡ all_referred names c.words.result.now (map ref_view c.deref.result.now))
    (λ found. (d : Declared) → AreUidsOf d names → found.items ≡ found_groups d a.namespace a.written.groups)
    (λ found e d are. e ∙ ap (λ n. all_referred names n (map ref_view c.deref.result.now)) c.words.ensures
    ∙ ap (λ rs. all_referred names a.namespace (map ref_view rs)) c.deref.ensures.value ∙ groups_are d names are a.namespace a.written.groups)
    c.all_named.ensures
