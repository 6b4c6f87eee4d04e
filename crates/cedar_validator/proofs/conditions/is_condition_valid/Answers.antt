-- It holds in each environment of the schema where it holds in those that are listed.
use Rattle.std.proofs.Common.{◌≡◌, ◌∙◌, ◌<◌, sym, ap, map, Bool, true, rules}
use Rattle.std.specs.Prelude.{◌↔◌, IsTrue}
use Rattle.std.specs.List.{list_any, list_all}
use Rattle.cedar_language.specs.Uid.{Name, Uid}
use Rattle.cedar_language.specs.Height.{height}
use Rattle.cedar_trees.specs.Bare.{bare}
use Rattle.cedar_typing.specs.Validated.{IsValid}
use Rattle.cedar_schema_grammar.specs.Environments.{Application, application}
use Rattle.cedar_validator.specs.SchemaTypes.{action_at, types_view}
use Rattle.cedar_validator.specs.Environments.{request_view, same_request, slots_view, environment_of, just_these}
use Rattle.cedar_validator.specs.Validating.{is_valid_in}
use Rattle.cedar_validator.proofs.Valid.{valid_from_all, all_from_valid, applied_acts, answers_map}
use Rattle.cedar_validator.proofs.conditions.is_condition_valid.Goals as goal

pub returns : goal.returns
returns g c =
    let signatures = g.F.FunctionSignatures.signatures c.args.functions.now in
    let s = types_view signatures c.args.types.now in
    let slots = slots_view c.args.slots.now in
    let x = bare c.args.condition.now in
    let rs = map request_view c.deref.result.now in
    let is : c.deref.result.now ≡ c.in_ok-requests.requests.items = search rules in
    let listed = λ (u : Uid) (n m : Name). ap (λ l. list_any (same_request (application u n m)) (map request_view l)) is
    ∙ c.in_ok-requests.ensures.applied signatures u n m in
    let acts = λ (u : Uid) (n m : Name) (h : s.applies u n m ≡ true). applied_acts (action_at c.args.types.now.actions u) n m h in
    let all = list_all (λ (a : Application). is_valid_in (environment_of s slots a) x) rs in
    answers_map (c.args.depth < height x) (λ b. b ≡ all) (λ b. IsTrue b ↔ IsValid s (just_these slots) x) c.is_boolean_in_each.result
    (λ b e. (λ t. valid_from_all s slots x rs listed acts (sym e ∙ t), λ v. e ∙ all_from_valid s slots x rs listed acts v)) c.is_boolean_in_each.ensures
