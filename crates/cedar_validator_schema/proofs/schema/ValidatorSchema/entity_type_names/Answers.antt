-- One more name is listed where its type is known; in the end all are.
use Rattle.std.proofs.Common.{◌++◌, map, sym, ap, ◌∙◌, append-nil}
use Rattle.std.specs.List.{filter, list_any}
use Rattle.std.specs.Map.Iter.{deref}
use Rattle.cedar_language.specs.Order.{same_name}
use Rattle.cedar_validator_schema.proofs.Shaped.{is_shaped, shaped_names, one_listed, names_are}
use Rattle.cedar_validator_schema.proofs.schema.ValidatorSchema.entity_type_names.Goals as goal

pub loop-action_type-preserved : goal.loop-action_type-preserved
loop-action_type-preserved c =
    let v = c.args.self.now in
    let listed = map deref c.loop-action_type.listed.items in
    let more = map deref c.list_shaped-in-loop-action_type.new.listed.items in
    one_listed v listed more c.in-Some-action_type.action_type.now c.next-in-loop-action_type.new.self (shaped_names v) c.in_ok-list_shaped-2.ensures
    (ap (λ ks. listed ++ filter (is_shaped v) ks) (sym c.in-Some-action_type.ensures.steps) ∙ c.loop-action_type.invariant)

pub returns : goal.returns
returns c = λ s n.
    let v = c.args.self.now in
    let listed = map deref c.loop-action_type.listed.items in
    let all = sym (append-nil listed) ∙ ap (λ ks. listed ++ filter (is_shaped v) ks) (sym c.in-None-action_type.ensures.steps.0) ∙ c.loop-action_type.invariant in
    ap (list_any (same_name n)) all ∙ names_are v n
