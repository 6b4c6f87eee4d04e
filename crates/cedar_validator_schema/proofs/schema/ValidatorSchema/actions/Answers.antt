-- The uids listed are those of the actions.
use Rattle.std.proofs.Common.{◌++◌, map, sym, ap, ◌∙◌, append-nil}
use Rattle.std.specs.Map.Iter.{deref}
use Rattle.cedar_validator_schema.proofs.Viewing.{listed_are}
use Rattle.cedar_validator_schema.proofs.schema.ValidatorSchema.actions.Goals as goal

pub returns : goal.returns
returns c = λ s u.
    let listed = map deref c.loop-uid.listed.items in
    let all = sym (append-nil listed) ∙ ap (λ ys. listed ++ ys) (sym c.in-None.ensures.steps.0) ∙ c.loop-uid.invariant in
    listed_are c.args.self.now.actions listed all u
