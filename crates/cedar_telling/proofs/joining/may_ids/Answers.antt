-- Ids that are chosen of a set by a test are its members that pass it: here that a policy may be, or must be.
use Rattle.std.proofs.Common.{◌∙◌, ◌||◌, ap}
use Rattle.std.proofs.lemmas.List.{take_all}
use Rattle.std.specs.List.{filter}
use Rattle.cedar_language.specs.Uid.{Text}
use Rattle.cedar_world.specs.Answer.{Ids, has_id}
use Rattle.cedar_telling.proofs.JoinedIds.{chosen}
use Rattle.cedar_telling.proofs.joining.may_ids.Goals as goal

pub returns : goal.returns
returns c = λ q.
    let last = c.args.last.now in
    let new = c.args.new.now in
    let test = λ (id : Text). has_id new.may id || (has_id last.must id || has_id new.must id) in
    ap (λ (ids : Ids). has_id ids q) c.new.ensures
    ∙ chosen last.may test c.loop-id.ids.items (c.loop-id.invariant ∙ ap (filter test) (take_all c.loop-id.id-index c.as_slice-possible.result.now c.loop-id-test.false ∙ c.as_slice-possible.ensures)) q
