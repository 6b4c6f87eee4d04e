use Rattle.std.proofs.Common.{◌≡◌, ◌||◌, take}
use Rattle.std.specs.List.{filter}
use Rattle.cedar_world.specs.Answer.{has_id}
use Rattle.cedar_telling.proofs.joining.may_ids.Given as goal

abbrev pub invariant-loop-id : goal.invariant-loop-id
invariant-loop-id l = l.ids.items ≡ filter (λ id. has_id l.new.may id || (has_id l.last.must id || has_id l.new.must id)) (take l.id-index l.possible)
