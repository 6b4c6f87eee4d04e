-- The id that comes last has the place that stands there.
use Rattle.std.proofs.Common.{refl}
use Rattle.cedar_policy_set.proofs.Telling.{told_push}
use Rattle.cedar_policy_set.proofs.places.Places.push.Goals as goal

pub returns-clause-told : goal.returns-clause-told
returns-clause-told c = λ ids told free. told_push _ _ ids told c.args.id c.place-place.result c.place-place.ensures.here refl refl free c.in_ok-insert.ensures.updates.0
