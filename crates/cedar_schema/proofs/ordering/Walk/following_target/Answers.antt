-- It leads to one of the numbers.
use Rattle.cedar_schema.proofs.Walking.{is_target, target_below, place_read}
use Rattle.cedar_schema.proofs.ordering.Walk.following_target.Goals as goal

pub returns-clause-place : goal.returns-clause-place
returns-clause-place c =
    place_read c.args.self.now c.requires.walk c.args.from c.index.result.now c.index-2.result.now c.index-self-from.result c.requires.below c.requires.some c.index-self-from.is c.index.ensures c.index-2.ensures

pub returns-clause-target : goal.returns-clause-target
returns-clause-target c =
    is_target c.args.self.now c.requires.walk c.args.from _ c.requires.some
    (place_read c.args.self.now c.requires.walk c.args.from c.index.result.now c.index-2.result.now c.index-self-from.result c.requires.below c.requires.some c.index-self-from.is c.index.ensures c.index-2.ensures)

pub returns-clause-below : goal.returns-clause-below
returns-clause-below c =
    target_below c.args.self.now c.requires.walk c.args.from _ c.requires.some
    (place_read c.args.self.now c.requires.walk c.args.from c.index.result.now c.index-2.result.now c.index-self-from.result c.requires.below c.requires.some c.index-self-from.is c.index.ensures c.index-2.ensures) c.requires.within
