-- The law of Fitting over the world's own law of edits at uids.
use Rattle.cedar_held.proofs.Fitting.{adds}
use Rattle.cedar_held.proofs.worlds.adds_are_the_worlds.Goals as goal

pub returns : goal.returns
returns c = λ held old vs result shows left. adds held old shows vs c.edits_at_uids.ensures result left
