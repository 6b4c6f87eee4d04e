-- Those that keep the entity are touched by its edit (GainedEdges).
use Rattle.cedar_entities.specs.Store.{found_in}
use Rattle.cedar_entities.proofs.GainedEdges.{lists_covered, lists_nothing}
use Rattle.cedar_entities.proofs.Passing.{ok_weaker}
use Rattle.cedar_entities.proofs.Untouched.{some_weaker}
use Rattle.cedar_entities.proofs.store.Entities.gaining.Goals as goal

pub returns-then-is_nothing : goal.returns-then-is_nothing
returns-then-is_nothing c = λ e one. lists_nothing (found_in c.args.self.now) e.uid c.args.gain.now.more _ (c.is_nothing.ensures.0 c.if-is_nothing.true)

pub few_or_touched-requires : goal.few_or_touched-requires
few_or_touched-requires c = some_weaker _ _ (λ uids h. h.1) c.in_ok-few.few c.in_ok-few.ensures

pub returns : goal.returns
returns c = ok_weaker c.few_or_touched.result
    (λ below covers e one. lists_covered (found_in c.args.self.now) c.args.entities.now c.in_ok-uids.uids.keys below.items e one c.in_ok-uids.ensures covers
    c.args.gain.now.more) c.few_or_touched.ensures
