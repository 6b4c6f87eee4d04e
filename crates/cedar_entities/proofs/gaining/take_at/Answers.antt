-- One value of the map is changed, or none (Gathering).
use Rattle.cedar_entities.specs.Gaining.{losing}
use Rattle.cedar_entities.proofs.Gathering.{changed_there, changed_nowhere}
use Rattle.cedar_entities.proofs.gaining.take_at.Goals as goal

pub returns-in-Some : goal.returns-in-Some
returns-in-Some c =
    let w = c.remove_indirect_ancestors.new.self in
    changed_there c.args.map.now (c.get_mut.follows.lender w) c.args.at.now (losing c.args.gone.now) c.in-Some.entity.now w (c.get_mut.follows.holds w)
    c.in-Some.ensures.value c.remove_indirect_ancestors.ensures

pub returns-in-None : goal.returns-in-None
returns-in-None c = changed_nowhere c.args.map.now c.get_mut.follows.lender-at-none c.args.at.now (losing c.args.gone.now) c.get_mut.follows.holds-at-none
    c.in-None.ensures.value
