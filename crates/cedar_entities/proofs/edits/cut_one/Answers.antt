-- One value of the map is changed, or none (Gathering, Beside).
use Rattle.std.proofs.Common.{ap}
use Rattle.std.specs.FinSet as set
use Rattle.cedar_language.specs.Order.{same_uid}
use Rattle.cedar_entities.specs.Data.{EntityData, without}
use Rattle.cedar_entities.specs.Kept.{in_map}
use Rattle.cedar_entities.proofs.Beside.{beside_written, beside_same}
use Rattle.cedar_entities.proofs.Gathering.{changed_there, changed_nowhere}
use Rattle.cedar_entities.proofs.Ordered.{written_at}
use Rattle.cedar_entities.proofs.edits.cut_one.Goals as goal

pub returns-in-Some-clause-cut : goal.returns-in-Some-clause-cut
returns-in-Some-clause-cut c =
    let w = c.remove_ancestors.new.self in
    changed_there c.args.map.now (c.get_mut.follows.lender w) c.args.at.now (without (set.from_list c.args.uids.now.keys)) c.in-Some.entity.now w
    (c.get_mut.follows.holds w) c.in-Some.ensures.value c.remove_ancestors.ensures

pub returns-in-Some-clause-beside : goal.returns-in-Some-clause-beside
returns-in-Some-clause-beside c =
    let w = c.remove_ancestors.new.self in
    let m = c.args.map.now in
    let n = c.get_mut.follows.lender w in
    beside_written (in_map m) (in_map n) c.args.at.now c.in-Some.entity.now w c.in-Some.ensures.value
    (ap (λ (e : EntityData). e.uid) c.remove_ancestors.ensures)
    (written_at m n c.args.at.now c.in-Some.entity.now w (c.get_mut.follows.holds w) c.in-Some.ensures.value)

pub returns-in-None-clause-cut : goal.returns-in-None-clause-cut
returns-in-None-clause-cut c = changed_nowhere c.args.map.now c.get_mut.follows.lender-at-none c.args.at.now (without (set.from_list c.args.uids.now.keys))
    c.get_mut.follows.holds-at-none c.in-None.ensures.value

pub returns-in-None-clause-beside : goal.returns-in-None-clause-beside
returns-in-None-clause-beside c = beside_same (λ q. same_uid q c.args.at.now) (in_map c.args.map.now) (in_map c.get_mut.follows.lender-at-none) (λ uid. ap (λ m. in_map m uid) c.get_mut.follows.holds-at-none)
