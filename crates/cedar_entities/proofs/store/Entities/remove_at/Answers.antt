-- The map is the edited one, or as it was (InPlace).
use Rattle.std.specs.FinSet as set
use Rattle.cedar_entities.specs.Edits.{remove}
use Rattle.cedar_entities.specs.Kept.{in_map, removed_from}
use Rattle.cedar_entities.specs.Store.{found_in, held_at}
use Rattle.cedar_entities.proofs.InPlace.{whole_either, removal_leaves, left_as}
use Rattle.cedar_entities.proofs.Known.{known_either, removed_known}
use Rattle.cedar_entities.proofs.Lookups.{held-removed}
use Rattle.cedar_entities.proofs.Passing.{err_weaker}
use Rattle.cedar_entities.proofs.store.Entities.remove_at.Goals as goal

pub invariant_of-self : goal.invariant_of-self
invariant_of-self c =
    let found = found_in c.args.self.now in
    record {
      by_uid = c.remove_in_place-edited.ensures.by_uid c.args.self.now.by_uid;
      closed = λ known. whole_either found (removed_from found (set.from_list c.args.uids.now.keys)) (in_map c.remove_in_place-edited.new.map) c.requires.closed c.remove_in_place-edited.result c.remove_in_place-edited.ensures.edited c.remove_in_place-edited.ensures.left;
      known = c.forget.ensures (known_either found (removed_from found (set.from_list c.args.uids.now.keys)) (in_map c.remove_in_place-edited.new.map) c.args.self.now.children c.args.self.now.known
          (removed_known found (set.from_list c.args.uids.now.keys) c.args.self.now.children c.args.self.now.known) c.remove_in_place-edited.result c.remove_in_place-edited.ensures.edited c.remove_in_place-edited.ensures.left);
    }

pub returns-clause-removed : goal.returns-clause-removed
returns-clause-removed c =
    let found = found_in c.args.self.now in
    let gone = set.from_list c.args.uids.now.keys in
    removal_leaves (removed_from found gone) (remove (held_at c.args.self.now) gone) (held-removed found gone) _ c.remove_in_place-edited.result c.remove_in_place-edited.ensures.edited c.remove_in_place-edited.ensures.refused

pub returns-clause-left : goal.returns-clause-left
returns-clause-left c = err_weaker c.remove_in_place-edited.result (left_as c.args.self.now _) c.remove_in_place-edited.ensures.left
