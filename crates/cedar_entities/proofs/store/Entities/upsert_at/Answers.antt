-- The map is the edited one, or as it was (InPlace).
use Rattle.cedar_entities.specs.Edits.{put}
use Rattle.cedar_entities.specs.Kept.{in_map, put_over}
use Rattle.cedar_entities.specs.Store.{found_in, held_at}
use Rattle.cedar_entities.proofs.InPlace.{whole_either, edit_leaves, left_as}
use Rattle.cedar_entities.proofs.Lookups.{held-last}
use Rattle.cedar_entities.proofs.Passing.{err_weaker}
use Rattle.cedar_entities.proofs.store.Entities.upsert_at.Goals as goal

pub invariant_of-self : goal.invariant_of-self
invariant_of-self c =
    let found = found_in c.args.self.now in
    record {
      by_uid = c.put_in_place-edited.ensures.by_uid c.args.self.now.by_uid;
      closed = λ known. whole_either found (put_over found c.args.entities.items) (in_map c.put_in_place-edited.new.map) c.requires.closed c.put_in_place-edited.result c.put_in_place-edited.ensures.edited c.put_in_place-edited.ensures.left;
      known = c.forget.ensures c.put_in_place-edited.ensures.known;
    }

pub returns-clause-put : goal.returns-clause-put
returns-clause-put c =
    let found = found_in c.args.self.now in
    let es = c.args.entities.items in
    edit_leaves (put_over found es) (put (held_at c.args.self.now) es) (λ uid. held-last es uid (found uid)) _ c.put_in_place-edited.result c.put_in_place-edited.ensures.edited c.put_in_place-edited.ensures.refused

pub returns-clause-left : goal.returns-clause-left
returns-clause-left c = err_weaker c.put_in_place-edited.result (left_as c.args.self.now _) c.put_in_place-edited.ensures.left
