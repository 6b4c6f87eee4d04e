-- The map is the edited one, or as it was (InPlace); what is added to a closed store is said by what is held (Edited).
use Rattle.cedar_entities.specs.Kept.{in_map, added_to}
use Rattle.cedar_entities.specs.Store.{found_in}
use Rattle.cedar_entities.proofs.Edited.{adds}
use Rattle.cedar_entities.proofs.InPlace.{whole_either, addition_as, left_as}
use Rattle.cedar_entities.proofs.Passing.{err_weaker}
use Rattle.cedar_entities.proofs.store.Entities.add_at.Goals as goal

pub invariant_of-self : goal.invariant_of-self
invariant_of-self c =
    let found = found_in c.args.self.now in
    record {
      by_uid = c.add_in_place-edited.ensures.by_uid c.args.self.now.by_uid;
      closed = λ known. whole_either found (added_to found c.args.entities.items) (in_map c.add_in_place-edited.new.map) c.requires.closed c.add_in_place-edited.result c.add_in_place-edited.ensures.edited c.add_in_place-edited.ensures.left;
      known = c.forget.ensures c.add_in_place-edited.ensures.known;
    }

pub returns-clause-edited : goal.returns-clause-edited
returns-clause-edited c = addition_as (found_in c.args.self.now) c.args.entities.items _ c.add_in_place-edited.result c.add_in_place-edited.ensures.edited c.add_in_place-edited.ensures.versions c.add_in_place-edited.ensures.refused

pub returns-clause-added : goal.returns-clause-added
returns-clause-added c = λ plain.
    adds (found_in c.args.self.now) c.args.entities.items c.requires.closed c.args.self.now.by_uid plain _ (returns-clause-edited c)

pub returns-clause-left : goal.returns-clause-left
returns-clause-left c = err_weaker c.add_in_place-edited.result (left_as c.args.self.now _) c.add_in_place-edited.ensures.left
