-- The map is the edited one, or as it was (InPlace).
use Rattle.std.proofs.Common.{sym, subst, IfErr}
use Rattle.cedar_entities.specs.Kept.{in_map, put_over}
use Rattle.cedar_entities.specs.Modes.{IsClosureRefusal}
use Rattle.cedar_entities.specs.Store.{found_in}
use Rattle.cedar_entities.specs.declared.closing.TCComputation.TheVariants.{ComputeNow}
use Rattle.cedar_entities.proofs.InPlace.{whole_either, left_as}
use Rattle.cedar_entities.proofs.Passing.{err_weaker}
use Rattle.cedar_entities.proofs.store.Entities.gain.Goals as goal

pub invariant_of-self : goal.invariant_of-self
invariant_of-self c =
    let found = found_in c.args.self.now in
    record {
      by_uid = c.gain_in_place-edited.ensures.by_uid c.args.self.now.by_uid;
      closed = λ known. whole_either found (put_over found c.args.entities.items) (in_map c.gain_in_place-edited.new.map) c.requires.closed
          c.gain_in_place-edited.result c.gain_in_place-edited.ensures.edited c.gain_in_place-edited.ensures.left;
      known = c.forget.ensures c.gain_in_place-edited.ensures.known;
    }

pub returns-clause-left : goal.returns-clause-left
returns-clause-left c = err_weaker c.gain_in_place-edited.result (left_as c.args.self.now _) c.gain_in_place-edited.ensures.left
