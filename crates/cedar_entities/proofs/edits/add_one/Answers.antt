-- A version that is there stays; a new one stands under its own uid.
use Rattle.std.proofs.Common.{Some, ap, ◌∙◌}
use Rattle.cedar_entities.specs.Kept.{in_map}
use Rattle.cedar_entities.proofs.Adding.{kept_stays, put_new}
use Rattle.cedar_entities.proofs.Beside.{beside_put}
use Rattle.cedar_entities.proofs.Ordered.{changed_at}
use Rattle.cedar_entities.proofs.edits.add_one.Goals as goal

pub returns-then-deep_eq-clause-added : goal.returns-then-deep_eq-clause-added
returns-then-deep_eq-clause-added c = kept_stays (in_map c.args.map.now) c.args.entity c.in-Some.kept.now (c.in-Some.ensures.value ∙ ap (in_map c.args.map.now) c.uid.ensures)

pub returns-clause-added : goal.returns-clause-added
returns-clause-added c =
    put_new (in_map c.args.map.now) (in_map c.insert.new.self) c.args.entity c.in_ok-uid-in-None.uid (c.in_ok-uid-in-None.ensures ∙ c.uid-in-None.ensures)
    (c.in-None.ensures.value ∙ ap (in_map c.args.map.now) c.uid.ensures) (changed_at c.args.map.now c.insert.new.self c.in_ok-uid-in-None.uid (Some c.args.entity) c.in_ok-insert-in-None.ensures.updates)

pub returns-clause-beside : goal.returns-clause-beside
returns-clause-beside c =
    beside_put (in_map c.args.map.now) (in_map c.insert.new.self) c.args.entity c.in_ok-uid-in-None.uid (c.in_ok-uid-in-None.ensures ∙ c.uid-in-None.ensures) (changed_at c.args.map.now c.insert.new.self c.in_ok-uid-in-None.uid (Some c.args.entity) c.in_ok-insert-in-None.ensures.updates)
