-- The edit touches those that are stale alone, and so does closing them again (Untouched, Beside).
use Rattle.std.proofs.Common.{subst, OnOk, IfErr}
use Rattle.cedar_entities.specs.Beside.{among, among_entities}
use Rattle.cedar_entities.specs.Kept.{in_map}
use Rattle.cedar_entities.specs.Modes.{IsComputed, IsClosureRefusal}
use Rattle.cedar_entities.specs.declared.closing.TCComputation.TheVariants.{ComputeNow}
use Rattle.cedar_entities.proofs.Beside.{beside_through, beside_wider}
use Rattle.cedar_entities.proofs.Passing.{on_err, err_weaker}
use Rattle.cedar_entities.proofs.Untouched.{put_beside, covers_listed}
use Rattle.cedar_entities.proofs.in_place.put_and_close.Goals as goal

pub compute_at-requires : goal.compute_at-requires
compute_at-requires c = put_beside (in_map c.args.map.now) (in_map c.put_all.new.map) c.args.entities.items c.args.stale.now c.requires.closed c.requires.covers c.in_ok-put_all.ensures.put

pub returns-clause-edited : goal.returns-clause-edited
returns-clause-edited c = subst (λ f. OnOk c.compute_at.result (IsComputed f (in_map c.compute_at.new.entities))) (λ i uid. c.in_ok-put_all.ensures.put uid i) c.compute_at.ensures.computed

pub returns-clause-refused : goal.returns-clause-refused
returns-clause-refused c = subst (λ f. IfErr c.compute_at.result (IsClosureRefusal ComputeNow f)) (λ i uid. c.in_ok-put_all.ensures.put uid i) c.compute_at.ensures.refused

pub returns-clause-beside : goal.returns-clause-beside
returns-clause-beside c =
    let old = in_map c.args.map.now in
    let stale = c.args.stale.now in
    let edited = beside_wider (among_entities c.args.entities.items) (among stale) (covers_listed old c.args.entities.items stale c.requires.covers) old (in_map c.put_all.new.map) c.put_all.ensures.beside in
    err_weaker c.compute_at.result (beside_through (among stale) old (in_map c.put_all.new.map) (in_map c.compute_at.new.entities) edited) c.compute_at.ensures.beside

pub returns-clause-by_uid : goal.returns-clause-by_uid
returns-clause-by_uid c = λ by. c.compute_at.ensures.by_uid (c.put_all.ensures.beside.by_uid by)

pub returns-in_err-put_all-clause-beside : goal.returns-in_err-put_all-clause-beside
returns-in_err-put_all-clause-beside c =
    let old = in_map c.args.map.now in
    let stale = c.args.stale.now in
    on_err c.from_residual.result (beside_wider (among_entities c.args.entities.items) (among stale) (covers_listed old c.args.entities.items stale c.requires.covers) old (in_map c.put_all.new.map) c.put_all.ensures.beside)

pub returns-in_err-put_all-clause-by_uid : goal.returns-in_err-put_all-clause-by_uid
returns-in_err-put_all-clause-by_uid c = c.put_all.ensures.beside.by_uid
