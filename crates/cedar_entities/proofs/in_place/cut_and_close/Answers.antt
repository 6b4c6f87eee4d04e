-- The edit touches the listed alone, and so does closing them again; a closed map has no cycle (Untouched, Dropping).
use Rattle.std.proofs.Common.{subst, OnOk, IfErr}
use Rattle.std.specs.FinSet as set
use Rattle.cedar_entities.specs.Beside.{among, cut_from}
use Rattle.cedar_entities.specs.Kept.{in_map}
use Rattle.cedar_entities.specs.Modes.{IsComputed, IsClosureRefusal}
use Rattle.cedar_entities.specs.declared.closing.TCComputation.TheVariants.{ComputeNow}
use Rattle.cedar_entities.proofs.Beside.{beside_through}
use Rattle.cedar_entities.proofs.Dropping.{acyclic_cut}
use Rattle.cedar_entities.proofs.InPlace.{acyclic_refused}
use Rattle.cedar_entities.proofs.Passing.{err_weaker}
use Rattle.cedar_entities.proofs.Untouched.{cut_beside}
use Rattle.cedar_entities.proofs.in_place.cut_and_close.Goals as goal

pub compute_at-requires : goal.compute_at-requires
compute_at-requires c = cut_beside (in_map c.args.map.now) (in_map c.cut_all.new.map) c.args.uids.now.keys c.args.touched.now c.requires.closed c.requires.covers c.cut_all.ensures.cut

pub returns-clause-edited : goal.returns-clause-edited
returns-clause-edited c = subst (λ f. OnOk c.compute_at.result (IsComputed f (in_map c.compute_at.new.entities))) (λ i uid. c.cut_all.ensures.cut uid i) c.compute_at.ensures.computed

pub returns-clause-refused : goal.returns-clause-refused
returns-clause-refused c =
    let old = in_map c.args.map.now in
    let gone = set.from_list c.args.uids.now.keys in
    acyclic_refused (cut_from old gone) (acyclic_cut old gone c.requires.closed.acyclic) c.compute_at.result
    (subst (λ f. IfErr c.compute_at.result (IsClosureRefusal ComputeNow f)) (λ i uid. c.cut_all.ensures.cut uid i) c.compute_at.ensures.refused)

pub returns-clause-beside : goal.returns-clause-beside
returns-clause-beside c =
    err_weaker c.compute_at.result (beside_through (among c.args.touched.now) (in_map c.args.map.now) (in_map c.cut_all.new.map) (in_map c.compute_at.new.entities) c.cut_all.ensures.beside) c.compute_at.ensures.beside

pub returns-clause-by_uid : goal.returns-clause-by_uid
returns-clause-by_uid c = λ by. c.compute_at.ensures.by_uid (c.cut_all.ensures.beside.by_uid by)
