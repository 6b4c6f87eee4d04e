-- What was saved is put back where the edit is refused (Beside).
use Rattle.std.proofs.Common.{IfSome, refl, sym, subst, ◌∙◌}
use Rattle.cedar_entities.specs.Beside.{among, among_saved, nowhere}
use Rattle.cedar_entities.specs.Children.{KnowsAll}
use Rattle.cedar_entities.specs.Kept.{in_map, added_to}
use Rattle.cedar_entities.proofs.Beside.{beside_wider, beside_itself}
use Rattle.cedar_entities.proofs.Known.{known_along, added_known}
use Rattle.cedar_entities.proofs.Passing.{on_err}
use Rattle.cedar_entities.proofs.in_place.add_in_place.Goals as goal

pub returns-in-Err-clause-left : goal.returns-in-Err-clause-left
returns-in-Err-clause-left c =
    let old = in_map c.args.map.now in
    let saved = c.in_ok-before.before.items in
    c.put_all_back.ensures old c.in_ok-before.ensures.stood (beside_wider (among c.args.stale.now) (among_saved saved) (λ q n. sym (c.in_ok-before.ensures.listed q) ∙ n) old (in_map c.add_and_close.new.map) c.in-Err.ensures.beside)

pub returns-in-Err-clause-by_uid : goal.returns-in-Err-clause-by_uid
returns-in-Err-clause-by_uid c = (returns-in-Err-clause-left c).by_uid

pub returns-in_err-before-clause-left : goal.returns-in_err-before-clause-left
returns-in_err-before-clause-left c = on_err c.from_residual.result (beside_itself nowhere (in_map c.args.map.now))

pub returns-in_err-learn-clause-left : goal.returns-in_err-learn-clause-left
returns-in_err-learn-clause-left c = on_err c.from_residual-in_err-learn.result (beside_itself nowhere (in_map c.args.map.now))

pub returns-in_err-learn-clause-known : goal.returns-in_err-learn-clause-known
returns-in_err-learn-clause-known c = c.learn.ensures.kept (in_map c.args.map.now) c.requires.known

pub returns-in-Ok-clause-known : goal.returns-in-Ok-clause-known
returns-in-Ok-clause-known c =
    let old = in_map c.args.map.now in
    let children = c.learn.new.children in
    let learnt = subst (λ es. IfSome c.learn.new.children (λ index. KnowsAll index es)) c.deref.ensures.value c.in_ok-learn.ensures.known in
    known_along (added_to old c.args.entities.items) (in_map c.add_and_close.new.map) children c.in-Ok.ensures.edited.held
    (added_known old c.args.entities.items children (c.learn.ensures.kept old c.requires.known) learnt)

pub returns-in-Err-clause-known : goal.returns-in-Err-clause-known
returns-in-Err-clause-known c =
    known_along (in_map c.args.map.now) (in_map c.put_all_back.new.map) c.learn.new.children (λ uid. (returns-in-Err-clause-left c).held uid refl) (c.learn.ensures.kept (in_map c.args.map.now) c.requires.known)
