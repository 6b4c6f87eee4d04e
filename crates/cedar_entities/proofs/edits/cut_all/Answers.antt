-- The lemmas of Gathering: what stands at the uids passed is cut, and the others have nothing to lose.
use Rattle.std.proofs.Common.{◌≡◌, ◌<◌, ◌≤◌, ◌+◌, ◌∷◌, sym, ap, ◌∙◌, drop, length, arith}
use Rattle.std.specs.List.{list_any}
use Rattle.std.proofs.Math.ListN.{drop_of_length-le}
use Rattle.std.proofs.lemmas.List.{drop_more}
use Rattle.cedar_language.specs.Order.{same_uid}
use Rattle.cedar_entities.specs.Kept.{in_map}
use Rattle.cedar_entities.proofs.Beside.{passing_begins, passing_goes_on}
use Rattle.cedar_entities.proofs.Gathering.{cutting_begins, cutting_goes_on}
use Rattle.cedar_entities.proofs.edits.cut_all.Goals as goal

pub loop-at-init : goal.loop-at-init
loop-at-init c = (
  cutting_begins (in_map c.args.map.now) c.args.uids.now.keys c.args.touched.now c.requires,
  passing_begins (λ u. u) (in_map c.args.map.now) c.args.touched.now,
)

pub loop-at-preserved : goal.loop-at-preserved
loop-at-preserved c =
    let touched = c.args.touched.now in
    let i = c.loop-at.at-index in
    let x = c.at-item.result in
    let here : c.loop-at.at-index < length c.args.touched.now = omega arith in
    let step : drop i touched ≡ x ∷ drop (i + 1) touched = drop_more touched i x here ∙ ap (λ y. y ∷ drop (i + 1) touched) (sym c.at-item.is) in
    let before = in_map c.args.map.now in
    let now = in_map c.loop-at.map in
    let next = in_map c.cut_one.new.map in (
      cutting_goes_on before c.args.uids.now.keys now next (drop i touched) (drop (i + 1) touched) x step c.cut_one.ensures.cut c.loop-at.invariant.0,
      passing_goes_on (λ u. u) before now next touched (drop i touched) (drop (i + 1) touched) x step c.cut_one.ensures.beside c.loop-at.invariant.1,
    )

pub returns-clause-cut : goal.returns-clause-cut
returns-clause-cut c = λ uid.
    let past : length c.args.touched.now ≤ c.loop-at.at-index = omega arith in
    c.loop-at.invariant.0.done uid (ap (λ us. list_any (same_uid uid) us) (drop_of_length-le c.args.touched.now past))

pub returns-clause-beside : goal.returns-clause-beside
returns-clause-beside c = c.loop-at.invariant.1.beside
