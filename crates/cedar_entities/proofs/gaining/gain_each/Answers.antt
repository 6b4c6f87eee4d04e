-- The uids passed have gained (Gained).
use Rattle.std.proofs.Common.{◌≡◌, ◌<◌, ◌≤◌, ◌+◌, ◌∷◌, refl, sym, ap, ◌∙◌, drop, length, arith}
use Rattle.std.proofs.Math.ListN.{drop_of_length-le}
use Rattle.std.proofs.lemmas.List.{drop_more}
use Rattle.cedar_language.specs.Order.{same_uid}
use Rattle.cedar_entities.specs.Kept.{in_map}
use Rattle.cedar_entities.proofs.Gained.{is_passed, gains_begin, gains_through, none_passed, passes_one, all_passed}
use Rattle.cedar_entities.proofs.gaining.gain_each.Goals as goal

pub loop-at-init : goal.loop-at-init
loop-at-init c =
    let below = c.args.below.now in
    record {
      gains = gains_begin (in_map c.args.map.now) c.args.from.now c.args.more.now (is_passed below below) (none_passed below below refl);
      gained = λ before g. g;
    }

pub loop-at-preserved : goal.loop-at-preserved
loop-at-preserved c =
    let below = c.args.below.now in
    let i = c.loop-at.at-index in
    let x = c.at-item.result in
    let here : c.loop-at.at-index < length c.args.below.now = omega arith in
    let step : drop i below ≡ x ∷ drop (i + 1) below = drop_more below i x here ∙ ap (λ y. y ∷ drop (i + 1) below) (sym c.at-item.is) in
    record {
      gains = gains_through (in_map c.args.map.now) (in_map c.loop-at.map) (in_map c.gain_at.new.map) c.args.from.now c.args.more.now
          (is_passed below (drop i below)) (same_uid x) (is_passed below (drop (i + 1) below)) (passes_one below (drop i below) (drop (i + 1) below) x step)
          c.loop-at.invariant.gains c.in_ok-gain_at.ensures.gains;
      gained = λ before g. c.gain_at.ensures.gained before (c.loop-at.invariant.gained before g);
    }

pub returns-clause-gains : goal.returns-clause-gains
returns-clause-gains c =
    let below = c.args.below.now in
    let past : length c.args.below.now ≤ c.loop-at.at-index = omega arith in
    all_passed (in_map c.args.map.now) (in_map c.loop-at.map) c.args.from.now c.args.more.now below (drop c.loop-at.at-index below) (drop_of_length-le below
    past) c.loop-at.invariant.gains
