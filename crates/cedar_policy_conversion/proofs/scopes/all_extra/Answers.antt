-- What one more part shows, all parts show.
use Rattle.std.proofs.Common.{◌∷◌, inl, inr, map, rules}
use Rattle.cedar_cst.specs.View.{shown_variable_def}
use Rattle.cedar_faults.proofs.Telling.{at_item}
use Rattle.cedar_policy_conversion.specs.PartsShow.{extra_shows, extras_show}
use Rattle.cedar_policy_conversion.proofs.Showing.{next_shows}
use Rattle.cedar_policy_conversion.proofs.scopes.all_extra.Goals as goal

pub parts-preserved : goal.parts-preserved
parts-preserved g c =
    let xs = c.args.parts.now in
    record {
      fault = search rules;
      shown = next_shows c.parts.faults c.extra-fault.result c.and-faults.result (extras_show (shown_variable_def c.args.first.now ∷ map shown_variable_def xs)) (extra_shows (shown_variable_def c.part-item.result)) c.and-faults.ensures.faults c.parts.invariant.shown c.extra-fault.ensures.shown
          (λ k s. inr (at_item (λ ys. extras_show (map shown_variable_def ys) k) (λ y ys later. inr later) xs c.parts.part-index c.part-item.result c.parts-test.true c.part-item.is (inl s)));
    }
