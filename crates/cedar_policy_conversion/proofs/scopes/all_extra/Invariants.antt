-- A fault, joined with the next one, is a fault; and what was told, the parts show.
use Rattle.std.proofs.Common.{◌∷◌, map}
use Rattle.cedar_cst.specs.View.{shown_variable_def}
use Rattle.cedar_faults.specs.Reasons.{IsFault}
use Rattle.cedar_faults.specs.Telling.{TellsOnly}
use Rattle.cedar_policy_conversion.specs.PartsShow.{extras_show}
use Rattle.cedar_policy_conversion.proofs.scopes.all_extra.Given as goal

abbrev pub invariant-parts : goal.invariant-parts
invariant-parts g l = record {
  fault : IsFault l.faults;
  shown : TellsOnly l.faults (extras_show (shown_variable_def l.first ∷ map shown_variable_def l.parts));
}
