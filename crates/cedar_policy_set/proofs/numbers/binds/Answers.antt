-- The map has a key exactly where the view has an entry at it.
use Rattle.std.proofs.Common.{ap, sym, ◌∙◌}
use Rattle.cedar_policy_set.specs.Entries.{is_bound}
use Rattle.cedar_policy_set.specs.Bounds.{entries_of}
use Rattle.cedar_policy_set.proofs.Views.{found_some}
use Rattle.cedar_policy_set.proofs.numbers.binds.Goals as goal

pub returns-in-Ok : goal.returns-in-Ok
returns-in-Ok c = λ seen. ap (is_bound (entries_of c.args.bound.now)) (sym c.in-Ok.ensures) ∙ found_some c.args.bound.now c.in-Ok.id ∙ sym c.contains_key.ensures ∙ seen
