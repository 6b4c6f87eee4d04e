-- A copy tells the same, and the last value that is left is the next one that the world puts in.
use Rattle.std.proofs.Common.{sym, ap}
use Rattle.cedar_entities.specs.Attributes.{seen_entries}
use Rattle.cedar_world.specs.Asking.{Told}
use Rattle.cedar_telling.specs.Tells.{told_in}
use Rattle.cedar_telling.specs.TellSteps.{with_attributes}
use Rattle.cedar_telling.proofs.TellParts.{copied_told, one_put}
use Rattle.cedar_telling.proofs.telling.with_values.Goals as goal

pub loop-name-init : goal.loop-name-init
loop-name-init c = ap (λ (told : Told). with_attributes told (seen_entries c.args.values.entries)) (sym (copied_told c.args.told.now.entries c.in_ok-all.all.entries c.in_ok-all.ensures.cases))

pub loop-name-preserved : goal.loop-name-preserved
loop-name-preserved c =
    one_put _ (told_in c.loop-name.all.entries) (told_in c.put.new.told.entries) c.loop-name.values.entries c.pop_last.new.self.entries c.in-Some.name c.in-Some.value
    c.loop-name.invariant c.in-Some.ensures.removal c.in_ok-put.ensures
