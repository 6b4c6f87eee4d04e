-- An entity of a new uid is added where it is put (GainedEdges, InPlace); it is said by what is held (Edited).
use Rattle.std.proofs.Common.{OnOk, IfErr, sym, subst}
use Rattle.cedar_entities.specs.Modes.{IsComputed, IsClosureRefusal}
use Rattle.cedar_entities.specs.Store.{found_in}
use Rattle.cedar_entities.specs.declared.closing.TCComputation.TheVariants.{ComputeNow}
use Rattle.cedar_entities.proofs.Edited.{adds}
use Rattle.cedar_entities.proofs.GainedEdges.{added_is_put, versions_new}
use Rattle.cedar_entities.proofs.InPlace.{addition_as, closing_refused}
use Rattle.cedar_entities.proofs.Passing.{on_ok}
use Rattle.cedar_entities.proofs.store.Entities.add_gaining.Goals as goal

pub returns-clause-edited : goal.returns-clause-edited
returns-clause-edited c =
    let found = found_in c.args.self.now in
    let es = c.args.entities.items in
    let r = c.gain.result in
    let same = sym (added_is_put found es c.requires.gains.one c.requires.gains.are c.requires.new) in
    let versions = versions_new found es c.requires.gains.one c.requires.gains.are c.requires.new in
    addition_as found es _ r (subst (λ f. OnOk r (IsComputed f (found_in c.gain.new.self))) same c.gain.ensures.edited) (on_ok r versions)
    (closing_refused found es versions r (subst (λ f. IfErr r (IsClosureRefusal ComputeNow f)) same c.gain.ensures.refused))

pub returns-clause-added : goal.returns-clause-added
returns-clause-added c = λ plain.
    adds (found_in c.args.self.now) c.args.entities.items c.requires.closed c.args.self.now.by_uid plain _ (returns-clause-edited c)
