-- Its line has the place of the fault.
use Rattle.std.proofs.Common.{Option, sym, subst}
use Rattle.cedar_messages.specs.Telling.{AreBelow, TellsOf}
use Rattle.cedar_messages.specs.declared.places.Position.{Position}
use Rattle.cedar_messages.proofs.faults.tell_fault.Goals as goal

pub returns : goal.returns
returns c =
    let told = c.in_ok-tell.ensures (subst AreBelow (sym c.as_str-2.ensures.value) c.in_ok-below.ensures) in
    let P : Option Position → Type 0 = λ place. TellsOf c.args.name.now place told.0 in
    (told.0, subst P c.place_of-place.ensures told.1, told.2)
