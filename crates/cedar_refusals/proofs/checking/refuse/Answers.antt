-- Its line is all that is told (Below).
use Rattle.std.proofs.Common.{sym, subst, string_bytes}
use Rattle.cedar_language.specs.Uid.{Text}
use Rattle.cedar_messages.specs.Telling.{TellsOf}
use Rattle.cedar_messages.proofs.Below.{from_nothing, nothing_below}
use Rattle.cedar_refusals.proofs.checking.refuse.Goals as goal

pub returns-clause-told : goal.returns-clause-told
returns-clause-told c =
    let Tells : Text → Type 0 = TellsOf c.args.name.now c.args.place in
    let new = string_bytes c.tell.new.told in
    let told = from_nothing Tells (string_bytes c.new-told.result) new c.new-told.ensures.bytes (c.in_ok-tell.ensures nothing_below) in
    subst Tells (sym c.refused.ensures.text) told
