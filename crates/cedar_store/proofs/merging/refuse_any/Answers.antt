-- The first new id, where there is one, tells the first that is refused.
use Rattle.std.proofs.Common.{sym, subst}
use Rattle.std.specs.Map.{keys_of}
use Rattle.cedar_store.specs.Merged.{IsFirst}
use Rattle.cedar_store.proofs.Given.{none_first, some_first}
use Rattle.cedar_store.proofs.merging.refuse_any.Goals as goal

pub returns-in-None : goal.returns-in-None
returns-in-None c = none_first c.args.renaming.now c.in-None.ensures

pub returns-in_ok-copied-in-Some : goal.returns-in_ok-copied-in-Some
returns-in_ok-copied-in-Some c =
    let first = some_first c.args.renaming.now (c.in-Some.id.now, c.in-Some.field-0-1.now) c.in-Some.ensures in
    subst (IsFirst (keys_of c.args.renaming.now)) (sym c.in_ok-copied-in-Some.ensures) first
