-- The store is asked for the entity that stands there.
use Rattle.std.proofs.Common.{◌∙◌, ap}
use Rattle.std.specs.Option.{option_copied}
use Rattle.cedar_interpreter.proofs.Seen.{seen_of}
use Rattle.cedar_interpreter.proofs.seeing.seen_for.Goals as goal

pub returns-in-Some : goal.returns-in-Some
returns-in-Some c =
    seen_of c.args.entities.now c.args.part.now c.in-Some.uid.now c.held.result (c.standing.ensures ∙ ap option_copied c.in-Some.is) c.held.ensures
