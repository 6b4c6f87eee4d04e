-- What is inserted is found at its name, and at every other name what was there before.
use Rattle.std.proofs.Common.{ap}
use Rattle.either.specs.declared.Either.TheVariants.{Left}
use Rattle.cedar_restricted.specs.PartialValues.{partial_of}
use Rattle.cedar_telling.specs.Tells.{told_in}
use Rattle.cedar_telling.proofs.TellParts.{told_more, part_put}
use Rattle.cedar_telling.proofs.telling.put.Goals as goal

pub returns-in_ok-insert : goal.returns-in_ok-insert
returns-in_ok-insert c =
    part_put (told_in c.args.told.now.entries) (told_in c.insert.new.self.entries) _ c.args.part (Left c.in-Value.value) (ap partial_of c.in-Value.is)
    (told_more c.args.name c.in-Value.value c.args.told.now.entries c.insert.new.self.entries c.in_ok-insert.ensures.updates.1 c.in_ok-insert.ensures.updates.3)
