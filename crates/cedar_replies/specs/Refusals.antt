-- Refusals, as the world names them.
use Rattle.cedar_world.specs.Commands as world
use Rattle.cedar_replies.specs.declared.refusal.Refusal.{Refusal}
use Rattle.cedar_replies.specs.declared.refusal.Refusal.TheVariants.{NotUtf8, Text, Depth, NotRestricted, Shape, Evaluation, NotAValue, BadUnknown, Duplicate, Cycle, NoSuchTemplate, NotTemplate, Arity, IdConflict, NotLink, NoSuchPolicy, HasLinks, NotStatic, NoQuestion, NoSuchUnknown, AlreadyTold, WrongKind, Memory}

abbrev pub refusal_of : Refusal → world.Refusal
refusal_of NotUtf8 = world.NotUtf8
refusal_of Text = world.Text
refusal_of Depth = world.Depth
refusal_of NotRestricted = world.NotRestricted
refusal_of Shape = world.Shape
refusal_of Evaluation = world.Evaluation
refusal_of NotAValue = world.NotAValue
refusal_of BadUnknown = world.BadUnknown
refusal_of Duplicate = world.Duplicate
refusal_of Cycle = world.Cycle
refusal_of NoSuchTemplate = world.NoSuchTemplate
refusal_of NotTemplate = world.NotTemplate
refusal_of Arity = world.Arity
refusal_of IdConflict = world.IdConflict
refusal_of NotLink = world.NotLink
refusal_of NoSuchPolicy = world.NoSuchPolicy
refusal_of HasLinks = world.HasLinks
refusal_of NotStatic = world.NotStatic
refusal_of NoQuestion = world.NoQuestion
refusal_of NoSuchUnknown = world.NoSuchUnknown
refusal_of AlreadyTold = world.AlreadyTold
refusal_of WrongKind = world.WrongKind
refusal_of Memory = world.Memory
