-- What refused edits of a store are refused as.
use Rattle.cedar_entities.specs.declared.errors.EntitiesError.{EntitiesError}
use Rattle.cedar_entities.specs.declared.errors.EntitiesError.TheVariants as error
use Rattle.cedar_replies.specs.declared.refusal.Refusal.{Refusal}
use Rattle.cedar_replies.specs.declared.refusal.Refusal.TheVariants.{Duplicate, Cycle, Memory}

abbrev pub refusal_of : EntitiesError → Refusal
refusal_of (error.Duplicate e) = Duplicate
refusal_of (error.TransitiveClosureError e) = Cycle
refusal_of (error.Memory e) = Memory
