-- What an edit of the policies leaves, or why it is refused; a refused edit changes nothing.
use Rattle.std.specs.Prelude.{◌≡◌, ◌<◌, Result, Ok, Err}
use Rattle.cedar_language.specs.Uid.{Text}
use Rattle.cedar_world.specs.Bodies.{LinkBody}
use Rattle.cedar_world.specs.Commands as commands
use Rattle.cedar_world.specs.Commands.{rank}
use Rattle.cedar_world.specs.PolicyEdits.{Links, TakesAway}
use Rattle.cedar_world.specs.Refusals.{LinkCases, UnlinkCases, RemoveStaticCases, RemoveTemplateCases}
use Rattle.cedar_world.specs.World.{Policies}
use Rattle.cedar_replies.specs.Refusals.{refusal_of}
use Rattle.cedar_replies.specs.declared.refusal.Refusal.{Refusal}
use Rattle.cedar_replies.specs.declared.refusal.Refusal.TheVariants.{Memory}

-- none of the cases stands before this one
abbrev pub IsLeast : (commands.Refusal → Type 0) → commands.Refusal → Type 0
IsLeast Cases r = (s : commands.Refusal) → rank s < rank r → Cases s → ⊥

-- Where no case stands, the policies change so. Else the first one is answered, or there was no memory.
abbrev pub Edits : (commands.Refusal → Type 0) → (Policies → Type 0) → Policies → Result (Unit {0}) Refusal → Policies → Type 0
Edits Cases Changes old (Ok done) new = ((r : commands.Refusal) → Cases r → ⊥) × Changes new
Edits Cases Changes old (Err Memory) new = new ≡ old
Edits Cases Changes old (Err r) new = Cases (refusal_of r) × IsLeast Cases (refusal_of r) × (new ≡ old)

abbrev pub LinksBody : LinkBody → Policies → Result (Unit {0}) Refusal → Policies → Type 0
LinksBody b old result new = Edits (LinkCases old b) (Links old b.template b.id b.bindings) old result new

abbrev pub UnlinksId : Text → Policies → Result (Unit {0}) Refusal → Policies → Type 0
UnlinksId id old result new = Edits (UnlinkCases old id) (TakesAway old id) old result new

abbrev pub RemovesStatic : Text → Policies → Result (Unit {0}) Refusal → Policies → Type 0
RemovesStatic id old result new = Edits (RemoveStaticCases old id) (TakesAway old id) old result new

abbrev pub RemovesTemplate : Text → Policies → Result (Unit {0}) Refusal → Policies → Type 0
RemovesTemplate id old result new = Edits (RemoveTemplateCases old id) (TakesAway old id) old result new
