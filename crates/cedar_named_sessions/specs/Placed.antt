-- Whether the policies of a text are given their names.
use Rattle.std.specs.Prelude.{◌≡◌, Option, Result, Ok, Err, List, length, map}
use Rattle.std.specs.Map.{keys_of}
use Rattle.cedar_grammar.specs.Syntax.{PolicySyntax}
use Rattle.cedar_held.specs.PolicyWorlds.{policies_in}
use Rattle.cedar_language.specs.Uid.{Text}
use Rattle.cedar_policy_set.specs.Entries.{Entries}
use Rattle.cedar_policy_set.specs.Texts.{text_entries}
use Rattle.cedar_replies.specs.declared.refusal.Refusal.{Refusal}
use Rattle.cedar_replies.specs.declared.refusal.Refusal.TheVariants.{Memory}
use Rattle.cedar_world.specs.PolicyEdits as edits
use Rattle.cedar_world.specs.World.{Policies}
use Rattle.cedar_named_sessions.specs.NameLists.{Names}
use Rattle.cedar_named_sessions.specs.Named.{Placed, placed, named}
use Rattle.cedar_named_sessions.specs.declared.refusals.NamedRefusal.{NamedRefusal}
use Rattle.cedar_named_sessions.specs.declared.refusals.NamedRefusal.TheVariants.{IdConflict, Refused}

-- the policies of a text by the ids that a load gives them where others are held
abbrev pub ArePlaced : (PolicySyntax → Option Text) → Entries → Entries → Placed → Type 0
ArePlaced given held policies ps = (ss : List PolicySyntax) → policies ≡ text_entries 0 ss
    → (ids : List Text) × edits.Names (policies_in held) (length ss) 0 0 ss ids × (ps ≡ placed given ids ss) × (keys_of ps ≡ ids)

-- each is given its name, or one can't be, or memory lacks; and then nothing changes
abbrev pub GivesAll : Policies → Names → Placed → Result (Unit {0}) NamedRefusal → Names → Type 0
GivesAll policies old ps (Ok done) new = named policies old ps ≡ Ok new
GivesAll policies old ps (Err (IdConflict name)) new = (named policies old ps ≡ Err name) × (new ≡ old)
GivesAll policies old ps (Err (Refused Memory)) new = new ≡ old
GivesAll policies old ps (Err _) new = ⊥
