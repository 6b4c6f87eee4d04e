-- The names of the texts from which all comes that a session holds.
use Rattle.std.specs.Prelude.{◌≡◌, []}
use Rattle.cedar_language.specs.Uid.{Text}
use Rattle.cedar_evaluator.specs.declared.partial_response.PartialResponse.{PartialResponse}
use Rattle.cedar_world.specs.World.{Policies}
use Rattle.cedar_authoring.specs.Explaining.{TellsOne}
use Rattle.cedar_authoring.specs.declared.past.Past.{Past}

-- it comes from one text, and no command of a script loaded it
abbrev pub IsOfText : Past → Type 0
IsOfText past = past.loads.items ≡ []

-- A text from which something comes has this name: where there is one text, its own.
abbrev pub IsNamed : Past → Text → Type 0
IsNamed past name = IsOfText past → name ≡ past.script.now

-- it is told, in a text from which something comes, how what is held under the id stands
abbrev pub TellsOneOf : Past → Policies → PartialResponse → Text → Text → Type 0
TellsOneOf past policies response id told = (name : Text) × IsNamed past name × TellsOne name policies response id told
