-- The names that are given, and how they come to be by the policies of a text.
use Rattle.std.specs.Prelude.{◌≡◌, Option, Some, None, Result, Ok, Err, List, [], ◌∷◌, map}
use Rattle.cedar_grammar.specs.Syntax.{PolicySyntax}
use Rattle.cedar_language.specs.Uid.{Text}
use Rattle.cedar_policy_set.specs.Entries.{Entries}
use Rattle.cedar_policy_set.specs.Texts.{syntax_in}
use Rattle.cedar_store.specs.Renaming.{NewIds, new_id}
use Rattle.cedar_named_sessions.specs.NameLists.{Names, without}
use Rattle.cedar_named_sessions.specs.Named.{annotated, Placed}
use Rattle.cedar_named_sessions.specs.declared.naming.Given.{Given}
use Rattle.cedar_named_sessions.specs.declared.naming.Given.TheVariants.{Nothing, Annotation, Name}
use Rattle.cedar_named_sessions.specs.declared.naming.Naming.{Naming}
use Rattle.cedar_named_sessions.specs.declared.naming.Naming.TheVariants.{Numbers, Ids}

-- by their numbers none is given a name, and by ids each that its annotation says
abbrev pub given_as : Naming → PolicySyntax → Option Text
given_as Numbers s = None
given_as Ids s = annotated s

abbrev pub given_by : Given → PolicySyntax → Option Text
given_by Nothing s = None
given_by Annotation s = annotated s
given_by (Name name) s = Some name.now

-- the policies of a set, each under its new id, with the name that it is given
abbrev pub placed_in : NewIds → (PolicySyntax → Option Text) → Entries → Placed
placed_in renaming given es = map (λ e. (new_id renaming e.0, given (syntax_in e.1))) es

abbrev pub without_one : Text × Option Text → Names → Names
without_one (id, None) names = names
without_one (id, Some name) names = without id names

-- the names that are left where those of these are taken back, the last one first
abbrev pub without_all : Placed → Names → Names
without_all [] names = names
without_all (p ∷ ps) names = without_one p (without_all ps names)
