-- Templates, as the grammar has them.
use Rattle.std.specs.Prelude.{◌≡◌, List, [], Option, cond}
use Rattle.cedar_language.specs.Tree.{SlotId}
use Rattle.cedar_language.specs.Uid.{Text}
use Rattle.cedar_grammar.specs.Policy.{Policy, slots}
use Rattle.cedar_names.specs.declared.places.Loc.{Loc}
use Rattle.cedar_policies.specs.Bodies.{body_id, body_place, body_syntax}
use Rattle.cedar_policies.specs.declared.templates.Template.{Template}

abbrev pub template_id : Template → Text
template_id t = body_id t.body

-- where it was read, if it was
abbrev pub template_place : Template → Option Loc
template_place t = body_place t.body

-- its syntax, without places
abbrev pub syntax_of : Template → Policy
syntax_of t = body_syntax t.body

-- the slots that it lists: those of its scope and its clauses, or none where it was made of a clause alone
abbrev pub listed_slots : Template → List SlotId
listed_slots t = cond t.unlisted [] (slots (syntax_of t))

-- the template of this id and syntax, which lists its slots
pub record IsTemplate (own_id : Text) (own_syntax : Policy) (t : Template) : Type 0 where
  pub id : template_id t ≡ own_id
  pub syntax : syntax_of t ≡ own_syntax
  pub lists : listed_slots t ≡ slots own_syntax
