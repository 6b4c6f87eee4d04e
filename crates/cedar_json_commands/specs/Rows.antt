-- Worked rows of questions with open parts and of links, and of their texts.
use Rattle.std.specs.Prelude.{◌≡◌, ℕ, true, Option, Some, None, List, [], ◌∷◌, codes}
use Rattle.json.specs.Json.{Json, null, boolean, string, object, no_members, member}
use Rattle.cedar_language.specs.Uid.{Uid}
use Rattle.cedar_language.specs.Tree.{no_trees}
use Rattle.cedar_world.specs.Asking.{Part, Given, Missing, Entries, NoContext, WithEntries, Question}
use Rattle.cedar_world.specs.Bodies.{LinkBody}
use Rattle.cedar_json_commands.specs.Links.{link_in}
use Rattle.cedar_json_commands.specs.LinksWritten.{link_written}
use Rattle.cedar_json_commands.specs.PartialQuestions.{partial_question_in}
use Rattle.cedar_json_commands.specs.PartialQuestionsWritten.{partial_question_written}

-- ---- objects

abbrev pub text : List ℕ → Json
text s = string s

-- `{"type": "A::B", "id": "x"}`, and the entity
abbrev pub reference : Json
reference = object (member (codes "type") (text (codes "A::B")) (member (codes "id") (text (codes "x")) no_members))

abbrev pub entity : Uid
entity = record { type_name = codes "A" ∷ codes "B" ∷ []; id = codes "x" }

-- `{"type": ..}` alone
abbrev pub typed : List ℕ → Json
typed name = object (member (codes "type") (text name) no_members)

-- ---- questions

abbrev pub asked : Part → Part → Part → Entries → Question
asked principal action resource context = record { principal = principal; action = action; resource = resource; context = context }

abbrev pub nothing : Entries
nothing = WithEntries [] no_trees

pub record PartialQuestionRows : Type 0 where
  pub what_is_left_out_is_missing : partial_question_in (object no_members) ≡ Some (asked (Missing None) (Missing None) (Missing None) nothing)
  pub what_stands_is_given : partial_question_in (object (member (codes "action") reference no_members)) ≡ Some (asked (Missing None) (Given entity) (Missing None) nothing)
  pub a_type_is_stated : partial_question_in (object (member (codes "resource") (typed (codes "A::B")) (member (codes "principal") reference no_members)))
      ≡ Some (asked (Given entity) (Missing None) (Missing (Some (codes "A" ∷ codes "B" ∷ []))) nothing)
  pub a_context_is_unknown : partial_question_in (object (member (codes "context") (text (codes "unknown")) no_members)) ≡ Some (asked (Missing None) (Missing None) (Missing None) NoContext)
  pub no_name_is_none : partial_question_in (object (member (codes "principal") (typed (codes "A B")) no_members)) ≡ None
  pub no_type_of_an_action : partial_question_in (object (member (codes "action") (typed (codes "A")) no_members)) ≡ None
  pub another_word_is_none : partial_question_in (object (member (codes "context") (text (codes "open")) no_members)) ≡ None
  pub null_is_none : partial_question_in (object (member (codes "context") null no_members)) ≡ None
  pub another_key_is_none : partial_question_in (object (member (codes "principal_type") (text (codes "A")) no_members)) ≡ None
  pub a_key_twice_is_none : partial_question_in (object (member (codes "action") reference (member (codes "action") reference no_members))) ≡ None

-- ---- links

-- a link in the spelling of Cedar's links file, and in that of its `isAuthorized`
abbrev pub filed : Json → Json
filed slots = object (member (codes "template_id") (text (codes "t")) (member (codes "link_id") (text (codes "l")) (member (codes "args") slots no_members)))

abbrev pub called : Json → Json
called slots = object (member (codes "templateId") (text (codes "t")) (member (codes "newId") (text (codes "l")) (member (codes "values") slots no_members)))

abbrev pub one_slot : List ℕ → Json
one_slot name = object (member name reference no_members)

abbrev pub linked : Option Uid → Option Uid → LinkBody
linked principal resource = record { template = codes "t"; id = codes "l"; bindings = record { principal = principal; resource = resource } }

pub record LinkRows : Type 0 where
  pub by_a_file : link_in (filed (one_slot (codes "?principal"))) ≡ Some (linked (Some entity) None)
  pub by_a_call : link_in (called (one_slot (codes "?resource"))) ≡ Some (linked None (Some entity))
  pub no_slot : link_in (filed (object no_members)) ≡ Some (linked None None)
  pub spellings_are_not_mixed : link_in (object (member (codes "template_id") (text (codes "t")) (member (codes "link_id") (text (codes "l")) (member (codes "values") (object no_members) no_members)))) ≡ None
  pub another_slot_is_none : link_in (filed (one_slot (codes "principal"))) ≡ None
  pub a_slot_is_an_entity : link_in (filed (object (member (codes "?principal") (boolean true) no_members))) ≡ None
  pub slots_are_an_object : link_in (filed (text (codes "?principal"))) ≡ None
  pub slots_must_stand : link_in (object (member (codes "template_id") (text (codes "t")) (member (codes "link_id") (text (codes "l")) no_members))) ≡ None

-- ---- texts

pub record TextRows : Type 0 where
  pub a_type : partial_question_written (object (member (codes "resource") (typed (codes "A::B")) no_members)) ≡ codes "{\"resource_type\": \"A::B\",\"context\": {},}"
  pub an_unknown_context : partial_question_written (object (member (codes "action") reference (member (codes "context") (text (codes "unknown")) no_members))) ≡ codes "{\"action\": A::B::\"x\",}"
  pub a_link : link_written (called (one_slot (codes "?principal"))) ≡ codes "{\"template\": \"t\",\"id\": \"l\",\"principal\": A::B::\"x\",}"

pub record Rows : Type 0 where
  pub partial_questions : PartialQuestionRows
  pub links : LinkRows
  pub texts : TextRows
