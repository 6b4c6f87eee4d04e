-- Worked rows of values and entities, and of their texts.
use Rattle.std.specs.Prelude.{◌≡◌, ℕ, true, false, Some, None, List, [], ◌∷◌, codes, pos, neg_ℤ}
use Rattle.std.specs.FinSet as set
use Rattle.json.specs.Json.{Json, null, boolean, number, string, array, object, no_items, item, Members, no_members, member}
use Rattle.cedar_language.specs.Uid.{Uid}
use Rattle.cedar_language.specs.Tree.{Tree, Lit, String, Entity, Apply, MakeSet, MakeRecord, Call, no_trees, a_tree}
use Rattle.cedar_grammar.specs.Build.{truth, long}
use Rattle.cedar_world.specs.Asking.{Given, Entries, WithEntries, Question}
use Rattle.cedar_world.specs.Bodies.{EntityBody}
use Rattle.cedar_json.specs.Values.{datum}
use Rattle.cedar_json.specs.Written.{written}
use Rattle.cedar_json.specs.Entities.{entities_in}
use Rattle.cedar_json.specs.Questions.{question_in}

-- ---- objects

abbrev pub one : List ℕ → Json → Json
one k j = object (member k j no_members)

abbrev pub two : List ℕ → Json → List ℕ → Json → Json
two k a l b = object (member k a (member l b no_members))

abbrev pub text : List ℕ → Json
text s = string s

-- `{"type": "A::B", "id": "x"}`, and the entity
abbrev pub reference : Json
reference = two (codes "type") (text (codes "A::B")) (codes "id") (text (codes "x"))

abbrev pub entity : Uid
entity = record { type_name = codes "A" ∷ codes "B" ∷ []; id = codes "x" }

-- a call of `ip`
abbrev pub call : Tree
call = Apply (Call (codes "ip" ∷ [])) (a_tree (Lit (String (codes "::1"))) no_trees)

-- ---- values

pub record NumberRows : Type 0 where
  pub whole : datum (number (codes "12")) ≡ Some (long (pos 12))
  pub negative : datum (number (codes "-12")) ≡ Some (long (neg_ℤ (pos 12)))
  pub minus_zero_is_zero : datum (number (codes "-0")) ≡ Some (long (pos 0))
  pub greatest : datum (number (codes "9223372036854775807")) ≡ Some (long (pos 9223372036854775807))
  pub one_more_is_none : datum (number (codes "9223372036854775808")) ≡ None
  pub least : datum (number (codes "-9223372036854775808")) ≡ Some (long (neg_ℤ (pos 9223372036854775808)))
  pub one_less_is_none : datum (number (codes "-9223372036854775809")) ≡ None
  pub a_fraction_is_none : datum (number (codes "1.5")) ≡ None
  pub an_exponent_is_none : datum (number (codes "1e3")) ≡ None

pub record ValueRows : Type 0 where
  pub null_is_none : datum null ≡ None
  pub null_in_a_list_is_none : datum (array (item null no_items)) ≡ None
  pub a_list_is_a_set : datum (array (item (boolean true) no_items)) ≡ Some (Apply MakeSet (a_tree (truth true) no_trees))
  pub keys_are_sorted : datum (two (codes "b") (boolean true) (codes "a") (boolean false)) ≡ Some (Apply (MakeRecord (codes "a" ∷ codes "b" ∷ [])) (a_tree (truth false) (a_tree (truth true) no_trees)))
  pub a_key_twice_is_none : datum (two (codes "a") (boolean true) (codes "a") (boolean true)) ≡ None
  pub no_key_is_a_record : datum (object no_members) ≡ Some (Apply (MakeRecord []) no_trees)

pub record EscapeRows : Type 0 where
  pub an_entity : datum (one (codes "__entity") reference) ≡ Some (Lit (Entity entity))
  pub its_id_may_stand_first : datum (one (codes "__entity") (two (codes "id") (text (codes "x")) (codes "type") (text (codes "A::B")))) ≡ Some (Lit (Entity entity))
  pub no_name_is_none : datum (one (codes "__entity") (two (codes "type") (text (codes "A B")) (codes "id") (text (codes "x")))) ≡ None
  pub a_reserved_name_is_none : datum (one (codes "__entity") (two (codes "type") (text (codes "if")) (codes "id") (text (codes "x")))) ≡ None
  pub an_escape_stands_alone : datum (two (codes "__entity") reference (codes "a") (boolean true)) ≡ None
  pub a_reference_is_a_record : datum reference ≡ Some (Apply (MakeRecord (codes "id" ∷ codes "type" ∷ [])) (a_tree (Lit (String (codes "x"))) (a_tree (Lit (String (codes "A::B"))) no_trees)))
  pub one_argument : datum (one (codes "__extn") (two (codes "fn") (text (codes "ip")) (codes "arg") (text (codes "::1")))) ≡ Some call
  pub arguments : datum (one (codes "__extn") (two (codes "args") (array (item (text (codes "::1")) no_items)) (codes "fn") (text (codes "ip")))) ≡ Some call
  pub an_expression_is_none : datum (one (codes "__expr") (text (codes "1"))) ≡ None

-- ---- texts

pub record TextRows : Type 0 where
  pub quotes_are_escaped : written (text (codes "a\"\\")) ≡ codes "\"a\\\"\\\\\""
  pub a_record : written (two (codes "a") (number (codes "1")) (codes "b") (array (item (boolean true) no_items))) ≡ codes "{\"a\": 1,\"b\": [true,],}"
  pub an_entity : written (one (codes "__entity") reference) ≡ codes "A::B::\"x\""
  pub a_call : written (one (codes "__extn") (two (codes "fn") (text (codes "ip")) (codes "arg") (text (codes "::1")))) ≡ codes "ip(\"::1\")"

-- ---- entities

abbrev pub listed : Members → Json
listed ms = array (item (object ms) no_items)

abbrev pub with_uid : Members → Members
with_uid ms = member (codes "uid") reference ms

abbrev pub body : List Uid → EntityBody
body parents = record { uid = entity; parents = set.from_list parents; attributes = []; tags = [] }

pub record EntityRows : Type 0 where
  pub none : entities_in (array no_items) ≡ Some []
  pub a_uid_is_enough : entities_in (listed (with_uid no_members)) ≡ Some (body [] ∷ [])
  pub parents : entities_in (listed (with_uid (member (codes "parents") (array (item (one (codes "__entity") reference) no_items)) no_members))) ≡ Some (body (entity ∷ []) ∷ [])
  pub no_uid_is_none : entities_in (listed (member (codes "attrs") (object no_members) no_members)) ≡ None
  pub another_key_is_none : entities_in (listed (with_uid (member (codes "atrs") (object no_members) no_members))) ≡ None
  pub a_key_twice_is_none : entities_in (listed (with_uid (with_uid no_members))) ≡ None
  pub a_string_is_no_uid : entities_in (listed (member (codes "uid") (text (codes "A::B::\"x\"")) no_members)) ≡ None
  pub attributes_are_an_object : entities_in (listed (with_uid (member (codes "attrs") (array no_items) no_members))) ≡ None

-- ---- questions

-- a question of this entity in each of its parts
abbrev pub asks : Members → Json
asks ms = object (member (codes "principal") reference (member (codes "action") (one (codes "__entity") reference) (member (codes "resource") reference ms)))

abbrev pub asked : Entries → Question
asked context = record { principal = Given entity; action = Given entity; resource = Given entity; context = context }

pub record QuestionRows : Type 0 where
  pub no_context_is_empty : question_in (asks no_members) ≡ Some (asked (WithEntries [] no_trees))
  pub a_context : question_in (asks (member (codes "context") (one (codes "a") (boolean true)) no_members)) ≡ Some (asked (WithEntries (codes "a" ∷ []) (a_tree (truth true) no_trees)))
  pub a_context_is_an_object : question_in (asks (member (codes "context") (boolean true) no_members)) ≡ None
  pub another_key_is_none : question_in (asks (member (codes "content") (object no_members) no_members)) ≡ None
  pub a_part_that_is_missing_is_none : question_in (two (codes "principal") reference (codes "resource") reference) ≡ None

pub record Rows : Type 0 where
  pub numbers : NumberRows
  pub values : ValueRows
  pub escapes : EscapeRows
  pub texts : TextRows
  pub entities : EntityRows
  pub questions : QuestionRows
