-- What bodies say: the entries of a record, the items of a list, and the values that data means.
use Rattle.std.specs.Prelude.{Bool, false, ◌||◌, Option, Some, None, List, [], ◌∷◌, if◌then◌else◌}
use Rattle.cedar_language.specs.Uid.{Text, Uid}
use Rattle.cedar_language.specs.Tree.{Entity, MakeSet, MakeRecord, Tree, Lit, Apply, Trees, no_trees, a_tree}
use Rattle.cedar_language.specs.Value.{Value, RecordOf, no_values, NonValue, Outcome, Gives, Fails}
use Rattle.cedar_language.specs.Facts.{Facts}
use Rattle.cedar_language.specs.Meaning.{Request, meaning}
use Rattle.cedar_grammar.specs.Functions.{Functions, evaluated_function}
use Rattle.cedar_grammar.specs.UnknownCalls.{named}
use Rattle.cedar_world.specs.Orders.{text_eq, uid_eq}

-- what a record has under a key
abbrev pub entry : Text → List Text → Trees → Option Tree
entry key (k ∷ ks) (a_tree t ts) = if text_eq key k then Some t else entry key ks ts
entry key (k ∷ ks) no_trees = None
entry key [] ts = None

abbrev pub field : Text → Tree → Option Tree
field key (Apply (MakeRecord ks) ts) = entry key ks ts
field key _ = None

-- the items of a list, and none where none stands there
abbrev pub items : Option Tree → Trees
items (Some (Apply MakeSet ts)) = ts
items _ = no_trees

-- the entity that is written there, if one is
abbrev pub entity_in : Option Tree → Option Uid
entity_in (Some (Lit (Entity uid))) = Some uid
entity_in _ = None

-- whether this entity is one of the items
abbrev pub lists : Trees → Uid → Bool
lists no_trees uid = false
lists (a_tree (Lit (Entity other)) ts) uid = uid_eq uid other || lists ts uid
lists (a_tree _ ts) uid = lists ts uid

-- ---- the values of data

-- functions alone: no entity is held
abbrev pub no_entities : Functions → Facts
no_entities functions = record {
  entity = λ uid. None;
  reaches = λ a b. false;
  function = evaluated_function functions;
}

-- data reads no variable, no unknown and no slot
abbrev pub no_question : Request
no_question = record {
  variable = λ v. RecordOf [] no_values;
  unknown = λ n type. Fails NonValue;
  slots = λ s. None;
}

abbrev pub given : Outcome → Option Value
given (Gives v) = Some v
given (Fails k) = None

-- the value that is written there; data with a call of `unknown` has none
abbrev pub value_in : Functions → Option Tree → Option Value
value_in functions (Some t) = given (meaning (no_entities functions) no_question (named t))
value_in functions None = None

-- the value that the record which is written there has under a name
abbrev pub value_under : Functions → Option Tree → Text → Option Value
value_under functions (Some t) name = value_in functions (field name t)
value_under functions None name = None
