-- A question with missing parts and unknown names, and what is settled and held of its leaves once values are told.
use Rattle.std.specs.Prelude.{◌≡◌, ◌≢◌, Bool, true, false, ◌&&◌, Option, Some, None, List, codes}
pub use Rattle.cedar_language.specs.Restricted.{is_restricted, are_restricted}
use Rattle.cedar_language.specs.Order.{text_cmp}
use Rattle.std.specs.FinMap.{FinMap}
use Rattle.std.specs.FinMap as finite
use Rattle.cedar_language.specs.Uid.{Text, Name, Uid}
use Rattle.cedar_language.specs.Tree.{Boolean, Entity, MakeSet, MakeRecord, Variable, Principal, Action, Resource, Context, Tree, Lit, Var, Slot, Unknown, Apply, Trees, no_trees, a_tree, ValueType, EntityType}
use Rattle.cedar_language.specs.Value.{Value, Plain, Kind, TypeError}
use Rattle.cedar_language.specs.Facts.{Facts}
use Rattle.cedar_language.specs.Meaning.{Slots, slot_outcome}
use Rattle.cedar_partial_evaluation.specs.Settling.{Settling, Open, Errs, Is, kindless, LeafSettlings, settled_in}
use Rattle.cedar_partial_evaluation.specs.MadeAgain.{tree_of, IsMadeAgain, HoldsMade}
use Rattle.cedar_partial_evaluation.specs.Partial.{Answer, Evaluated, ResidualTree, Failed, LeafAnswers, answer_of, is_projectable, found_tree, partial_in}
use Rattle.cedar_partial_evaluation.specs.Seam.{Carries}
use Rattle.cedar_partial_evaluation.specs.Unknowns.{fits}

-- a principal, an action or a resource: given, or missing, perhaps with its type stated
pub data Part : Type 0 where
  Given : Uid → Part
  Missing : Option Name → Part

-- a context as it was written: its keys, and trees of literals, unknown names, sets, records and calls
pub data Entries : Type 0 where
  NoContext : Entries
  WithEntries : List Text → Trees → Entries

pub record Question : Type 0 where
  pub principal : Part
  pub action : Part
  pub resource : Part
  pub context : Entries

-- the annotation of a missing part
abbrev pub entity_type : Option Name → Option ValueType
entity_type (Some ty) = Some (EntityType ty)
entity_type None = None

-- values of unknown names; what is missing is an unknown named as its variable
abbrev pub Told : Type 0
Told = FinMap text_cmp Value

-- a value of the stated type settles its name, and another one settles nothing
abbrev pub value_settled : Bool → Value → Settling
value_settled true v = Is v
value_settled false v = Open

-- a told value of another type than the one stated is a TypeError
abbrev pub value_held : Bool → Value → Answer
value_held true v = Evaluated v
value_held false v = Failed TypeError

abbrev pub name_settled : Option Value → Option ValueType → Settling
name_settled (Some v) ty = value_settled (fits ty v) v
name_settled None ty = Open

abbrev pub name_held : Option Value → Text → Option ValueType → Answer
name_held (Some v) n ty = value_held (fits ty v) v
name_held None n ty = ResidualTree (Unknown n ty)

abbrev pub is_untold : Option Value → Bool
is_untold None = true
is_untold (Some v) = false

-- the type that is stated of a missing part, while none is told for it
abbrev pub untold_type : Option Value → Option Name → Option Name
untold_type None ty = ty
untold_type (Some v) ty = None

abbrev pub part_type : Part → Option Value → Option Name
part_type (Given u) o = None
part_type (Missing ty) o = untold_type o ty

-- without variables and slots: for the written context
abbrev pub settled_names : Told → LeafSettlings
settled_names told = record {
  variable = λ v. Open;
  unknown = λ n ty. name_settled (finite.get told n) ty;
  slot = λ s. Open;
  in_context = λ a. Open;
  has_in_context = λ a. Open;
  variable_type = λ v. None;
  untold = λ n. false;
}

abbrev pub held_names : Told → LeafAnswers
held_names told = record {
  variable = λ v. ResidualTree (Var v);
  unknown = λ n ty. name_held (finite.get told n) n ty;
  slot = λ s. ResidualTree (Slot s);
}

abbrev pub is_simple_name : Facts → Option Value → Option ValueType → Bool
is_simple_name facts None ty = true
is_simple_name facts (Some v) ty = fits ty v && is_projectable (tree_of facts v)

-- literals, names and told values of these, sets and records alone
abbrev mutual
  pub is_simple : Facts → Told → Tree → Bool
  is_simple facts told (Lit l) = true
  is_simple facts told (Unknown n ty) = is_simple_name facts (finite.get told n) ty
  is_simple facts told (Apply MakeSet ts) = are_simple facts told ts
  is_simple facts told (Apply (MakeRecord ks) ts) = are_simple facts told ts
  is_simple facts told _ = false

  pub are_simple : Facts → Told → Trees → Bool
  are_simple facts told no_trees = true
  are_simple facts told (a_tree t ts) = is_simple facts told t && are_simple facts told ts

abbrev pub only_value : Settling → Settling
only_value (Is v) = Is v
only_value _ = Open

abbrev pub entry_settled : Facts → Told → Bool → Option Tree → Settling
entry_settled facts told simple None = Errs
entry_settled facts told true (Some t) = only_value (settled_in facts (settled_names told) t)
entry_settled facts told false (Some t) = Open

abbrev pub has_settled : Bool → Option Tree → Settling
has_settled true (Some t) = Is (Plain (Boolean true))
has_settled true None = Is (Plain (Boolean false))
has_settled false o = Open

-- `context.a`: an error where no entry is written, and in a simple context the value of an entry that is known
abbrev pub in_context : Facts → Told → Entries → Text → Settling
in_context facts told NoContext a = Open
in_context facts told (WithEntries ks ts) a = entry_settled facts told (are_simple facts told ts) (found_tree ks ts a)

abbrev pub has_in_context : Facts → Told → Entries → Text → Settling
has_in_context facts told NoContext a = Open
has_in_context facts told (WithEntries ks ts) a = has_settled (are_simple facts told ts) (found_tree ks ts a)

abbrev pub part_settled : Part → Option Value → Settling
part_settled (Given u) o = Is (Plain (Entity u))
part_settled (Missing ty) o = name_settled o (entity_type ty)

abbrev pub context_settled : Facts → Told → Entries → Settling
context_settled facts told NoContext = name_settled (finite.get told (codes "context")) None
context_settled facts told (WithEntries ks ts) = settled_in facts (settled_names told) (Apply (MakeRecord ks) ts)

abbrev pub variable_settled : Facts → Question → Told → Variable → Settling
variable_settled facts q told Principal = part_settled q.principal (finite.get told (codes "principal"))
variable_settled facts q told Action = part_settled q.action (finite.get told (codes "action"))
variable_settled facts q told Resource = part_settled q.resource (finite.get told (codes "resource"))
variable_settled facts q told Context = context_settled facts told q.context

abbrev pub variable_type : Question → Told → Variable → Option Name
variable_type q told Principal = part_type q.principal (finite.get told (codes "principal"))
variable_type q told Action = part_type q.action (finite.get told (codes "action"))
variable_type q told Resource = part_type q.resource (finite.get told (codes "resource"))
variable_type q told Context = None

-- what is settled of the question's leaves once these values are told
abbrev pub settled_of : Facts → Question → Slots → Told → LeafSettlings
settled_of facts q slots told = record {
  variable = variable_settled facts q told;
  unknown = λ n ty. name_settled (finite.get told n) ty;
  slot = λ s. kindless (slot_outcome (slots s));
  in_context = in_context facts told q.context;
  has_in_context = has_in_context facts told q.context;
  variable_type = variable_type q told;
  untold = λ n. is_untold (finite.get told n);
}

abbrev pub part_held : Part → Option Value → Text → Answer
part_held (Given u) o n = Evaluated (Plain (Entity u))
part_held (Missing ty) o n = name_held o n (entity_type ty)

abbrev pub context_held : Facts → Told → Entries → Answer
context_held facts told NoContext = name_held (finite.get told (codes "context")) (codes "context") None
context_held facts told (WithEntries ks ts) = partial_in facts (held_names told) (Apply (MakeRecord ks) ts)

abbrev pub variable_held : Facts → Question → Told → Variable → Answer
variable_held facts q told Principal = part_held q.principal (finite.get told (codes "principal")) (codes "principal")
variable_held facts q told Action = part_held q.action (finite.get told (codes "action")) (codes "action")
variable_held facts q told Resource = part_held q.resource (finite.get told (codes "resource")) (codes "resource")
variable_held facts q told Context = context_held facts told q.context

-- what is held of the question once these values are told
abbrev pub held_of : Facts → Question → Slots → Told → LeafAnswers
held_of facts q slots told = record {
  variable = variable_held facts q told;
  unknown = λ n ty. name_held (finite.get told n) n ty;
  slot = λ s. answer_of (slot_outcome (slots s));
}

-- the later values have the earlier ones among them
abbrev pub Extends : Told → Told → Type 0
Extends told later = (n : Text) (v : Value) → finite.get told n ≡ Some v → finite.get later n ≡ Some v

-- what is told is made again by trees for it
abbrev pub AreMadeTold : Facts → Told → Type 0
AreMadeTold facts told = (n : Text) (v : Value) → finite.get told n ≡ Some v → IsMadeAgain facts v

-- the context as written, for which an evaluation was taken up: none of its parts errs
pub record IsAccepted (facts : Facts) (told : Told) (context : Entries) : Type 0 where
  pub settled : context_settled facts told context ≢ Errs
  pub held : (k : Kind) → context_held facts told context ≢ Failed k

-- telling more carries on what is settled
abbrev pub TellingCarries : Type 0
TellingCarries =
    (facts : Facts) → HoldsMade facts → (q : Question) (slots : Slots) (told later : Told) → Extends told later → AreMadeTold facts told →
    IsAccepted facts told q.context → IsAccepted facts later q.context →
    Carries facts (settled_of facts q slots later) (held_of facts q slots told)
