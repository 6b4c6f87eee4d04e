-- Values as trees, and the values that such trees make again.
use Rattle.std.specs.Prelude.{◌≡◌, ℕ, pos, List, [], ◌∷◌, Some}
use Rattle.cedar_language.specs.Uid.{Text, Name, Uid}
use Rattle.cedar_language.specs.Tree.{Boolean, Long, Entity, MakeSet, MakeRecord, Tree, Lit, Apply, Trees, no_trees, a_tree}
use Rattle.cedar_language.specs.Value.{Extension, Value, Plain, SetOf, RecordOf, ExtensionOf, Values, no_values, a_value, Gives}
use Rattle.cedar_language.specs.Order.{IsRising}
use Rattle.cedar_language.specs.Facts.{Held, Function, Facts}
use Rattle.cedar_language.specs.Constructing.{the_constructor, construction}
use Rattle.cedar_language.specs.Operators.{called}

-- a tree for a value: a set or a record is built again, an extension value is constructed again
abbrev mutual
  pub tree_of : Facts → Value → Tree
  tree_of facts (Plain l) = Lit l
  tree_of facts (SetOf vs) = Apply MakeSet (trees_of facts vs)
  tree_of facts (RecordOf ks vs) = Apply (MakeRecord ks) (trees_of facts vs)
  tree_of facts (ExtensionOf e) = construction e

  pub trees_of : Facts → Values → Trees
  trees_of facts no_values = no_trees
  trees_of facts (a_value v vs) = a_tree (tree_of facts v) (trees_of facts vs)

-- what the constructor of an extension value is given
abbrev pub long_values : List ℕ → Values
long_values [] = no_values
long_values (b ∷ bs) = a_value (Plain (Long (pos b))) (long_values bs)

abbrev pub parts_of : Extension → Values
parts_of e = a_value (Plain (Entity (record { type_name = e.type_name; id = [] }))) (a_value (Plain (Boolean e.ordered)) (long_values e.key))

-- its sets rise, and the constructor gives its extension values
abbrev mutual
  pub IsMadeAgain : Facts → Value → Type 0
  IsMadeAgain facts (Plain l) = Unit {0}
  IsMadeAgain facts (SetOf vs) = IsRising vs × AreMadeAgain facts vs
  IsMadeAgain facts (RecordOf ks vs) = AreMadeAgain facts vs
  IsMadeAgain facts (ExtensionOf e) = called (facts.function the_constructor) (parts_of e) ≡ Gives (ExtensionOf e)

  pub AreMadeAgain : Facts → Values → Type 0
  AreMadeAgain facts no_values = Unit {0}
  AreMadeAgain facts (a_value v vs) = IsMadeAgain facts v × AreMadeAgain facts vs

-- all that entities hold is made again, and what functions answer where their arguments are
pub record HoldsMade (facts : Facts) : Type 0 where
  pub attribute : (u : Uid) (h : Held) (a : Text) (v : Value) → facts.entity u ≡ Some h → h.attribute a ≡ Some v → IsMadeAgain facts v
  pub tag : (u : Uid) (h : Held) (a : Text) (v : Value) → facts.entity u ≡ Some h → h.tag a ≡ Some v → IsMadeAgain facts v
  pub answer : (n : Name) (f : Function) (vs : Values) (v : Value) → facts.function n ≡ Some f → AreMadeAgain facts vs → f.answer vs ≡ Some v → IsMadeAgain facts v
