-- Trees as expressions have them: a record's keys rise, and are as many as what stands beside them.
use Rattle.std.specs.Prelude.{◌≡◌, List, [], ◌∷◌, length, Option, None, Result, Ok, Err}
use Rattle.std.specs.List.Sorted.{IsStrictlySortedBy}
use Rattle.cedar_language.specs.Uid.{Text, Name}
use Rattle.cedar_language.specs.Order.{text_cmp}
use Rattle.cedar_language.specs.Tree as tree
use Rattle.cedar_language.specs.Tree.{ValueType, Operator, Tree, Trees}
use Rattle.cedar_language.specs.WellFormed.{tree_count}
use Rattle.cedar_builders.specs.Operations.{Operations}

-- the keys that an operator names, before its operands; other operators than a record's name none
abbrev pub KeysRise : Operator → Trees → Type 0
KeysRise (tree.MakeRecord ks) ts = IsStrictlySortedBy text_cmp ks × (length ks ≡ tree_count ts)
KeysRise op ts = Unit {0}

-- the keys of every record rise, and P holds of every unknown
module _ (P : Text → Option ValueType → Type 0) where
  abbrev mutual
    pub RiseWhere : Tree → Type 0
    RiseWhere (tree.Lit l) = Unit {0}
    RiseWhere (tree.Var v) = Unit {0}
    RiseWhere (tree.Slot s) = Unit {0}
    RiseWhere (tree.Unknown n ty) = P n ty
    RiseWhere (tree.If a b c) = RiseWhere a × RiseWhere b × RiseWhere c
    RiseWhere (tree.And a b) = RiseWhere a × RiseWhere b
    RiseWhere (tree.Or a b) = RiseWhere a × RiseWhere b
    RiseWhere (tree.Apply op ts) = KeysRise op ts × AllRiseWhere ts

    pub AllRiseWhere : Trees → Type 0
    AllRiseWhere tree.no_trees = Unit {0}
    AllRiseWhere (tree.a_tree t ts) = RiseWhere t × AllRiseWhere ts

  -- the parts after the first one, along which a chain goes down
  abbrev pub RestRises : Tree → Type 0
  RestRises (tree.Lit l) = Unit {0}
  RestRises (tree.Var v) = Unit {0}
  RestRises (tree.Slot s) = Unit {0}
  RestRises (tree.Unknown n ty) = Unit {0}
  RestRises (tree.If a b c) = RiseWhere b × RiseWhere c
  RestRises (tree.And a b) = RiseWhere b
  RestRises (tree.Or a b) = RiseWhere b
  RestRises (tree.Apply op tree.no_trees) = Unit {0}
  RestRises (tree.Apply op (tree.a_tree t ts)) = KeysRise op (tree.a_tree t ts) × AllRiseWhere ts

  abbrev pub RestsRise : List Tree → Type 0
  RestsRise [] = Unit {0}
  RestsRise (t ∷ ts) = RestRises t × RestsRise ts

-- the keys of every record of a tree rise
abbrev pub RecordsRise : Tree → Type 0
RecordsRise t = RiseWhere (λ n ty. Unit {0}) t

-- those of a tree, and of each tree that is told for one of its unknowns
abbrev pub RecordsRiseWith : (Text → Option ValueType → Tree) → Tree → Type 0
RecordsRiseWith told t = RiseWhere (λ n ty. RecordsRise (told n ty)) t

abbrev pub AllRiseWith : (Text → Option ValueType → Tree) → Trees → Type 0
AllRiseWith told ts = AllRiseWhere (λ n ty. RecordsRise (told n ty)) ts

abbrev pub RestRisesWith : (Text → Option ValueType → Tree) → Tree → Type 0
RestRisesWith told t = RestRises (λ n ty. RecordsRise (told n ty)) t

abbrev pub RestsRiseWith : (Text → Option ValueType → Tree) → List Tree → Type 0
RestsRiseWith told ts = RestsRise (λ n ty. RecordsRise (told n ty)) ts

-- no call is refused
abbrev pub CallsAreTaken : {M R : Type 0} → Operations M R → Type 0
CallsAreTaken {M} o = (f : Name) (xs : List M) → (m : M) × (o.call f xs ≡ Ok m)

-- what is built again has records whose keys rise; where no call is refused, nothing but want of memory refuses it
abbrev pub BuildsRising : {E B M R : Type 0} → Operations M R → (B → Option R) → Type 0 → Result E B → Type 0
BuildsRising o refusal rises (Ok e) = rises
BuildsRising o refusal rises (Err b) = CallsAreTaken o → refusal b ≡ None
