-- What the expressions of an entity's attributes and tags give.
use Rattle.std.specs.Prelude.{◌≡◌, ◌≤◌, ⊤, ℕ, None, MatchOption, List, [], ◌∷◌}
use Rattle.std.specs.Option.{IsSomeAnd}
use Rattle.std.specs.FinMap as finite
use Rattle.std.specs.List.{AllByRecursion}
use Rattle.cedar_language.specs.Uid.{Text, Uid}
use Rattle.cedar_language.specs.Tree.{Tree}
use Rattle.cedar_language.specs.Facts.{Facts}
use Rattle.cedar_language.specs.Height.{height}
use Rattle.cedar_language.specs.Meaning.{Request, meaning}
use Rattle.cedar_language.specs.Order.{text_cmp}
use Rattle.cedar_grammar.specs.Build.{Keyed}
use Rattle.cedar_extensions.specs.Table.{Table}
use Rattle.cedar_restricted_evaluation.specs.Evaluations.{HasFunctions, IsKnown, IsMeant, IsLeft, answer_in, part_answer}
use Rattle.cedar_restricted_evaluation.specs.Built.{IsBuiltPart}
use Rattle.cedar_entities.specs.Attributes.{Attribute, AttributeMap}
use Rattle.cedar_entities.specs.Data.{UidSet, EntityData}

-- expressions by their names
abbrev pub Expressions : Type 0
Expressions = List (Keyed Tree)

-- What a tree gives: where nothing in it is unknown, its meaning; and always what partial evaluation answers. A value is one
-- that its tree makes again.
pub record IsGiven (table : Table) (t : Tree) (a : Attribute) : Type 0 where
  pub meant : IsKnown table t → (facts : Facts) → HasFunctions table facts → (request : Request) → IsMeant (meaning facts request t) a
  pub answer : (facts : Facts) → HasFunctions table facts → answer_in table facts t ≡ part_answer a
  pub left : IsLeft a
  pub built : IsBuiltPart a

-- each in turn is what the expression of its name gives
abbrev pub AreGiven : Table → Expressions → List (Text × Attribute) → Type 0
AreGiven table [] [] = ⊤
AreGiven table (e ∷ es) (a ∷ gs) = (a.0 ≡ e.0) × IsGiven table e.1 a.1 × AreGiven table es gs
AreGiven table es gs = ⊥

-- none of them nests deeper than this
abbrev pub AreWithin : ℕ → Expressions → Type 0
AreWithin depth es = AllByRecursion (λ e. height e.1 ≤ depth) es

-- each name has what its expression gives, and no other name has anything
abbrev pub HoldsWhatIsGiven : Table → Expressions → AttributeMap → Type 0
HoldsWhatIsGiven table es held =
    (name : Text) → MatchOption (finite.find text_cmp name es) (finite.get held name ≡ None) (λ t. IsSomeAnd (finite.get held name) (IsGiven table t))

-- the entity of these parts
pub record IsEvaluated (table : Table) (uid : Uid) (attributes tags : Expressions) (parents indirect : UidSet) (e : EntityData) : Type 0 where
  pub is_of : e.uid ≡ uid
  pub has_attributes : HoldsWhatIsGiven table attributes e.attributes
  pub has_tags : HoldsWhatIsGiven table tags e.tags
  pub has_parents : e.parents ≡ parents
  pub has_indirect : e.indirect ≡ indirect
