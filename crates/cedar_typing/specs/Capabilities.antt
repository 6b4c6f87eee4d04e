-- Capabilities: what a test that came out true lets a policy read.
use Rattle.std.specs.Prelude.{◌≡◌, Bool, true, false, ◌&&◌, ◌||◌, cond, List, [], ◌∷◌}
use Rattle.cedar_language.specs.Uid.{Text}
use Rattle.cedar_language.specs.Tree.{Boolean, HasAttr, HasTag, Tree, Apply, no_trees, a_tree}
use Rattle.cedar_language.specs.Value.{Plain, Gives}
use Rattle.cedar_language.specs.Facts.{Facts}
use Rattle.cedar_language.specs.Meaning.{Request, meaning}
use Rattle.cedar_language.specs.Order.{same_text}
use Rattle.cedar_typing.specs.Sameness.{same_tree}

-- an expression has an attribute, or it has a tag by this key
pub data Capability : Type 0 where
  an_attribute : Tree → Text → Capability
  a_tag : Tree → Tree → Capability

abbrev pub Capabilities : Type 0
Capabilities = List Capability

abbrev pub same_capability : Capability → Capability → Bool
same_capability (an_attribute t a) (an_attribute u b) = same_tree t u && same_text a b
same_capability (a_tag t k) (a_tag u l) = same_tree t u && same_tree k l
same_capability c d = false

abbrev pub is_among : Capability → Capabilities → Bool
is_among c [] = false
is_among c (d ∷ ds) = same_capability d c || is_among c ds

-- those of the first that are among the second
abbrev pub in_both : Capabilities → Capabilities → Capabilities
in_both [] ds = []
in_both (c ∷ cs) ds = cond (is_among c ds) (c ∷ in_both cs ds) (in_both cs ds)

-- the test of a capability
abbrev pub guard : Capability → Tree
guard (an_attribute t a) = Apply (HasAttr a) (a_tree t no_trees)
guard (a_tag t k) = Apply HasTag (a_tree t (a_tree k no_trees))

-- ---- what they mean: each test is true

abbrev pub Holds : Facts → Request → Capability → Type 0
Holds facts request c = meaning facts request (guard c) ≡ Gives (Plain (Boolean true))

abbrev pub AllHold : Facts → Request → Capabilities → Type 0
AllHold facts request [] = Unit {0}
AllHold facts request (c ∷ cs) = Holds facts request c × AllHold facts request cs
