-- What is shown of the world's entities.
use Rattle.std.proofs.Common.{◌≡◌, Option, None, Some, option_map, refl, sym, ap, ◌∙◌}
use Rattle.std.specs.FinMap as finite
use Rattle.std.specs.FinSet as set
use Rattle.cedar_language.specs.Facts.{Reaches, edge, further}
use Rattle.cedar_language.specs.Uid.{Uid}
use Rattle.cedar_language.specs.Order.{same_uid}
use Rattle.cedar_literals.specs.Laws.{uid_cmp_ties, same_uid_equiv}
use Rattle.cedar_world.specs.Orders.{uid_eq}
use Rattle.cedar_world.specs.World as world
use Rattle.cedar_entities.specs.Held as store
use Rattle.cedar_entities.specs.Held.{Held}
use Rattle.cedar_held.specs.Shown.{as_held, Shows}

-- the two tests of uids are one
pub uid_tests : (u v : Uid) → same_uid u v ≡ uid_eq v u
uid_tests u v = same_uid_equiv.symm u v ∙ uid_cmp_ties v u

-- ---- paths

same_parents : (o : Option world.EntityData) → store.parents_of (option_map as_held o) ≡ world.parents_of o
same_parents None = refl
same_parents (Some h) = refl

along : {K : Type 0} {P Q : K → K → Type 0} → ((a b : K) → P a b → Q a b) → {a b : K} → Reaches P a b → Reaches Q a b
along on (edge {a = a} {b = b} h) = edge (on a b h)
along on (further {a = a} {b = c} h r) = further (on a c h) (along on r)

module _ (held : Uid → Option Held) (entities : world.Entities) (shows : Shows held entities) where
  parents : (a b : Uid) → set.contains (store.parents_of (held a)) b ≡ set.contains (world.parents_at entities a) b
  parents a b = ap (λ s. set.contains s b) (ap store.parents_of (shows a) ∙ same_parents (finite.get entities a))

  -- the ancestors are the same
  pub to_world : (a b : Uid) → store.IsAncestor held a b → world.IsAncestor entities a b
  to_world a b r = along (λ x y h. sym (parents x y) ∙ h) r

  pub to_store : (a b : Uid) → world.IsAncestor entities a b → store.IsAncestor held a b
  to_store a b r = along (λ x y h. parents x y ∙ h) r
