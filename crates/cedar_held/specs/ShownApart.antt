-- What differs in the world is shown by what differs.
use Rattle.std.specs.Prelude.{◌≡◌, true, false, cond, Option, None, Some, List, [], ◌∷◌, map, option_map, refl}
use Rattle.std.proofs.Common.{sym, ap, ◌∙◌}
use Rattle.std.specs.Ordering.{eq_by_cmp}
use Rattle.std.specs.FinMap as finite
use Rattle.either.specs.declared.Either.TheVariants.{Left}
use Rattle.cedar_language.specs.Uid.{Text}
use Rattle.cedar_language.specs.Value.{Value}
use Rattle.cedar_language.specs.Order.{text_cmp}
use Rattle.cedar_language.specs.OrderLaws.{text_cmp_total, text_cmp_same}
use Rattle.cedar_world.specs.Orders.{TextMap}
use Rattle.cedar_world.specs.World as world
use Rattle.cedar_entities.specs.Attributes.{Attribute}
use Rattle.cedar_entities.specs.Held.{Held}
use Rattle.cedar_held.specs.Shown.{as_attribute, as_attributes, as_held}

found_left : (q : Text) (es : List (Text × Value)) → finite.find text_cmp q (map as_attribute es) ≡ option_map Left (finite.find text_cmp q es)
found_left q [] = refl
found_left q (e ∷ es) = elim (eq_by_cmp text_cmp q e.0) as (λ b. cond b (Some (Left e.1)) (finite.find text_cmp q (map as_attribute es)) ≡ option_map Left (cond b (Some e.1) (finite.find text_cmp q es))) [ true ↦ refl | false ↦ found_left q es ]

pub attribute_at : (m : TextMap Value) (q : Text) → finite.get (as_attributes m) q ≡ option_map Left (finite.get m q)
attribute_at m q = finite.get-from_entries text_cmp_total (map as_attribute (finite.entries m)) q ∙ found_left q (finite.entries m) ∙ ap (option_map Left) (sym (finite.get-entries m q))

left_inj : (o p : Option Value) → ◌≡◌ {A = Option Attribute} (option_map Left o) (option_map Left p) → o ≡ p
left_inj None None h = refl
left_inj None (Some v) h = let never : ◌≡◌ {A = Option Attribute} None (Some (Left v)) = h in cc
left_inj (Some v) None h = let never : ◌≡◌ {A = Option Attribute} (Some (Left v)) None = h in cc
left_inj (Some v) (Some w) h = let is : ◌≡◌ {A = Option Attribute} (Some (Left v)) (Some (Left w)) = h in cc

pub attributes_inj : (m n : TextMap Value) → as_attributes m ≡ as_attributes n → m ≡ n
attributes_inj m n h = finite.same_map text_cmp_total text_cmp_same m n (λ q. left_inj (finite.get m q) (finite.get n q) (sym (attribute_at m q) ∙ ap (λ x. finite.get x q) h ∙ attribute_at n q))

pub held_inj : (h k : world.EntityData) → as_held h ≡ as_held k → h ≡ k
held_inj h k e =
    let attributes = attributes_inj h.attributes k.attributes (ap (λ (x : Held). x.attributes) e) in
    let tags = attributes_inj h.tags k.tags (ap (λ (x : Held). x.tags) e) in
    let parents = ap (λ (x : Held). x.parents) e in
    λ i. record { attributes = attributes i; tags = tags i; parents = parents i }

pub shown_inj : (o p : Option world.EntityData) → option_map as_held o ≡ option_map as_held p → o ≡ p
shown_inj None None h = refl
shown_inj None (Some v) h = let never : ◌≡◌ {A = Option Held} None (Some (as_held v)) = h in cc
shown_inj (Some v) None h = let never : ◌≡◌ {A = Option Held} (Some (as_held v)) None = h in cc
shown_inj (Some v) (Some w) h = ap Some (held_inj v w (some_inj (as_held v) (as_held w) h))
  where
    some_inj : (x y : Held) → ◌≡◌ {A = Option Held} (Some x) (Some y) → x ≡ y
    some_inj x y e = cc
