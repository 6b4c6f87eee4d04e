-- Where ids stand in an order.
use Rattle.std.specs.Prelude.{◌≡◌, List, [], ◌∷◌, Option, IfSome, length, option_map, position, if◌then◌else◌}
use Rattle.std.specs.BTreeMap.{get}
use Rattle.std.specs.List.{IsDistinct}
use Rattle.cedar_language.specs.Uid.{Text}
use Rattle.cedar_language.specs.Order.{same_text, text_cmp}
use Rattle.cedar_policy_set.specs.ClosedPlaces.{position_of}
use Rattle.cedar_policy_set.specs.declared.places.Places.{Places}

-- no id stands twice, and the place that is held at each tells where it stands
pub record Tells (places : Places) (ids : List Text) : Type 0 where
  pub distinct : IsDistinct same_text ids
  pub as_many : places.len ≡ length ids
  pub held : (id : Text) → option_map (position_of places.gaps.taken.items) (get text_cmp places.of_ids id) ≡ position (same_text id) ids

-- no id stands twice, and where there are places, they tell of the ids
pub record AreKept (places : Option Places) (ids : List Text) : Type 0 where
  pub distinct : IsDistinct same_text ids
  pub told : IfSome places (λ p. Tells p ids)

-- the entries with this at an id: in the place of what stands there, or last
abbrev pub put : {V : Type 0} → List (Text × V) → Text → V → List (Text × V)
put [] id v = (id, v) ∷ []
put (e ∷ es) id v = if same_text id e.0 then (e.0, v) ∷ es else e ∷ put es id v
