-- The facts of a store of values.
use Rattle.std.proofs.Common.{◌≡◌, IfSome, Option, None, Some, option_map, refl}
use Rattle.std.specs.Option.{option_map_or}
use Rattle.std.specs.FinMap as finite
use Rattle.std.specs.FinSet as set
use Rattle.either.specs.declared.Either.TheVariants.{Left, Right}
use Rattle.cedar_language.specs.Value.{Value}
use Rattle.cedar_language.specs.Facts as language
use Rattle.cedar_language.specs.Facts.{Facts}
use Rattle.cedar_entities.specs.Attributes.{Attribute, AttributeMap}
use Rattle.cedar_entities.specs.Data.{ancestors_of}
use Rattle.cedar_entities.specs.Held.{Held}
use Rattle.cedar_entities.specs.Store.{found_in, held_at}
use Rattle.cedar_entities.specs.declared.store.Entities.{Entities}
use Rattle.cedar_operators.specs.Store.{IsShown, AreAttributes}
use Rattle.cedar_operators.specs.StoreLaws.{AreValues, StoresHaveFacts}

abbrev value_at : Option Attribute → Option Value
value_at None = None
value_at (Some (Left v)) = Some v
value_at (Some (Right t)) = None

abbrev fact_of : Held → language.Held
fact_of h = record { attribute = λ name. value_at (finite.get h.attributes name); tag = λ name. value_at (finite.get h.tags name) }

value_kept : (o : Option Attribute) → IfSome o (λ a. (v : Value) × (a ≡ Left v)) → o ≡ option_map Left (value_at o)
value_kept None h = refl
value_kept (Some (Left v)) h = refl
value_kept (Some (Right t)) h = let e : Right t ≡ Left h.0 = h.1 in cc

all_kept : (m : AttributeMap) → AreValues m → AreAttributes m (λ name. value_at (finite.get m name))
all_kept m h name = value_kept (finite.get m name) (h name)

shown : (o : Option Held) → IfSome o (λ h. AreValues h.attributes × AreValues h.tags) → IsShown o (option_map fact_of o)
shown None h = tt
shown (Some held) h = (all_kept held.attributes h.0, all_kept held.tags h.1)

abbrev facts_of : Entities → Facts → Facts
facts_of store others = record {
  entity = λ uid. option_map fact_of (held_at store uid);
  reaches = λ a b. set.contains (option_map_or ancestors_of (found_in store a) set.empty) b;
  function = others.function;
}

pub stores_have_facts : StoresHaveFacts
stores_have_facts store others whole closed values =
    (facts_of store others, record { whole = whole; closed = closed; entities = λ uid. shown (held_at store uid) (values uid); reaches = λ a b. closed.ancestors a b }, refl)
