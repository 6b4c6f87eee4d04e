-- A store that has facts knows what stands at each attribute and each tag of an entity that it holds.
use Rattle.std.proofs.Common.{◌≡◌, ap, sym, subst, false, Bor}
use Rattle.std.specs.Prelude.{Option, Some, None, IfSome}
use Rattle.std.specs.Option.{option_map}
use Rattle.std.specs.FinMap as finite
use Rattle.either.specs.declared.Either.{Either}
use Rattle.either.specs.declared.Either.TheVariants.{Left}
use Rattle.cedar_language.specs.Uid.{Text, Uid}
use Rattle.cedar_language.specs.Tree.{Tree}
use Rattle.cedar_language.specs.Value.{Value}
use Rattle.cedar_language.specs.Facts.{Facts}
use Rattle.cedar_entities.specs.Attributes.{AttributeMap}
use Rattle.cedar_entities.specs.Data.{EntityData}
use Rattle.cedar_entities.specs.Held.{held_of}
use Rattle.cedar_entities.specs.Store.{IsHeld}
use Rattle.cedar_entities.specs.declared.store.Entities.{Entities}
use Rattle.cedar_operators.specs.Store.{HasFacts, AreAttributes}
use Rattle.cedar_operators.proofs.ByStore.{held_known}
use Rattle.cedar_restricted.specs.PartialValues.{partial_of}
use Rattle.cedar_restricted.specs.Splitting.{is_residual}
use Rattle.cedar_restricted.specs.declared.partial_values.PartialValue.{PartialValue}

is_value : (v : Option Value) (x : Either Value Tree) → Some x ≡ option_map Left v → is_residual x ≡ false
is_value (Some v) x e = let same : x ≡ Left v = cc in ap is_residual same
is_value None x e = cc

-- what is lent of such a map, if something stands there
lent : (m : AttributeMap) (attribute : Text → Option Value) → AreAttributes m attribute → (a : Text) (part : Option (Bor PartialValue)) → option_map (λ v. partial_of v.now) part ≡ finite.get m a →
    IfSome part (λ p. is_residual (partial_of p.now) ≡ false)
lent m attribute are a None found = tt
lent m attribute are a (Some p) found = is_value (attribute a) (partial_of p.now) (subst (λ o. o ≡ option_map Left (attribute a)) (sym found) (are a))

module _ (store : Entities) (uid : Uid) (e : EntityData) (held : IsHeld store uid e) (facts : Facts) (has : HasFacts store facts) (a : Text) (part : Option (Bor PartialValue)) where
  pub attribute_known : option_map (λ v. partial_of v.now) part ≡ finite.get e.attributes a → IfSome part (λ p. is_residual (partial_of p.now) ≡ false)
  attribute_known = let known = held_known store facts has uid (held_of e) held.0 in lent e.attributes known.shown.attribute known.attributes a part

  pub tag_known : option_map (λ v. partial_of v.now) part ≡ finite.get e.tags a → IfSome part (λ p. is_residual (partial_of p.now) ≡ false)
  tag_known = let known = held_known store facts has uid (held_of e) held.0 in lent e.tags known.shown.tag known.tags a part
