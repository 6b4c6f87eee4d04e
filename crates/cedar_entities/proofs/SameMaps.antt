-- Attributes that are the same.
use Rattle.std.proofs.Common.{◌≡◌, Bool, IsTrue, ◌↔◌, ap, sym, subst, ◌∙◌, ℕ, nat_eq, length, eqb→eq}
use lib.Dec.{T}
use Rattle.std.specs.List.Sorted.{IsStrictlySortedBy}
use Rattle.std.specs.Map.{keys_of}
use Rattle.cedar_language.specs.Value.{Value}
use Rattle.cedar_language.specs.Order.{same}
use Rattle.cedar_language.specs.OrderLaws.{same_is, is_same}
use Rattle.either.specs.declared.Either.TheVariants.{Left}
use Rattle.cedar_entities.specs.Attributes.{Attribute, Entries, seen_entries, attributes_of}
use Rattle.cedar_entities.proofs.Entries.{name_cmp, same_maps, same_lengths}

left_inj : (x y : Value) → ◌≡◌ {A = Attribute} (Left x) (Left y) → x ≡ y
left_inj x y e = cc

-- values are the same attribute where they are equal
pub same_values : (x y : Value) (r : Bool) → r ≡ same x y → IsTrue r ↔ (◌≡◌ {A = Attribute} (Left y) (Left x))
same_values x y r e = (λ h. ap Left (sym (same_is x y (sym e ∙ h))), λ h. e ∙ is_same x y (sym (left_inj y x h)))

-- what a comparison of entries says of maps
pub same_from_entries : (es fs : Entries) → IsStrictlySortedBy name_cmp (keys_of es) → IsStrictlySortedBy name_cmp (keys_of fs) → (r : Bool) → IsTrue r ↔ (seen_entries fs ≡ seen_entries es) → IsTrue r ↔ (attributes_of fs ≡ attributes_of es)
same_from_entries es fs h k r is = let maps = same_maps es fs h k in (λ t. maps.0 (is.0 t), λ e. is.1 (maps.1 e))

-- maps of other lengths differ
pub other_lengths : (es fs : Entries) → IsStrictlySortedBy name_cmp (keys_of es) → IsStrictlySortedBy name_cmp (keys_of fs) → (m n : ℕ) → m ≡ length es → n ≡ length fs → (m ≡ n → ⊥) → IsTrue (nat_eq m n) ↔ (attributes_of fs ≡ attributes_of es)
other_lengths es fs h k m n p q differ =
    (λ t. absurd (differ (eqb→eq m n (subst T (sym t) tt))), λ e. absurd (differ (p ∙ sym (same_lengths es fs ((same_maps es fs h k).1 e)) ∙ sym q)))
