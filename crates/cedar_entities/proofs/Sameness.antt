-- What comparisons of maps say.
use Rattle.std.proofs.Common.{◌≡◌, ◌↔◌, Bool, true, false, ◌||◌, List, ◌∷◌, Option, None, Some, refl, sym, ap, subst, ◌∙◌, IsTrue, true≢false, is_some}
use Rattle.std.specs.Option.{MatchOption, IsSome, IsSomeAnd}
use Rattle.std.specs.BTreeMap.{BTreeMap, keys}
use Rattle.std.specs.Set.{is_member}
use Rattle.cedar_language.specs.Uid.{Uid}
use Rattle.cedar_language.specs.Order.{same_uid}
use Rattle.cedar_literals.specs.Laws.{same_uid_equiv}
use Rattle.cedar_entities.specs.Data.{EntityData, IsSameEntity}
use Rattle.cedar_entities.proofs.UidLemmas.{uid_is}
use Rattle.cedar_entities.proofs.Ordered.{keys_stand}
use Rattle.cedar_entities.specs.Kept.{Lookup, in_map, IsSameAt, HoldsAllOf, HoldsUidsOf}
use Rattle.std.proofs.lemmas.Bool.{or_right as or_more}

module _ (found others : Lookup) (uid : Uid) where
  none_there : (p : Option EntityData) → ¬ (IsSome p) → p ≡ None
  none_there None h = refl
  none_there (Some e) h = absurd (h refl)

  both : (o p : Option EntityData) → (IsSome o → MatchOption o (p ≡ None) (λ e. IsSomeAnd p (IsSameEntity e))) → (IsSome p → IsSome o) → MatchOption o (p ≡ None) (λ e. IsSomeAnd p (IsSameEntity e))
  both None p h k = none_there p (λ is. true≢false (sym (k is)))
  both (Some e) p h k = h refl

  back : (o p : Option EntityData) → MatchOption o (p ≡ None) (λ e. IsSomeAnd p (IsSameEntity e)) → IsSome p → IsSome o
  back None p h is = absurd (true≢false (sym is ∙ ap is_some h))
  back (Some e) p h is = refl

-- two stores are the same where the second holds all of the first, the same, and nothing elsewhere
pub same_both : (found others : Lookup) → HoldsAllOf found others → HoldsUidsOf found others → (uid : Uid) → IsSameAt found others uid
same_both found others h k uid = both found others uid (found uid) (others uid) (h uid) (k uid)

pub same_one : (found others : Lookup) → ((uid : Uid) → IsSameAt found others uid) → HoldsAllOf found others
same_one found others h uid is = h uid

pub same_uids : (found others : Lookup) → ((uid : Uid) → IsSameAt found others uid) → HoldsUidsOf found others
same_uids found others h uid is = back found others uid (found uid) (others uid) (h uid) is

-- ---- one after another

-- it holds at the uids that aren't left, where something stands, and something stands at those that are left
pub record IsUnderway (found : Lookup) (P : Uid → Type 0) (left : List Uid) : Type 0 where
  pub holds : (uid : Uid) → is_member same_uid left uid ≡ false → IsSome (found uid) → P uid
  pub here : (uid : Uid) → IsTrue (is_member same_uid left uid) → IsSome (found uid)

pub begins : (m : BTreeMap Uid EntityData) (P : Uid → Type 0) → IsUnderway (in_map m) P (keys m)
begins m P = record { holds = λ uid gone has. absurd (true≢false (sym has ∙ sym (keys_stand m uid) ∙ gone)); here = λ uid there. sym (keys_stand m uid) ∙ there }

module _ (found : Lookup) (P : Uid → Type 0) where
  module _ (left more : List Uid) (k : Uid) (underway : IsUnderway found P left) (step : left ≡ k ∷ more) where
    test : (uid : Uid) → is_member same_uid left uid ≡ (same_uid uid k || is_member same_uid more uid)
    test uid = ap (λ us. is_member same_uid us uid) step

    pub first_stands : IsSome (found k)
    first_stands = underway.here k (test k ∙ ap (λ b. b || is_member same_uid more k) (same_uid_equiv.refl k))

    pub goes_on : P k → IsUnderway found P more
    goes_on is = record {
      holds = λ uid gone has.
          elim (same_uid uid k) as (λ b. same_uid uid k ≡ b → P uid) [
            | true ↦ λ t. subst P (sym (uid_is uid k t)) is
            | false ↦ λ t. underway.holds uid (test uid ∙ ap (λ b. b || is_member same_uid more uid) t ∙ gone) has
          ] refl;
      here = λ uid left_there. underway.here uid (test uid ∙ or_more (same_uid uid k) (is_member same_uid more uid) left_there);
    }

-- ---- both ways

pub decides : (found others : Lookup) (r s : Bool) → IsTrue r → IsTrue r ↔ HoldsAllOf found others → IsTrue s ↔ HoldsUidsOf found others → IsTrue s ↔ ((uid : Uid) → IsSameAt found others uid)
decides found others r s is one other = (λ t. same_both found others (one.0 is) (other.0 t), λ same. other.1 (same_uids found others same))

pub refuses : (found others : Lookup) (r : Bool) → r ≡ false → IsTrue r ↔ HoldsAllOf found others → IsTrue r ↔ ((uid : Uid) → IsSameAt found others uid)
refuses found others r isnt one = (λ t. absurd (true≢false (sym t ∙ isnt)), λ same. one.1 (same_one found others same))
