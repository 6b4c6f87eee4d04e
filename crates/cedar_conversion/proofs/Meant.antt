-- What a refusal is answered as, once the same tree was converted again.
use Rattle.std.proofs.Common.{◌≡◌, Option, Some, Result, Ok, Err, refl, sym, subst}
use Rattle.std.specs.Prelude.{IsSome}
use Rattle.cedar_faults.specs.declared.errors.ConversionError.{ConversionError}
use Rattle.cedar_faults.specs.Reasons.{Reason, means_nothing, refused, out_of_memory, reason}
use Rattle.cedar_faults.specs.Converts.{Misses, Converts}
use Rattle.cedar_conversion.specs.Meanings.{IsMeant, Weighs, WeighsNot}

-- where something was given, any reason may stand
where_some : {B W : Type 0} (r : Reason B) (want : Option W) (x : W) → want ≡ Some x → IsMeant r want
where_some means_nothing want x is = tt
where_some (refused b) want x is = subst (λ v. IsSome v) (sym is) refl
where_some out_of_memory want x is = tt

module _ {T B F R S W : Type 0} (stands : T → W → Type 0) (p q : W → Type 0) (refusal : B → Option R) (other : F → Option S) (want : Option W) where
  not_given : (r : Reason B) (t : Reason F) → WeighsNot t r → Misses q other t want → Misses p refusal r want
  not_given r means_nothing is none = subst (λ s. Misses p refusal s want) (sym is) none
  not_given r (refused b) is h = subst (λ s. Misses p refusal s want) (sym is) tt
  not_given r out_of_memory is h = subst (λ s. Misses p refusal s want) (sym is) tt

  never_refused : (r : Reason B) (t : Reason F) → WeighsNot t r → IsMeant r want
  never_refused r means_nothing is = subst (λ s. IsMeant s want) (sym is) tt
  never_refused r (refused b) is = subst (λ s. IsMeant s want) (sym is) tt
  never_refused r out_of_memory is = subst (λ s. IsMeant s want) (sym is) tt

  pub weighed_misses : (r s : Reason B) (again : Result T (ConversionError F)) → Weighs r again s → Misses p refusal r want → Converts stands q other again want → Misses p refusal s want
  weighed_misses r s (Ok x) is misses given = subst (λ t. Misses p refusal t want) (sym is) misses
  weighed_misses r s (Err e) is misses none = not_given s (reason e) is none

  pub weighed_meant : (r s : Reason B) (again : Result T (ConversionError F)) → Weighs r again s → Converts stands q other again want → IsMeant s want
  weighed_meant r s (Ok x) is given = where_some s want given.value given.is
  weighed_meant r s (Err e) is none = never_refused s (reason e) is
