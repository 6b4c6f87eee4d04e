-- Orders by heads: each value as its head, compared as heads are.
use Rattle.std.proofs.Common.{◌≡◌, true, refl, ap, sym, ◌∙◌}
use Rattle.std.specs.declared.cmp.Ordering.{Ordering}
use Rattle.std.specs.declared.cmp.Ordering.TheVariants.{Less, Equal, Greater}
use Rattle.std.specs.Ordering.{is_eq, on, eq_by_cmp}
use Rattle.std.specs.Bool.{Decides}
use Rattle.std.specs.Cmp.{IsTotalOrder}
use Rattle.std.specs.FinMap.{IsAntisymmetric}
use Rattle.std.proofs.lemmas.Cmp.{tied_itself}
use Rattle.cedar_language.specs.Order.{Head, head_cmp}
pub use Rattle.cedar_language.specs.OrderLaws.{head_cmp_total, head_cmp_same}

tied : (o : Ordering) → is_eq o ≡ true → o ≡ Equal
tied Less h = absurd (cc)
tied Equal h = refl
tied Greater h = absurd (cc)

-- an order that ties equal values alone decides equality
pub order_decides : {K : Type 0} {R : K → K → Ordering} → IsTotalOrder R → IsAntisymmetric R → (x y : K) → Decides (eq_by_cmp R x y) (x ≡ y)
order_decides {K} {R} o a x y = (λ h. a x y (tied (R x y) h), λ e. rw (← e, tied_itself o x) refl)

-- values that a function gives back from their heads are as many as their heads
pub by_head_same : {K : Type 0} (f : K → Head) (back : Head → K) → ((x : K) → back (f x) ≡ x) → IsAntisymmetric (on f head_cmp)
by_head_same f back h x y e = sym (h x) ∙ ap back (head_cmp_same (f x) (f y) e) ∙ h y
