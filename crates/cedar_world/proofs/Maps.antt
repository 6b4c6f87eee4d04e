-- What maps by texts hold after an edit.
use Rattle.std.proofs.Common.{◌≡◌, ◌⊎◌, inl, inr, Bool, true, false, cond, Some, None, refl, sym, ◌∙◌, ap, true≢false}
use Rattle.std.specs.Ordering.{eq_by_cmp, is_eq}
use Rattle.std.specs.Cmp.{IsTotalOrder, Equal-is, tied_itself}
use Rattle.std.specs.Cmp.Lexicographic.{nat_list_cmp_total}
use Rattle.std.specs.FinMap as map
use Rattle.std.specs.FinMap.{IsAntisymmetric, nat_cmp-IsAntisymmetric, slice_cmp-IsAntisymmetric}
use Rattle.cedar_language.specs.Uid.{Text}
use Rattle.cedar_world.specs.Orders.{text_cmp, TextMap}

pub text_total : IsTotalOrder text_cmp
text_total = nat_list_cmp_total

pub text_same : IsAntisymmetric text_cmp
text_same = slice_cmp-IsAntisymmetric nat_cmp-IsAntisymmetric

pub itself : (k : Text) → eq_by_cmp text_cmp k k ≡ true
itself k = ap is_eq (tied_itself text_total k)

pub same_or_not : (q k : Text) → (q ≡ k) ⊎ (q ≡ k → ⊥)
same_or_not q k = by_tie (eq_by_cmp text_cmp q k) refl
  where
    by_tie : (b : Bool) → eq_by_cmp text_cmp q k ≡ b → (q ≡ k) ⊎ (q ≡ k → ⊥)
    by_tie true tie = inl (text_same q k ((Equal-is (text_cmp q k)).0 tie))
    by_tie false tie = inr (λ e. true≢false (sym (itself k) ∙ ap (λ x. eq_by_cmp text_cmp x k) (sym e) ∙ tie))

untied : (q k : Text) → (q ≡ k → ⊥) → (b : Bool) → eq_by_cmp text_cmp q k ≡ b → b ≡ false
untied q k differ true tie = absurd (differ (text_same q k ((Equal-is (text_cmp q k)).0 tie)))
untied q k differ false tie = refl

module _ {X : Type 0} (m : TextMap X) (k : Text) where
  pub put_there : (v : X) → map.get (map.insert m k v) k ≡ Some v
  put_there v = map.get-insert text_total m k v k ∙ ap (λ b. cond b (Some v) (map.get m k)) (itself k)

  pub put_elsewhere : (v : X) (q : Text) → (q ≡ k → ⊥) → map.get (map.insert m k v) q ≡ map.get m q
  put_elsewhere v q differ = map.get-insert text_total m k v q ∙ ap (λ b. cond b (Some v) (map.get m q)) (untied q k differ (eq_by_cmp text_cmp q k) refl)

  pub gone_there : map.get (map.remove m k) k ≡ None
  gone_there = map.get-remove text_total m k k ∙ ap (λ b. cond b None (map.get m k)) (itself k)

  pub gone_elsewhere : (q : Text) → (q ≡ k → ⊥) → map.get (map.remove m k) q ≡ map.get m q
  gone_elsewhere q differ = map.get-remove text_total m k q ∙ ap (λ b. cond b None (map.get m q)) (untied q k differ (eq_by_cmp text_cmp q k) refl)
