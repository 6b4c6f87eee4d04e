-- `==` of uids holds of the same ones alone, and so do ties in their order.
use Rattle.std.proofs.Common.{◌≡◌, refl, ap}
use Rattle.std.specs.FinMap.{IsAntisymmetric}
use Rattle.std.specs.Cmp.{first_so, second_so}
use Rattle.std.specs.Cmp.Lexicographic.{bytes_decides}
use Rattle.cedar_language.specs.Uid.{Uid}
use Rattle.cedar_language.specs.Order.{uid_cmp, same_uid}
use Rattle.cedar_names.specs.Laws.{TestsSame}
use Rattle.cedar_names.proofs.Sameness.{names_same}
use Rattle.cedar_literals.specs.Laws.{uid_cmp_ties}

uid_from : (u v : Uid) → u.type_name ≡ v.type_name → u.id ≡ v.id → u ≡ v
uid_from u v p q = λ i. record { type_name = p i; id = q i }

pub uids_same : TestsSame same_uid
uids_same u v = (
  λ h. uid_from u v ((names_same u.type_name v.type_name).0 (first_so _ _ h)) ((bytes_decides u.id v.id).0 (second_so _ _ h)),
  λ e.
      let p = (names_same u.type_name v.type_name).1 (ap (λ (w : Uid). w.type_name) e) in
      let q = (bytes_decides u.id v.id).1 (ap (λ (w : Uid). w.id) e) in
      rw (p, q) refl,
)

pub uid_cmp_same : IsAntisymmetric uid_cmp
uid_cmp_same u v e = (uids_same u v).0 (rw (uid_cmp_ties u v, e) refl)
