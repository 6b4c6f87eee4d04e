-- Laws of uids: their equality, order and hash agree, and each uid is written in its own way.
use Rattle.std.specs.Prelude.{◌≡◌, refl}
use Rattle.std.specs.Str.{IsUtf8}
use Rattle.std.specs.Ordering.{as_partial_cmp, eq_by_cmp}
use Rattle.std.specs.Cmp.{IsEquivalence, IsPartialEquivalence, IsPartialOrder, IsTotalOrder, partial_equiv_from_equiv, partial_order_from_agreeing_total, and_equiv, on_equiv, both_tied}
use Rattle.std.specs.Cmp.Lexicographic.{nat_list_eq_equiv, texts_ties, bytes_decides}
use Rattle.std.specs.Hash as fed
use Rattle.std.specs.Hash.{Alike, same_Alike, on_Alike, and-Alike}
use Rattle.std.proofs.lemmas.Cmp.{then_total, on_total}
use Rattle.cedar_language.specs.Uid.{Uid}
use Rattle.cedar_language.specs.Order.{uid_cmp, same_uid}
use Rattle.cedar_language.specs.OrderLaws.{text_cmp_total, name_cmp_total}
use Rattle.cedar_names.specs.Laws.{same_name_equiv, name_cmp_ties, name_hash_alike}
use Rattle.cedar_names.specs.Names.{IsName}
use Rattle.cedar_literals.specs.Uids.{uid_hash}
use Rattle.cedar_literals.specs.Escapes.{uid_text}

pub same_uid_equiv : IsEquivalence same_uid
same_uid_equiv = and_equiv (on_equiv (λ (u : Uid). u.type_name) same_name_equiv) (on_equiv (λ (u : Uid). u.id) nat_list_eq_equiv)

pub same_uid_partial_equiv : IsPartialEquivalence same_uid
same_uid_partial_equiv = partial_equiv_from_equiv same_uid_equiv

pub uid_cmp_total : IsTotalOrder uid_cmp
uid_cmp_total = then_total (on_total (λ (u : Uid). u.type_name) name_cmp_total) (on_total (λ (u : Uid). u.id) text_cmp_total)

pub uid_cmp_ties : (u v : Uid) → same_uid u v ≡ eq_by_cmp uid_cmp u v
uid_cmp_ties u v = both_tied _ _ _ _ (name_cmp_ties u.type_name v.type_name) (texts_ties u.id v.id)

pub uid_cmp_partial : IsPartialOrder same_uid (as_partial_cmp uid_cmp)
uid_cmp_partial = partial_order_from_agreeing_total uid_cmp uid_cmp_total (λ x y. refl) uid_cmp_ties

pub uid_hash_alike : Alike same_uid uid_hash
uid_hash_alike = and-Alike (on_Alike (λ (u : Uid). u.type_name) name_hash_alike) (on_Alike (λ (u : Uid). u.id) (same_Alike fed.str bytes_decides))

-- two uids are never written alike
abbrev pub UidsAreToldApart : Type 0
UidsAreToldApart = (u v : Uid) → IsName u.type_name → IsName v.type_name → IsUtf8 u.id → IsUtf8 v.id → uid_text u ≡ uid_text v → u ≡ v
