-- Extension values: their equality and order, which are the language's, and what they feed a hasher.
use Rattle.std.proofs.Common.{◌≡◌, ◌++◌, Bool, ap}
use Rattle.std.specs.declared.cmp.Ordering.{Ordering}
use Rattle.std.specs.Cmp.{IsTotalOrder, IsPartialOrder, IsPartialEquivalence, IsEquivalence, eq_by_cmp_equiv, partial_equiv_from_equiv, partial_order_from_total}
use Rattle.std.specs.Hash as fed
use Rattle.std.specs.Hash.{HashWrites, Alike}
use Rattle.std.specs.Ordering.{as_partial_cmp, eq_by_cmp}
use Rattle.std.proofs.lemmas.Cmp.{on_total}
use Rattle.cedar_language.specs.Value.{Extension, ExtensionOf}
use Rattle.cedar_language.specs.Order.{value_cmp}
use Rattle.cedar_language.specs.OrderLaws.{value_cmp_total, same_is}
use Rattle.cedar_names.specs.Names.{name_hash}

-- those whose type has no order first, then by the name of the type, then by the key
abbrev pub extension_cmp : Extension → Extension → Ordering
extension_cmp e f = value_cmp (ExtensionOf e) (ExtensionOf f)

abbrev pub same_extension : Extension → Extension → Bool
same_extension = eq_by_cmp extension_cmp

abbrev pub extension_hash : Extension → HashWrites
extension_hash e = fed.bool e.ordered ++ name_hash e.type_name ++ fed.slice fed.u8 e.key

pub extension_cmp_total : IsTotalOrder extension_cmp
extension_cmp_total = on_total ExtensionOf value_cmp_total

pub extension_cmp_partial : IsPartialOrder same_extension (as_partial_cmp extension_cmp)
extension_cmp_partial = partial_order_from_total extension_cmp_total

pub same_extension_equiv : IsEquivalence same_extension
same_extension_equiv = eq_by_cmp_equiv extension_cmp_total

pub same_extension_partial : IsPartialEquivalence same_extension
same_extension_partial = partial_equiv_from_equiv same_extension_equiv

extension_inj : (e f : Extension) → ExtensionOf e ≡ ExtensionOf f → e ≡ f
extension_inj e f h = cc

pub extension_hash_alike : Alike same_extension extension_hash
extension_hash_alike = record { fed = λ x y h. ap extension_hash (extension_inj x y (same_is (ExtensionOf x) (ExtensionOf y) h)) }
