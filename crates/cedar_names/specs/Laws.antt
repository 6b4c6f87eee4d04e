-- Laws of names: their equality, order and hash agree, and each name is written in its own way.
use Rattle.std.specs.Prelude.{◌≡◌, ◌≢◌, ◌↔◌, [], Option, Some, Bool, false, IsTrue, refl}
use Rattle.std.specs.Ordering.{as_partial_cmp, eq_by_cmp}
use Rattle.std.specs.Cmp.{IsEquivalence, IsPartialEquivalence, IsPartialOrder, partial_equiv_from_equiv, partial_order_from_agreeing_total}
use Rattle.std.specs.Cmp.Lexicographic.{lists_equiv, lists_ties, nat_list_eq_equiv, texts_ties, bytes_decides}
use Rattle.std.specs.Hash as fed
use Rattle.std.specs.Hash.{Alike, same_Alike, items_Alike}
use Rattle.cedar_language.specs.Uid.{Name}
use Rattle.cedar_language.specs.Order.{text_cmp, name_cmp, same_name}
use Rattle.cedar_language.specs.OrderLaws.{name_cmp_total}
use Rattle.cedar_names.specs.Names.{IsName, name_text, name_hash, is_unqualified, qualified}

pub same_name_equiv : IsEquivalence same_name
same_name_equiv = lists_equiv nat_list_eq_equiv

pub same_name_partial_equiv : IsPartialEquivalence same_name
same_name_partial_equiv = partial_equiv_from_equiv same_name_equiv

pub name_cmp_ties : (m n : Name) → same_name m n ≡ eq_by_cmp name_cmp m n
name_cmp_ties = lists_ties text_cmp texts_ties

pub name_cmp_partial : IsPartialOrder same_name (as_partial_cmp name_cmp)
name_cmp_partial = partial_order_from_agreeing_total name_cmp name_cmp_total (λ x y. refl) name_cmp_ties

pub name_hash_alike : Alike same_name name_hash
name_hash_alike = items_Alike (same_Alike fed.str bytes_decides)

-- the test holds of the same values alone
abbrev pub TestsSame : {K : Type 0} → (K → K → Bool) → Type 0
TestsSame {K} E = (x y : K) → IsTrue (E x y) ↔ (x ≡ y)

-- a name that has a namespace keeps it
abbrev pub NamespacesStay : Type 0
NamespacesStay = (namespace : Option Name) (n : Name) → is_unqualified n ≡ false → qualified namespace n ≡ n

-- a name that was put in a namespace stays there
abbrev pub QualifyingIsOnce : Type 0
QualifyingIsOnce = (other : Option Name) (namespace n : Name) → namespace ≢ [] → n ≢ [] → qualified other (qualified (Some namespace) n) ≡ qualified (Some namespace) n

-- two names are never written alike
abbrev pub NamesAreToldApart : Type 0
NamesAreToldApart = (m n : Name) → IsName m → IsName n → name_text m ≡ name_text n → m ≡ n
