-- Attributes in the order of their names.
use Rattle.std.proofs.Common.{◌≡◌, true, false, ◌&&◌, List, [], ◌∷◌, map, ◌↔◌, refl, sym, ap, ◌∙◌, subst, Option, Some, None, option_map, cond, length, suc, ℕ}
use Rattle.std.specs.declared.cmp.Ordering.{Ordering}
use Rattle.std.specs.declared.cmp.Ordering.TheVariants.{Less}
use lib.Dec.{T}
use Rattle.std.specs.declared.alloc.Global.{Global}
use Rattle.std.specs.declared.rc.RcStr.{RcStr}
use Rattle.std.specs.Rc.{rc_str_bytes}
use Rattle.std.specs.Ordering.{is_lt, eq_by_cmp}
use Rattle.std.specs.Cmp.Lexicographic.{texts_ties}
use Rattle.std.specs.FinMap as finite
use Rattle.std.specs.FinMap.Entries.{below_all, is_sorted, same_entries}
use Rattle.std.specs.List.{AllByRecursion}
use Rattle.std.specs.List.Sorted.{IsStrictlySortedBy}
use Rattle.std.specs.Map.{lookup, keys_of}
use Rattle.std.specs.BTreeMap.{BTreeMap, is_at}
use Rattle.std.specs.Option.{option_copied}
use Rattle.std.proofs.Common.{Bor}
use Rattle.cedar_restricted.specs.declared.partial_values.PartialValue.{PartialValue}
use Rattle.cedar_language.specs.Uid.{Text}
use Rattle.cedar_language.specs.Order.{text_cmp, same_text}
use Rattle.cedar_language.specs.OrderLaws.{text_cmp_total, text_cmp_same}
use Rattle.cedar_restricted.specs.PartialValues.{partial_of}
use Rattle.cedar_entities.specs.Attributes.{Attribute, Entries, seen_entry, seen_entries, attributes_of}

abbrev pub name_cmp : RcStr Global → RcStr Global → Ordering
name_cmp k l = text_cmp (rc_str_bytes k) (rc_str_bytes l)

below : (k : RcStr Global) (es : Entries) → AllByRecursion (λ l. name_cmp k l ≡ Less) (keys_of es) → below_all text_cmp (rc_str_bytes k) (seen_entries es) ≡ true
below k [] h = refl
below k (e ∷ es) h = ap (λ o. is_lt o && below_all text_cmp (rc_str_bytes k) (seen_entries es)) h.0 ∙ below k es h.1

-- names that rise are sorted
sorted_seen : (es : Entries) → IsStrictlySortedBy name_cmp (keys_of es) → is_sorted text_cmp (seen_entries es) ≡ true
unfolding IsStrictlySortedBy
sorted_seen [] h = refl
sorted_seen (e ∷ es) h = ap (λ b. b && is_sorted text_cmp (seen_entries es)) (below e.0 es h.0) ∙ sorted_seen es h.1

-- the map of sorted entries has just these
pub entries-seen : (es : Entries) → IsStrictlySortedBy name_cmp (keys_of es) → finite.entries (attributes_of es) ≡ seen_entries es
entries-seen es h =
    same_entries text_cmp text_cmp_total text_cmp_same (finite.entries (attributes_of es)) (seen_entries es) (finite.entries_sorted (attributes_of es)) (subst T (sym (sorted_seen es h)) tt)
    (λ q. sym (finite.get-entries (attributes_of es) q) ∙ finite.get-from_entries text_cmp_total (seen_entries es) q)

-- what stands at a name
find-seen : (q : Text) (es : Entries) → option_map partial_of (lookup (is_at (λ k. text_cmp q (rc_str_bytes k))) es) ≡ finite.find text_cmp q (seen_entries es)
find-seen q [] = refl
find-seen q (e ∷ es) = elim (eq_by_cmp text_cmp q (rc_str_bytes e.0)) as (λ b. option_map partial_of (cond b (Some e.1) (lookup (is_at (λ k. text_cmp q (rc_str_bytes k))) es)) ≡ cond b (Some (partial_of e.1)) (finite.find text_cmp q (seen_entries es))) [ true ↦ refl | false ↦ find-seen q es ]

pub get-seen : (q : Text) (es : Entries) → option_map partial_of (lookup (is_at (λ k. text_cmp q (rc_str_bytes k))) es) ≡ finite.get (attributes_of es) q
get-seen q es = find-seen q es ∙ sym (finite.get-from_entries text_cmp_total (seen_entries es) q)

length-map : {A B : Type 0} (f : A → B) (xs : List A) → length (map f xs) ≡ length xs
length-map f [] = refl
length-map f (x ∷ xs) = ap (λ n. suc n) (length-map f xs)

pub len-seen : (es : Entries) → IsStrictlySortedBy name_cmp (keys_of es) → length es ≡ finite.len (attributes_of es)
len-seen es h = sym (finite.len-entries (attributes_of es) ∙ ap length (entries-seen es h) ∙ length-map seen_entry es)

names-seen : (es : Entries) → map rc_str_bytes (keys_of es) ≡ map (λ (e : Text × Attribute). e.0) (seen_entries es)
names-seen [] = refl
names-seen (e ∷ es) = ap (λ ks. rc_str_bytes e.0 ∷ ks) (names-seen es)

pub keys-seen : (es : Entries) → IsStrictlySortedBy name_cmp (keys_of es) → map rc_str_bytes (keys_of es) ≡ finite.keys (attributes_of es)
keys-seen es h = names-seen es ∙ ap (map (λ (e : Text × Attribute). e.0)) (sym (entries-seen es h))

-- the same entries make the same maps, and no others
pub same_maps : (es fs : Entries) → IsStrictlySortedBy name_cmp (keys_of es) → IsStrictlySortedBy name_cmp (keys_of fs) → (seen_entries fs ≡ seen_entries es) ↔ (attributes_of fs ≡ attributes_of es)
same_maps es fs h k = (λ e. ap finite.from_entries e, λ e. sym (entries-seen fs k) ∙ ap finite.entries e ∙ entries-seen es h)

pub same_lengths : (es fs : Entries) → seen_entries fs ≡ seen_entries es → length fs ≡ length es
same_lengths es fs e = sym (length-map seen_entry fs) ∙ ap length e ∙ length-map seen_entry es

-- ---- what is read of a map that is held

abbrev pub Map : Type 0
Map = BTreeMap (RcStr Global) PartialValue

copied : (r : Option (Bor PartialValue)) → option_map (λ v. partial_of v.now) r ≡ option_map partial_of (option_copied r)
copied None = refl
copied (Some v) = refl

pub shown_at : (m n : Map) (q : Text) (r : Option (Bor PartialValue)) → m ≡ n → option_copied r ≡ lookup (is_at (λ k. text_cmp q (rc_str_bytes k))) m.entries → option_map (λ v. partial_of v.now) r ≡ finite.get (attributes_of n.entries) q
shown_at m n q r e h = copied r ∙ ap (option_map partial_of) h ∙ get-seen q m.entries ∙ ap (λ (x : Map). finite.get (attributes_of x.entries) q) e

pub shown_found : (es : Entries) (q : Text) (r : Option (Bor PartialValue)) → option_map partial_of (option_copied r) ≡ finite.find text_cmp q (seen_entries es)
    → option_map (λ v. partial_of v.now) r ≡ finite.get (attributes_of es) q
shown_found es q r h = copied r ∙ h ∙ sym (finite.get-from_entries text_cmp_total (seen_entries es) q)

-- the first entry is what is found, where its name is the one
pub found_here : (q k : Text) (e : RcStr Global × PartialValue) (es : Entries) → k ≡ rc_str_bytes e.0 → same_text q k ≡ true
    → finite.find text_cmp q (seen_entries (e ∷ es)) ≡ Some (partial_of e.1)
found_here q k e es at is =
    ap (λ b. cond b (Some (partial_of e.1)) (finite.find text_cmp q (seen_entries es))) (sym (texts_ties q (rc_str_bytes e.0)) ∙ ap (same_text q) (sym at) ∙ is)

pub found_past : (q k : Text) (e : RcStr Global × PartialValue) (es : Entries) → k ≡ rc_str_bytes e.0 → same_text q k ≡ false
    → finite.find text_cmp q (seen_entries (e ∷ es)) ≡ finite.find text_cmp q (seen_entries es)
found_past q k e es at is =
    ap (λ b. cond b (Some (partial_of e.1)) (finite.find text_cmp q (seen_entries es))) (sym (texts_ties q (rc_str_bytes e.0)) ∙ ap (same_text q) (sym at) ∙ is)

pub shown_len : (m n : Map) (r : ℕ) → m ≡ n → r ≡ length m.entries → IsStrictlySortedBy name_cmp (keys_of m.entries) → r ≡ finite.len (attributes_of n.entries)
shown_len m n r e h s = h ∙ len-seen m.entries s ∙ ap (λ (x : Map). finite.len (attributes_of x.entries)) e

pub shown_names : (m n : Map) (ks : List (RcStr Global)) → m ≡ n → ks ≡ keys_of m.entries → IsStrictlySortedBy name_cmp (keys_of m.entries) → map rc_str_bytes ks ≡ finite.keys (attributes_of n.entries)
shown_names m n ks e h s = ap (map rc_str_bytes) h ∙ keys-seen m.entries s ∙ ap (λ (x : Map). finite.keys (attributes_of x.entries)) e

pub shown_entries : (m n : Map) (es : Entries) → m ≡ n → es ≡ m.entries → IsStrictlySortedBy name_cmp (keys_of m.entries) → seen_entries es ≡ finite.entries (attributes_of n.entries)
shown_entries m n es e h s = ap seen_entries h ∙ sym (entries-seen m.entries s) ∙ ap (λ (x : Map). finite.entries (attributes_of x.entries)) e
