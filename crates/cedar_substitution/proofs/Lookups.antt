-- What an ordered map finds by names is what is told for their texts.
use Rattle.std.proofs.Common.{◌≡◌, subst, List}
use Rattle.std.proofs.lemmas.Map.Keys.{IsDistinct-from_sorted}
use Rattle.std.proofs.lemmas.Map.Text.{is_eq-slice_cmp}
use Rattle.std.specs.BTreeMap.{is_at}
use Rattle.std.specs.Cmp.Lexicographic.{slice_cmp}
use Rattle.std.specs.List.{IsDistinct}
use Rattle.std.specs.List.Sorted.{IsStrictlySortedBy}
use Rattle.std.specs.Map.{lookup, KeepsOthers}
use Rattle.std.specs.Ordering.{nat_cmp, eq_by_cmp}
use Rattle.std.specs.Prelude.{Bool}
use Rattle.std.specs.Rc.{rc_str_bytes}
use Rattle.std.specs.Str.{bytes_eq}
use Rattle.std.specs.declared.alloc.Global.{Global}
use Rattle.std.specs.declared.cmp.Ordering.{Ordering}
use Rattle.std.specs.declared.rc.RcStr.{RcStr}
use Rattle.cedar_language.specs.Uid.{Text}
use Rattle.cedar_substitution.specs.Told.{told_for}

-- how the keys are compared
abbrev pub key_cmp : RcStr Global → RcStr Global → Ordering
key_cmp k l = slice_cmp nat_cmp (rc_str_bytes k) (rc_str_bytes l)

abbrev pub same_key : RcStr Global → RcStr Global → Bool
same_key k l = bytes_eq (rc_str_bytes k) (rc_str_bytes l)

same_keys : eq_by_cmp key_cmp ≡ same_key
same_keys = λ i k l. is_eq-slice_cmp (rc_str_bytes k) (rc_str_bytes l) i

module _ {X : Type 0} where
  -- what is found by a text
  pub looked_up : (name : Text) (told : List (RcStr Global × X)) → lookup (is_at (λ k. slice_cmp nat_cmp name (rc_str_bytes k))) told ≡ told_for told name
  looked_up name told = λ i. lookup (λ k. is_eq-slice_cmp name (rc_str_bytes k) i) told

  -- what a change at one key keeps
  pub keeps_texts : (k : RcStr Global) (old new : List (RcStr Global × X)) → KeepsOthers (eq_by_cmp key_cmp) (is_at (key_cmp k)) old new → KeepsOthers same_key (same_key k) old new
  keeps_texts k old new h = subst (λ eq. KeepsOthers eq (eq k) old new) same_keys h

-- keys that rise are distinct texts
pub distinct_texts : (ks : List (RcStr Global)) → IsStrictlySortedBy key_cmp ks → IsDistinct same_key ks
distinct_texts ks rise = subst (λ eq. IsDistinct eq ks) same_keys (IsDistinct-from_sorted key_cmp ks rise)
