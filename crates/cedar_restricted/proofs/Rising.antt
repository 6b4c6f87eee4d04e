-- Entries put after others, their keys rising.
use Rattle.std.proofs.Common.{◌≡◌, ◌∙◌, refl, ap, sym, List, [], ◌∷◌, ◌++◌, append_assoc, map, Global}
use Rattle.std.proofs.lemmas.List.{append-nil, map-append}
use Rattle.std.specs.BTreeMap.{insert_entry}
use Rattle.std.specs.declared.cmp.Ordering.{Ordering}
use Rattle.std.specs.declared.cmp.Ordering.TheVariants.{Less, Greater}
use Rattle.std.specs.declared.rc.RcStr.{RcStr}
use Rattle.std.specs.List.{AllByRecursion}
use Rattle.std.specs.List.Sorted.{IsStrictlySortedBy}
use Rattle.std.specs.Ordering.{match_ordering, ordering_reverse}
use Rattle.std.specs.Rc.{rc_str_bytes}
use Rattle.cedar_language.specs.Uid.{Text}
use Rattle.cedar_language.specs.Order.{text_cmp}
use Rattle.cedar_language.specs.OrderLaws.{text_cmp_total}
use Rattle.cedar_grammar.specs.Build.{keys}
use Rattle.cedar_trees.specs.Bare.{bare, bare_entries}
use Rattle.cedar_trees.specs.declared.expr.Expr.{Expr}

abbrev pub key_cmp : RcStr Global → RcStr Global → Ordering
key_cmp k l = text_cmp (rc_str_bytes k) (rc_str_bytes l)

abbrev pub texts : {X : Type 0} → List (RcStr Global × X) → List Text
texts es = map (λ e. rc_str_bytes e.0) es

one_of : {X : Type 0} (P : X → Type 0) (xs : List X) (y : X) (ys : List X) → AllByRecursion P (xs ++ y ∷ ys) → P y
one_of P [] y ys h = h.0
one_of P (x ∷ xs) y ys h = one_of P xs y ys h.1

above : (a b : Text) → text_cmp a b ≡ Less → text_cmp b a ≡ Greater
above a b h = text_cmp_total.antisymm b a ∙ ap ordering_reverse h

module _ {X : Type 0} where
  -- what comes after all of them is put last
  pub put_after : (es : List (RcStr Global × X)) (k : RcStr Global) (x : X) (rest : List Text) → IsStrictlySortedBy text_cmp (texts es ++ rc_str_bytes k ∷ rest) → insert_entry key_cmp es k x ≡ es ++ (k, x) ∷ []
  unfolding IsStrictlySortedBy
  put_after [] k x rest h = refl
  put_after (e ∷ es) k x rest h =
      ap (λ o. match_ordering o ((k, x) ∷ e ∷ es) ((e.0, x) ∷ es) (e ∷ insert_entry key_cmp es k x)) (above (rc_str_bytes e.0) (rc_str_bytes k) (one_of (λ t. text_cmp (rc_str_bytes e.0) t ≡ Less) (texts es) (rc_str_bytes k) rest h.0))
      ∙ ap (λ fs. e ∷ fs) (put_after es k x rest h.1)

  all_below : (k : RcStr Global) (es : List (RcStr Global × X)) → AllByRecursion (λ l. key_cmp k l ≡ Less) (map (λ e. e.0) es) → AllByRecursion (λ t. text_cmp (rc_str_bytes k) t ≡ Less) (texts es)
  all_below k [] h = tt
  all_below k (e ∷ es) h = (h.0, all_below k es h.1)

  -- the texts of rising keys rise
  pub texts_rise : (es : List (RcStr Global × X)) → IsStrictlySortedBy key_cmp (map (λ e. e.0) es) → IsStrictlySortedBy text_cmp (texts es)
  unfolding IsStrictlySortedBy
  texts_rise [] h = tt
  texts_rise (e ∷ es) h = (all_below e.0 es h.0, texts_rise es h.1)

pub keys_are : {T : Type 0} (es : List (RcStr Global × Expr T)) → keys (bare_entries es) ≡ texts es
keys_are [] = refl
keys_are (e ∷ es) = ap (λ ks. rc_str_bytes e.0 ∷ ks) (keys_are es)

-- ---- entries that are made one by one of those of another map

pub texts_end : {X Y : Type 0} (es : List (RcStr Global × X)) (rest all : List (RcStr Global × Y)) → texts es ++ texts rest ≡ texts all → rest ≡ [] → texts es ≡ texts all
texts_end es rest all h none = sym (append-nil (texts es)) ∙ ap (λ r. texts es ++ texts r) (sym none) ∙ h

module _ {X Y : Type 0} (es made : List (RcStr Global × X)) (rest more all : List (RcStr Global × Y)) (k l : RcStr Global) (x : X) (y : Y) where
  next_text : rc_str_bytes k ≡ rc_str_bytes l → texts es ++ texts rest ≡ texts all → rest ≡ (l, y) ∷ more → texts es ++ rc_str_bytes k ∷ texts more ≡ texts all
  next_text same h cut = ap (λ t. texts es ++ t ∷ texts more) same ∙ ap (λ r. texts es ++ texts r) (sym cut) ∙ h

  pub put_next : made ≡ insert_entry key_cmp es k x → rc_str_bytes k ≡ rc_str_bytes l → texts es ++ texts rest ≡ texts all → rest ≡ (l, y) ∷ more → IsStrictlySortedBy key_cmp (map (λ e. e.0) all) → made ≡ es ++ (k, x) ∷ []
  put_next is same h cut ordered = is ∙ put_after es k x (texts more) (rw (next_text same h cut) (texts_rise all ordered))

  pub texts_next : made ≡ es ++ (k, x) ∷ [] → rc_str_bytes k ≡ rc_str_bytes l → texts es ++ texts rest ≡ texts all → rest ≡ (l, y) ∷ more → texts made ++ texts more ≡ texts all
  texts_next is same h cut =
      ap (λ es. texts es ++ texts more) is
      ∙ ap (λ ts. ts ++ texts more) (map-append (λ e. rc_str_bytes e.0) es ((k, x) ∷ []))
      ∙ append_assoc (texts es) (rc_str_bytes k ∷ []) (texts more)
      ∙ next_text same h cut

tree_last : (es : List (RcStr Global × Expr (Unit {0}))) (k : RcStr Global) (x : Expr (Unit {0})) → map (λ e. e.1) (bare_entries (es ++ (k, x) ∷ [])) ≡ map (λ e. e.1) (bare_entries es) ++ bare x ∷ []
tree_last [] k x = refl
tree_last (e ∷ es) k x = ap (λ ts. bare e.1 ∷ ts) (tree_last es k x)

pub trees_next : (es made : List (RcStr Global × Expr (Unit {0}))) (k : RcStr Global) (x : Expr (Unit {0})) → made ≡ es ++ (k, x) ∷ [] → map (λ e. e.1) (bare_entries made) ≡ map (λ e. e.1) (bare_entries es) ++ bare x ∷ []
trees_next es made k x is = ap (λ es. map (λ e. e.1) (bare_entries es)) is ∙ tree_last es k x
