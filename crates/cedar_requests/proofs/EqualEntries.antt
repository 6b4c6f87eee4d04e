-- Records are equal exactly where their entries are.
use Rattle.std.proofs.Common.{◌≡◌, ◌∙◌, ap, sym, refl, List, [], ◌∷◌, map}
use Rattle.std.specs.Prelude.{Bool, ◌&&◌}
use Rattle.std.specs.Bool.{Decides, one_answer}
use Rattle.std.specs.Cmp.Derive.Mapped.{pointwise-map}
use Rattle.std.specs.Cmp.Lexicographic.{pointwise, pointwise_decides, bytes_decides}
use Rattle.std.specs.Rc.{rc_str_bytes}
use Rattle.std.specs.Str.{bytes_eq}
use Rattle.std.specs.declared.alloc.Global.{Global}
use Rattle.std.specs.declared.rc.RcStr.{RcStr}
use Rattle.std.proofs.lemmas.Bool.Decides.{Decides-and, Decides-at, Decides-like}
use Rattle.cedar_language.specs.Order.{all_of, same}
use Rattle.cedar_language.specs.OrderLaws.{same_is, is_same}
use Rattle.cedar_language.specs.Tree.{Tree}
use Rattle.cedar_language.specs.Value.{Value, RecordOf}
use Rattle.cedar_grammar.specs.Build.{Keyed}
use Rattle.cedar_trees.specs.Bare.{keyed, record_tree}
use Rattle.cedar_values.specs.Kinds.{keys_of, values_of}
use Rattle.cedar_shapes.specs.ShapesOnly.{tree_eq_decides}
use Rattle.cedar_restricted.specs.Sameness.{same_tree}
use Rattle.cedar_requests.specs.Sameness.{same_entry}

-- ---- entries of any kind, by their keys

module _ {X : Type 0} (test : X → X → Bool) (decides : (x y : X) → Decides (test x y) (x ≡ y)) where
  entry_decides : (e f : Keyed X) → Decides (bytes_eq e.0 f.0 && test e.1 f.1) (e ≡ f)
  entry_decides e f =
      Decides-like _ (λ h i. (h.0 i, h.1 i)) (λ h. (ap (λ u. u.0) h, ap (λ u. u.1) h)) (Decides-and _ _ (bytes_decides e.0 f.0) (decides e.1 f.1))

  pub entries_decide : (es fs : List (Keyed X)) → Decides (pointwise (λ e f. bytes_eq e.0 f.0 && test e.1 f.1) es fs) (es ≡ fs)
  entries_decide = pointwise_decides entry_decides

-- ---- records of values

abbrev Fields : Type 0
Fields = List (RcStr Global × Value)

-- the record of entries
abbrev record_value : List (Keyed Value) → Value
record_value es = RecordOf (map (λ e. e.0) es) (all_of (map (λ e. e.1) es))

value_is : (es : Fields) → RecordOf (keys_of es) (values_of es) ≡ record_value (keyed es)
value_is [] = refl
value_is (e ∷ es) = let h = value_is es in cc

values_same : (es fs : List (Keyed Value)) → record_value es ≡ record_value fs → es ≡ fs
values_same [] [] h = refl
values_same [] (f ∷ fs) h = cc
values_same (e ∷ es) [] h = cc
values_same (e ∷ es) (f ∷ fs) h =
    let a : e.0 ≡ f.0 = cc in
    let b : e.1 ≡ f.1 = cc in
    let c : record_value es ≡ record_value fs = cc in
    let d = values_same es fs c in λ i. (a i, b i) ∷ d i

pub fields_same : (es fs : Fields) → pointwise (λ p q. bytes_eq (rc_str_bytes p.0) (rc_str_bytes q.0) && same p.1 q.1) es fs ≡ same (RecordOf (keys_of es) (values_of es)) (RecordOf (keys_of fs) (values_of fs))
fields_same es fs =
    let same_value : (v w : Value) → Decides (same v w) (v ≡ w) = λ v w. (same_is v w, is_same v w) in
    one_answer _ _
    (Decides-at _ _ (sym (pointwise-map (λ e. (rc_str_bytes e.0, e.1)) (λ e f. bytes_eq e.0 f.0 && same e.1 f.1) es fs)) (entries_decide same same_value (keyed es) (keyed fs)))
    (Decides-like _ (λ h. values_same (keyed es) (keyed fs) (sym (value_is es) ∙ h ∙ value_is fs)) (λ h. value_is es ∙ ap record_value h ∙ sym (value_is fs)) (same_value _ _))

-- ---- records of trees

trees_same : (es fs : List (Keyed Tree)) → record_tree es ≡ record_tree fs → es ≡ fs
trees_same [] [] h = refl
trees_same [] (f ∷ fs) h = cc
trees_same (e ∷ es) [] h = cc
trees_same (e ∷ es) (f ∷ fs) h =
    let a : e.0 ≡ f.0 = cc in
    let b : e.1 ≡ f.1 = cc in
    let c : record_tree es ≡ record_tree fs = cc in
    let d = trees_same es fs c in λ i. (a i, b i) ∷ d i

pub records_same : (es fs : List (Keyed Tree)) → same_tree (record_tree es) (record_tree fs) ≡ pointwise same_entry es fs
records_same es fs = one_answer _ _ (Decides-like _ (trees_same es fs) (ap record_tree) (tree_eq_decides _ _)) (entries_decide same_tree tree_eq_decides es fs)
