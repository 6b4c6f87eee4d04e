-- What is read of sets, records and calls.
use Rattle.std.proofs.Common.{◌≡◌, ◌∙◌, refl, ap, sym, true, List, [], ◌∷◌, map, Vec, BTreeMap, Global}
use Rattle.std.specs.Prelude.{Some}
use Rattle.std.specs.List.{zip}
use Rattle.std.specs.declared.rc.Rc.{Rc}
use Rattle.std.specs.declared.rc.RcStr.{RcStr}
use Rattle.cedar_language.specs.Uid.{Name}
use Rattle.cedar_language.specs.Tree.{Tree}
use Rattle.cedar_language.specs.Restricted.{is_restricted, are_restricted}
use Rattle.cedar_grammar.specs.Build.{trees, Keyed, keys}
use Rattle.cedar_trees.specs.Bare.{bare, bare_kind, bare_entries}
use Rattle.cedar_trees.specs.declared.expr.Expr.{Expr}
use Rattle.cedar_trees.specs.declared.expr.ExprKind.TheVariants as kind
use Rattle.cedar_trees.proofs.Bares.{bare_is, bare-ExtensionFunctionApp, bare-Set, bare-Record}
use Rattle.cedar_restricted.specs.Readers.{tree_list, set_elements, record_pairs, called}

listed : (ts : List Tree) → tree_list (trees ts) ≡ ts
listed [] = refl
listed (t ∷ ts) = ap (λ us. t ∷ us) (listed ts)

paired : (es : List (Keyed Tree)) → zip (keys es) (tree_list (trees (map (λ e. e.1) es))) ≡ es
paired [] = refl
paired (e ∷ es) = ap (λ fs. e ∷ fs) (paired es)

module _ (e : Expr (Unit {0})) where
  pub set_is : (v : Rc (Vec (Expr (Unit {0})) Global) Global) (items : List (Expr (Unit {0}))) → e.expr_kind ≡ kind.Set v → items ≡ v.value.items → Some (map bare items) ≡ set_elements (bare e)
  set_is v items is same =
      sym (ap set_elements (bare_is (Unit {0}) e ∙ ap bare_kind is ∙ bare-Set (Unit {0}) v) ∙ ap Some (listed (map bare v.value.items)) ∙ ap (λ es. Some (map bare es)) (sym same))

  pub call_is : (f : Name) (v : Rc (Vec (Expr (Unit {0})) Global) Global) (items : List (Expr (Unit {0}))) → e.expr_kind ≡ kind.ExtensionFunctionApp f v → items ≡ v.value.items → Some (f, map bare items) ≡ called (bare e)
  call_is f v items is same =
      sym (ap called (bare_is (Unit {0}) e ∙ ap bare_kind is ∙ bare-ExtensionFunctionApp (Unit {0}) f v) ∙ ap (λ ts. Some (f, ts)) (listed (map bare v.value.items)) ∙ ap (λ es. Some (f, map bare es)) (sym same))

  module _ (m : Rc (BTreeMap (RcStr Global) (Expr (Unit {0}))) Global) (entries : List (RcStr Global × Expr (Unit {0}))) where
    pub record_is : e.expr_kind ≡ kind.Record m → entries ≡ m.value.entries → Some (bare_entries entries) ≡ record_pairs (bare e)
    record_is is same =
        sym (ap record_pairs (bare_is (Unit {0}) e ∙ ap bare_kind is ∙ bare-Record (Unit {0}) m) ∙ ap Some (paired (bare_entries m.value.entries)) ∙ ap (λ es. Some (bare_entries es)) (sym same))

    pub record_restricted : e.expr_kind ≡ kind.Record m → entries ≡ m.value.entries → is_restricted (bare e) ≡ true → are_restricted (trees (map (λ f. f.1) (bare_entries entries))) ≡ true
    record_restricted is same h =
        ap (λ es. are_restricted (trees (map (λ f. f.1) (bare_entries es)))) same
        ∙ sym (ap is_restricted (bare_is (Unit {0}) e ∙ ap bare_kind is ∙ bare-Record (Unit {0}) m))
        ∙ h
