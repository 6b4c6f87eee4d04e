-- The parts of expressions that hold lists.
use Rattle.std.proofs.Common.{◌≡◌, refl, ap, ◌∙◌, List, [], ◌∷◌, map, Vec, BTreeMap, Global}
use Rattle.std.specs.declared.rc.Rc.{Rc}
use Rattle.std.specs.declared.rc.RcStr.{RcStr}
use Rattle.std.specs.Map.{keys_of, values_of}
use Rattle.std.specs.Rc.{rc_str_bytes}
use Rattle.cedar_language.specs.Uid.{Name}
use Rattle.cedar_language.specs.Tree.{Tree}
use Rattle.cedar_grammar.specs.Build.{trees, keys}
use Rattle.cedar_trees.specs.Bare.{bare, bare_kind, bare_entries}
use Rattle.cedar_trees.specs.declared.expr.Expr.{Expr}
use Rattle.cedar_trees.specs.declared.expr.ExprKind.TheVariants as kind
use Rattle.cedar_trees.proofs.Bares.{bare_is, bare-ExtensionFunctionApp, bare-Set, bare-Record}
use Rattle.cedar_shapes.specs.Parts.{listed, parts}

pub listed_trees : (ts : List Tree) → listed (trees ts) ≡ ts
listed_trees [] = refl
listed_trees (t ∷ ts) = ap (λ us. t ∷ us) (listed_trees ts)

module _ (T : Type 0) where
  pub entries_values : (es : List (RcStr Global × Expr T)) → map (λ e. e.1) (bare_entries es) ≡ map bare (values_of es)
  entries_values [] = refl
  entries_values (e ∷ es) = ap (λ ts. bare e.1 ∷ ts) (entries_values es)

  pub entries_keys : (es : List (RcStr Global × Expr T)) → keys (bare_entries es) ≡ map rc_str_bytes (keys_of es)
  entries_keys [] = refl
  entries_keys (e ∷ es) = ap (λ ks. rc_str_bytes e.0 ∷ ks) (entries_keys es)

  module _ (e : Expr T) where
    pub parts-Call : (f : Name) (v : Rc (Vec (Expr T) Global) Global) → e.expr_kind ≡ kind.ExtensionFunctionApp f v → parts (bare e) ≡ map bare v.value.items
    parts-Call f v h = ap parts (bare_is T e ∙ ap bare_kind h ∙ bare-ExtensionFunctionApp T f v) ∙ listed_trees _

    pub parts-Set : (v : Rc (Vec (Expr T) Global) Global) → e.expr_kind ≡ kind.Set v → parts (bare e) ≡ map bare v.value.items
    parts-Set v h = ap parts (bare_is T e ∙ ap bare_kind h ∙ bare-Set T v) ∙ listed_trees _

    pub parts-Record : (m : Rc (BTreeMap (RcStr Global) (Expr T)) Global) → e.expr_kind ≡ kind.Record m → parts (bare e) ≡ map bare (values_of m.value.entries)
    parts-Record m h = ap parts (bare_is T e ∙ ap bare_kind h ∙ bare-Record T m) ∙ listed_trees _ ∙ entries_values m.value.entries
