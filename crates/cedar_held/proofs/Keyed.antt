-- The fields of a record, as they stand in a map.
use Rattle.std.proofs.Common.{◌≡◌, ◌∙◌, refl, ap, sym, Some, [], ◌∷◌, map, Global, BTreeMap}
use Rattle.std.specs.declared.rc.Rc.{Rc}
use Rattle.std.specs.declared.rc.RcStr.{RcStr}
use Rattle.cedar_grammar.specs.Build.{keys, trees}
use Rattle.cedar_trees.specs.Bare.{bare, bare_kind, record_tree}
use Rattle.cedar_trees.specs.declared.expr.Expr.{Expr}
use Rattle.cedar_trees.specs.declared.expr.ExprKind.TheVariants as kind
use Rattle.cedar_trees.proofs.Bares.{bare_is, bare-Record}
use Rattle.cedar_world.specs.Bodies.{Fields, zipped, fields_of}
use Rattle.cedar_held.specs.Lent.{fields_in}

zipped_again : (fs : Fields) → zipped (keys fs) (trees (map (λ e. e.1) fs)) ≡ fs
zipped_again [] = refl
zipped_again (f ∷ fs) = ap (λ l. f ∷ l) (zipped_again fs)

pub record_is : (e : Expr (Unit {0})) (m : Rc (BTreeMap (RcStr Global) (Expr (Unit {0}))) Global) (n : BTreeMap (RcStr Global) (Expr (Unit {0}))) → e.expr_kind ≡ kind.Record m → n ≡ m.value → bare e ≡ record_tree (fields_in n)
record_is e m n is same =
    bare_is (Unit {0}) e ∙ ap bare_kind is ∙ bare-Record (Unit {0}) m ∙ ap (λ (o : BTreeMap (RcStr Global) (Expr (Unit {0}))). record_tree (fields_in o)) (sym same)

-- the entries of a record are its fields
pub record_fields : (e : Expr (Unit {0})) (m : Rc (BTreeMap (RcStr Global) (Expr (Unit {0}))) Global) (n : BTreeMap (RcStr Global) (Expr (Unit {0}))) → e.expr_kind ≡ kind.Record m → n ≡ m.value → Some (fields_in n) ≡ fields_of (bare e)
record_fields e m n is same = sym (ap fields_of (record_is e m n is same) ∙ ap Some (zipped_again (fields_in n)))
