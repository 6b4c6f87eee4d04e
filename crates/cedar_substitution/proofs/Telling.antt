-- The expressions that write the values told, gathered under the same names.
use Rattle.std.proofs.Common.{◌≡◌, ◌∙◌, ap, sym, refl, subst, List, [], ◌∷◌}
use Rattle.std.specs.Prelude.{⊤, Bool, true, false, cond, Option, None, Some}
use Rattle.std.specs.Cmp.Lexicographic.{bytes_decides, nat_list_eq_equiv}
use Rattle.std.specs.List.{AllByRecursion, IsDistinct}
use Rattle.std.specs.Map.{lookup, keys_of, KeepsOthers}
use Rattle.std.specs.Str.{bytes_eq}
use Rattle.std.specs.declared.alloc.Global.{Global}
use Rattle.std.specs.declared.rc.RcStr.{RcStr}
use Rattle.std.specs.Rc.{rc_str_bytes}
use Rattle.cedar_language.specs.Uid.{Text}
use Rattle.cedar_language.specs.Tree.{ValueType, Unknown}
use Rattle.cedar_language.specs.Value.{Value}
use Rattle.cedar_restricted.specs.Expressing.{Expresses}
use Rattle.cedar_trees.specs.Bare.{bare}
use Rattle.cedar_trees.specs.declared.expr.Expr.{Expr}
use Rattle.cedar_substitution.specs.Told.{told_for, tree_or, told_tree}
use Rattle.cedar_substitution.specs.Typed.{StandsFor, Tells}
use Rattle.cedar_substitution.proofs.Lookups.{same_key}

texts_differ : (k n l : Text) → bytes_eq k n ≡ false → bytes_eq k l ≡ true → bytes_eq n l ≡ false
texts_differ k n l differs same = ap (bytes_eq n) (sym ((bytes_decides k l).0 same)) ∙ nat_list_eq_equiv.symm n k ∙ differs

-- what is told for any text once one key is changed
pub told_after : {X : Type 0} (b : Bool) (k : RcStr Global) (w : Option X) (old new : List (RcStr Global × X)) (n : Text) → bytes_eq (rc_str_bytes k) n ≡ b → lookup (same_key k) new ≡ w → KeepsOthers same_key (same_key k) old new → told_for new n ≡ cond b w (told_for old n)
unfolding KeepsOthers
told_after true k w old new n is here keeps = ap (told_for new) (sym ((bytes_decides (rc_str_bytes k) n).0 is)) ∙ here
told_after false k w old new n is here keeps =
    keeps (λ l. bytes_eq n (rc_str_bytes l)) (λ x y. nat_list_eq_equiv.congr n (rc_str_bytes x) (rc_str_bytes y)) (λ l same. texts_differ (rc_str_bytes k) n (rc_str_bytes l) is same)

pub apart_keys : (k : RcStr Global) (ks : List (RcStr Global)) → IsDistinct same_key (k ∷ ks) → AllByRecursion (λ l. same_key k l ≡ false) ks × IsDistinct same_key ks
unfolding IsDistinct
apart_keys k ks h = h

absent : (k : RcStr Global) (n : Text) (es : List (RcStr Global × Value)) → bytes_eq n (rc_str_bytes k) ≡ true → AllByRecursion (λ l. same_key k l ≡ false) (keys_of es) → told_for es n ≡ None
absent k n [] is h = refl
absent k n (e ∷ es) is h =
    ap (λ b. cond b (Some e.1) (told_for es n)) (ap (λ m. bytes_eq m (rc_str_bytes e.0)) ((bytes_decides n (rc_str_bytes k)).0 is) ∙ h.0)
    ∙ absent k n es is h.1

-- an expression that writes a value, or neither
abbrev pub IsWritten : Option Value → Option (Expr (Unit {0})) → Type 0
IsWritten None None = ⊤
IsWritten None (Some e) = ⊥
IsWritten (Some v) None = ⊥
IsWritten (Some v) (Some e) = Expresses v (bare e)

-- what is told for a name, where that isn't still to come, is written
abbrev pub IsGathered : Option Value → Option Value → Option (Expr (Unit {0})) → Type 0
IsGathered None whole e = IsWritten whole e
IsGathered (Some v) whole e = whole ≡ Some v

abbrev pub AreGathered : List (RcStr Global × Value) → List (RcStr Global × Value) → List (RcStr Global × Expr (Unit {0})) → Type 0
AreGathered rest whole exprs = (n : Text) → IsGathered (told_for rest n) (told_for whole n) (told_for exprs n)

all_to_come : (v : Option Value) → IsGathered v v None
all_to_come None = tt
all_to_come (Some v) = refl

pub gathers_none : (rest whole : List (RcStr Global × Value)) (exprs : List (RcStr Global × Expr (Unit {0}))) → rest ≡ whole → exprs ≡ [] → AreGathered rest whole exprs
gathers_none rest whole exprs same none n = subst (λ es. AreGathered rest whole es) (sym none) (subst (λ r. AreGathered r whole []) (sym same) (λ m. all_to_come (told_for whole m))) n

one_more : (b : Bool) (v : Value) (e : Expr (Unit {0})) (others whole : Option Value) (old : Option (Expr (Unit {0}))) → Expresses v (bare e) → (b ≡ true → others ≡ None) → IsGathered (cond b (Some v) others) whole old → IsGathered others whole (cond b (Some e) old)
one_more true v e others whole old writes none h = subst (λ o. IsGathered o whole (Some e)) (sym (none refl)) (subst (λ o. IsWritten o (Some e)) (sym h) writes)
one_more false v e others whole old writes none h = h

pub gathers_more : (rest others whole : List (RcStr Global × Value)) (k l : RcStr Global) (v : Value) (e : Expr (Unit {0})) (old new : List (RcStr Global × Expr (Unit {0}))) → rest ≡ (k, v) ∷ others → rc_str_bytes l ≡ rc_str_bytes k
    → IsDistinct same_key (keys_of rest) → Expresses v (bare e) → lookup (same_key l) new ≡ Some e → KeepsOthers same_key (same_key l) old new
    → AreGathered rest whole old → AreGathered others whole new
gathers_more rest others whole k l v e old new cut copied distinct writes here keeps h n =
    let parts = apart_keys k (keys_of others) (subst (λ r. IsDistinct same_key (keys_of r)) cut distinct) in
    let turned : bytes_eq (rc_str_bytes l) n ≡ bytes_eq n (rc_str_bytes k) = ap (λ t. bytes_eq t n) copied ∙ nat_list_eq_equiv.symm (rc_str_bytes k) n in
    subst (λ o. IsGathered (told_for others n) (told_for whole n) o) (sym (told_after (bytes_eq n (rc_str_bytes k)) l (Some e) old new n turned here keeps))
    (one_more (bytes_eq n (rc_str_bytes k)) v e (told_for others n) (told_for whole n) (told_for old n) writes (λ is. absent k n others is parts.0) (subst (λ r. AreGathered r whole old) cut h n))

stands : (v : Option Value) (e : Option (Expr (Unit {0}))) (name : Text) (ty : Option ValueType) → IsWritten v e → StandsFor v name ty (tree_or e (Unknown name ty))
stands None None name ty h = refl
stands None (Some e) name ty h = absurd h
stands (Some v) None name ty h = absurd h
stands (Some v) (Some e) name ty h = h

pub all_gathered : (rest whole : List (RcStr Global × Value)) (exprs : List (RcStr Global × Expr (Unit {0}))) → rest ≡ [] → AreGathered rest whole exprs → Tells whole (told_tree exprs)
all_gathered rest whole exprs none h = λ name ty. stands (told_for whole name) (told_for exprs name) name ty (subst (λ r. AreGathered r whole exprs) none h name)
