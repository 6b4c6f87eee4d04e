-- Restricted parts make restricted wholes.
use Rattle.std.proofs.Common.{◌≡◌, ◌∙◌, refl, ap, sym, Bool, true, false, List, [], ◌∷◌, ◌++◌, append_assoc, map}
use Rattle.std.proofs.lemmas.List.{append-nil}
use Rattle.std.specs.Prelude.{◌&&◌, cond, Option, Some, None, Ok}
use Rattle.std.specs.declared.alloc.Global.{Global}
use Rattle.std.specs.declared.rc.RcStr.{RcStr}
use Rattle.std.specs.Cmp.Lexicographic.{slice_cmp}
use Rattle.std.specs.Ordering.{nat_cmp, is_lt}
use Rattle.cedar_language.specs.Uid.{Text}
use Rattle.cedar_language.specs.Tree.{Tree}
use Rattle.cedar_language.specs.Restricted.{is_restricted, are_restricted}
use Rattle.cedar_grammar.specs.Build.{trees, Keyed, keys, put, by_key, record_of}
use Rattle.cedar_trees.specs.Records.{repeated, unless_repeated, record_made}
use Rattle.cedar_restricted.specs.declared.restricted.RestrictedExpr.{RestrictedExpr}
use Rattle.cedar_restricted.specs.Views.{restricted_tree, restricted_entries}

pub all_are : (rs : List RestrictedExpr) → are_restricted (trees (map restricted_tree rs)) ≡ true
all_are [] = refl
all_are (r ∷ rs) = rw r.restricted (all_are rs)

entries_are : (es : List (RcStr Global × RestrictedExpr)) → are_restricted (trees (map (λ e. e.1) (restricted_entries es))) ≡ true
entries_are [] = refl
entries_are (e ∷ es) = rw e.1.restricted (entries_are es)

abbrev all_in : List (Keyed Tree) → Bool
all_in es = are_restricted (trees (map (λ e. e.1) es))

and_swap : (a b c : Bool) → (a && (b && c)) ≡ (b && (a && c))
and_swap true b c = refl
and_swap false true c = refl
and_swap false false c = refl

placed : (b : Bool) (e f : Keyed Tree) (es later : List (Keyed Tree)) → all_in later ≡ (is_restricted e.1 && all_in es) → all_in (cond b (e ∷ f ∷ es) (f ∷ later)) ≡ (is_restricted e.1 && all_in (f ∷ es))
placed true e f es later h = refl
placed false e f es later h = ap (λ b. is_restricted f.1 && b) h ∙ and_swap (is_restricted f.1) (is_restricted e.1) (all_in es)

put_in : (e : Keyed Tree) (es : List (Keyed Tree)) → all_in (put e es) ≡ (is_restricted e.1 && all_in es)
put_in e [] = refl
put_in e (f ∷ es) = placed (is_lt (slice_cmp nat_cmp e.0 f.0)) e f es (put e es) (put_in e es)

sorted_in : (es : List (Keyed Tree)) → all_in (by_key es) ≡ all_in es
sorted_in [] = refl
sorted_in (e ∷ es) = put_in e (by_key es) ∙ ap (λ b. is_restricted e.1 && b) (sorted_in es)

made_of : (r : Option Text) (s t : Tree) → unless_repeated r s ≡ Ok t → s ≡ t
made_of None s t h = cc
made_of (Some k) s t h = cc

-- a record that is made of restricted entries
pub record_is_restricted : (es : List (RcStr Global × RestrictedExpr)) (t : Tree) → record_made (restricted_entries es) ≡ Ok t → is_restricted t ≡ true
record_is_restricted es t h =
    ap is_restricted (sym (made_of (repeated (keys (restricted_entries es))) (record_of (restricted_entries es)) t h)) ∙ sorted_in (restricted_entries es) ∙ entries_are es

-- ---- what is made one by one

pub start : {A : Type 0} (done rest all : List A) → done ≡ [] → rest ≡ all → done ++ rest ≡ all
start done rest all none same = ap (λ d. d ++ rest) none ∙ same

pub next : {A : Type 0} (done more rest later all : List A) (x y : A) → done ++ rest ≡ all → rest ≡ y ∷ later → x ≡ y → more ≡ done ++ x ∷ [] → more ++ later ≡ all
next done more rest later all x y h cut same is = ap (λ d. d ++ later) is ∙ append_assoc done (x ∷ []) later ∙ ap (λ z. done ++ z ∷ later) same ∙ ap (λ r. done ++ r) (sym cut) ∙ h

pub ending : {A : Type 0} (done rest all : List A) → done ++ rest ≡ all → rest ≡ [] → done ≡ all
ending done rest all h none = sym (append-nil done) ∙ ap (λ r. done ++ r) (sym none) ∙ h
