-- Records that are left, and the entries that are projected of them.
use Rattle.std.proofs.Common.{◌≡◌, ◌≤◌, ◌∙◌, refl, ap, subst, arith, List, [], ◌∷◌, map, Bool, true, false, Global}
use Rattle.std.proofs.Math.Nat.{le-max_left, le-max_right}
use Rattle.std.specs.Prelude.{Option, Some, None, cond, ◌&&◌, option_map, is_some}
use Rattle.std.specs.BTreeMap.{is_at}
use Rattle.std.specs.Cmp.Lexicographic.{nat_list_eq_equiv, texts_ties}
use Rattle.std.specs.Map.{lookup}
use Rattle.std.specs.Rc.{rc_str_bytes}
use Rattle.std.specs.declared.rc.RcStr.{RcStr}
use Rattle.cedar_language.specs.Uid.{Text}
use Rattle.cedar_language.specs.Tree.{Boolean, GetAttr, HasAttr, MakeSet, MakeRecord, Tree, Lit, Var, Unknown, Apply, Trees, no_trees, a_tree}
use Rattle.cedar_language.specs.Facts.{Facts}
use Rattle.cedar_language.specs.Height.{height, heights}
use Rattle.cedar_language.specs.Order.{same_text, text_cmp}
use Rattle.cedar_language.specs.Restricted.{is_projectable, are_projectable}
use Rattle.cedar_language.specs.Value.{Plain, RecordAttrDoesNotExist}
use Rattle.cedar_partial_evaluation.specs.Partial.{Evaluated, ResidualTree, Failed, LeafAnswers, projected_in, found_tree, entry_answer, attribute_answer, has_entry_answer, has_answer}
use Rattle.cedar_partial_evaluation.specs.ReadUnknowns.{calls_unknown, some_calls_unknown}
use Rattle.cedar_grammar.specs.Build.{trees, keys}
use Rattle.cedar_trees.specs.Bare.{bare, bare_entries}
use Rattle.cedar_trees.specs.declared.expr.Expr.{Expr}
use Rattle.cedar_lemmas.proofs.Booleans.{and_both as and_true}

-- ---- trees that may be projected

-- nothing is called in it
mutual
  pub projectable_calls : (t : Tree) → is_projectable t ≡ true → calls_unknown t ≡ false
  projectable_calls (Lit l) h = refl
  projectable_calls (Unknown n ty) h = refl
  projectable_calls (Var v) h = refl
  projectable_calls (Apply MakeSet ts) h = all_projectable_call ts h
  projectable_calls (Apply (MakeRecord ks) ts) h = all_projectable_call ts h
  projectable_calls t h = cc

  all_projectable_call : (ts : Trees) → are_projectable ts ≡ true → some_calls_unknown ts ≡ false
  all_projectable_call no_trees h = refl
  all_projectable_call (a_tree t ts) h =
      let both = and_true (is_projectable t) (are_projectable ts) h in
      rw (projectable_calls t both.0) (all_projectable_call ts both.1)

-- ---- entries

first_of : (b : Bool) (t u : Tree) (o : Option Tree) → cond b (Some t) o ≡ Some u → is_projectable t ≡ true → (o ≡ Some u → is_projectable u ≡ true) → is_projectable u ≡ true
first_of true t u o is p later = let same : t ≡ u = cc in subst (λ x. is_projectable x ≡ true) same p
first_of false t u o is p later = later is

pub found_projectable : (ks : List Text) (ts : Trees) (a : Text) (u : Tree) → found_tree ks ts a ≡ Some u → are_projectable ts ≡ true → is_projectable u ≡ true
found_projectable [] ts a u is h = cc
found_projectable (k ∷ ks) no_trees a u is h = cc
found_projectable (k ∷ ks) (a_tree t ts) a u is h =
    let both = and_true (is_projectable t) (are_projectable ts) h in
    first_of (same_text k a) t u (found_tree ks ts a) is both.0 (λ later. found_projectable ks ts a u later both.1)

-- an entry is lower than its record
entry_first : (b : Bool) (t u : Tree) (ts : Trees) (o : Option Tree) → cond b (Some t) o ≡ Some u → (o ≡ Some u → height u ≤ heights ts) → height u ≤ heights (a_tree t ts)
entry_first true t u ts o is later = let same : t ≡ u = cc in subst (λ x. height x ≤ heights (a_tree t ts)) same (le-max_left (height t) (heights ts))
entry_first false t u ts o is later = omega (arith, later is, le-max_right (height t) (heights ts))

pub found_low : (ks : List Text) (ts : Trees) (a : Text) (u : Tree) → found_tree ks ts a ≡ Some u → height u ≤ heights ts
found_low [] ts a u is = cc
found_low (k ∷ ks) no_trees a u is = cc
found_low (k ∷ ks) (a_tree t ts) a u is = entry_first (same_text k a) t u ts (found_tree ks ts a) is (found_low ks ts a u)

abbrev pub Entries : Type 0
Entries = List (RcStr Global × Expr (Unit {0}))

abbrev pub is_name : Text → RcStr Global → Bool
is_name a = is_at (λ (x : RcStr Global). text_cmp a (rc_str_bytes x))

abbrev pub record_trees : Entries → Trees
record_trees es = trees (map (λ e. e.1) (bare_entries es))

test_is : (a : Text) (k : RcStr Global) → same_text (rc_str_bytes k) a ≡ is_name a k
test_is a k = nat_list_eq_equiv.symm (rc_str_bytes k) a ∙ texts_ties a (rc_str_bytes k)

chosen_bare : (b : Bool) (e : Expr (Unit {0})) (o : Option (Expr (Unit {0}))) → cond b (Some (bare e)) (option_map bare o) ≡ option_map bare (cond b (Some e) o)
chosen_bare true e o = refl
chosen_bare false e o = refl

pub found_is : (es : Entries) (a : Text) → found_tree (keys (bare_entries es)) (record_trees es) a ≡ option_map bare (lookup (is_name a) es)
found_is [] a = refl
found_is (e ∷ es) a =
    ap (λ b. cond b (Some (bare e.1)) (found_tree (keys (bare_entries es)) (record_trees es) a)) (test_is a e.0)
    ∙ ap (λ o. cond (is_name a e.0) (Some (bare e.1)) o) (found_is es a)
    ∙ chosen_bare (is_name a e.0) e.1 (lookup (is_name a) es)

-- ---- what is answered of a record that is left

module _ (a : Text) (ks : List Text) (ts : Trees) where
  module _ (facts : Facts) (holds : LeafAnswers) where
    pub key_missing : found_tree ks ts a ≡ None → attribute_answer facts holds a (Apply (MakeRecord ks) ts) ≡ Failed RecordAttrDoesNotExist
    key_missing h = ap (entry_answer facts holds a (Apply (MakeRecord ks) ts) (are_projectable ts)) h

    pub key_projected : (t : Tree) → found_tree ks ts a ≡ Some t → are_projectable ts ≡ true → attribute_answer facts holds a (Apply (MakeRecord ks) ts) ≡ projected_in facts holds t
    key_projected t h p = ap (entry_answer facts holds a (Apply (MakeRecord ks) ts) (are_projectable ts)) h ∙ ap (λ b. entry_answer facts holds a (Apply (MakeRecord ks) ts) b (Some t)) p

    pub key_waits : (t : Tree) → found_tree ks ts a ≡ Some t → are_projectable ts ≡ false → attribute_answer facts holds a (Apply (MakeRecord ks) ts) ≡ ResidualTree (Apply (GetAttr a) (a_tree (Apply (MakeRecord ks) ts) no_trees))
    key_waits t h p = ap (entry_answer facts holds a (Apply (MakeRecord ks) ts) (are_projectable ts)) h ∙ ap (λ b. entry_answer facts holds a (Apply (MakeRecord ks) ts) b (Some t)) p

  -- and of `has`
  pub key_tells : (b : Bool) → are_projectable ts ≡ true → is_some (found_tree ks ts a) ≡ b → has_answer a (Apply (MakeRecord ks) ts) ≡ Evaluated (Plain (Boolean b))
  key_tells b p s = ap (λ c. has_entry_answer a (Apply (MakeRecord ks) ts) c (found_tree ks ts a)) p ∙ told (found_tree ks ts a) ∙ ap (λ c. Evaluated (Plain (Boolean c))) s
    where
      told : (o : Option Tree) → has_entry_answer a (Apply (MakeRecord ks) ts) true o ≡ Evaluated (Plain (Boolean (is_some o)))
      told None = refl
      told (Some t) = refl

  pub has_waits : are_projectable ts ≡ false → has_answer a (Apply (MakeRecord ks) ts) ≡ ResidualTree (Apply (HasAttr a) (a_tree (Apply (MakeRecord ks) ts) no_trees))
  has_waits p = ap (λ c. has_entry_answer a (Apply (MakeRecord ks) ts) c (found_tree ks ts a)) p

-- a key stands among the entries
pub is_found : (es : Entries) (a : Text) → is_some (found_tree (keys (bare_entries es)) (record_trees es) a) ≡ is_some (lookup (is_name a) es)
is_found es a = ap is_some (found_is es a) ∙ is_some_bare (lookup (is_name a) es)
  where
    is_some_bare : (o : Option (Expr (Unit {0}))) → is_some (option_map bare o) ≡ is_some o
    is_some_bare None = refl
    is_some_bare (Some e) = refl
