-- Values that are read of trees one by one.
use Rattle.std.proofs.Common.{◌≡◌, ◌∙◌, refl, ap, sym, subst, List, [], ◌∷◌, ◌++◌, map, Vec, BTreeMap, Global}
use Rattle.std.specs.Prelude.{Option, Some, None, option_map, Result, Ok, Err}
use Rattle.std.specs.Result.{IsErr, IsErrAnd}
use Rattle.std.specs.declared.rc.Rc.{Rc}
use Rattle.std.specs.declared.rc.RcStr.{RcStr}
use Rattle.cedar_language.specs.Tree.{Tree}
use Rattle.cedar_language.specs.Value.{Value, RecordOf, Values, no_values}
use Rattle.cedar_language.specs.Order.{all_of, set_of}
use Rattle.cedar_grammar.specs.Build.{trees, keys}
use Rattle.cedar_trees.specs.Bare.{bare, bare_kind, bare_entries}
use Rattle.cedar_trees.specs.declared.expr.Expr.{Expr}
use Rattle.cedar_trees.specs.declared.expr.ExprKind.TheVariants as kind
use Rattle.cedar_trees.proofs.Bares.{bare_is, bare-Set, bare-Record}
use Rattle.cedar_restricted.specs.Reading.{both, value_in, values_in, IsRead}
use Rattle.cedar_restricted.specs.declared.from_expr.NotValue.{NotValue}
use Rattle.cedar_restricted.specs.declared.from_expr.NotValue.TheVariants as not_value

-- these values before those that are still to be read
abbrev pub put_before : List Value → Option Values → Option Values
put_before [] o = o
put_before (v ∷ vs) o = both (Some v) (put_before vs o)

put_last : (vs : List Value) (v : Value) (o : Option Values) → put_before (vs ++ v ∷ []) o ≡ put_before vs (both (Some v) o)
put_last [] v o = refl
put_last (w ∷ vs) v o = ap (both (Some w)) (put_last vs v o)

none_after : (vs : List Value) → put_before vs (Some no_values) ≡ Some (all_of vs)
none_after [] = refl
none_after (v ∷ vs) = ap (both (Some v)) (none_after vs)

nothing_read : (vs : List Value) → put_before vs None ≡ None
nothing_read [] = refl
nothing_read (v ∷ vs) = ap (both (Some v)) (nothing_read vs)

module _ (whole : Option Values) (vs : List Value) (us : List Tree) where
  pub read_next : (later : List Tree) (more : List Value) (t : Tree) (v : Value) → whole ≡ put_before vs (values_in (trees us)) → us ≡ t ∷ later → value_in t ≡ Some v → more ≡ vs ++ v ∷ [] → whole ≡ put_before more (values_in (trees later))
  read_next later more t v h cut is put =
      h
      ∙ ap (λ us. put_before vs (values_in (trees us))) cut
      ∙ ap (λ o. put_before vs (both o (values_in (trees later)))) is
      ∙ sym (put_last vs v (values_in (trees later)))
      ∙ ap (λ m. put_before m (values_in (trees later))) (sym put)

  pub read_end : whole ≡ put_before vs (values_in (trees us)) → us ≡ [] → whole ≡ Some (all_of vs)
  read_end h none = h ∙ ap (λ us. put_before vs (values_in (trees us))) none ∙ none_after vs

  pub read_refused : (later : List Tree) (t : Tree) → whole ≡ put_before vs (values_in (trees us)) → us ≡ t ∷ later → value_in t ≡ None → whole ≡ None
  read_refused later t h cut is =
      h
      ∙ ap (λ us. put_before vs (values_in (trees us))) cut
      ∙ ap (λ o. put_before vs (both o (values_in (trees later)))) is
      ∙ nothing_read vs

-- what refuses a part refuses the whole
pub passed : {V W A B : Type 0} (view : V → A) (other : W → B) (b : NotValue) (result : Result V NotValue) (whole : Option A) (part : Option B) → (part ≡ None → whole ≡ None) → IsErr result × IsErrAnd result (λ y. y ≡ b) → IsRead other part (Err b) → IsRead view whole result
passed view other b (Ok v) whole part h err given = absurd err.1
passed view other b (Err (not_value.NotValue loc)) whole part h err given = h (subst (λ z. IsRead other part (Err z)) (sym err.1) given)
passed view other b (Err (not_value.Memory e)) whole part h err given = tt

module _ (e : Expr (Unit {0})) where
  pub read-Set : (v : Rc (Vec (Expr (Unit {0})) Global) Global) (items : List (Expr (Unit {0}))) → e.expr_kind ≡ kind.Set v → items ≡ v.value.items → value_in (bare e) ≡ option_map set_of (values_in (trees (map bare items)))
  read-Set v items is same = ap value_in (bare_is (Unit {0}) e ∙ ap bare_kind is ∙ bare-Set (Unit {0}) v) ∙ ap (λ es. option_map set_of (values_in (trees (map bare es)))) (sym same)

  pub read-Record : (m : Rc (BTreeMap (RcStr Global) (Expr (Unit {0}))) Global) (entries : List (RcStr Global × Expr (Unit {0}))) → e.expr_kind ≡ kind.Record m → entries ≡ m.value.entries → value_in (bare e) ≡ option_map (RecordOf (keys (bare_entries entries))) (values_in (trees (map (λ f. f.1) (bare_entries entries))))
  read-Record m entries is same = ap value_in (bare_is (Unit {0}) e ∙ ap bare_kind is ∙ bare-Record (Unit {0}) m) ∙ ap (λ es. option_map (RecordOf (keys (bare_entries es))) (values_in (trees (map (λ f. f.1) (bare_entries es))))) (sym same)
