-- What is built again has records whose keys rise, and is refused for want of memory alone where no call is refused.
use Rattle.std.proofs.Common.{◌≡◌, ◌∙◌, ap, sym, refl, subst, suc, List, [], ◌∷◌, ◌++◌, length, map, Vec, BTreeMap, Global}
use Rattle.std.specs.Prelude.{true, false, not, ◌&&◌, ◌||◌, Option, Some, None, Result, Ok, Err}
use Rattle.std.specs.declared.cmp.Ordering.{Ordering}
use Rattle.std.specs.declared.cmp.Ordering.TheVariants.{Less}
use Rattle.std.specs.Ordering.{is_eq}
use Rattle.std.specs.Cmp.Lexicographic.{texts_ties}
use Rattle.std.specs.List.{AllByRecursion}
use Rattle.std.specs.List.Sorted.{IsStrictlySortedBy}
use Rattle.std.specs.Map.{keys_of}
use Rattle.std.specs.Result.{IsErr, IsErrAnd}
use Rattle.std.specs.declared.rc.Rc.{Rc}
use Rattle.std.specs.declared.rc.RcStr.{RcStr}
use Rattle.std.specs.Rc.{rc_str_bytes}
use Rattle.std.proofs.lemmas.List.{map-append}
use denote.Ref.{Bor}
use Rattle.cedar_language.specs.Uid.{Text, Name}
use Rattle.cedar_language.specs.Order.{text_cmp}
use Rattle.cedar_language.specs.Tree as tree
use Rattle.cedar_language.specs.Tree.{ValueType, Tree, Trees}
use Rattle.cedar_language.specs.WellFormed.{tree_count}
use Rattle.cedar_grammar.specs.Build.{trees, keys}
use Rattle.cedar_grammar.specs.Names.{is_among, are_distinct}
use Rattle.cedar_literals.specs.Operators.{unary_operator_of, binary_operator_of}
use Rattle.cedar_literals.specs.declared.literals.Literal.{Literal}
use Rattle.cedar_literals.specs.declared.operators.UnaryOp.{UnaryOp}
use Rattle.cedar_literals.specs.declared.operators.UnaryOp.TheVariants as unary_op
use Rattle.cedar_literals.specs.declared.operators.BinaryOp.{BinaryOp}
use Rattle.cedar_literals.specs.declared.operators.BinaryOp.TheVariants as binary_op
use Rattle.cedar_literals.specs.declared.variables.Var.{Var}
use Rattle.cedar_trees.specs.Bare.{bare, bare_kind, bare_entries, record_tree}
use Rattle.cedar_trees.specs.Unknowns.{unknown_name, unknown_type}
use Rattle.cedar_trees.specs.declared.expr.Expr.{Expr}
use Rattle.cedar_trees.specs.declared.expr.ExprKind.TheVariants as kind
use Rattle.cedar_trees.specs.declared.unknowns.Unknown.{Unknown}
use Rattle.cedar_trees.specs.declared.unknowns.NonEmpty.{NonEmpty}
use Rattle.cedar_trees.proofs.Bares.{bare_is, bare-Lit, bare-Var, bare-Slot, bare-Unknown, bare-If, bare-And, bare-Or, bare-UnaryApp, bare-BinaryApp, bare-ExtensionFunctionApp, bare-GetAttr, bare-HasAttr, bare-ExtHasAttr, bare-Like, bare-Is, bare-Set, bare-Record}
use Rattle.cedar_builders.specs.Operations.{Operations, OnRefusal, Gives}
use Rattle.cedar_substitution.specs.Chains.{takes_list, first_of_all, first_of, chain_of}
use Rattle.cedar_substitution.specs.Rising.{KeysRise, RiseWhere, AllRiseWhere, RestRises, RestsRise, CallsAreTaken, BuildsRising}
use Rattle.cedar_substitution.proofs.Chaining.{some_of, some_same}

-- ---- results

no_refusal : {M R : Type 0} (r : Option R) (want : Result M R) → (m : M) × (want ≡ Ok m) → OnRefusal r want → r ≡ None
no_refusal None want h given = refl
no_refusal (Some r) want (m, is) given = cc

-- a call whose parts rise, and which is taken
pub gives_rising : {E B M R : Type 0} (o : Operations M R) (meaning : E → M) (refusal : B → Option R) (result : Result E B) (want : Result M R) {rises : Type 0} → rises → (CallsAreTaken o → (m : M) × (want ≡ Ok m)) → Gives meaning refusal result want → BuildsRising o refusal rises result
gives_rising o meaning refusal (Ok e) want h taken given = h
gives_rising o meaning refusal (Err b) want h taken given = λ calls. no_refusal (refusal b) want (taken calls) given

-- a part that is refused
pub passes_rising : {E B M R : Type 0} (o : Operations M R) (refusal : B → Option R) (b : B) (result : Result E B) (rises : Type 0) → IsErr result × IsErrAnd result (λ y. y ≡ b) → (CallsAreTaken o → refusal b ≡ None) → BuildsRising o refusal rises result
passes_rising o refusal b (Ok e) rises err given = absurd err.1
passes_rising o refusal b (Err y) rises err given = λ calls. ap refusal err.1 ∙ given calls

pub rising_to : {E B M R : Type 0} (o : Operations M R) (refusal : B → Option R) (result : Result E B) {rises other : Type 0} → (rises → other) → BuildsRising o refusal rises result → BuildsRising o refusal other result
rising_to o refusal (Ok e) f given = f given
rising_to o refusal (Err b) f given = given

-- ---- keys

no_keys_one : (op : UnaryOp) (ts : Trees) → KeysRise (unary_operator_of op) ts
no_keys_one unary_op.Not ts = tt
no_keys_one unary_op.Neg ts = tt
no_keys_one unary_op.IsEmpty ts = tt

no_keys_two : (op : BinaryOp) (ts : Trees) → KeysRise (binary_operator_of op) ts
no_keys_two binary_op.Eq ts = tt
no_keys_two binary_op.Less ts = tt
no_keys_two binary_op.LessEq ts = tt
no_keys_two binary_op.Add ts = tt
no_keys_two binary_op.Sub ts = tt
no_keys_two binary_op.Mul ts = tt
no_keys_two binary_op.In ts = tt
no_keys_two binary_op.Contains ts = tt
no_keys_two binary_op.ContainsAll ts = tt
no_keys_two binary_op.ContainsAny ts = tt
no_keys_two binary_op.GetTag ts = tt
no_keys_two binary_op.HasTag ts = tt

module _ {T : Type 0} where
  below_texts : (k : RcStr Global) (es : List (RcStr Global × Expr T)) → AllByRecursion (λ l. text_cmp (rc_str_bytes k) (rc_str_bytes l) ≡ Less) (keys_of es) → AllByRecursion (λ l. text_cmp (rc_str_bytes k) l ≡ Less) (keys (bare_entries es))
  below_texts k [] h = tt
  below_texts k (e ∷ es) h = (h.0, below_texts k es h.1)

  -- the keys of a map, as texts
  pub texts_rise : (es : List (RcStr Global × Expr T)) → IsStrictlySortedBy (λ k l. text_cmp (rc_str_bytes k) (rc_str_bytes l)) (keys_of es) → IsStrictlySortedBy text_cmp (keys (bare_entries es))
  unfolding IsStrictlySortedBy
  texts_rise [] h = tt
  texts_rise (e ∷ es) h = (below_texts e.0 es h.0, texts_rise es h.1)

  pub as_many_keys : (es : List (RcStr Global × Expr T)) → length (keys (bare_entries es)) ≡ tree_count (trees (map (λ e. e.1) (bare_entries es)))
  as_many_keys [] = refl
  as_many_keys (e ∷ es) = ap (λ n. suc n) (as_many_keys es)

-- ---- constructs

module _ (P : Text → Option ValueType → Type 0) where
  operands_rise : (op : tree.Operator) (ts : Trees) (f : Tree) → first_of_all ts ≡ Some f → RiseWhere P f → RestRises P (tree.Apply op ts) → RiseWhere P (tree.Apply op ts)
  operands_rise op tree.no_trees f h first rest = cc
  operands_rise op (tree.a_tree t ts) f h first rest = (rest.0, (subst (RiseWhere P) (sym (some_same t f h)) first, rest.1))

  pub rise_joined : (t f : Tree) → first_of t ≡ Some f → RiseWhere P f → RestRises P t → RiseWhere P t
  rise_joined (tree.Lit l) f h first rest = cc
  rise_joined (tree.Var v) f h first rest = cc
  rise_joined (tree.Slot s) f h first rest = cc
  rise_joined (tree.Unknown n ty) f h first rest = cc
  rise_joined (tree.If a b c) f h first rest = (subst (RiseWhere P) (sym (some_same a f h)) first, rest.0, rest.1)
  rise_joined (tree.And a b) f h first rest = (subst (RiseWhere P) (sym (some_same a f h)) first, rest)
  rise_joined (tree.Or a b) f h first rest = (subst (RiseWhere P) (sym (some_same a f h)) first, rest)
  rise_joined (tree.Apply op ts) f h first rest = operands_rise op ts f (some_of (takes_list op) (first_of_all ts) f h) first rest

  -- one more node at the end of a chain
  pub rests_join : (ts : List Tree) (t : Tree) → RestsRise P ts → RestRises P t → RestsRise P (ts ++ t ∷ [])
  rests_join [] t h rest = (rest, tt)
  rests_join (s ∷ ts) t h rest = (h.0, rests_join ts t h.1 rest)

  pub rests_split : (ts : List Tree) (t : Tree) → RestsRise P (ts ++ t ∷ []) → RestsRise P ts × RestRises P t
  rests_split [] t h = (tt, h.0)
  rests_split (s ∷ ts) t h = let both = rests_split ts t h.1 in ((h.0, both.0), both.1)

  module _ {T : Type 0} where
    chain_put : (es later : List (Bor (Expr T))) (e : Bor (Expr T)) → later ≡ es ++ e ∷ [] → chain_of later ≡ chain_of es ++ bare e.now ∷ []
    chain_put es later e h = ap chain_of h ∙ map-append (λ x. bare x.now) es (e ∷ [])

    pub put_rests : (es later : List (Bor (Expr T))) (e : Bor (Expr T)) → later ≡ es ++ e ∷ [] → RestsRise P (chain_of later) → RestsRise P (chain_of es) × RestRises P (bare e.now)
    put_rests es later e h rests = rests_split (chain_of es) (bare e.now) (subst (RestsRise P) (chain_put es later e h) rests)

    pub take_rests : (es later : List (Bor (Expr T))) (e : Bor (Expr T)) → es ≡ later ++ e ∷ [] → RestsRise P (chain_of later) → RestRises P (bare e.now) → RestsRise P (chain_of es)
    take_rests es later e h rests rest = subst (RestsRise P) (sym (chain_put later es e h)) (rests_join (chain_of later) (bare e.now) rests rest)

    pub no_rests : (es : List (Bor (Expr T))) → es ≡ [] → RestsRise P (chain_of es)
    no_rests es none = subst (λ l. RestsRise P (chain_of l)) (sym none) tt

  pub more_rise : (rest others : List Tree) (t : Tree) → rest ≡ t ∷ others → RiseWhere P t → AllRiseWhere P (trees others) → AllRiseWhere P (trees rest)
  more_rise rest others t cut here more = subst (λ ts. AllRiseWhere P (trees ts)) (sym cut) (here, more)

  pub none_rise : (rest : List Tree) → rest ≡ [] → AllRiseWhere P (trees rest)
  none_rise rest none = subst (λ ts. AllRiseWhere P (trees ts)) (sym none) tt

  module _ {T : Type 0} (e : Expr T) where
    rise_at : (k : _) (t : Tree) → e.expr_kind ≡ k → bare_kind k ≡ t → RiseWhere P t → RiseWhere P (bare e)
    rise_at k t is same h = subst (RiseWhere P) (sym (bare_is T e ∙ ap bare_kind is ∙ same)) h

    rest_at : (k : _) (t : Tree) → e.expr_kind ≡ k → bare_kind k ≡ t → RestRises P t → RestRises P (bare e)
    rest_at k t is same h = subst (RestRises P) (sym (bare_is T e ∙ ap bare_kind is ∙ same)) h

    pub rise-Lit : (l : Literal) → e.expr_kind ≡ kind.Lit l → RiseWhere P (bare e)
    rise-Lit l is = rise_at _ _ is (bare-Lit T l) tt

    pub rise-Var : (v : Var) → e.expr_kind ≡ kind.Var v → RiseWhere P (bare e)
    rise-Var v is = rise_at _ _ is (bare-Var T v) tt

    pub rise-Slot : (s : tree.SlotId) → e.expr_kind ≡ kind.Slot s → RiseWhere P (bare e)
    rise-Slot s is = rise_at _ _ is (bare-Slot T s) tt

    pub rise-Unknown : (n : Unknown) → e.expr_kind ≡ kind.Unknown n → P (unknown_name n) (unknown_type n) → RiseWhere P (bare e)
    rise-Unknown n is h = rise_at _ _ is (bare-Unknown T n) h

    pub rise-ExtensionFunctionApp : (n : Name) (v : Rc (Vec (Expr T) Global) Global) (items : List (Expr T)) → e.expr_kind ≡ kind.ExtensionFunctionApp n v → items ≡ v.value.items → AllRiseWhere P (trees (map bare items)) → RiseWhere P (bare e)
    rise-ExtensionFunctionApp n v items is same h = rise_at _ _ is (bare-ExtensionFunctionApp T n v) (tt, subst (λ l. AllRiseWhere P (trees (map bare l))) same h)

    pub rise-Set : (v : Rc (Vec (Expr T) Global) Global) (items : List (Expr T)) → e.expr_kind ≡ kind.Set v → items ≡ v.value.items → AllRiseWhere P (trees (map bare items)) → RiseWhere P (bare e)
    rise-Set v items is same h = rise_at _ _ is (bare-Set T v) (tt, subst (λ l. AllRiseWhere P (trees (map bare l))) same h)

    pub rise-Record : (m : Rc (BTreeMap (RcStr Global) (Expr T)) Global) (items : List (RcStr Global × Expr T)) → e.expr_kind ≡ kind.Record m → items ≡ m.value.entries → IsStrictlySortedBy text_cmp (keys (bare_entries items)) → AllRiseWhere P (trees (map (λ e. e.1) (bare_entries items))) → RiseWhere P (bare e)
    rise-Record m items is same rising h = rise_at _ _ is (bare-Record T m) (subst (λ l. RiseWhere P (record_tree (bare_entries l))) same ((rising, as_many_keys items), h))

    pub rest-If : (a : Rc (Expr T) Global) (b : Rc (Expr T) Global) (d : Rc (Expr T) Global) (b' : Expr T) (d' : Expr T) → e.expr_kind ≡ kind.If a b d → b' ≡ b.value → d' ≡ d.value → RiseWhere P (bare b') → RiseWhere P (bare d') → RestRises P (bare e)
    rest-If a b d b' d' is same_b same_d h i = rest_at _ _ is (bare-If T a b d) (subst (λ x. RiseWhere P (bare x)) same_b h, subst (λ x. RiseWhere P (bare x)) same_d i)

    pub rest-And : (a : Rc (Expr T) Global) (b : Rc (Expr T) Global) (b' : Expr T) → e.expr_kind ≡ kind.And a b → b' ≡ b.value → RiseWhere P (bare b') → RestRises P (bare e)
    rest-And a b b' is same h = rest_at _ _ is (bare-And T a b) (subst (λ x. RiseWhere P (bare x)) same h)

    pub rest-Or : (a : Rc (Expr T) Global) (b : Rc (Expr T) Global) (b' : Expr T) → e.expr_kind ≡ kind.Or a b → b' ≡ b.value → RiseWhere P (bare b') → RestRises P (bare e)
    rest-Or a b b' is same h = rest_at _ _ is (bare-Or T a b) (subst (λ x. RiseWhere P (bare x)) same h)

    pub rest-UnaryApp : (op : UnaryOp) (a : Rc (Expr T) Global) → e.expr_kind ≡ kind.UnaryApp op a → RestRises P (bare e)
    rest-UnaryApp op a is = rest_at _ _ is (bare-UnaryApp T op a) (no_keys_one op _, tt)

    pub rest-BinaryApp : (op : BinaryOp) (a : Rc (Expr T) Global) (b : Rc (Expr T) Global) (b' : Expr T) → e.expr_kind ≡ kind.BinaryApp op a b → b' ≡ b.value → RiseWhere P (bare b') → RestRises P (bare e)
    rest-BinaryApp op a b b' is same h = rest_at _ _ is (bare-BinaryApp T op a b) (no_keys_two op _, (subst (λ x. RiseWhere P (bare x)) same h, tt))

    pub rest-GetAttr : (a : Rc (Expr T) Global) (t : RcStr Global) → e.expr_kind ≡ kind.GetAttr a t → RestRises P (bare e)
    rest-GetAttr a t is = rest_at _ _ is (bare-GetAttr T a t) (tt, tt)

    pub rest-HasAttr : (a : Rc (Expr T) Global) (t : RcStr Global) → e.expr_kind ≡ kind.HasAttr a t → RestRises P (bare e)
    rest-HasAttr a t is = rest_at _ _ is (bare-HasAttr T a t) (tt, tt)

    pub rest-ExtHasAttr : (a : Rc (Expr T) Global) (p : NonEmpty (RcStr Global)) → e.expr_kind ≡ kind.ExtHasAttr a p → RestRises P (bare e)
    rest-ExtHasAttr a p is = rest_at _ _ is (bare-ExtHasAttr T a p) (tt, tt)

    pub rest-Like : (a : Rc (Expr T) Global) (p : List tree.PatternElem) → e.expr_kind ≡ kind.Like a p → RestRises P (bare e)
    rest-Like a p is = rest_at _ _ is (bare-Like T a p) (tt, tt)

    pub rest-Is : (a : Rc (Expr T) Global) (n : Name) → e.expr_kind ≡ kind.Is a n → RestRises P (bare e)
    rest-Is a n is = rest_at _ _ is (bare-Is T a n) (tt, tt)

-- ---- distinct keys

pub pair_keys : {A M : Type 0} (key : A → Text) (view : A → M) (ps : List A) → keys (map (λ p. (key p, view p)) ps) ≡ map key ps
pair_keys key view [] = refl
pair_keys key view (p ∷ ps) = ap (λ l. key p ∷ l) (pair_keys key view ps)

less_is_no_tie : (o : Ordering) → o ≡ Less → is_eq o ≡ false
less_is_no_tie o h = ap is_eq h

other_texts : (k : Text) (ks : List Text) → AllByRecursion (λ l. text_cmp k l ≡ Less) ks → is_among k ks ≡ false
other_texts k [] h = refl
other_texts k (l ∷ ls) h = ap (λ b. b || is_among k ls) (texts_ties k l ∙ less_is_no_tie _ h.0) ∙ other_texts k ls h.1

pub rising_are_distinct : (ks : List Text) → IsStrictlySortedBy text_cmp ks → are_distinct ks ≡ true
unfolding IsStrictlySortedBy
rising_are_distinct [] h = refl
rising_are_distinct (k ∷ ks) h = ap (λ b. not b && are_distinct ks) (other_texts k ks h.0) ∙ rising_are_distinct ks h.1
