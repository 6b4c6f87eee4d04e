-- Trees that are built of parts, with the bound entities in the place of slots: they are built of the parts with these.
use Rattle.std.proofs.Common.{◌≡◌, ℕ, zero, suc, Bool, true, false, cond, List, [], ◌∷◌, map, Option, Some, None, refl, sym, ap, ◌∙◌}
use Rattle.std.specs.Option.{option_map}
use Rattle.std.specs.Cmp.Lexicographic.{slice_cmp}
use Rattle.std.specs.Ordering.{nat_cmp, is_lt}
use Rattle.cedar_language.specs.Uid.{Text, Uid}
use Rattle.cedar_language.specs.Tree as tree
use Rattle.cedar_language.specs.Tree.{Tree, a_tree, Lit, Slot, Apply, Boolean, SlotId, Operator}
use Rattle.cedar_language.specs.Slots.{Slots, bound_slot, bound_tree, bound_trees}
use Rattle.cedar_grammar.specs.Names.{Names}
use Rattle.cedar_grammar.specs.Build as build
use Rattle.cedar_grammar.specs.Build.{trees, unary, conjunction, disjunction, Link, or_link, and_link, linked, Comparison, compared, has, nots, negs, without_argument, with_argument, method, Keyed, keys, put, by_key, record_of}
use Rattle.cedar_grammar.specs.Policies.{joined, body_of}
use Rattle.cedar_grammar.specs.Policy.{bound_body}

-- ---- `&&` and `||`

and-slot-left : (s : SlotId) (o : Option Uid) (y : Tree) → tree.And (bound_slot s o) y ≡ conjunction (bound_slot s o) y
and-slot-left s None y = refl
and-slot-left s (Some u) y = refl

and-slot-right : (p : Bool) (s : SlotId) (o : Option Uid) → tree.And (Lit (Boolean p)) (bound_slot s o) ≡ conjunction (Lit (Boolean p)) (bound_slot s o)
and-slot-right p s None = refl
and-slot-right p s (Some u) = refl

pub conjunction-bound : (b : Slots) (x y : Tree) → bound_tree b (conjunction x y) ≡ conjunction (bound_tree b x) (bound_tree b y)
conjunction-bound b (Lit (Boolean p)) (Slot s) = and-slot-right p s (b s)
conjunction-bound b (Lit (Boolean p)) (Lit (Boolean q)) = refl
conjunction-bound b (Lit (Boolean p)) y = refl
conjunction-bound b (Slot s) y = and-slot-left s (b s) (bound_tree b y)
conjunction-bound b x y = refl

or-slot-left : (s : SlotId) (o : Option Uid) (y : Tree) → tree.Or (bound_slot s o) y ≡ disjunction (bound_slot s o) y
or-slot-left s None y = refl
or-slot-left s (Some u) y = refl

or-slot-right : (p : Bool) (s : SlotId) (o : Option Uid) → tree.Or (Lit (Boolean p)) (bound_slot s o) ≡ disjunction (Lit (Boolean p)) (bound_slot s o)
or-slot-right p s None = refl
or-slot-right p s (Some u) = refl

disjunction-bound : (b : Slots) (x y : Tree) → bound_tree b (disjunction x y) ≡ disjunction (bound_tree b x) (bound_tree b y)
disjunction-bound b (Lit (Boolean p)) (Slot s) = or-slot-right p s (b s)
disjunction-bound b (Lit (Boolean p)) (Lit (Boolean q)) = refl
disjunction-bound b (Lit (Boolean p)) y = refl
disjunction-bound b (Slot s) y = or-slot-left s (b s) (bound_tree b y)
disjunction-bound b x y = refl

module _ (b : Slots) where
  abbrev bt : Tree → Tree
  bt = bound_tree b

  pub linked-bound : (l : Link) (x y : Tree) → bound_tree b (linked l x y) ≡ linked l (bound_tree b x) (bound_tree b y)
  linked-bound or_link x y = disjunction-bound b x y
  linked-bound and_link x y = conjunction-bound b x y
  linked-bound build.plus_link x y = refl
  linked-bound build.minus_link x y = refl
  linked-bound build.times_link x y = refl

  -- ---- operators

  pub trees-bound : (ts : List Tree) → trees (map bt ts) ≡ bound_trees b (trees ts)
  trees-bound [] = refl
  trees-bound (t ∷ ts) = ap (λ q. a_tree (bound_tree b t) q) (trees-bound ts)

  pub compared-bound : (c : Comparison) (x y : Tree) → compared c (bound_tree b x) (bound_tree b y) ≡ bound_tree b (compared c x y)
  compared-bound build.less x y = refl
  compared-bound build.less_equal x y = refl
  compared-bound build.greater x y = refl
  compared-bound build.greater_equal x y = refl
  compared-bound build.equal x y = refl
  compared-bound build.not_equal x y = refl
  compared-bound build.in_ x y = refl

  pub has-bound : (ids : List Text) (x : Tree) → has ids (bound_tree b x) ≡ bound_tree b (has ids x)
  has-bound [] x = refl
  has-bound (s ∷ []) x = refl
  has-bound (s ∷ r ∷ rs) x = refl

  pub nots-bound : (n : ℕ) (t : Tree) → nots n (bound_tree b t) ≡ bound_tree b (nots n t)
  nots-bound zero t = refl
  nots-bound (suc n) t = ap (unary tree.Not) (nots-bound n t)

  pub negs-bound : (n : ℕ) (t : Tree) → negs n (bound_tree b t) ≡ bound_tree b (negs n t)
  negs-bound zero t = refl
  negs-bound (suc n) t = ap (unary tree.Neg) (negs-bound n t)

  -- ---- methods

  with_argument-bound : (op : Operator) (a : Tree) (xs : List Tree) → with_argument op (bound_tree b a) (map bt xs) ≡ option_map bt (with_argument op a xs)
  with_argument-bound op a [] = refl
  with_argument-bound op a (x ∷ []) = refl
  with_argument-bound op a (x ∷ y ∷ zs) = refl

  without_argument-bound : (op : Operator) (a : Tree) (xs : List Tree) → without_argument op (bound_tree b a) (map bt xs) ≡ option_map bt (without_argument op a xs)
  without_argument-bound op a [] = refl
  without_argument-bound op a (x ∷ xs) = refl

  either-bound : (c : Bool) (o p q r : Option Tree) → q ≡ option_map bt o → r ≡ option_map bt p → cond c q r ≡ option_map bt (cond c o p)
  either-bound true o p q r e f = e
  either-bound false o p q r e f = f

  call-bound : (op : Operator) (a : Tree) (xs : List Tree) → Some (Apply op (trees (bound_tree b a ∷ map bt xs))) ≡ option_map bt (Some (Apply op (trees (a ∷ xs))))
  call-bound op a xs = ap (λ q. Some (Apply op (a_tree (bound_tree b a) q))) (trees-bound xs)

  pub method-bound : (names : Names) (m : Text) (a : Tree) (xs : List Tree) → method names m (bound_tree b a) (map bt xs) ≡ option_map bt (method names m a xs)
  method-bound names m a xs =
      either-bound _ _ _ _ _ (with_argument-bound tree.Contains a xs)
      (either-bound _ _ _ _ _ (with_argument-bound tree.ContainsAll a xs)
      (either-bound _ _ _ _ _ (with_argument-bound tree.ContainsAny a xs)
      (either-bound _ _ _ _ _ (with_argument-bound tree.GetTag a xs)
      (either-bound _ _ _ _ _ (with_argument-bound tree.HasTag a xs)
      (either-bound _ _ _ _ _ (without_argument-bound tree.IsEmpty a xs)
      (either-bound _ _ _ _ _ (call-bound (tree.Call (m ∷ [])) a xs) refl))))))

  -- ---- records

  abbrev pub bound_entry : Keyed Tree → Keyed Tree
  bound_entry e = (e.0, bound_tree b e.1)

  either-entries : (c : Bool) (es fs gs : List (Keyed Tree)) → gs ≡ map bound_entry fs → cond c (map bound_entry es) gs ≡ map bound_entry (cond c es fs)
  either-entries true es fs gs e = refl
  either-entries false es fs gs e = e

  put-bound : (e : Keyed Tree) (es : List (Keyed Tree)) → put (bound_entry e) (map bound_entry es) ≡ map bound_entry (put e es)
  put-bound e [] = refl
  put-bound e (f ∷ es) =
      either-entries (is_lt (slice_cmp nat_cmp e.0 f.0)) (e ∷ f ∷ es) (f ∷ put e es) (bound_entry f ∷ put (bound_entry e) (map bound_entry es)) (ap (λ q. bound_entry f ∷ q) (put-bound e es))

  by_key-bound : (es : List (Keyed Tree)) → by_key (map bound_entry es) ≡ map bound_entry (by_key es)
  by_key-bound [] = refl
  by_key-bound (e ∷ es) = ap (put (bound_entry e)) (by_key-bound es) ∙ put-bound e (by_key es)

  pub keys-bound : (es : List (Keyed Tree)) → keys (map bound_entry es) ≡ keys es
  keys-bound [] = refl
  keys-bound (e ∷ es) = ap (λ q. e.0 ∷ q) (keys-bound es)

  abbrev values : List (Keyed Tree) → List Tree
  values es = map (λ e. e.1) es

  values-bound : (es : List (Keyed Tree)) → values (map bound_entry es) ≡ map bt (values es)
  values-bound [] = refl
  values-bound (e ∷ es) = ap (λ q. bound_tree b e.1 ∷ q) (values-bound es)

  pub record-bound : (es : List (Keyed Tree)) → record_of (map bound_entry es) ≡ bound_tree b (record_of es)
  record-bound es =
      let fs = by_key es in
      ap (λ gs. Apply (tree.MakeRecord (keys gs)) (trees (values gs))) (by_key-bound es)
      ∙ ap (λ ks. Apply (tree.MakeRecord ks) (trees (values (map bound_entry fs)))) (keys-bound fs)
      ∙ ap (λ vs. Apply (tree.MakeRecord (keys fs)) (trees vs)) (values-bound fs)
      ∙ ap (λ q. Apply (tree.MakeRecord (keys fs)) q) (trees-bound (values fs))

  -- ---- clauses

  joined-bound : (a : Tree) (ts : List Tree) → joined (bound_tree b a) (map bt ts) ≡ bound_tree b (joined a ts)
  joined-bound a [] = refl
  joined-bound a (c ∷ ts) = ap (λ q. joined q (map bt ts)) (sym (conjunction-bound b a c)) ∙ joined-bound (conjunction a c) ts

  pub body-bound : (ts : List Tree) → body_of (map bt ts) ≡ bound_body b (body_of ts)
  body-bound [] = refl
  body-bound (t ∷ ts) = ap Some (joined-bound t ts)
