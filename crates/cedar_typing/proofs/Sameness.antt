-- What tests of texts, names and trees tell.
use Rattle.std.proofs.Common.{◌≡◌, Bool, true, false, ◌&&◌, List, [], ◌∷◌, refl, sym, ap, true≢false, subst, Option, Some, None}
use Rattle.std.specs.Prelude.{ℕ, nat_eq}
use Rattle.std.specs.Cmp.Lexicographic.{pointwise}
use Rattle.std.specs.Cmp.Lexicographic as lex
use Rattle.std.proofs.lemmas.Bool.{eqb-true, eq-eqb}
use Rattle.cedar_language.proofs.Booleans.{and_left, and_right, and_both}
use Rattle.cedar_language.specs.Uid.{Text, Name, Uid}
use Rattle.cedar_language.specs.Tree.{Literal, Variable, Principal, Action, Resource, Context, SlotId, PrincipalSlot, ResourceSlot, ValueType, BooleanType, LongType, StringType, SetType, RecordType, EntityType, ExtensionType, PatternElem, Char, Wildcard, Operator, Not, Neg, IsEmpty, Equal, Less, LessEq, Add, Sub, Mul, In, Contains, ContainsAll, ContainsAny, GetTag, HasTag, GetAttr, HasAttr, HasPath, Like, Is, MakeSet, MakeRecord, Call, Tree, Lit, Var, Slot, Unknown, If, And, Or, Apply, Trees, no_trees, a_tree}
use Rattle.cedar_language.specs.Value.{Value, Plain}
use Rattle.cedar_language.specs.Order.{same, same_text, same_name, same_uid}
use Rattle.cedar_language.specs.OrderLaws.{same_is, is_same}
use Rattle.cedar_typing.specs.Sameness.{same_variable, same_slot, same_type, same_stated, same_elem, same_operator, same_tree, same_trees, TreesAreToldApart}

pub never : {A : Type 0} → false ≡ true → A
never h = absurd (true≢false (sym h))

pub text_is : (x y : Text) → same_text x y ≡ true → x ≡ y
text_is x y h = lex.same_text x y (sym h)

pub lists_are : {A : Type 0} (E : A → A → Bool) → ((x y : A) → E x y ≡ true → x ≡ y) → (xs ys : List A) → pointwise E xs ys ≡ true → xs ≡ ys
lists_are E f [] [] h = refl
lists_are E f [] (y ∷ ys) h = never h
lists_are E f (x ∷ xs) [] h = never h
lists_are E f (x ∷ xs) (y ∷ ys) h = rw (f x y (and_left (E x y) (pointwise E xs ys) h), lists_are E f xs ys (and_right (E x y) (pointwise E xs ys) h)) refl

pub name_is : (n m : Name) → same_name n m ≡ true → n ≡ m
name_is n m h = lists_are same_text text_is n m h

pub uid_is : (u w : Uid) → same_uid u w ≡ true → u ≡ w
uid_is u w h =
    let types = name_is u.type_name w.type_name (and_left (same_name u.type_name w.type_name) (same_text u.id w.id) h) in
    let ids = text_is u.id w.id (and_right (same_name u.type_name w.type_name) (same_text u.id w.id) h) in
    λ i. record { type_name = types i; id = ids i }

-- ---- trees

variable_is : (v w : Variable) → same_variable v w ≡ true → v ≡ w
variable_is Principal Principal h = refl
variable_is Action Action h = refl
variable_is Resource Resource h = refl
variable_is Context Context h = refl
variable_is v w h = never h

slot_is : (s r : SlotId) → same_slot s r ≡ true → s ≡ r
slot_is PrincipalSlot PrincipalSlot h = refl
slot_is ResourceSlot ResourceSlot h = refl
slot_is s r h = never h

type_is : (s t : ValueType) → same_type s t ≡ true → s ≡ t
type_is BooleanType BooleanType h = refl
type_is LongType LongType h = refl
type_is StringType StringType h = refl
type_is SetType SetType h = refl
type_is RecordType RecordType h = refl
type_is (EntityType n) (EntityType m) h = ap EntityType (name_is n m h)
type_is (ExtensionType n) (ExtensionType m) h = ap ExtensionType (name_is n m h)
type_is s t h = never h

stated_is : (o p : Option ValueType) → same_stated o p ≡ true → o ≡ p
stated_is None None h = refl
stated_is (Some s) (Some t) h = ap Some (type_is s t h)
stated_is o p h = never h

number_is : (c d : ℕ) → nat_eq c d ≡ true → c ≡ d
number_is c d h = eqb-true c d h

elem_is : (p q : PatternElem) → same_elem p q ≡ true → p ≡ q
elem_is (Char c) (Char d) h = ap Char (number_is c d h)
elem_is Wildcard Wildcard h = refl
elem_is p q h = never h

operator_is : (o p : Operator) → same_operator o p ≡ true → o ≡ p
operator_is Not Not h = refl
operator_is Neg Neg h = refl
operator_is IsEmpty IsEmpty h = refl
operator_is Equal Equal h = refl
operator_is Less Less h = refl
operator_is LessEq LessEq h = refl
operator_is Add Add h = refl
operator_is Sub Sub h = refl
operator_is Mul Mul h = refl
operator_is In In h = refl
operator_is Contains Contains h = refl
operator_is ContainsAll ContainsAll h = refl
operator_is ContainsAny ContainsAny h = refl
operator_is GetTag GetTag h = refl
operator_is HasTag HasTag h = refl
operator_is (GetAttr a) (GetAttr b) h = ap GetAttr (text_is a b h)
operator_is (HasAttr a) (HasAttr b) h = ap HasAttr (text_is a b h)
operator_is (HasPath a as_) (HasPath b bs) h =
    rw (text_is a b (and_left (same_text a b) (same_name as_ bs) h), name_is as_ bs (and_right (same_text a b) (same_name as_ bs) h)) refl
operator_is (Like ps) (Like qs) h = ap Like (lists_are same_elem elem_is ps qs h)
operator_is (Is n) (Is m) h = ap Is (name_is n m h)
operator_is MakeSet MakeSet h = refl
operator_is (MakeRecord ks) (MakeRecord ls) h = ap MakeRecord (name_is ks ls h)
operator_is (Call f) (Call g) h = ap Call (name_is f g h)
operator_is o p h = never h

literal_in : Value → Literal → Literal
literal_in (Plain l) m = l
literal_in v m = m

literal_is : (l m : Literal) → same (Plain l) (Plain m) ≡ true → l ≡ m
unfolding literal_in
literal_is l m h = ap (λ v. literal_in v l) (same_is (Plain l) (Plain m) h)

mutual
  pub tree_is : (t u : Tree) → same_tree t u ≡ true → t ≡ u
  tree_is (Lit l) (Lit m) h = ap Lit (literal_is l m h)
  tree_is (Var v) (Var w) h = ap Var (variable_is v w h)
  tree_is (Slot s) (Slot r) h = ap Slot (slot_is s r h)
  tree_is (Unknown n s) (Unknown m t) h =
      rw (text_is n m (and_left (same_text n m) (same_stated s t) h), stated_is s t (and_right (same_text n m) (same_stated s t) h)) refl
  tree_is (If t y n) (If u z m) h =
      rw (
        tree_is t u (and_left (same_tree t u) (same_tree y z && same_tree n m) h),
        tree_is y z (and_left (same_tree y z) (same_tree n m) (and_right (same_tree t u) (same_tree y z && same_tree n m) h)),
        tree_is n m (and_right (same_tree y z) (same_tree n m) (and_right (same_tree t u) (same_tree y z && same_tree n m) h)),
      ) refl
  tree_is (And l r) (And m s) h = rw (tree_is l m (and_left (same_tree l m) (same_tree r s) h), tree_is r s (and_right (same_tree l m) (same_tree r s) h)) refl
  tree_is (Or l r) (Or m s) h = rw (tree_is l m (and_left (same_tree l m) (same_tree r s) h), tree_is r s (and_right (same_tree l m) (same_tree r s) h)) refl
  tree_is (Apply o ts) (Apply p us) h =
      rw (operator_is o p (and_left (same_operator o p) (same_trees ts us) h), trees_are ts us (and_right (same_operator o p) (same_trees ts us) h)) refl
  tree_is t u h = never h

  pub trees_are : (ts us : Trees) → same_trees ts us ≡ true → ts ≡ us
  trees_are no_trees no_trees h = refl
  trees_are (a_tree t ts) (a_tree u us) h =
      rw (tree_is t u (and_left (same_tree t u) (same_trees ts us) h), trees_are ts us (and_right (same_tree t u) (same_trees ts us) h)) refl
  trees_are ts us h = never h

-- ---- what is one passes

lists_same : {A : Type 0} (E : A → A → Bool) → ((x : A) → E x x ≡ true) → (xs : List A) → pointwise E xs xs ≡ true
lists_same E f [] = refl
lists_same E f (x ∷ xs) = and_both (E x x) (pointwise E xs xs) (f x) (lists_same E f xs)

number_same : (c : ℕ) → nat_eq c c ≡ true
number_same c = eq-eqb c c refl

pub text_same : (k : Text) → same_text k k ≡ true
text_same k = lists_same nat_eq number_same k

pub name_same : (n : Name) → same_name n n ≡ true
name_same n = lists_same same_text text_same n

variable_same : (v : Variable) → same_variable v v ≡ true
variable_same Principal = refl
variable_same Action = refl
variable_same Resource = refl
variable_same Context = refl

slot_same : (s : SlotId) → same_slot s s ≡ true
slot_same PrincipalSlot = refl
slot_same ResourceSlot = refl

type_same : (t : ValueType) → same_type t t ≡ true
type_same BooleanType = refl
type_same LongType = refl
type_same StringType = refl
type_same SetType = refl
type_same RecordType = refl
type_same (EntityType n) = name_same n
type_same (ExtensionType n) = name_same n

stated_same : (o : Option ValueType) → same_stated o o ≡ true
stated_same None = refl
stated_same (Some t) = type_same t

elem_same : (p : PatternElem) → same_elem p p ≡ true
elem_same (Char c) = number_same c
elem_same Wildcard = refl

operator_same : (o : Operator) → same_operator o o ≡ true
operator_same (GetAttr a) = text_same a
operator_same (HasAttr a) = text_same a
operator_same (HasPath a as_) = and_both (same_text a a) (same_name as_ as_) (text_same a) (name_same as_)
operator_same (Like ps) = lists_same same_elem elem_same ps
operator_same (Is n) = name_same n
operator_same (MakeRecord ks) = name_same ks
operator_same (Call f) = name_same f
operator_same o = refl

mutual
  tree_same : (t : Tree) → same_tree t t ≡ true
  tree_same (Lit l) = is_same (Plain l) (Plain l) refl
  tree_same (Var v) = variable_same v
  tree_same (Slot s) = slot_same s
  tree_same (Unknown n t) = and_both (same_text n n) (same_stated t t) (text_same n) (stated_same t)
  tree_same (If t y n) =
      and_both (same_tree t t) (same_tree y y && same_tree n n) (tree_same t) (and_both (same_tree y y) (same_tree n n) (tree_same y) (tree_same n))
  tree_same (And l r) = and_both (same_tree l l) (same_tree r r) (tree_same l) (tree_same r)
  tree_same (Or l r) = and_both (same_tree l l) (same_tree r r) (tree_same l) (tree_same r)
  tree_same (Apply o ts) = and_both (same_operator o o) (same_trees ts ts) (operator_same o) (trees_same ts)

  trees_same : (ts : Trees) → same_trees ts ts ≡ true
  trees_same no_trees = refl
  trees_same (a_tree t ts) = and_both (same_tree t t) (same_trees ts ts) (tree_same t) (trees_same ts)

pub trees_are_told_apart : TreesAreToldApart
trees_are_told_apart t u = (tree_is t u, λ e. subst (λ x. same_tree t x ≡ true) e (tree_same t))
