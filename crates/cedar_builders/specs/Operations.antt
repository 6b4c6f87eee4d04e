-- What the calls of a builder mean, and what a builder makes of a bare tree.
use Rattle.std.specs.Prelude.{◌≡◌, ⊤, List, [], ◌∷◌, Bool, true, ◌&&◌, ◌||◌, Option, Some, None, Result, Ok, Err}
use Rattle.std.specs.List.{zip}
use Rattle.cedar_language.specs.Uid.{Text, Name}
use Rattle.cedar_language.specs.Tree as tree
use Rattle.cedar_language.specs.Tree.{Literal, Boolean, Variable, SlotId, ValueType, Operator, HasPath, HasAttr, Tree, Trees}
use Rattle.cedar_grammar.specs.Names.{are_distinct}
use Rattle.cedar_grammar.specs.Build.{Keyed, keys}

-- What each call means: M is what an expression means, and R is why a call is refused.
pub record Operations (M R : Type 0) : Type 0 where
  pub val : Literal → M
  pub var : Variable → M
  pub slot : SlotId → M
  pub unknown : Text → Option ValueType → M
  pub ite : M → M → M → M
  pub and : M → M → M
  pub or : M → M → M
  -- an operator that evaluates all of its operands, but for calls and records
  pub apply : Operator → List M → M
  pub call : Name → List M → Result M R
  pub record_of : List (Keyed M) → Result M R

-- The laws of a builder.
pub record IsLawful {M R : Type 0} (o : Operations M R) : Type 0 where
  pub and_of_literals : (a b : Bool) → o.and (o.val (Boolean a)) (o.val (Boolean b)) ≡ o.val (Boolean (a && b))
  pub or_of_literals : (a b : Bool) → o.or (o.val (Boolean a)) (o.val (Boolean b)) ≡ o.val (Boolean (a || b))
  pub one_attribute : (a : Text) (m : M) → o.apply (HasPath a []) (m ∷ []) ≡ o.apply (HasAttr a) (m ∷ [])
  pub distinct_keys : (es : List (Keyed M)) → are_distinct (keys es) ≡ true → (m : M) × (o.record_of es ≡ Ok m)

-- A call that should give this gave it, or was refused so; want of memory says nothing.
abbrev pub OnRefusal : {M R : Type 0} → Option R → Result M R → Type 0
OnRefusal None meant = ⊤
OnRefusal (Some r) meant = meant ≡ Err r

abbrev pub Gives : {E B M R : Type 0} → (E → M) → (B → Option R) → Result E B → Result M R → Type 0
Gives meaning refusal (Ok e) meant = meant ≡ Ok (meaning e)
Gives meaning refusal (Err b) meant = OnRefusal (refusal b) meant

-- the same, of a call that nothing but want of memory refuses
abbrev pub Builds : {E B M R : Type 0} → (E → M) → (B → Option R) → Result E B → M → Type 0
Builds meaning refusal result m = Gives meaning refusal result (Ok m)

-- an operator of one operand, and of two
abbrev pub of_one : {M R : Type 0} → Operations M R → Operator → M → M
of_one o op x = o.apply op (x ∷ [])

abbrev pub of_two : {M R : Type 0} → Operations M R → Operator → M → M → M
of_two o op x y = o.apply op (x ∷ y ∷ [])

infixl 10 ◌>>=◌
unfoldable pub ◌>>=◌ : {A B R : Type 0} → Result A R → (A → Result B R) → Result B R
Ok x >>= f = f x
Err r >>= f = Err r

module _ {M R : Type 0} (o : Operations M R) where
  -- an operator, applied to operands that are built
  abbrev pub operated : Operator → List M → Result M R
  operated (tree.Call f) xs = o.call f xs
  operated (tree.MakeRecord ks) xs = o.record_of (zip ks xs)
  operated op xs = Ok (o.apply op xs)

-- What the operations make of a tree, the parts from the left, with u for its unknowns.
module _ {M R : Type 0} (o : Operations M R) (u : Text → Option ValueType → Result M R) where
  unfoldable mutual
    pub made : Tree → Result M R
    made (tree.Lit l) = Ok (o.val l)
    made (tree.Var v) = Ok (o.var v)
    made (tree.Slot s) = Ok (o.slot s)
    made (tree.Unknown n t) = u n t
    made (tree.If a b c) = made a >>= λ x. made b >>= λ y. made c >>= λ z. Ok (o.ite x y z)
    made (tree.And a b) = made a >>= λ x. made b >>= λ y. Ok (o.and x y)
    made (tree.Or a b) = made a >>= λ x. made b >>= λ y. Ok (o.or x y)
    made (tree.Apply op ts) = made_all ts >>= operated o op

    pub made_all : Trees → Result (List M) R
    made_all tree.no_trees = Ok []
    made_all (tree.a_tree t ts) = made t >>= λ x. made_all ts >>= λ xs. Ok (x ∷ xs)

-- the same, where each unknown stays one
abbrev pub built : {M R : Type 0} → Operations M R → Tree → Result M R
built o t = made o (λ n ty. Ok (o.unknown n ty)) t

abbrev pub built_all : {M R : Type 0} → Operations M R → Trees → Result (List M) R
built_all o ts = made_all o (λ n ty. Ok (o.unknown n ty)) ts
