-- Trees that the own builder makes again, and that call no `unknown` where the table of names lacks it.
use Rattle.std.proofs.Common.{◌≡◌, refl, sym, ap, ◌∙◌, List, [], ◌∷◌, Bool, true, false, codes}
use Rattle.std.specs.Prelude.{⊤, ◌&&◌, ◌||◌, Result, Ok}
use Rattle.std.specs.Cmp.Lexicographic.{pointwise_decides, bytes_decides}
use Rattle.cedar_language.specs.Uid.{Text, Name}
use Rattle.cedar_language.specs.Tree.{SlotId, Tree, Lit, Var, Slot, If, And, Or, Apply, Literal, Boolean, Variable, Operator}
use Rattle.cedar_grammar.specs.Names.{Names, is_among, is_function}
use Rattle.cedar_grammar.specs.Build.{trees, unary, binary, conjunction, disjunction}
use Rattle.cedar_builders.specs.Operations.{◌>>=◌, operated, made, built, built_all}
use Rattle.cedar_builders.specs.Own.{own_operations}
use Rattle.cedar_grammar.specs.Functions.{the_unknown, is_the_unknown}
use Rattle.cedar_grammar.specs.UnknownCalls.{calls_unknown, holds_call, hold_call}
use Rattle.cedar_conversion.proofs.Rising.{both_false}

pub record LacksUnknown (names : Names) : Type 0 where
  pub functions : is_function names the_unknown ≡ false
  pub methods : is_among (codes "unknown") names.methods ≡ false

pub record Fine (names : Names) (t : Tree) : Type 0 where
  pub is_built : built own_operations t ≡ Ok t
  pub is_named : LacksUnknown names → holds_call t ≡ false

abbrev pub AllFine : Names → List Tree → Type 0
AllFine names [] = ⊤
AllFine names (t ∷ ts) = Fine names t × AllFine names ts

-- the builder applies this operator as it is
abbrev pub IsApplied : Operator → List Tree → Type 0
IsApplied op ts = operated own_operations op ts ≡ Ok (Apply op (trees ts))

-- ---- a part that is built

then_ok : {A B : Type 0} (r : Result A Text) (x : A) (f : A → Result B Text) → r ≡ Ok x → (r >>= f) ≡ f x
unfolding ◌>>=◌
then_ok r x f e = ap (λ q. q >>= f) e

if_built : (x y z : Tree) → built own_operations x ≡ Ok x → built own_operations y ≡ Ok y → built own_operations z ≡ Ok z → built own_operations (If x y z) ≡ Ok (If x y z)
unfolding made
if_built x y z e f g = then_ok (built own_operations x) x _ e ∙ then_ok (built own_operations y) y _ f ∙ then_ok (built own_operations z) z _ g

and_built : (x y : Tree) → built own_operations x ≡ Ok x → built own_operations y ≡ Ok y → built own_operations (And x y) ≡ Ok (conjunction x y)
unfolding made
and_built x y e f = then_ok (built own_operations x) x _ e ∙ then_ok (built own_operations y) y _ f

or_built : (x y : Tree) → built own_operations x ≡ Ok x → built own_operations y ≡ Ok y → built own_operations (Or x y) ≡ Ok (disjunction x y)
unfolding made
or_built x y e f = then_ok (built own_operations x) x _ e ∙ then_ok (built own_operations y) y _ f

none_built : built_all own_operations (trees []) ≡ Ok []
unfolding made
none_built = refl

more_built : (t : Tree) (ts : List Tree) → built own_operations t ≡ Ok t → built_all own_operations (trees ts) ≡ Ok ts → built_all own_operations (trees (t ∷ ts)) ≡ Ok (t ∷ ts)
unfolding made
more_built t ts e f = then_ok (built own_operations t) t _ e ∙ then_ok (built_all own_operations (trees ts)) ts _ f

apply_built : (op : Operator) (ts : List Tree) → built_all own_operations (trees ts) ≡ Ok ts → built own_operations (Apply op (trees ts)) ≡ operated own_operations op ts
unfolding made
apply_built op ts e = then_ok (built_all own_operations (trees ts)) ts (operated own_operations op) e

-- ---- names that are called

names_apart : (test : Name → Bool) (p : Name) → test p ≡ true → test the_unknown ≡ false → is_the_unknown p ≡ false
names_apart test p holds lacks = by (is_the_unknown p) refl
  where
    by : (b : Bool) → is_the_unknown p ≡ b → b ≡ false
    by false e = refl
    by true e = absurd (cc (sym holds ∙ ap test ((pointwise_decides bytes_decides p the_unknown).0 e) ∙ lacks))

-- whether the first word of a path is among these
abbrev first_among : List Text → Name → Bool
first_among ms [] = false
first_among ms (s ∷ ss) = is_among s ms

module _ (names : Names) where
  pub function_apart : (p : Name) → is_function names p ≡ true → LacksUnknown names → is_the_unknown p ≡ false
  function_apart p is lacks = names_apart (is_function names) p is lacks.functions

  pub method_apart : (m : Text) → is_among m names.methods ≡ true → LacksUnknown names → is_the_unknown (m ∷ []) ≡ false
  method_apart m is lacks = names_apart (first_among names.methods) (m ∷ []) is lacks.methods

  -- ---- leaves, conditions and links

  pub fine_literal : (l : Literal) → Fine names (Lit l)
  unfolding made
  fine_literal l = record { is_built = refl; is_named = λ lacks. refl }

  pub fine_variable : (v : Variable) → Fine names (Var v)
  unfolding made
  fine_variable v = record { is_built = refl; is_named = λ lacks. refl }

  pub fine_slot : (s : SlotId) → Fine names (Slot s)
  unfolding made
  fine_slot s = record { is_built = refl; is_named = λ lacks. refl }

  pub fine_if : (x y z : Tree) → Fine names x → Fine names y → Fine names z → Fine names (If x y z)
  fine_if x y z f g h = record { is_built = if_built x y z f.is_built g.is_built h.is_built; is_named = λ lacks. refl }

  fine_and : (x y : Tree) → conjunction x y ≡ And x y → Fine names x → Fine names y → Fine names (And x y)
  fine_and x y same f g = record { is_built = and_built x y f.is_built g.is_built ∙ ap (λ t. Ok t) same; is_named = λ lacks. refl }

  fine_or : (x y : Tree) → disjunction x y ≡ Or x y → Fine names x → Fine names y → Fine names (Or x y)
  fine_or x y same f g = record { is_built = or_built x y f.is_built g.is_built ∙ ap (λ t. Ok t) same; is_named = λ lacks. refl }

  pub fine_conjunction : (x y : Tree) → Fine names x → Fine names y → Fine names (conjunction x y)
  fine_conjunction (Lit (Boolean p)) (Lit (Boolean q)) f g = fine_literal (Boolean (p && q))
  fine_conjunction x y f g = fine_and x y refl f g

  pub fine_disjunction : (x y : Tree) → Fine names x → Fine names y → Fine names (disjunction x y)
  fine_disjunction (Lit (Boolean p)) (Lit (Boolean q)) f g = fine_literal (Boolean (p || q))
  fine_disjunction x y f g = fine_or x y refl f g

  -- ---- operators

  all_built : (ts : List Tree) → AllFine names ts → built_all own_operations (trees ts) ≡ Ok ts
  all_built [] f = none_built
  all_built (t ∷ ts) f = more_built t ts f.0.is_built (all_built ts f.1)

  all_named : (ts : List Tree) → AllFine names ts → LacksUnknown names → hold_call (trees ts) ≡ false
  all_named [] f lacks = refl
  all_named (t ∷ ts) f lacks = both_false _ _ (f.0.is_named lacks) (all_named ts f.1 lacks)

  pub fine_apply : (op : Operator) (ts : List Tree) → IsApplied op ts → (LacksUnknown names → calls_unknown op ≡ false) → AllFine names ts → Fine names (Apply op (trees ts))
  fine_apply op ts is named f = record { is_built = apply_built op ts (all_built ts f) ∙ is; is_named = λ lacks. both_false _ _ (named lacks) (all_named ts f lacks) }

  pub fine_unary : (op : Operator) (x : Tree) → IsApplied op (x ∷ []) → calls_unknown op ≡ false → Fine names x → Fine names (unary op x)
  fine_unary op x is named f = fine_apply op (x ∷ []) is (λ lacks. named) (f, tt)

  pub fine_binary : (op : Operator) (x y : Tree) → IsApplied op (x ∷ y ∷ []) → calls_unknown op ≡ false → Fine names x → Fine names y → Fine names (binary op x y)
  fine_binary op x y is named f g = fine_apply op (x ∷ y ∷ []) is (λ lacks. named) (f, (g, tt))
