-- The functions that a tree calls. (Cedar language reference, "Operators and functions".)
use Rattle.std.specs.Prelude.{◌≡◌, ℕ, Bool, true, false, ◌&&◌, ◌||◌, List, [], ◌∷◌}
use Rattle.std.specs.List.{list_all}
use Rattle.cedar_language.specs.Uid.{Name}
use Rattle.cedar_language.specs.Tree.{Operator, Call, Tree, Lit, Var, Slot, Unknown, If, And, Or, Apply, Trees, no_trees, a_tree}
use Rattle.cedar_grammar.specs.Token.{Token}
use Rattle.cedar_grammar.specs.Names.{Names, is_among, is_function}
use Rattle.cedar_grammar.specs.Grammar.{IsExpr}
use Rattle.cedar_grammar.specs.Policy.{Policy, condition}
use Rattle.cedar_grammar.specs.Policies.{ArePolicies}

abbrev pub is_method : Names → Name → Bool
is_method names (m ∷ []) = is_among m names.methods
is_method names p = false

-- the table has a function of this name, or a method
abbrev pub is_in_table : Names → Name → Bool
is_in_table names p = is_function names p || is_method names p

module _ (passes : Name → Bool) where
  abbrev pub calls_none_but : Operator → Bool
  calls_none_but (Call p) = passes p
  calls_none_but op = true

  -- each function that the tree calls has a name that passes, and no unknown stands in it
  abbrev mutual
    pub calls_only : Tree → Bool
    calls_only (Lit l) = true
    calls_only (Var v) = true
    calls_only (Slot s) = true
    calls_only (Unknown n ty) = false
    calls_only (If t y n) = calls_only t && (calls_only y && calls_only n)
    calls_only (And l r) = calls_only l && calls_only r
    calls_only (Or l r) = calls_only l && calls_only r
    calls_only (Apply op ts) = calls_none_but op && all_call_only ts

    pub all_call_only : Trees → Bool
    all_call_only no_trees = true
    all_call_only (a_tree t ts) = calls_only t && all_call_only ts

-- an expression that the grammar has calls what stands in the table, and names no unknown but by a call
abbrev pub ExprsCallTheTable : Type 0
ExprsCallTheTable = (names : Names) (n : ℕ) (ts : List Token) (t : Tree) → IsExpr names n ts t → calls_only (is_in_table names) t ≡ true

-- and so does the condition of each policy
abbrev pub ConditionsCallTheTable : Type 0
ConditionsCallTheTable = (names : Names) (n : ℕ) (ts : List Token) (ps : List Policy) → ArePolicies names n ts ps → list_all (λ p. calls_only (is_in_table names) (condition p)) ps ≡ true
