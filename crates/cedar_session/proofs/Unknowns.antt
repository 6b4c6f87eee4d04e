-- A tree that calls what stands in a table without `unknown` calls no `unknown`.
use Rattle.std.proofs.Common.{◌≡◌, ◌∙◌, refl, sym, ap, Bool, true, false, ◌||◌, true≢false}
use Rattle.cedar_language.specs.Tree.{Operator, Call, Tree, Lit, Var, Slot, Unknown, If, And, Or, Apply, Trees, no_trees, a_tree}
use Rattle.cedar_language.specs.Uid.{Name}
use Rattle.cedar_grammar.specs.Calls.{calls_none_but, calls_only, all_call_only, is_in_table, is_method}
use Rattle.cedar_grammar.specs.Names.{Names}
use Rattle.cedar_names.proofs.Sameness.{names_same}
use Rattle.cedar_grammar.specs.UnknownCalls.{calls_unknown, holds_call, hold_call}
use Rattle.cedar_grammar.specs.Functions.{the_unknown, is_the_unknown}
use Rattle.cedar_parser.specs.Strict.{LacksUnknown}
use Rattle.cedar_session.proofs.Callers.{left_of, right_of}

module _ (names : Names) (lacks : LacksUnknown names) where
  name_apart : (p : Name) → is_in_table names p ≡ true → (b : Bool) → is_the_unknown p ≡ b → is_the_unknown p ≡ false
  name_apart p listed false e = e
  name_apart p listed true e =
      let same : p ≡ the_unknown = (names_same p the_unknown).0 e in
      let missing : is_in_table names the_unknown ≡ false = ap (λ b. b || is_method names the_unknown) lacks.0 ∙ lacks.1 in
      absurd (true≢false (sym listed ∙ ap (is_in_table names) same ∙ missing))

  operator_apart : (op : Operator) → calls_none_but (is_in_table names) op ≡ true → calls_unknown op ≡ false
  operator_apart (Call p) listed = name_apart p listed (is_the_unknown p) refl
  operator_apart op listed = refl

  mutual
    pub calls_apart : (t : Tree) → calls_only (is_in_table names) t ≡ true → holds_call t ≡ false
    calls_apart (Lit l) h = refl
    calls_apart (Var v) h = refl
    calls_apart (Slot s) h = refl
    calls_apart (Unknown n ty) h = refl
    calls_apart (If t y n) h = refl
    calls_apart (And l r) h = refl
    calls_apart (Or l r) h = refl
    calls_apart (Apply op ts) h =
        ap (λ b. b || hold_call ts) (operator_apart op (left_of (calls_none_but (is_in_table names) op) (all_call_only (is_in_table names) ts) h))
        ∙ all_apart ts (right_of (calls_none_but (is_in_table names) op) (all_call_only (is_in_table names) ts) h)

    all_apart : (ts : Trees) → all_call_only (is_in_table names) ts ≡ true → hold_call ts ≡ false
    all_apart no_trees h = refl
    all_apart (a_tree t ts) h =
        ap (λ b. b || hold_call ts) (calls_apart t (left_of (calls_only (is_in_table names) t) (all_call_only (is_in_table names) ts) h))
        ∙ all_apart ts (right_of (calls_only (is_in_table names) t) (all_call_only (is_in_table names) ts) h)
