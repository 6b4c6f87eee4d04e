-- What a part of a scope shows, by what its variable is.
use Rattle.std.proofs.Common.{◌≡◌, ◌⊎◌, inl, inr, Option, Some, refl, sym, ap, ◌∙◌, subst}
use Rattle.std.specs.Prelude.{◌≢◌, MatchOption}
use Rattle.cedar_language.specs.Tree as tree
use Rattle.cedar_grammar.specs.Names as names
use Rattle.cedar_grammar.specs.Loose as loose
use Rattle.cedar_literals.specs.Variables as variables
use Rattle.cedar_literals.specs.declared.variables.Var.{Var}
use Rattle.cedar_cst.specs.declared.leaves.RelOp.{RelOp}
use Rattle.cedar_cst.specs.declared.leaves.RelOp.TheVariants as relations
use Rattle.cedar_policy_parts.specs.Asked.{variable_asked}
use Rattle.cedar_policy_parts.specs.declared.constraints.PrincipalOrResource.{PrincipalOrResource}
use Rattle.cedar_policy_parts.specs.declared.constraints.PrincipalOrResource.TheVariants.{Principal, Resource}
use Rattle.cedar_faults.specs.declared.kinds.ToASTErrorKind.{ToASTErrorKind}
use Rattle.cedar_faults.specs.declared.kinds.ToASTErrorKind.TheVariants as kinds
use Rattle.cedar_conversion.specs.Words.{ident_variable}
use Rattle.cedar_policy_conversion.specs.Own.{own_word}
use Rattle.cedar_policy_conversion.specs.PartsShow.{asked_shows, asked_of_shows, asked_there_shows, other_variable_shows, constraint_shows}

own_variable : (v : PrincipalOrResource) → names.variable_of (own_word v) ≡ Some (variable_asked v)
own_variable Principal = refl
own_variable Resource = refl

-- what is asked of one of the two
pub asked_of_is : (v : PrincipalOrResource) (x : tree.Variable) (t : Option loose.Add) (c : Option (loose.RelOp × loose.Expr)) (k : ToASTErrorKind) → x ≡ variable_asked v → asked_shows (own_word v) t c k → asked_of_shows x t c k
asked_of_is Principal x t c k is s = subst (λ y. asked_of_shows y t c k) (sym is) s
asked_of_is Resource x t c k is s = subst (λ y. asked_of_shows y t c k) (sym is) s

-- the same of the variable that a word names
pub asked_there_is : (i : loose.Ident) (x : tree.Variable) (t : Option loose.Add) (c : Option (loose.RelOp × loose.Expr)) (k : ToASTErrorKind) → ident_variable i ≡ Some x → asked_of_shows x t c k → asked_there_shows i t c k
asked_there_is i x t c k is s = subst (λ o. MatchOption o ⊥ (λ y. asked_of_shows y t c k)) (sym is) s

-- it is another variable than the own one
pub another_is : (v : PrincipalOrResource) (i : loose.Ident) (expected got : Var) (k : ToASTErrorKind) → variables.variable_of expected ≡ variable_asked v → ident_variable i ≡ Some (variables.variable_of got) → (variables.variable_of got ≡ variable_asked v → ⊥) → k ≡ kinds.IncorrectVariable expected got → other_variable_shows (own_word v) i k
another_is v i expected got k own is other same =
    let differ : expected ≢ got = λ e. other (ap variables.variable_of (sym e) ∙ own) in
    subst (λ j. other_variable_shows (own_word v) i j) (sym same) (own_variable v ∙ ap Some (sym own), is, differ)

-- the other variable, or what is asked of it
pub another_shows : (v : PrincipalOrResource) (i : loose.Ident) (n : Option loose.Name) (t : Option loose.Add) (c : Option (loose.RelOp × loose.Expr)) (expected got : Var) → variables.variable_of expected ≡ variable_asked v → ident_variable i ≡ Some (variables.variable_of got) → (variables.variable_of got ≡ variable_asked v → ⊥)
    → (k : ToASTErrorKind) → (k ≡ kinds.IncorrectVariable expected got) ⊎ asked_of_shows (variables.variable_of got) t c k → constraint_shows (own_word v) (loose.variable_def i n t c) k
another_shows v i n t c expected got own is other k (inl same) = inr (inr (inl (another_is v i expected got k own is other same)))
another_shows v i n t c expected got own is other k (inr s) = inr (inr (inr (asked_there_is i (variables.variable_of got) t c k is s)))

-- ---- operators that a scope has not

-- what holds of them holds of each
pub of_others : (p : RelOp → Type 0) → p relations.Less → p relations.LessEq → p relations.GreaterEq → p relations.Greater → p relations.NotEq → (op : RelOp)
    → (op ≡ relations.Less) ⊎ (op ≡ relations.LessEq) ⊎ (op ≡ relations.GreaterEq) ⊎ (op ≡ relations.Greater) ⊎ (op ≡ relations.NotEq) → p op
of_others p a b c d e op (inl is) = subst p (sym is) a
of_others p a b c d e op (inr (inl is)) = subst p (sym is) b
of_others p a b c d e op (inr (inr (inl is))) = subst p (sym is) c
of_others p a b c d e op (inr (inr (inr (inl is)))) = subst p (sym is) d
of_others p a b c d e op (inr (inr (inr (inr is)))) = subst p (sym is) e
