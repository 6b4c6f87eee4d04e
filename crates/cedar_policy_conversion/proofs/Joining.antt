-- Clauses, from their parts, and one more of them.
use Rattle.std.proofs.Common.{◌≡◌, List, [], ◌∷◌, ◌++◌, Option, Some, None, refl, sym, ap, ◌∙◌}
use Rattle.std.specs.Option.{option_map, unwrap_or}
use Rattle.cedar_language.specs.Tree.{Tree}
use Rattle.cedar_grammar.specs.Build.{conjunction}
use Rattle.cedar_grammar.specs.Names.{Names}
use Rattle.cedar_grammar.specs.Policies.{joined, body_of}
use Rattle.cedar_grammar.specs.Steps.{◌>>=◌}
use Rattle.cedar_grammar.specs.Token as token
use Rattle.cedar_grammar.specs.Token.{Word}
use Rattle.cedar_grammar.specs.Converting.{each, clause, clause_by, expr_tree}
use Rattle.cedar_grammar.specs.Loose as loose
use Rattle.cedar_cst.specs.LeafView.{shown_ident}
use Rattle.cedar_cst.specs.declared.node.Node.{Node}
use Rattle.cedar_cst.specs.View.{shown_cond, shown_expr, view_cond}
use Rattle.cedar_cst.specs.declared.cst.Cond.{Cond}
use Rattle.cedar_policy_conversion.specs.Clauses.{clause_word, condition_tree, clauses_of, one_more}

each_turn : {B : Type 0} (a : Option B) (o : Option (List B)) (b : Option B)
    → (a >>= λ v. (o >>= λ ys. b >>= λ y. let z : Option (List B) = Some (ys ++ y ∷ []) in z) >>= λ vs. Some (v ∷ vs)) ≡ ((a >>= λ v. o >>= λ vs. let z : Option (List B) = Some (v ∷ vs) in z) >>= λ ys. b >>= λ y. Some (ys ++ y ∷ []))
each_turn None o b = refl
each_turn (Some v) None b = refl
each_turn (Some v) (Some ys) None = refl
each_turn (Some v) (Some ys) (Some y) = refl

pub each_last : {A B : Type 0} (f : A → Option B) (xs : List A) (x : A) → each f (xs ++ x ∷ []) ≡ (each f xs >>= λ ys. f x >>= λ y. Some (ys ++ y ∷ []))
each_last f [] x = alone (f x)
  where
    alone : {B : Type 0} (b : Option B) → (b >>= λ y. Some (y ∷ [])) ≡ (b >>= λ y. Some (y ∷ []))
    alone b = refl
each_last f (w ∷ xs) x = ap (λ o. f w >>= λ v. o >>= λ vs. Some (v ∷ vs)) (each_last f xs x) ∙ each_turn (f w) (each f xs) (f x)

joined_last : (t : Tree) (ts : List Tree) (u : Tree) → joined t (ts ++ u ∷ []) ≡ conjunction (joined t ts) u
joined_last t [] u = refl
joined_last t (s ∷ ts) u = joined_last (conjunction t s) ts u

body_last : (ts : List Tree) (u : Tree) → body_of (ts ++ u ∷ []) ≡ Some (one_more (body_of ts) u)
body_last [] u = refl
body_last (t ∷ ts) u = ap Some (joined_last t ts u)

body_turn : (v : Option (List Tree)) (w : Option Tree) → option_map body_of (v >>= λ ts. w >>= λ t. Some (ts ++ t ∷ [])) ≡ (option_map body_of v >>= λ b. w >>= λ t. Some (Some (one_more b t)))
body_turn None w = refl
body_turn (Some ts) None = refl
body_turn (Some ts) (Some t) = ap Some (body_last ts t)

pub clauses_more : (names : Names) (cs : List loose.Cond) (c : loose.Cond) → clauses_of names (cs ++ c ∷ []) ≡ (clauses_of names cs >>= λ b. clause names c >>= λ t. Some (Some (one_more b t)))
clauses_more names cs c = ap (option_map body_of) (each_last (clause names) cs c) ∙ body_turn (each (clause names) cs) (clause names c)

-- ---- a clause

never : {A B : Type 0} (o : Option A) → (o >>= λ x. let z : Option B = None in z) ≡ None
never None = refl
never (Some x) = refl

by_word : (w : Word) (t : Tree) → clause_by w t ≡ (clause_word (loose.ident w) >>= λ v. clause_by v t)
by_word token.When t = refl
by_word token.Unless t = refl
by_word _ t = refl

by_tree : (w : Word) (o : Option Tree) → (o >>= clause_by w) ≡ (clause_word (loose.ident w) >>= λ v. o >>= clause_by v)
by_tree w None = sym (never (clause_word (loose.ident w)))
by_tree w (Some t) = by_word w t

of_parts : (names : Names) (i : loose.Ident) (e : Option loose.Expr) → clause names (loose.cond i e) ≡ (clause_word i >>= λ w. condition_tree names e >>= λ t. clause_by w t)
of_parts names (loose.ident w) None = sym (never (clause_word (loose.ident w)))
of_parts names (loose.ident w) (Some e) = by_tree w (expr_tree names e)
of_parts names loose.missing_ident e = refl
of_parts names (loose.invalid_ident s) e = refl

pub clause_of_parts : (names : Names) (n : Node (Option Cond)) (c : Cond) → n.node ≡ Some c → clause names (shown_cond n) ≡ (clause_word (shown_ident c.cond) >>= λ w. condition_tree names (option_map shown_expr c.expr) >>= λ t. clause_by w t)
clause_of_parts names n c is = ap (λ o. clause names (unwrap_or (option_map view_cond o) loose.missing_cond)) is ∙ of_parts names (shown_ident c.cond) (option_map shown_expr c.expr)
