-- How parts of policies are read, step by step as their readers take them.
use Rattle.std.proofs.Common.{◌≡◌, ℕ, suc, ◌+◌, add-one, List, Option, Some, None, Result, Ok, Err, refl, sym, ap}
use Rattle.cedar_grammar.specs.Token as token
use Rattle.cedar_grammar.specs.Token.{Word, Token}
use Rattle.cedar_grammar.specs.Steps.{eat, word_read, text_read, begins_annotation}
use Rattle.cedar_grammar.specs.Loose as loose
use Rattle.cedar_grammar.specs.LooseReading.{Fault, Reading, Reader, ◌>>◌, mapped, needed, each_of, items_of, operator_at, rel_op, name_of, add_of, expr_at, eat_is, optional, compared_step, annotated, annotation_of, variable_def_of, braced, cond_of, begins_cond, policy_of}
use Rattle.cedar_loose.specs.Parts.{valued, value_of, inside, clause_of}

pub bind_same : {A B : Type 0} (r : Result A Fault) (f g : A → Result B Fault) → ((x : A) → f x ≡ g x) → (r >> f) ≡ (r >> g)
bind_same (Ok x) f g h = h x
bind_same (Err e) f g h = refl

-- a word, as an identifier
abbrev pub ident_of : Reader loose.Ident
ident_of ts = mapped loose.ident (needed (word_read ts))

by-word : {B : Type 0} (ts : List Token) (f : Word × List Token → Result B Fault) (g : loose.Ident × List Token → Result B Fault) → ((w : Word) (us : List Token) → f (w, us) ≡ g (loose.ident w, us)) → (needed (word_read ts) >> f) ≡ (ident_of ts >> g)
by-word {B} ts f g h = by (word_read ts)
  where
    by : (o : Option (Word × List Token)) → (needed o >> f) ≡ (mapped loose.ident (needed o) >> g)
    by None = refl
    by (Some w) = h w.0 w.1

-- ---- annotations

abbrev with-value : Word → Option loose.Str × List Token → Reading loose.Annotation
with-value w v = Ok (loose.annotation (loose.ident w) v.0, v.1)

abbrev value-end : List ℕ → Option (List Token) → Reading (Option loose.Str)
value-end raw o = needed o >> λ vs. Ok (Some (loose.string raw), vs)

abbrev annotation-end : Word → List ℕ → Option (List Token) → Reading loose.Annotation
annotation-end w raw o = needed o >> λ vs. Ok (loose.annotation (loose.ident w) (Some (loose.string raw)), vs)

value-ends : (w : Word) (raw : List ℕ) (o : Option (List Token)) → annotation-end w raw o ≡ (value-end raw o >> with-value w)
value-ends w raw None = refl
value-ends w raw (Some vs) = refl

text-value : (w : Word) (o : Option (List ℕ × List Token)) → (needed o >> λ raw. annotation-end w raw.0 (eat token.RightParen raw.1)) ≡ ((needed o >> λ raw. value-end raw.0 (eat token.RightParen raw.1)) >> with-value w)
text-value w None = refl
text-value w (Some raw) = value-ends w raw.0 (eat token.RightParen raw.1)

annotated-value : (w : Word) (ts : List Token) (o : Option (List Token)) → annotated w ts o ≡ (valued ts o >> with-value w)
annotated-value w ts None = refl
annotated-value w ts (Some us) = text-value w (text_read us)

abbrev pub annotation_steps : Reader loose.Annotation
annotation_steps ts = needed (eat token.At ts) >> λ us. ident_of us >> λ k. value_of k.1 >> λ v. Ok (loose.annotation k.0 v.0, v.1)

pub annotation_is : (ts : List Token) → annotation_of ts ≡ annotation_steps ts
unfolding annotation_of
annotation_is ts = bind_same (needed (eat token.At ts)) (λ us. needed (word_read us) >> λ w. annotated w.0 w.1 (eat token.LeftParen w.1)) (λ us. ident_of us >> λ k. value_of k.1 >> λ v. Ok (loose.annotation k.0 v.0, v.1))
    (λ us. by-word us (λ w. annotated w.0 w.1 (eat token.LeftParen w.1)) (λ k. value_of k.1 >> λ v. Ok (loose.annotation k.0 v.0, v.1)) (λ w vs. annotated-value w vs (eat token.LeftParen vs)))

-- ---- scopes

abbrev pub variable_def_steps : ℕ → Reader loose.VariableDef
variable_def_steps n ts =
    ident_of ts >> λ w. optional name_of w.1 (eat token.Colon w.1) >> λ p. optional (add_of (expr_at n)) p.1 (eat_is p.1) >> λ t.
    compared_step (expr_at (n + 1)) t.1 (operator_at rel_op t.1) >> λ c. Ok (loose.variable_def w.0 p.0 t.0 c.0, c.1)

abbrev after_word : ℕ → loose.Ident × List Token → ℕ → Reading loose.VariableDef
after_word n w m = optional name_of w.1 (eat token.Colon w.1) >> λ p. optional (add_of (expr_at n)) p.1 (eat_is p.1) >> λ t. compared_step (expr_at m) t.1 (operator_at rel_op t.1) >> λ c. Ok (loose.variable_def w.0 p.0 t.0 c.0, c.1)

pub variable_def_is : (n : ℕ) (ts : List Token) → variable_def_of n ts ≡ variable_def_steps n ts
unfolding variable_def_of
variable_def_is n ts = by-word ts (λ w. after_word n (loose.ident w.0, w.1) (suc n)) (λ w. after_word n w (n + 1)) (λ w us. ap (after_word n (loose.ident w, us)) (sym (add-one n)))

-- ---- clauses

abbrev with-expr : Word → Option loose.Expr × List Token → Reading loose.Cond
with-expr w e = Ok (loose.cond (loose.ident w) e.0, e.1)

abbrev clause-end : loose.Expr → Option (List Token) → Reading (Option loose.Expr)
clause-end e o = needed o >> λ us. Ok (Some e, us)

abbrev cond-end : Word → loose.Expr → Option (List Token) → Reading loose.Cond
cond-end w e o = needed o >> λ us. Ok (loose.cond (loose.ident w) (Some e), us)

clause-ends : (w : Word) (e : loose.Expr) (o : Option (List Token)) → cond-end w e o ≡ (clause-end e o >> with-expr w)
clause-ends w e None = refl
clause-ends w e (Some us) = refl

expr-inside : (w : Word) (r : Reading loose.Expr) → (r >> λ e. cond-end w e.0 (eat token.RightBrace e.1)) ≡ ((r >> λ e. clause-end e.0 (eat token.RightBrace e.1)) >> with-expr w)
expr-inside w (Ok e) = clause-ends w e.0 (eat token.RightBrace e.1)
expr-inside w (Err e) = refl

braced-inside : (whole : Reader loose.Expr) (w : Word) (ts : List Token) (o : Option (List Token)) → braced whole w ts o ≡ (inside whole ts o >> with-expr w)
braced-inside whole w ts (Some us) = refl
braced-inside whole w ts None = expr-inside w (whole ts)

abbrev pub cond_steps : ℕ → Reader loose.Cond
cond_steps n ts = ident_of ts >> λ w. needed (eat token.LeftBrace w.1) >> λ us. clause_of (expr_at n) us >> λ e. Ok (loose.cond w.0 e.0, e.1)

pub cond_is : (n : ℕ) (ts : List Token) → cond_of n ts ≡ cond_steps n ts
unfolding cond_of
cond_is n ts = by-word ts
    (λ w. needed (eat token.LeftBrace w.1) >> λ us. braced (expr_at n) w.0 us (eat token.RightBrace us))
    (λ w. needed (eat token.LeftBrace w.1) >> λ us. clause_of (expr_at n) us >> λ e. Ok (loose.cond w.0 e.0, e.1))
    (λ w vs. bind_same (needed (eat token.LeftBrace vs)) (λ us. braced (expr_at n) w us (eat token.RightBrace us)) (λ us. clause_of (expr_at n) us >> λ e. Ok (loose.cond (loose.ident w) e.0, e.1)) (λ us. braced-inside (expr_at n) w us (eat token.RightBrace us)))

-- ---- policies

abbrev after_effect : ℕ → ℕ → List loose.Annotation → loose.Ident × List Token → Reading loose.Policy
after_effect n m notes w =
    needed (eat token.LeftParen w.1) >> λ us. items_of token.RightParen (variable_def_of n) us >> λ vs.
    each_of begins_cond (cond_of m) vs.1 >> λ cs. needed (eat token.Semicolon cs.1) >> λ rest. Ok (loose.policy notes w.0 vs.0 cs.0, rest)

abbrev pub policy_steps : ℕ → Reader loose.Policy
policy_steps n ts =
    each_of begins_annotation annotation_of ts >> λ xs. ident_of xs.1 >> λ w.
    needed (eat token.LeftParen w.1) >> λ us. items_of token.RightParen (variable_def_of n) us >> λ vs.
    each_of begins_cond (cond_of (n + 1)) vs.1 >> λ cs. needed (eat token.Semicolon cs.1) >> λ rest. Ok (loose.policy xs.0 w.0 vs.0 cs.0, rest)

pub policy_is : (n : ℕ) (ts : List Token) → policy_of n ts ≡ policy_steps n ts
unfolding policy_of
policy_is n ts = bind_same (each_of begins_annotation annotation_of ts)
    (λ xs. needed (word_read xs.1) >> λ w. after_effect n (suc n) xs.0 (loose.ident w.0, w.1))
    (λ xs. ident_of xs.1 >> λ w. after_effect n (n + 1) xs.0 w)
    (λ xs. by-word xs.1 (λ w. after_effect n (suc n) xs.0 (loose.ident w.0, w.1)) (λ w. after_effect n (n + 1) xs.0 w) (λ w us. ap (λ m. after_effect n m xs.0 (loose.ident w, us)) (sym (add-one n))))
