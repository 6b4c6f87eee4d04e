-- What reading policies leaves is an end of the tokens.
use Rattle.std.proofs.Common.{◌≡◌, ℕ, suc, ◌<◌, List, ◌∷◌, length, Option, Some, None, Ok, refl, ap, ◌∙◌, arith}
use Rattle.cedar_grammar.specs.Token as token
use Rattle.cedar_grammar.specs.Token.{Word, Mark, Token, word, text, mark}
use Rattle.cedar_grammar.specs.Steps.{eat, word_read, text_read, begins_annotation}
use Rattle.cedar_grammar.proofs.Parts.{eat-is, text_read-is}
use Rattle.cedar_grammar.specs.Loose as loose
use Rattle.cedar_grammar.specs.LooseReading.{Reader, ◌>>◌, needed, each_of, items_of, operator_at, rel_op, name_of, add_of, expr_at, annotated, annotation_of, eat_is, optional, compared_step, variable_def_of, braced, cond_of, begins_cond, policy_of}
use Rattle.cedar_grammar.proofs.Basics.{bind_ok, needed_ok, ok_pair, word_read-is}
use Rattle.cedar_grammar.proofs.Rests.{Rest, all, after, rest-trans, rest-length, rest-at, rest-is, Leaves, mapped-leaves, eat-leaves, word-leaves, each-leaves, items-leaves, name-leaves, add-leaves, expr_at-leaves, operator-leaves}

pub eat_is-is : (ts us : List Token) → eat_is ts ≡ Some us → ts ≡ word token.Is ∷ us
eat_is-is (word token.Is ∷ ts) us e = let same : ts ≡ us = cc e in ap (λ vs. word token.Is ∷ vs) same
eat_is-is ts us e = absurd (cc e)

-- ---- annotations

pub annotated-leaves : (w : Word) (ts : List Token) (o : Option (List Token)) (x : loose.Annotation) (rest : List Token) → eat token.LeftParen ts ≡ o → annotated w ts o ≡ Ok (x, rest) → Rest rest ts
annotated-leaves w ts None x rest e f = rest-is ts rest ts (ok_pair f).1 all
annotated-leaves w ts (Some us) x rest e f =
    let one = bind_ok (needed (text_read us)) (λ raw. needed (eat token.RightParen raw.1) >> λ vs. Ok (loose.annotation (loose.ident w) (Some (loose.string raw.0)), vs)) f in
    let two = bind_ok (needed (eat token.RightParen one.0.1)) (λ vs. Ok (loose.annotation (loose.ident w) (Some (loose.string one.0.0)), vs)) one.2 in
    let last = rest-is two.0 rest one.0.1 (ok_pair two.2).1 (eat-leaves token.RightParen one.0.1 two.0 two.1) in
    rest-at rest ts us (mark token.LeftParen) (eat-is token.LeftParen ts us e) (rest-at rest us one.0.1 (text one.0.0) (text_read-is us one.0.1 one.0.0 (needed_ok (text_read us) one.1)) last)

pub annotation-leaves : Leaves annotation_of
unfolding annotation_of
annotation-leaves ts x rest e =
    let one = bind_ok (needed (eat token.At ts)) (λ us. needed (word_read us) >> λ w. annotated w.0 w.1 (eat token.LeftParen w.1)) e in
    let two = bind_ok (needed (word_read one.0)) (λ w. annotated w.0 w.1 (eat token.LeftParen w.1)) one.2 in
    rest-trans rest one.0 ts (rest-trans rest two.0.1 one.0 (annotated-leaves two.0.0 two.0.1 (eat token.LeftParen two.0.1) x rest refl two.2) (word-leaves one.0 two.0.0 two.0.1 two.1)) (eat-leaves token.At ts one.0 one.1)

-- ---- scopes

-- how a variable with what is asked of it is read
pub record Defined (n : ℕ) (ts : List Token) (d : loose.VariableDef) (rest : List Token) : Type 0 where
  pub w : Word
  pub p : Option loose.Name
  pub t : Option loose.Add
  pub c : Option (loose.RelOp × loose.Expr)
  pub a : List Token
  pub b : List Token
  pub m : List Token
  pub front : ts ≡ word w ∷ a
  pub name : optional name_of a (eat token.Colon a) ≡ Ok (p, b)
  pub type_ : optional (add_of (expr_at n)) b (eat_is b) ≡ Ok (t, m)
  pub compared : compared_step (expr_at (suc n)) m (operator_at rel_op m) ≡ Ok (c, rest)
  pub is : loose.variable_def (loose.ident w) p t c ≡ d

pub defined : (n : ℕ) (ts : List Token) (d : loose.VariableDef) (rest : List Token) → variable_def_of n ts ≡ Ok (d, rest) → Defined n ts d rest
unfolding variable_def_of
defined n ts d rest e =
    let one = bind_ok (needed (word_read ts)) (λ w. optional name_of w.1 (eat token.Colon w.1) >> λ p. optional (add_of (expr_at n)) p.1 (eat_is p.1) >> λ t. compared_step (expr_at (suc n)) t.1 (operator_at rel_op t.1) >> λ c. Ok (loose.variable_def (loose.ident w.0) p.0 t.0 c.0, c.1)) e in
    let two = bind_ok (optional name_of one.0.1 (eat token.Colon one.0.1)) (λ p. optional (add_of (expr_at n)) p.1 (eat_is p.1) >> λ t. compared_step (expr_at (suc n)) t.1 (operator_at rel_op t.1) >> λ c. Ok (loose.variable_def (loose.ident one.0.0) p.0 t.0 c.0, c.1)) one.2 in
    let three = bind_ok (optional (add_of (expr_at n)) two.0.1 (eat_is two.0.1)) (λ t. compared_step (expr_at (suc n)) t.1 (operator_at rel_op t.1) >> λ c. Ok (loose.variable_def (loose.ident one.0.0) two.0.0 t.0 c.0, c.1)) two.2 in
    let four = bind_ok (compared_step (expr_at (suc n)) three.0.1 (operator_at rel_op three.0.1)) (λ c. Ok (loose.variable_def (loose.ident one.0.0) two.0.0 three.0.0 c.0, c.1)) three.2 in
    let v = ok_pair four.2 in
    record {
      w = one.0.0;
      p = two.0.0;
      t = three.0.0;
      c = four.0.0;
      a = one.0.1;
      b = two.0.1;
      m = three.0.1;
      front = word_read-is ts one.0.1 one.0.0 (needed_ok (word_read ts) one.1);
      name = two.1;
      type_ = three.1;
      compared = four.1 ∙ ap (λ r. Ok (four.0.0, r)) v.1;
      is = v.0;
    }

pub optional-leaves : {A : Type 0} (rd : Reader A) → Leaves rd → (ts : List Token) (o : Option (List Token)) → ((us : List Token) → o ≡ Some us → Rest us ts) → (x : Option A) (rest : List Token) → optional rd ts o ≡ Ok (x, rest) → Rest rest ts
optional-leaves rd l ts None h x rest e = rest-is ts rest ts (ok_pair e).1 all
optional-leaves rd l ts (Some us) h x rest e = rest-trans rest us ts (mapped-leaves (λ y. Some y) rd l us x rest e) (h us refl)

compared-leaves : (rd : Reader loose.Expr) → Leaves rd → (ts : List Token) (o : Option (loose.RelOp × List Token)) → operator_at rel_op ts ≡ o → (x : Option (loose.RelOp × loose.Expr)) (rest : List Token) → compared_step rd ts o ≡ Ok (x, rest) → Rest rest ts
compared-leaves rd l ts None f x rest e = rest-is ts rest ts (ok_pair e).1 all
compared-leaves rd l ts (Some y) f x rest e = rest-trans rest y.1 ts (mapped-leaves (λ z. Some (y.0, z)) rd l y.1 x rest e) (operator-leaves rel_op ts y f)

pub defined-leaves : (n : ℕ) (ts : List Token) (d : loose.VariableDef) (rest : List Token) (k : Defined n ts d rest) → Rest rest k.a
defined-leaves n ts d rest k =
    let one = optional-leaves name_of name-leaves k.a (eat token.Colon k.a) (λ us e. rest-at us k.a us (mark token.Colon) (eat-is token.Colon k.a us e) all) k.p k.b k.name in
    let two = optional-leaves (add_of (expr_at n)) (add-leaves (expr_at n) (expr_at-leaves n)) k.b (eat_is k.b) (λ us e. rest-at us k.b us (word token.Is) (eat_is-is k.b us e) all) k.t k.m k.type_ in
    let three = compared-leaves (expr_at (suc n)) (expr_at-leaves (suc n)) k.m (operator_at rel_op k.m) refl k.c rest k.compared in
    rest-trans rest k.b k.a (rest-trans rest k.m k.b three two) one

pub variable_def-leaves : (n : ℕ) → Leaves (variable_def_of n)
variable_def-leaves n ts d rest e = let k = defined n ts d rest e in rest-at rest ts k.a (word k.w) k.front (defined-leaves n ts d rest k)

pub variable_def-eats : (n : ℕ) (ts : List Token) (d : loose.VariableDef) (rest : List Token) → variable_def_of n ts ≡ Ok (d, rest) → length rest < length ts
variable_def-eats n ts d rest e =
    let k = defined n ts d rest e in
    let short = rest-length rest k.a (defined-leaves n ts d rest k) in
    let whole : length ts ≡ suc (length k.a) = ap length k.front in
    omega arith

-- ---- clauses

pub braced-leaves : (rd : Reader loose.Expr) → Leaves rd → (w : Word) (ts : List Token) (o : Option (List Token)) → eat token.RightBrace ts ≡ o → (x : loose.Cond) (rest : List Token) → braced rd w ts o ≡ Ok (x, rest) → Rest rest ts
braced-leaves rd l w ts (Some us) f x rest e = rest-is us rest ts (ok_pair e).1 (rest-at us ts us (mark token.RightBrace) (eat-is token.RightBrace ts us f) all)
braced-leaves rd l w ts None f x rest e =
    let one = bind_ok (rd ts) (λ a. needed (eat token.RightBrace a.1) >> λ us. Ok (loose.cond (loose.ident w) (Some a.0), us)) e in
    let two = bind_ok (needed (eat token.RightBrace one.0.1)) (λ us. Ok (loose.cond (loose.ident w) (Some one.0.0), us)) one.2 in
    rest-is two.0 rest ts (ok_pair two.2).1 (rest-trans two.0 one.0.1 ts (eat-leaves token.RightBrace one.0.1 two.0 two.1) (l ts one.0.0 one.0.1 one.1))

pub cond-leaves : (n : ℕ) → Leaves (cond_of n)
unfolding cond_of
cond-leaves n ts x rest e =
    let one = bind_ok (needed (word_read ts)) (λ w. needed (eat token.LeftBrace w.1) >> λ us. braced (expr_at n) w.0 us (eat token.RightBrace us)) e in
    let two = bind_ok (needed (eat token.LeftBrace one.0.1)) (λ us. braced (expr_at n) one.0.0 us (eat token.RightBrace us)) one.2 in
    rest-trans rest one.0.1 ts (rest-trans rest two.0 one.0.1 (braced-leaves (expr_at n) (expr_at-leaves n) one.0.0 two.0 (eat token.RightBrace two.0) refl x rest two.2) (eat-leaves token.LeftBrace one.0.1 two.0 two.1)) (word-leaves ts one.0.0 one.0.1 one.1)

-- ---- policies

-- how a policy is read
pub record Parts (n : ℕ) (ts : List Token) (q : loose.Policy) (rest : List Token) : Type 0 where
  pub notes : List loose.Annotation
  pub w : Word
  pub defs : List loose.VariableDef
  pub conds : List loose.Cond
  pub a : List Token
  pub b : List Token
  pub annotations : each_of begins_annotation annotation_of ts ≡ Ok (notes, word w ∷ mark token.LeftParen ∷ a)
  pub scope : items_of token.RightParen (variable_def_of n) a ≡ Ok (defs, b)
  pub clauses : each_of begins_cond (cond_of (suc n)) b ≡ Ok (conds, mark token.Semicolon ∷ rest)
  pub is : loose.policy notes (loose.ident w) defs conds ≡ q

pub parts : (n : ℕ) (ts : List Token) (q : loose.Policy) (rest : List Token) → policy_of n ts ≡ Ok (q, rest) → Parts n ts q rest
unfolding policy_of
parts n ts q rest e =
    let one = bind_ok (each_of begins_annotation annotation_of ts) (λ xs. needed (word_read xs.1) >> λ w. needed (eat token.LeftParen w.1) >> λ us. items_of token.RightParen (variable_def_of n) us >> λ vs. each_of begins_cond (cond_of (suc n)) vs.1 >> λ cs. needed (eat token.Semicolon cs.1) >> λ r. Ok (loose.policy xs.0 (loose.ident w.0) vs.0 cs.0, r)) e in
    let two = bind_ok (needed (word_read one.0.1)) (λ w. needed (eat token.LeftParen w.1) >> λ us. items_of token.RightParen (variable_def_of n) us >> λ vs. each_of begins_cond (cond_of (suc n)) vs.1 >> λ cs. needed (eat token.Semicolon cs.1) >> λ r. Ok (loose.policy one.0.0 (loose.ident w.0) vs.0 cs.0, r)) one.2 in
    let three = bind_ok (needed (eat token.LeftParen two.0.1)) (λ us. items_of token.RightParen (variable_def_of n) us >> λ vs. each_of begins_cond (cond_of (suc n)) vs.1 >> λ cs. needed (eat token.Semicolon cs.1) >> λ r. Ok (loose.policy one.0.0 (loose.ident two.0.0) vs.0 cs.0, r)) two.2 in
    let four = bind_ok (items_of token.RightParen (variable_def_of n) three.0) (λ vs. each_of begins_cond (cond_of (suc n)) vs.1 >> λ cs. needed (eat token.Semicolon cs.1) >> λ r. Ok (loose.policy one.0.0 (loose.ident two.0.0) vs.0 cs.0, r)) three.2 in
    let five = bind_ok (each_of begins_cond (cond_of (suc n)) four.0.1) (λ cs. needed (eat token.Semicolon cs.1) >> λ r. Ok (loose.policy one.0.0 (loose.ident two.0.0) four.0.0 cs.0, r)) four.2 in
    let six = bind_ok (needed (eat token.Semicolon five.0.1)) (λ r. Ok (loose.policy one.0.0 (loose.ident two.0.0) four.0.0 five.0.0, r)) five.2 in
    let v = ok_pair six.2 in
    record {
      notes = one.0.0;
      w = two.0.0;
      defs = four.0.0;
      conds = five.0.0;
      a = three.0;
      b = four.0.1;
      annotations = one.1 ∙ ap (λ r. Ok (one.0.0, r)) (word_read-is one.0.1 two.0.1 two.0.0 (needed_ok (word_read one.0.1) two.1) ∙ ap (λ r. word two.0.0 ∷ r) (eat-is token.LeftParen two.0.1 three.0 (needed_ok (eat token.LeftParen two.0.1) three.1)));
      scope = four.1;
      clauses = five.1 ∙ ap (λ r. Ok (five.0.0, r)) (eat-is token.Semicolon five.0.1 six.0 (needed_ok (eat token.Semicolon five.0.1) six.1) ∙ ap (λ r. mark token.Semicolon ∷ r) v.1);
      is = v.0;
    }

pub policy-leaves : (n : ℕ) → Leaves (policy_of n)
policy-leaves n ts q rest e =
    let k = parts n ts q rest e in
    let one = each-leaves annotation_of annotation-leaves begins_annotation ts k.notes (word k.w ∷ mark token.LeftParen ∷ k.a) k.annotations in
    let two = items-leaves (variable_def_of n) (variable_def-leaves n) token.RightParen k.a k.defs k.b k.scope in
    let three = each-leaves (cond_of (suc n)) (cond-leaves (suc n)) begins_cond k.b k.conds (mark token.Semicolon ∷ rest) k.clauses in
    rest-trans rest k.a ts (rest-trans rest k.b k.a (rest-trans rest (mark token.Semicolon ∷ rest) k.b (after _ all) three) two) (rest-trans k.a (word k.w ∷ mark token.LeftParen ∷ k.a) ts (after _ (after _ all)) one)
