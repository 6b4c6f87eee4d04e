-- A wider limit changes nothing of what is read within the narrower one.
use Rattle.std.proofs.Common.{◌≡◌, ℕ, zero, suc, ◌≤◌, ◌⊎◌, inl, inr, Bool, true, false, List, [], ◌∷◌, length, Option, Some, None, Result, Ok, Err, refl, ap, ◌∙◌, arith}
use Rattle.std.specs.Prelude.{map}
use Rattle.cedar_grammar.specs.Token as token
use Rattle.cedar_grammar.specs.Token.{Word, Mark, Token, word, number, text, slot, mark}
use Rattle.cedar_grammar.specs.Steps.{eat, eat_in, eat_then, eat_else, word_read, begins_annotation, is_more, signs_of}
use Rattle.cedar_grammar.specs.Loose as loose
use Rattle.cedar_grammar.specs.Loose.{ands, relations, adds, mults, unaries, accesses, exprs, rec_inits}
use Rattle.cedar_grammar.specs.LooseReading.{Fault, depth, Reading, Reader, ◌>>◌, mapped, needed, each_step, each_at, each_of, after_item, items_step, items_at, items_of, operator_at, chain_step, chain_at, links_of, chain_of, or_op, and_op, rel_op, add_op, mult_op, name_of, rec_init_of, primary_of, begins_access, access_of, member_of, bangs, dashes, after_dashes, after_bangs, unary_of, mult_of, add_of, is_step, relation_step, relation_of, and_of, or_of, choice_of, expr_of, expr_at, annotation_of, eat_is, optional, compared_step, variable_def_of, braced, cond_of, begins_cond, policy_of, policy_at, policies_at, whole}
use Rattle.cedar_grammar.specs.LooseLaws.{ExprsStay, PrimariesStay, PolicyStays, PoliciesStay}

-- the first is out of its limit, or both are the same
abbrev Agree : {A : Type 0} → Result A Fault → Result A Fault → Type 0
Agree p q = (p ≡ Err depth) ⊎ (q ≡ p)

abbrev Stays : {A : Type 0} → Reader A → Reader A → Type 0
Stays r s = (ts : List Token) → Agree (r ts) (s ts)

bind-agrees : {A B : Type 0} (p q : Result A Fault) (f g : A → Result B Fault) → Agree p q → ((x : A) → Agree (f x) (g x)) → Agree (p >> f) (q >> g)
bind-agrees p q f g (inl e) h = inl (ap (λ z. z >> f) e)
bind-agrees (Err x) q f g (inr e) h = inr (ap (λ z. z >> g) e)
bind-agrees (Ok x) q f g (inr e) h = by (h x)
  where
    by : Agree (f x) (g x) → Agree (f x) (q >> g)
    by (inl k) = inl k
    by (inr k) = inr (ap (λ z. z >> g) e ∙ k)

-- the same first step
then-agrees : {A B : Type 0} (p : Result A Fault) (f g : A → Result B Fault) → ((x : A) → Agree (f x) (g x)) → Agree (p >> f) (p >> g)
then-agrees p f g h = bind-agrees p p f g (inr refl) h

-- the same further steps
first-agrees : {A B : Type 0} (p q : Result A Fault) (f : A → Result B Fault) → Agree p q → Agree (p >> f) (q >> f)
first-agrees p q f h = bind-agrees p q f f h (λ x. inr refl)

mapped-stays : {A B : Type 0} (f : A → B) (r s : Reader A) → Stays r s → Stays (λ ts. mapped f (r ts)) (λ ts. mapped f (s ts))
mapped-stays f r s h ts = first-agrees (r ts) (s ts) (λ x. Ok (f x.0, x.1)) (h ts)

-- ---- loops

module _ {A : Type 0} (r s : Reader A) (h : Stays r s) where
  each_step-stays : (more less : Reader (List A)) → Stays more less → (ts : List Token) (b : Bool) → Agree (each_step r more ts b) (each_step s less ts b)
  each_step-stays more less ih ts true =
      bind-agrees (r ts) (s ts) (λ x. more x.1 >> λ xs. Ok (x.0 ∷ xs.0, xs.1)) (λ x. less x.1 >> λ xs. Ok (x.0 ∷ xs.0, xs.1)) (h ts) (λ x. first-agrees (more x.1) (less x.1) (λ xs. Ok (x.0 ∷ xs.0, xs.1)) (ih x.1))
  each_step-stays more less ih ts false = inr refl

  each_at-stays : (begins : List Token → Bool) (n : ℕ) → Stays (each_at begins r n) (each_at begins s n)
  unfolding each_at
  each_at-stays begins zero ts = inr refl
  each_at-stays begins (suc n) ts = each_step-stays (each_at begins r n) (each_at begins s n) (each_at-stays begins n) ts (begins ts)

  each-stays : (begins : List Token → Bool) → Stays (each_of begins r) (each_of begins s)
  unfolding each_of
  each-stays begins ts = each_at-stays begins (suc (length ts)) ts

  after_item-stays : (more less : Reader (List A)) → Stays more less → (a : A) (ts : List Token) (o : Option (List Token)) → Agree (after_item more a ts o) (after_item less a ts o)
  after_item-stays more less ih a ts (Some us) = inr refl
  after_item-stays more less ih a ts None =
      then-agrees (needed (eat token.Comma ts)) (λ us. more us >> λ xs. Ok (a ∷ xs.0, xs.1)) (λ us. less us >> λ xs. Ok (a ∷ xs.0, xs.1)) (λ us. first-agrees (more us) (less us) (λ xs. Ok (a ∷ xs.0, xs.1)) (ih us))

  items_step-stays : (close : Mark) (more less : Reader (List A)) → Stays more less → (ts : List Token) (o : Option (List Token)) → Agree (items_step close r more ts o) (items_step close s less ts o)
  items_step-stays close more less ih ts (Some us) = inr refl
  items_step-stays close more less ih ts None =
      bind-agrees (r ts) (s ts) (λ a. after_item more a.0 a.1 (eat close a.1)) (λ a. after_item less a.0 a.1 (eat close a.1)) (h ts) (λ a. after_item-stays more less ih a.0 a.1 (eat close a.1))

  items_at-stays : (close : Mark) (n : ℕ) → Stays (items_at close r n) (items_at close s n)
  unfolding items_at
  items_at-stays close zero ts = inr refl
  items_at-stays close (suc n) ts = items_step-stays close (items_at close r n) (items_at close s n) (items_at-stays close n) ts (eat close ts)

  items-stays : (close : Mark) → Stays (items_of close r) (items_of close s)
  unfolding items_of
  items-stays close ts = items_at-stays close (suc (length ts)) ts

module _ {Op A : Type 0} (op : Token → Option Op) (r s : Reader A) (h : Stays r s) where
  chain_step-stays : (more less : Reader (List (Op × A))) → Stays more less → (ts : List Token) (o : Option (Op × List Token)) → Agree (chain_step r more ts o) (chain_step s less ts o)
  chain_step-stays more less ih ts None = inr refl
  chain_step-stays more less ih ts (Some x) =
      bind-agrees (r x.1) (s x.1) (λ b. more b.1 >> λ bs. Ok ((x.0, b.0) ∷ bs.0, bs.1)) (λ b. less b.1 >> λ bs. Ok ((x.0, b.0) ∷ bs.0, bs.1)) (h x.1) (λ b. first-agrees (more b.1) (less b.1) (λ bs. Ok ((x.0, b.0) ∷ bs.0, bs.1)) (ih b.1))

  chain_at-stays : (n : ℕ) → Stays (chain_at op r n) (chain_at op s n)
  unfolding chain_at
  chain_at-stays zero ts = inr refl
  chain_at-stays (suc n) ts = chain_step-stays (chain_at op r n) (chain_at op s n) (chain_at-stays n) ts (operator_at op ts)

  links-stays : Stays (links_of op r) (links_of op s)
  unfolding links_of
  links-stays ts = chain_at-stays (suc (length ts)) ts

  chain-stays : Stays (chain_of op r) (chain_of op s)
  unfolding chain_of
  chain-stays ts =
      bind-agrees (r ts) (s ts) (λ a. links_of op r a.1 >> λ bs. Ok ((a.0, bs.0), bs.1)) (λ a. links_of op s a.1 >> λ bs. Ok ((a.0, bs.0), bs.1)) (h ts) (λ a. first-agrees (links_of op r a.1) (links_of op s a.1) (λ bs. Ok ((a.0, bs.0), bs.1)) (links-stays a.1))

-- ---- what follows each step

abbrev pub to_else : Reader loose.Expr → loose.Expr → loose.Expr × List Token → Reading loose.Expr
to_else q a b = needed (eat_else b.1) >> λ vs. mapped (loose.if_expr a b.0) (q vs)

abbrev pub to_then : Reader loose.Expr → loose.Expr × List Token → Reading loose.Expr
to_then q a = needed (eat_then a.1) >> λ us. q us >> to_else q a.0

-- ---- expressions

module _ (r s : Reader loose.Expr) (h : Stays r s) where
  rec_init-stays : Stays (rec_init_of r) (rec_init_of s)
  unfolding rec_init_of
  rec_init-stays ts =
      bind-agrees (r ts) (s ts) (λ k. needed (eat token.Colon k.1) >> λ us. mapped (loose.rec_init k.0) (r us)) (λ k. needed (eat token.Colon k.1) >> λ us. mapped (loose.rec_init k.0) (s us)) (h ts)
      (λ k. then-agrees (needed (eat token.Colon k.1)) (λ us. mapped (loose.rec_init k.0) (r us)) (λ us. mapped (loose.rec_init k.0) (s us)) (mapped-stays (loose.rec_init k.0) r s h))

  primary-stays : Stays (primary_of r) (primary_of s)
  unfolding primary_of
  primary-stays (mark token.LeftParen ∷ ts) = first-agrees (r ts) (s ts) (λ e. needed (eat token.RightParen e.1) >> λ us. Ok (loose.expr e.0, us)) (h ts)
  primary-stays (mark token.LeftBracket ∷ ts) = mapped-stays (λ es. loose.e_list (exprs es)) (items_of token.RightBracket r) (items_of token.RightBracket s) (items-stays r s h token.RightBracket) ts
  primary-stays (mark token.LeftBrace ∷ ts) = mapped-stays (λ es. loose.r_inits (rec_inits es)) (items_of token.RightBrace (rec_init_of r)) (items_of token.RightBrace (rec_init_of s)) (items-stays (rec_init_of r) (rec_init_of s) rec_init-stays token.RightBrace) ts
  primary-stays [] = inr refl
  primary-stays (t ∷ ts) = inr refl

  access-stays : Stays (access_of r) (access_of s)
  unfolding access_of
  access-stays (mark token.LeftParen ∷ ts) = mapped-stays (λ es. loose.call (exprs es)) (items_of token.RightParen r) (items_of token.RightParen s) (items-stays r s h token.RightParen) ts
  access-stays (mark token.LeftBracket ∷ ts) = first-agrees (r ts) (s ts) (λ e. needed (eat token.RightBracket e.1) >> λ us. Ok (loose.index e.0, us)) (h ts)
  access-stays [] = inr refl
  access-stays (t ∷ ts) = inr refl

  member-stays : Stays (member_of r) (member_of s)
  unfolding member_of
  member-stays ts =
      bind-agrees (primary_of r ts) (primary_of s ts) (λ p. mapped (λ xs. loose.member p.0 (accesses xs)) (each_of begins_access (access_of r) p.1)) (λ p. mapped (λ xs. loose.member p.0 (accesses xs)) (each_of begins_access (access_of s) p.1)) (primary-stays ts)
      (λ p. mapped-stays (λ xs. loose.member p.0 (accesses xs)) (each_of begins_access (access_of r)) (each_of begins_access (access_of s)) (each-stays (access_of r) (access_of s) access-stays begins_access) p.1)

  dashes-stays : (ts : List Token) (n : ℕ) (mid : List Token) → Agree (after_dashes (member_of r) ts n mid) (after_dashes (member_of s) ts n mid)
  dashes-stays ts zero mid = mapped-stays (loose.unary None) (member_of r) (member_of s) member-stays ts
  dashes-stays ts (suc n) mid = mapped-stays (loose.unary (Some (dashes n))) (member_of r) (member_of s) member-stays mid

  bangs-stays : (ts : List Token) (n : ℕ) (mid : List Token) → Agree (after_bangs (member_of r) ts n mid) (after_bangs (member_of s) ts n mid)
  bangs-stays ts zero mid = dashes-stays ts (signs_of token.Minus ts).0 (signs_of token.Minus ts).1
  bangs-stays ts (suc n) mid = mapped-stays (loose.unary (Some (bangs n))) (member_of r) (member_of s) member-stays mid

  unary-stays : Stays (unary_of r) (unary_of s)
  unfolding unary_of
  unary-stays ts = bangs-stays ts (signs_of token.Bang ts).0 (signs_of token.Bang ts).1

  mult-stays : Stays (mult_of r) (mult_of s)
  unfolding mult_of
  mult-stays = mapped-stays (λ x. loose.mult x.0 (unaries x.1)) (chain_of mult_op (unary_of r)) (chain_of mult_op (unary_of s)) (chain-stays mult_op (unary_of r) (unary_of s) unary-stays)

  add-stays : Stays (add_of r) (add_of s)
  unfolding add_of
  add-stays = mapped-stays (λ x. loose.add x.0 (mults x.1)) (chain_of add_op (mult_of r)) (chain_of add_op (mult_of s)) (chain-stays add_op (mult_of r) (mult_of s) mult-stays)

  is_step-stays : (a t : loose.Add) (ts : List Token) (o : Option (List Token)) → Agree (is_step r a t ts o) (is_step s a t ts o)
  is_step-stays a t ts None = inr refl
  is_step-stays a t ts (Some us) = mapped-stays (loose.is_type_in a t) (add_of r) (add_of s) add-stays us

  links_step-stays : (a : loose.Add) → Stays (λ ts. mapped (λ bs. loose.common a (adds bs)) (links_of rel_op (add_of r) ts)) (λ ts. mapped (λ bs. loose.common a (adds bs)) (links_of rel_op (add_of s) ts))
  links_step-stays a = mapped-stays (λ bs. loose.common a (adds bs)) (links_of rel_op (add_of r)) (links_of rel_op (add_of s)) (links-stays rel_op (add_of r) (add_of s) add-stays)

  relation_step-stays : (a : loose.Add) → Stays (relation_step r a) (relation_step s a)
  relation_step-stays a [] = links_step-stays a []
  relation_step-stays a (word token.Has ∷ ts) = mapped-stays (loose.has a) (add_of r) (add_of s) add-stays ts
  relation_step-stays a (word token.Like ∷ ts) = mapped-stays (loose.like a) (add_of r) (add_of s) add-stays ts
  relation_step-stays a (word token.Is ∷ ts) =
      bind-agrees (add_of r ts) (add_of s ts) (λ t. is_step r a t.0 t.1 (eat_in t.1)) (λ t. is_step s a t.0 t.1 (eat_in t.1)) (add-stays ts) (λ t. is_step-stays a t.0 t.1 (eat_in t.1))
  relation_step-stays a (t ∷ ts) = links_step-stays a (t ∷ ts)

  relation-stays : Stays (relation_of r) (relation_of s)
  unfolding relation_of
  relation-stays ts = bind-agrees (add_of r ts) (add_of s ts) (λ a. relation_step r a.0 a.1) (λ a. relation_step s a.0 a.1) (add-stays ts) (λ a. relation_step-stays a.0 a.1)

  and-stays : Stays (and_of r) (and_of s)
  unfolding and_of
  and-stays = mapped-stays (λ x. loose.and x.0 (relations (map (λ y. y.1) x.1))) (chain_of and_op (relation_of r)) (chain_of and_op (relation_of s)) (chain-stays and_op (relation_of r) (relation_of s) relation-stays)

  or-stays : Stays (or_of r) (or_of s)
  unfolding or_of
  or-stays = mapped-stays (λ x. loose.or x.0 (ands (map (λ y. y.1) x.1))) (chain_of or_op (and_of r)) (chain_of or_op (and_of s)) (chain-stays or_op (and_of r) (and_of s) and-stays)

  choice-stays : Stays (choice_of r) (choice_of s)
  unfolding choice_of
  choice-stays ts =
      bind-agrees (r ts) (s ts) (to_then r) (to_then s) (h ts)
      (λ a. then-agrees (needed (eat_then a.1)) (λ us. r us >> to_else r a.0) (λ us. s us >> to_else s a.0)
      (λ us. bind-agrees (r us) (s us) (to_else r a.0) (to_else s a.0) (h us)
      (λ b. then-agrees (needed (eat_else b.1)) (λ vs. mapped (loose.if_expr a.0 b.0) (r vs)) (λ vs. mapped (loose.if_expr a.0 b.0) (s vs)) (mapped-stays (loose.if_expr a.0 b.0) r s h))))

  expr-stays : Stays (expr_of r) (expr_of s)
  unfolding expr_of
  expr-stays (word token.If ∷ ts) = choice-stays ts
  expr-stays [] = mapped-stays loose.or_expr (or_of r) (or_of s) or-stays []
  expr-stays (t ∷ ts) = mapped-stays loose.or_expr (or_of r) (or_of s) or-stays (t ∷ ts)

expr_at-stays : (m n : ℕ) → m ≤ n → Stays (expr_at m) (expr_at n)
unfolding expr_at
expr_at-stays zero n le ts = inl refl
expr_at-stays (suc m) zero le ts = absurd (omega arith)
expr_at-stays (suc m) (suc n) le ts = let less : m ≤ n = omega arith in expr-stays (expr_at m) (expr_at n) (expr_at-stays m n less) ts

-- ---- policies

optional-stays : {A : Type 0} (r s : Reader A) → Stays r s → (ts : List Token) (o : Option (List Token)) → Agree (optional r ts o) (optional s ts o)
optional-stays r s h ts None = inr refl
optional-stays r s h ts (Some us) = mapped-stays (λ x. Some x) r s h us

compared-stays : (r s : Reader loose.Expr) → Stays r s → (ts : List Token) (o : Option (loose.RelOp × List Token)) → Agree (compared_step r ts o) (compared_step s ts o)
compared-stays r s h ts None = inr refl
compared-stays r s h ts (Some x) = mapped-stays (λ e. Some (x.0, e)) r s h x.1

abbrev pub to_end : ℕ → Word → Option loose.Name → Option loose.Add × List Token → Reading loose.VariableDef
to_end n w p t = mapped (λ c. loose.variable_def (loose.ident w) p t.0 c) (compared_step (expr_at (suc n)) t.1 (operator_at rel_op t.1))

abbrev pub to_type : ℕ → Word → Option loose.Name × List Token → Reading loose.VariableDef
to_type n w p = optional (add_of (expr_at n)) p.1 (eat_is p.1) >> to_end n w p.0

variable_def-stays : (m n : ℕ) → m ≤ n → Stays (variable_def_of m) (variable_def_of n)
unfolding variable_def_of
variable_def-stays m n le ts =
    let more : suc m ≤ suc n = omega arith in
    then-agrees (needed (word_read ts)) (λ w. optional name_of w.1 (eat token.Colon w.1) >> to_type m w.0) (λ w. optional name_of w.1 (eat token.Colon w.1) >> to_type n w.0)
    (λ w. then-agrees (optional name_of w.1 (eat token.Colon w.1)) (to_type m w.0) (to_type n w.0)
    (λ p. bind-agrees (optional (add_of (expr_at m)) p.1 (eat_is p.1)) (optional (add_of (expr_at n)) p.1 (eat_is p.1)) (to_end m w.0 p.0) (to_end n w.0 p.0) (optional-stays (add_of (expr_at m)) (add_of (expr_at n)) (add-stays (expr_at m) (expr_at n) (expr_at-stays m n le)) p.1 (eat_is p.1))
    (λ t. first-agrees (compared_step (expr_at (suc m)) t.1 (operator_at rel_op t.1)) (compared_step (expr_at (suc n)) t.1 (operator_at rel_op t.1)) (λ c. Ok (loose.variable_def (loose.ident w.0) p.0 t.0 c.0, c.1)) (compared-stays (expr_at (suc m)) (expr_at (suc n)) (expr_at-stays (suc m) (suc n) more) t.1 (operator_at rel_op t.1)))))

braced-stays : (r s : Reader loose.Expr) → Stays r s → (w : Word) (ts : List Token) (o : Option (List Token)) → Agree (braced r w ts o) (braced s w ts o)
braced-stays r s h w ts (Some us) = inr refl
braced-stays r s h w ts None = first-agrees (r ts) (s ts) (λ e. needed (eat token.RightBrace e.1) >> λ us. Ok (loose.cond (loose.ident w) (Some e.0), us)) (h ts)

cond-stays : (m n : ℕ) → m ≤ n → Stays (cond_of m) (cond_of n)
unfolding cond_of
cond-stays m n le ts =
    then-agrees (needed (word_read ts)) (λ w. needed (eat token.LeftBrace w.1) >> λ us. braced (expr_at m) w.0 us (eat token.RightBrace us)) (λ w. needed (eat token.LeftBrace w.1) >> λ us. braced (expr_at n) w.0 us (eat token.RightBrace us))
    (λ w. then-agrees (needed (eat token.LeftBrace w.1)) (λ us. braced (expr_at m) w.0 us (eat token.RightBrace us)) (λ us. braced (expr_at n) w.0 us (eat token.RightBrace us)) (λ us. braced-stays (expr_at m) (expr_at n) (expr_at-stays m n le) w.0 us (eat token.RightBrace us)))

abbrev pub to_semicolon : List loose.Annotation → Word → List loose.VariableDef → List loose.Cond × List Token → Reading loose.Policy
to_semicolon xs w vs cs = needed (eat token.Semicolon cs.1) >> λ rest. Ok (loose.policy xs (loose.ident w) vs cs.0, rest)

abbrev pub to_clauses : ℕ → List loose.Annotation → Word → List loose.VariableDef × List Token → Reading loose.Policy
to_clauses n xs w vs = each_of begins_cond (cond_of (suc n)) vs.1 >> to_semicolon xs w vs.0

abbrev pub to_scope : ℕ → List loose.Annotation → Word × List Token → Reading loose.Policy
to_scope n xs w = needed (eat token.LeftParen w.1) >> λ us. items_of token.RightParen (variable_def_of n) us >> to_clauses n xs w.0

abbrev pub to_effect : ℕ → List loose.Annotation × List Token → Reading loose.Policy
to_effect n xs = needed (word_read xs.1) >> to_scope n xs.0

policy-stays : (m n : ℕ) → m ≤ n → Stays (policy_of m) (policy_of n)
unfolding policy_of
policy-stays m n le ts =
    let more : suc m ≤ suc n = omega arith in
    then-agrees (each_of begins_annotation annotation_of ts) (to_effect m) (to_effect n)
    (λ xs. then-agrees (needed (word_read xs.1)) (to_scope m xs.0) (to_scope n xs.0)
    (λ w. then-agrees (needed (eat token.LeftParen w.1)) (λ us. items_of token.RightParen (variable_def_of m) us >> to_clauses m xs.0 w.0) (λ us. items_of token.RightParen (variable_def_of n) us >> to_clauses n xs.0 w.0)
    (λ us. bind-agrees (items_of token.RightParen (variable_def_of m) us) (items_of token.RightParen (variable_def_of n) us) (to_clauses m xs.0 w.0) (to_clauses n xs.0 w.0) (items-stays (variable_def_of m) (variable_def_of n) (variable_def-stays m n le) token.RightParen us)
    (λ vs. first-agrees (each_of begins_cond (cond_of (suc m)) vs.1) (each_of begins_cond (cond_of (suc n)) vs.1) (to_semicolon xs.0 w.0 vs.0) (each-stays (cond_of (suc m)) (cond_of (suc n)) (cond-stays (suc m) (suc n) more) begins_cond vs.1)))))

policy_at-stays : (m n : ℕ) → m ≤ n → Stays (policy_at m) (policy_at n)
unfolding policy_at
policy_at-stays zero n le ts = inl refl
policy_at-stays (suc m) zero le ts = absurd (omega arith)
policy_at-stays (suc m) (suc n) le ts = let less : m ≤ n = omega arith in policy-stays m n less ts

policies_at-stays : (m n : ℕ) → m ≤ n → Stays (policies_at m) (policies_at n)
unfolding policies_at
policies_at-stays zero n le ts = inl refl
policies_at-stays (suc m) zero le ts = absurd (omega arith)
policies_at-stays (suc m) (suc n) le ts =
    let less : m ≤ n = omega arith in
    mapped-stays loose.policies (each_of is_more (policy_of m)) (each_of is_more (policy_of n)) (each-stays (policy_of m) (policy_of n) (policy-stays m n less) is_more) ts

-- ---- the laws

agree-is : {A : Type 0} (p q : Result A Fault) → Agree p q → (p ≡ Err depth → ⊥) → q ≡ p
agree-is p q (inl e) h = absurd (h e)
agree-is p q (inr e) h = e

whole-agrees : {A : Type 0} (p q : Reading A) → Agree p q → ((p >> whole) ≡ Err depth → ⊥) → (q >> whole) ≡ (p >> whole)
whole-agrees p q h = agree-is (p >> whole) (q >> whole) (first-agrees p q whole h)

pub exprs_stay : ExprsStay
exprs_stay m n ts le = whole-agrees (expr_at m ts) (expr_at n ts) (expr_at-stays m n le ts)

pub primaries_stay : PrimariesStay
primaries_stay zero n ts le h = absurd (h refl)
primaries_stay (suc m) zero ts le h = absurd (omega arith)
primaries_stay (suc m) (suc n) ts le h = let less : m ≤ n = omega arith in whole-agrees (primary_of (expr_at m) ts) (primary_of (expr_at n) ts) (primary-stays (expr_at m) (expr_at n) (expr_at-stays m n less) ts) h

pub policy_stays : PolicyStays
policy_stays m n ts le = whole-agrees (policy_at m ts) (policy_at n ts) (policy_at-stays m n le ts)

pub policies_stay : PoliciesStay
policies_stay m n ts le = whole-agrees (policies_at m ts) (policies_at n ts) (policies_at-stays m n le ts)
