-- Where reading stops for the limit, as many constructs open.
use Rattle.std.proofs.Common.{◌≡◌, ℕ, zero, suc, ◌≤◌, ◌^◌, Bool, true, false, cond, List, [], ◌∷◌, length, Option, Some, None, Result, Ok, Err, refl, ap, arith}
use Rattle.std.specs.Prelude.{map, nat_lt}
use Rattle.cedar_grammar.specs.Token as token
use Rattle.cedar_grammar.specs.Token.{Word, Mark, Token, word, number, text, slot, mark}
use Rattle.cedar_grammar.specs.Steps.{eat, eat_in, eat_then, eat_else, word_read, text_read, begins_annotation, is_more, signs_of}
use Rattle.cedar_grammar.proofs.Parts.{eat-is, eat_in-is, eat_then-is, eat_else-is}
use Rattle.cedar_grammar.specs.Loose as loose
use Rattle.cedar_grammar.specs.Loose.{ands, relations, adds, mults, unaries, accesses, exprs, rec_inits}
use Rattle.cedar_grammar.specs.LooseReading.{Fault, syntax, depth, Reading, Reader, ◌>>◌, mapped, needed, each_step, each_at, each_of, after_item, items_step, items_at, items_of, operator_at, chain_step, chain_at, links_of, chain_of, or_op, and_op, rel_op, add_op, mult_op, next_word, qualified, name_next, name_at, name_of, literal_of, ref_init_of, ref_rest, named_step, named_of, rec_init_of, primary_of, begins_access, access_of, member_of, bangs, dashes, after_dashes, after_bangs, unary_of, mult_of, add_of, is_step, relation_step, relation_of, and_of, or_of, choice_of, expr_of, expr_at, annotated, annotation_of, eat_is, optional, compared_step, variable_def_of, braced, cond_of, begins_cond, policy_of, policy_at, policies_at, whole, opens, openers}
use Rattle.cedar_grammar.specs.LooseLaws.{ExprsNest, PrimariesNest, PolicyNests, PoliciesNest}
use Rattle.cedar_grammar.proofs.Basics.{needed_ok}
use Rattle.cedar_grammar.proofs.Rests.{ref_init-leaves, Rest, all, after, rest-at, rest-trans, Leaves, eat-leaves, word-leaves, each-leaves, items-leaves, operator-leaves, name-leaves, signs-rest, rec_init-leaves, primary-leaves, access-leaves, unary-leaves, mult-leaves, add-leaves, relation-leaves, and-leaves, expr_at-leaves}
use Rattle.cedar_grammar.proofs.Stays.{to_then, to_else, to_end, to_type, to_effect, to_scope, to_clauses, to_semicolon}
use Rattle.cedar_grammar.proofs.PolicyRests.{eat_is-is, annotation-leaves, optional-leaves, variable_def-leaves, cond-leaves, policy-leaves}

openers-more : (t : Token) (ts : List Token) → openers ts ≤ openers (t ∷ ts)
openers-more t ts = by (opens t)
  where
    by : (b : Bool) → openers ts ≤ cond b (suc (openers ts)) (openers ts)
    by true = omega arith
    by false = omega arith

rest-openers : (rest ts : List Token) → Rest rest ts → openers rest ≤ openers ts
rest-openers rest ts all = omega arith
rest-openers rest ts (after t {ts = us} d) = let one = rest-openers rest us d in let two = openers-more t us in omega arith

-- out of the limit only where so many constructs open
abbrev Deep : {A : Type 0} → ℕ → Reader A → Type 0
Deep k r = (ts : List Token) → r ts ≡ Err depth → k ≤ openers ts

-- in an end of the tokens no more open
in-rest : (k : ℕ) (rest ts : List Token) → Rest rest ts → k ≤ openers rest → k ≤ openers ts
in-rest k rest ts d le = let more = rest-openers rest ts d in omega arith

-- by cases on which step is out of the limit
pub bind-deep : {A B : Type 0} {P : Type 0} (p : Result A Fault) (f : A → Result B Fault) → (p ≡ Err depth → P) → ((x : A) → p ≡ Ok x → f x ≡ Err depth → P) → (p >> f) ≡ Err depth → P
bind-deep (Ok x) f g h e = h x refl e
bind-deep (Err x) f g h e = let same : x ≡ depth = cc e in g (ap (λ y. Err y) same)

pub needed-deep : {A B : Type 0} {P : Type 0} (o : Option A) (f : A → Result B Fault) → ((x : A) → needed o ≡ Ok x → f x ≡ Err depth → P) → (needed o >> f) ≡ Err depth → P
needed-deep None f h e = absurd (cc e)
needed-deep (Some x) f h e = h x refl e

mapped-deep : {A B : Type 0} (k : ℕ) (f : A → B) (r : Reader A) → Deep k r → Deep k (λ ts. mapped f (r ts))
mapped-deep k f r h ts = bind-deep (r ts) (λ x. Ok (f x.0, x.1)) (h ts) (λ x e g. absurd (cc g))

-- ---- loops

module _ {A : Type 0} (k : ℕ) (r : Reader A) (l : Leaves r) (h : Deep k r) where
  each_step-deep : (more : Reader (List A)) → Deep k more → (ts : List Token) (b : Bool) → each_step r more ts b ≡ Err depth → k ≤ openers ts
  each_step-deep more ih ts false e = absurd (cc e)
  each_step-deep more ih ts true e =
      bind-deep (r ts) (λ x. more x.1 >> λ xs. Ok (x.0 ∷ xs.0, xs.1)) (h ts)
      (λ x e. bind-deep (more x.1) (λ xs. Ok (x.0 ∷ xs.0, xs.1)) (λ g. in-rest k x.1 ts (l ts x.0 x.1 e) (ih x.1 g)) (λ xs f g. absurd (cc g))) e

  each_at-deep : (begins : List Token → Bool) (n : ℕ) → Deep k (each_at begins r n)
  unfolding each_at
  each_at-deep begins zero ts e = absurd (cc e)
  each_at-deep begins (suc n) ts e = each_step-deep (each_at begins r n) (each_at-deep begins n) ts (begins ts) e

  each-deep : (begins : List Token → Bool) → Deep k (each_of begins r)
  unfolding each_of
  each-deep begins ts e = each_at-deep begins (suc (length ts)) ts e

  after_item-deep : (more : Reader (List A)) → Deep k more → (a : A) (ts : List Token) (o : Option (List Token)) → after_item more a ts o ≡ Err depth → k ≤ openers ts
  after_item-deep more ih a ts (Some us) e = absurd (cc e)
  after_item-deep more ih a ts None e =
      needed-deep (eat token.Comma ts) (λ us. more us >> λ xs. Ok (a ∷ xs.0, xs.1))
      (λ us e. bind-deep (more us) (λ xs. Ok (a ∷ xs.0, xs.1)) (λ g. in-rest k us ts (eat-leaves token.Comma ts us e) (ih us g)) (λ xs f g. absurd (cc g))) e

  items_step-deep : (close : Mark) (more : Reader (List A)) → Deep k more → (ts : List Token) (o : Option (List Token)) → items_step close r more ts o ≡ Err depth → k ≤ openers ts
  items_step-deep close more ih ts (Some us) e = absurd (cc e)
  items_step-deep close more ih ts None e =
      bind-deep (r ts) (λ a. after_item more a.0 a.1 (eat close a.1)) (h ts) (λ a e g. in-rest k a.1 ts (l ts a.0 a.1 e) (after_item-deep more ih a.0 a.1 (eat close a.1) g)) e

  items_at-deep : (close : Mark) (n : ℕ) → Deep k (items_at close r n)
  unfolding items_at
  items_at-deep close zero ts e = absurd (cc e)
  items_at-deep close (suc n) ts e = items_step-deep close (items_at close r n) (items_at-deep close n) ts (eat close ts) e

  items-deep : (close : Mark) → Deep k (items_of close r)
  unfolding items_of
  items-deep close ts e = items_at-deep close (suc (length ts)) ts e

module _ {Op A : Type 0} (k : ℕ) (op : Token → Option Op) (r : Reader A) (l : Leaves r) (h : Deep k r) where
  chain_step-deep : (more : Reader (List (Op × A))) → Deep k more → (ts : List Token) (o : Option (Op × List Token)) → operator_at op ts ≡ o → chain_step r more ts o ≡ Err depth → k ≤ openers ts
  chain_step-deep more ih ts None f e = absurd (cc e)
  chain_step-deep more ih ts (Some x) f e =
      let front = operator-leaves op ts x f in
      bind-deep (r x.1) (λ b. more b.1 >> λ bs. Ok ((x.0, b.0) ∷ bs.0, bs.1)) (λ g. in-rest k x.1 ts front (h x.1 g))
      (λ b e. bind-deep (more b.1) (λ bs. Ok ((x.0, b.0) ∷ bs.0, bs.1)) (λ g. in-rest k b.1 ts (rest-trans b.1 x.1 ts (l x.1 b.0 b.1 e) front) (ih b.1 g)) (λ bs q g. absurd (cc g))) e

  chain_at-deep : (n : ℕ) → Deep k (chain_at op r n)
  unfolding chain_at
  chain_at-deep zero ts e = absurd (cc e)
  chain_at-deep (suc n) ts e = chain_step-deep (chain_at op r n) (chain_at-deep n) ts (operator_at op ts) refl e

  links-deep : Deep k (links_of op r)
  unfolding links_of
  links-deep ts e = chain_at-deep (suc (length ts)) ts e

  chain-deep : Deep k (chain_of op r)
  unfolding chain_of
  chain-deep ts =
      bind-deep (r ts) (λ a. links_of op r a.1 >> λ bs. Ok ((a.0, bs.0), bs.1)) (h ts)
      (λ a e. bind-deep (links_of op r a.1) (λ bs. Ok ((a.0, bs.0), bs.1)) (λ g. in-rest k a.1 ts (l ts a.0 a.1 e) (links-deep a.1 g)) (λ bs f g. absurd (cc g)))

-- ---- names and literals

abbrev pub Never : {A : Type 0} → Reader A → Type 0
Never r = (ts : List Token) → r ts ≡ Err depth → ⊥

mapped-never : {A B : Type 0} (f : A → B) (r : Reader A) → Never r → Never (λ ts. mapped f (r ts))
mapped-never f r h ts = bind-deep (r ts) (λ x. Ok (f x.0, x.1)) (h ts) (λ x e g. cc g)

name_next-never : (more : Reader loose.Name) → Never more → (w : Word) (ts : List Token) (o : Option (List Token)) → name_next more w ts o ≡ Err depth → ⊥
name_next-never more ih w ts None e = cc e
name_next-never more ih w ts (Some us) e = mapped-never (qualified w) more ih us e

name_at-never : (n : ℕ) → Never (name_at n)
unfolding name_at
name_at-never zero ts e = cc e
name_at-never (suc n) ts e = needed-deep (word_read ts) (λ w. name_next (name_at n) w.0 w.1 (next_word w.1)) (λ w e g. name_next-never (name_at n) (name_at-never n) w.0 w.1 (next_word w.1) g) e

pub name-never : Never name_of
unfolding name_of
name-never ts e = name_at-never (suc (length ts)) ts e

literal-never : Never literal_of
unfolding literal_of
literal-never [] e = cc e
literal-never (word token.True ∷ ts) e = cc e
literal-never (word token.False ∷ ts) e = cc e
literal-never (text raw ∷ ts) e = cc e
literal-never (number n ∷ ts) e = by (nat_lt n (2 ^ 64)) e
  where
    by : (b : Bool) → cond {A = Reading loose.Literal} b (Ok (loose.num n, ts)) (Err syntax) ≡ Err depth → ⊥
    by true f = cc f
    by false f = cc f
literal-never (t ∷ ts) e = cc e

ref_init-never : Never ref_init_of
unfolding ref_init_of
ref_init-never ts =
    needed-deep (word_read ts) (λ w. needed (eat token.Colon w.1) >> λ us. mapped (loose.ref_init (loose.ident w.0)) (literal_of us))
    (λ w e. needed-deep (eat token.Colon w.1) (λ us. mapped (loose.ref_init (loose.ident w.0)) (literal_of us)) (λ us f g. mapped-never (loose.ref_init (loose.ident w.0)) literal_of literal-never us g))

items-never : {A : Type 0} (close : Mark) (r : Reader A) → Leaves r → Never r → Never (items_of close r)
items-never close r l h ts e = let more = items-deep (suc (openers ts)) r l (λ us f. absurd (h us f)) close ts e in absurd (omega arith)

each-never : {A : Type 0} (begins : List Token → Bool) (r : Reader A) → Leaves r → Never r → Never (each_of begins r)
each-never begins r l h ts e = let more = each-deep (suc (openers ts)) r l (λ us f. absurd (h us f)) begins ts e in absurd (omega arith)

pub ref_rest-never : (n : loose.Name) → Never (ref_rest n)
unfolding ref_rest
ref_rest-never n [] e = cc e
ref_rest-never n (text raw ∷ ts) e = cc e
ref_rest-never n (mark token.LeftBrace ∷ ts) e = mapped-never (loose.ref n) (items_of token.RightBrace ref_init_of) (items-never token.RightBrace ref_init_of ref_init-leaves ref_init-never) ts e
ref_rest-never n (t ∷ ts) e = cc e

named_step-never : (n : loose.Name) (ts : List Token) (o : Option (List Token)) → named_step n ts o ≡ Err depth → ⊥
named_step-never n ts None e = cc e
named_step-never n ts (Some us) e = mapped-never loose.entity (ref_rest n) (ref_rest-never n) us e

named-never : Never named_of
unfolding named_of
named-never ts = bind-deep (name_of ts) (λ p. named_step p.0 p.1 (eat token.ColonColon p.1)) (name-never ts) (λ p e g. named_step-never p.0 p.1 (eat token.ColonColon p.1) g)

-- ---- expressions

then-leaves : (ts us : List Token) → needed (eat_then ts) ≡ Ok us → Rest us ts
then-leaves ts us e = rest-at us ts us (word token.Then) (eat_then-is ts us (needed_ok (eat_then ts) e)) all

else-leaves : (ts us : List Token) → needed (eat_else ts) ≡ Ok us → Rest us ts
else-leaves ts us e = rest-at us ts us (word token.Else) (eat_else-is ts us (needed_ok (eat_else ts) e)) all

module _ (k : ℕ) (inner : Reader loose.Expr) (l : Leaves inner) (h : Deep k inner) where
  rec_init-deep : Deep k (rec_init_of inner)
  unfolding rec_init_of
  rec_init-deep ts =
      bind-deep (inner ts) (λ q. needed (eat token.Colon q.1) >> λ us. mapped (loose.rec_init q.0) (inner us)) (h ts)
      (λ q e. needed-deep (eat token.Colon q.1) (λ us. mapped (loose.rec_init q.0) (inner us)) (λ us f g. in-rest k us ts (rest-trans us q.1 ts (eat-leaves token.Colon q.1 us f) (l ts q.0 q.1 e)) (mapped-deep k (loose.rec_init q.0) inner h us g)))

  paren-deep : {A : Type 0} (close : Mark) (f : loose.Expr → A) (ts : List Token) → ◌>>◌ {B = A × List Token} (inner ts) (λ x. ◌>>◌ {B = A × List Token} (needed (eat close x.1)) (λ us. Ok (f x.0, us))) ≡ Err depth → k ≤ openers ts
  paren-deep {A} close f ts =
      bind-deep (inner ts) (λ x. ◌>>◌ {B = A × List Token} (needed (eat close x.1)) (λ us. Ok (f x.0, us))) (h ts) (λ x e. needed-deep (eat close x.1) (λ us. Ok (f x.0, us)) (λ us q g. absurd (cc g)))

  primary-deep : Deep (suc k) (primary_of inner)
  unfolding primary_of
  primary-deep [] e = absurd (cc e)
  primary-deep (word token.If ∷ ts) e = absurd (cc e)
  primary-deep (word token.True ∷ ts) e = absurd (mapped-never loose.literal literal_of literal-never (word token.True ∷ ts) e)
  primary-deep (word token.False ∷ ts) e = absurd (mapped-never loose.literal literal_of literal-never (word token.False ∷ ts) e)
  primary-deep (word w ∷ ts) e = absurd (named-never (word w ∷ ts) e)
  primary-deep (number n ∷ ts) e = absurd (mapped-never loose.literal literal_of literal-never (number n ∷ ts) e)
  primary-deep (text raw ∷ ts) e = absurd (mapped-never loose.literal literal_of literal-never (text raw ∷ ts) e)
  primary-deep (slot w ∷ ts) e = absurd (cc e)
  primary-deep (mark token.LeftParen ∷ ts) e = let one = paren-deep token.RightParen loose.expr ts e in omega arith
  primary-deep (mark token.LeftBracket ∷ ts) e = let one = mapped-deep k (λ es. loose.e_list (exprs es)) (items_of token.RightBracket inner) (items-deep k inner l h token.RightBracket) ts e in omega arith
  primary-deep (mark token.LeftBrace ∷ ts) e =
      let one = mapped-deep k (λ es. loose.r_inits (rec_inits es)) (items_of token.RightBrace (rec_init_of inner)) (items-deep k (rec_init_of inner) (rec_init-leaves inner l) rec_init-deep token.RightBrace) ts e in omega arith
  primary-deep (t ∷ ts) e = absurd (cc e)

  access-deep : Deep (suc k) (access_of inner)
  unfolding access_of
  access-deep [] e = absurd (cc e)
  access-deep (mark token.Dot ∷ ts) e = needed-deep (word_read ts) (λ w. Ok (loose.field (loose.ident w.0), w.1)) (λ w f g. absurd (cc g)) e
  access-deep (mark token.LeftParen ∷ ts) e = let one = mapped-deep k (λ es. loose.call (exprs es)) (items_of token.RightParen inner) (items-deep k inner l h token.RightParen) ts e in omega arith
  access-deep (mark token.LeftBracket ∷ ts) e = let one = paren-deep token.RightBracket loose.index ts e in omega arith
  access-deep (t ∷ ts) e = absurd (cc e)

  member-deep : Deep (suc k) (member_of inner)
  unfolding member_of
  member-deep ts =
      bind-deep (primary_of inner ts) (λ p. mapped (λ xs. loose.member p.0 (accesses xs)) (each_of begins_access (access_of inner) p.1)) (primary-deep ts)
      (λ p e g. in-rest (suc k) p.1 ts (primary-leaves inner l ts p.0 p.1 e) (mapped-deep (suc k) (λ xs. loose.member p.0 (accesses xs)) (each_of begins_access (access_of inner)) (each-deep (suc k) (access_of inner) (access-leaves inner l) access-deep begins_access) p.1 g))

  dashes-deep : (ts : List Token) (n : ℕ) (mid : List Token) → Rest mid ts → after_dashes (member_of inner) ts n mid ≡ Err depth → suc k ≤ openers ts
  dashes-deep ts zero mid d e = mapped-deep (suc k) (loose.unary None) (member_of inner) member-deep ts e
  dashes-deep ts (suc n) mid d e = in-rest (suc k) mid ts d (mapped-deep (suc k) (loose.unary (Some (dashes n))) (member_of inner) member-deep mid e)

  bangs-deep : (ts : List Token) (n : ℕ) (mid : List Token) → Rest mid ts → after_bangs (member_of inner) ts n mid ≡ Err depth → suc k ≤ openers ts
  bangs-deep ts zero mid d e = dashes-deep ts (signs_of token.Minus ts).0 (signs_of token.Minus ts).1 (signs-rest token.Minus ts) e
  bangs-deep ts (suc n) mid d e = in-rest (suc k) mid ts d (mapped-deep (suc k) (loose.unary (Some (bangs n))) (member_of inner) member-deep mid e)

  unary-deep : Deep (suc k) (unary_of inner)
  unfolding unary_of
  unary-deep ts e = bangs-deep ts (signs_of token.Bang ts).0 (signs_of token.Bang ts).1 (signs-rest token.Bang ts) e

  mult-deep : Deep (suc k) (mult_of inner)
  unfolding mult_of
  mult-deep = mapped-deep (suc k) (λ x. loose.mult x.0 (unaries x.1)) (chain_of mult_op (unary_of inner)) (chain-deep (suc k) mult_op (unary_of inner) (unary-leaves inner l) unary-deep)

  add-deep : Deep (suc k) (add_of inner)
  unfolding add_of
  add-deep = mapped-deep (suc k) (λ x. loose.add x.0 (mults x.1)) (chain_of add_op (mult_of inner)) (chain-deep (suc k) add_op (mult_of inner) (mult-leaves inner l) mult-deep)

  is_step-deep : (a t : loose.Add) (ts : List Token) (o : Option (List Token)) → eat_in ts ≡ o → is_step inner a t ts o ≡ Err depth → suc k ≤ openers ts
  is_step-deep a t ts None f e = absurd (cc e)
  is_step-deep a t ts (Some us) f e = in-rest (suc k) us ts (rest-at us ts us (word token.In) (eat_in-is ts us f) all) (mapped-deep (suc k) (loose.is_type_in a t) (add_of inner) add-deep us e)

  links_step-deep : (a : loose.Add) → Deep (suc k) (λ ts. mapped (λ bs. loose.common a (adds bs)) (links_of rel_op (add_of inner) ts))
  links_step-deep a = mapped-deep (suc k) (λ bs. loose.common a (adds bs)) (links_of rel_op (add_of inner)) (links-deep (suc k) rel_op (add_of inner) (add-leaves inner l) add-deep)

  relation_step-deep : (a : loose.Add) → Deep (suc k) (relation_step inner a)
  relation_step-deep a [] e = links_step-deep a [] e
  relation_step-deep a (word token.Has ∷ ts) e = mapped-deep (suc k) (loose.has a) (add_of inner) add-deep ts e
  relation_step-deep a (word token.Like ∷ ts) e = mapped-deep (suc k) (loose.like a) (add_of inner) add-deep ts e
  relation_step-deep a (word token.Is ∷ ts) e =
      bind-deep (add_of inner ts) (λ t. is_step inner a t.0 t.1 (eat_in t.1)) (add-deep ts) (λ t f g. in-rest (suc k) t.1 ts (add-leaves inner l ts t.0 t.1 f) (is_step-deep a t.0 t.1 (eat_in t.1) refl g)) e
  relation_step-deep a (t ∷ ts) e = links_step-deep a (t ∷ ts) e

  relation-deep : Deep (suc k) (relation_of inner)
  unfolding relation_of
  relation-deep ts = bind-deep (add_of inner ts) (λ a. relation_step inner a.0 a.1) (add-deep ts) (λ a e g. in-rest (suc k) a.1 ts (add-leaves inner l ts a.0 a.1 e) (relation_step-deep a.0 a.1 g))

  and-deep : Deep (suc k) (and_of inner)
  unfolding and_of
  and-deep = mapped-deep (suc k) (λ x. loose.and x.0 (relations (map (λ y. y.1) x.1))) (chain_of and_op (relation_of inner)) (chain-deep (suc k) and_op (relation_of inner) (relation-leaves inner l) relation-deep)

  or-deep : Deep (suc k) (or_of inner)
  unfolding or_of
  or-deep = mapped-deep (suc k) (λ x. loose.or x.0 (ands (map (λ y. y.1) x.1))) (chain_of or_op (and_of inner)) (chain-deep (suc k) or_op (and_of inner) (and-leaves inner l) and-deep)

  choice-deep : Deep k (choice_of inner)
  unfolding choice_of
  choice-deep ts =
      bind-deep (inner ts) (to_then inner) (h ts)
      (λ a e. needed-deep (eat_then a.1) (λ us. inner us >> to_else inner a.0)
      (λ us f. bind-deep (inner us) (to_else inner a.0) (λ g. in-rest k us ts (rest-trans us a.1 ts (then-leaves a.1 us f) (l ts a.0 a.1 e)) (h us g))
      (λ b q. needed-deep (eat_else b.1) (λ vs. mapped (loose.if_expr a.0 b.0) (inner vs))
      (λ vs p g. in-rest k vs ts (rest-trans vs us ts (rest-trans vs b.1 us (else-leaves b.1 vs p) (l us b.0 b.1 q)) (rest-trans us a.1 ts (then-leaves a.1 us f) (l ts a.0 a.1 e))) (mapped-deep k (loose.if_expr a.0 b.0) inner h vs g)))))

  expr-deep : Deep (suc k) (expr_of inner)
  unfolding expr_of
  expr-deep (word token.If ∷ ts) e = let one = choice-deep ts e in omega arith
  expr-deep [] e = mapped-deep (suc k) loose.or_expr (or_of inner) or-deep [] e
  expr-deep (t ∷ ts) e = mapped-deep (suc k) loose.or_expr (or_of inner) or-deep (t ∷ ts) e

expr_at-deep : (n : ℕ) → Deep n (expr_at n)
unfolding expr_at
expr_at-deep zero ts e = omega arith
expr_at-deep (suc n) ts e = expr-deep n (expr_at n) (expr_at-leaves n) (expr_at-deep n) ts e

-- ---- policies

annotated-never : (w : Word) (ts : List Token) (o : Option (List Token)) → annotated w ts o ≡ Err depth → ⊥
annotated-never w ts None e = cc e
annotated-never w ts (Some us) e =
    needed-deep (text_read us) (λ raw. needed (eat token.RightParen raw.1) >> λ vs. Ok (loose.annotation (loose.ident w) (Some (loose.string raw.0)), vs))
    (λ raw e. needed-deep (eat token.RightParen raw.1) (λ vs. Ok (loose.annotation (loose.ident w) (Some (loose.string raw.0)), vs)) (λ vs f g. cc g)) e

annotation-never : Never annotation_of
unfolding annotation_of
annotation-never ts =
    needed-deep (eat token.At ts) (λ us. needed (word_read us) >> λ w. annotated w.0 w.1 (eat token.LeftParen w.1))
    (λ us e. needed-deep (word_read us) (λ w. annotated w.0 w.1 (eat token.LeftParen w.1)) (λ w f g. annotated-never w.0 w.1 (eat token.LeftParen w.1) g))

optional-deep : {A : Type 0} (k : ℕ) (r : Reader A) → Deep k r → (ts : List Token) (o : Option (List Token)) → ((us : List Token) → o ≡ Some us → Rest us ts) → optional r ts o ≡ Err depth → k ≤ openers ts
optional-deep k r h ts None d e = absurd (cc e)
optional-deep k r h ts (Some us) d e = in-rest k us ts (d us refl) (mapped-deep k (λ x. Some x) r h us e)

compared-deep : (k : ℕ) (r : Reader loose.Expr) → Deep k r → (ts : List Token) (o : Option (loose.RelOp × List Token)) → operator_at rel_op ts ≡ o → compared_step r ts o ≡ Err depth → k ≤ openers ts
compared-deep k r h ts None f e = absurd (cc e)
compared-deep k r h ts (Some x) f e = in-rest k x.1 ts (operator-leaves rel_op ts x f) (mapped-deep k (λ y. Some (x.0, y)) r h x.1 e)

colon-rest : (ts us : List Token) → eat token.Colon ts ≡ Some us → Rest us ts
colon-rest ts us e = rest-at us ts us (mark token.Colon) (eat-is token.Colon ts us e) all

is-rest : (ts us : List Token) → eat_is ts ≡ Some us → Rest us ts
is-rest ts us e = rest-at us ts us (word token.Is) (eat_is-is ts us e) all

variable_def-deep : (n : ℕ) → Deep (suc n) (variable_def_of n)
unfolding variable_def_of
variable_def-deep n ts =
    needed-deep (word_read ts) (λ w. optional name_of w.1 (eat token.Colon w.1) >> to_type n w.0)
    (λ w e. bind-deep (optional name_of w.1 (eat token.Colon w.1)) (to_type n w.0)
    (λ g. in-rest (suc n) w.1 ts (word-leaves ts w.0 w.1 e) (optional-deep (suc n) name_of (λ us f. absurd (name-never us f)) w.1 (eat token.Colon w.1) (colon-rest w.1) g))
    (λ p f. let down = rest-trans p.1 w.1 ts (optional-leaves name_of name-leaves w.1 (eat token.Colon w.1) (colon-rest w.1) p.0 p.1 f) (word-leaves ts w.0 w.1 e) in
    bind-deep (optional (add_of (expr_at n)) p.1 (eat_is p.1)) (to_end n w.0 p.0)
    (λ g. in-rest (suc n) p.1 ts down (optional-deep (suc n) (add_of (expr_at n)) (add-deep n (expr_at n) (expr_at-leaves n) (expr_at-deep n)) p.1 (eat_is p.1) (is-rest p.1) g))
    (λ t q. bind-deep (compared_step (expr_at (suc n)) t.1 (operator_at rel_op t.1)) (λ c. Ok (loose.variable_def (loose.ident w.0) p.0 t.0 c.0, c.1))
    (λ g. in-rest (suc n) t.1 ts (rest-trans t.1 p.1 ts (optional-leaves (add_of (expr_at n)) (add-leaves (expr_at n) (expr_at-leaves n)) p.1 (eat_is p.1) (is-rest p.1) t.0 t.1 q) down) (compared-deep (suc n) (expr_at (suc n)) (expr_at-deep (suc n)) t.1 (operator_at rel_op t.1) refl g))
    (λ c x g. absurd (cc g)))))

braced-deep : (k : ℕ) (r : Reader loose.Expr) → Deep k r → (w : Word) (ts : List Token) (o : Option (List Token)) → braced r w ts o ≡ Err depth → k ≤ openers ts
braced-deep k r h w ts (Some us) e = absurd (cc e)
braced-deep k r h w ts None e =
    bind-deep (r ts) (λ x. needed (eat token.RightBrace x.1) >> λ us. Ok (loose.cond (loose.ident w) (Some x.0), us)) (h ts) (λ x e. needed-deep (eat token.RightBrace x.1) (λ us. Ok (loose.cond (loose.ident w) (Some x.0), us)) (λ us q g. absurd (cc g))) e

cond-deep : (n : ℕ) → Deep n (cond_of n)
unfolding cond_of
cond-deep n ts =
    needed-deep (word_read ts) (λ w. needed (eat token.LeftBrace w.1) >> λ us. braced (expr_at n) w.0 us (eat token.RightBrace us))
    (λ w e. needed-deep (eat token.LeftBrace w.1) (λ us. braced (expr_at n) w.0 us (eat token.RightBrace us)) (λ us f g. in-rest n us ts (rest-trans us w.1 ts (eat-leaves token.LeftBrace w.1 us f) (word-leaves ts w.0 w.1 e)) (braced-deep n (expr_at n) (expr_at-deep n) w.0 us (eat token.RightBrace us) g)))

policy-deep : (n : ℕ) → Deep (suc n) (policy_of n)
unfolding policy_of
policy-deep n ts =
    bind-deep (each_of begins_annotation annotation_of ts) (to_effect n) (λ g. absurd (each-never begins_annotation annotation_of annotation-leaves annotation-never ts g))
    (λ xs a. let r1 = each-leaves annotation_of annotation-leaves begins_annotation ts xs.0 xs.1 a in
    needed-deep (word_read xs.1) (to_scope n xs.0)
    (λ w b. let r2 = rest-trans w.1 xs.1 ts (word-leaves xs.1 w.0 w.1 b) r1 in
    needed-deep (eat token.LeftParen w.1) (λ us. items_of token.RightParen (variable_def_of n) us >> to_clauses n xs.0 w.0)
    (λ us c. let r3 = rest-trans us w.1 ts (eat-leaves token.LeftParen w.1 us c) r2 in
    bind-deep (items_of token.RightParen (variable_def_of n) us) (to_clauses n xs.0 w.0)
    (λ g. in-rest (suc n) us ts r3 (items-deep (suc n) (variable_def_of n) (variable_def-leaves n) (variable_def-deep n) token.RightParen us g))
    (λ vs d. let r4 = rest-trans vs.1 us ts (items-leaves (variable_def_of n) (variable_def-leaves n) token.RightParen us vs.0 vs.1 d) r3 in
    bind-deep (each_of begins_cond (cond_of (suc n)) vs.1) (to_semicolon xs.0 w.0 vs.0)
    (λ g. in-rest (suc n) vs.1 ts r4 (each-deep (suc n) (cond_of (suc n)) (cond-leaves (suc n)) (cond-deep (suc n)) begins_cond vs.1 g))
    (λ cs f. needed-deep (eat token.Semicolon cs.1) (λ rest. Ok (loose.policy xs.0 (loose.ident w.0) vs.0 cs.0, rest)) (λ rest q g. absurd (cc g)))))))

-- ---- the laws

whole-deep : {A : Type 0} (k : ℕ) (r : Reader A) → Deep k r → (ts : List Token) → (r ts >> whole) ≡ Err depth → k ≤ openers ts
whole-deep {A} k r h ts = bind-deep (r ts) whole (h ts) (λ x e g. absurd (never x g))
  where
    never : (x : A × List Token) → whole x ≡ Err depth → ⊥
    never (a, []) f = cc f
    never (a, t ∷ us) f = cc f

pub exprs_nest : ExprsNest
exprs_nest n ts e = whole-deep n (expr_at n) (expr_at-deep n) ts e

pub primaries_nest : PrimariesNest
primaries_nest zero ts e = omega arith
primaries_nest (suc n) ts e = whole-deep (suc n) (primary_of (expr_at n)) (primary-deep n (expr_at n) (expr_at-leaves n) (expr_at-deep n)) ts e

policy_at-deep : (n : ℕ) → Deep n (policy_at n)
unfolding policy_at
policy_at-deep zero ts e = omega arith
policy_at-deep (suc n) ts e = policy-deep n ts e

policies_at-deep : (n : ℕ) → Deep n (policies_at n)
unfolding policies_at
policies_at-deep zero ts e = omega arith
policies_at-deep (suc n) ts e = mapped-deep (suc n) loose.policies (each_of is_more (policy_of n)) (each-deep (suc n) (policy_of n) (policy-leaves n) (policy-deep n) is_more) ts e

pub policy_nests : PolicyNests
policy_nests n ts e = whole-deep n (policy_at n) (policy_at-deep n) ts e

pub policies_nest : PoliciesNest
policies_nest n ts e = whole-deep n (policies_at n) (policies_at-deep n) ts e
