-- What reading leaves is an end of the tokens.
use Rattle.std.proofs.Common.{◌≡◌, ℕ, zero, suc, ◌≤◌, ◌^◌, Bool, true, false, List, [], ◌∷◌, length, Option, Some, None, Ok, refl, sym, ap, subst, arith}
use Rattle.std.specs.Prelude.{map, nat_lt}
use Rattle.cedar_grammar.specs.Token as token
use Rattle.cedar_grammar.specs.Token.{Word, Mark, Token, word, number, text, slot, mark}
use Rattle.cedar_grammar.specs.Steps.{is_mark, eat, eat_in, word_read, signs_of}
use Rattle.cedar_grammar.proofs.Parts.{eat-is, eat_in-is}
use Rattle.cedar_grammar.specs.Loose as loose
use Rattle.cedar_grammar.specs.Loose.{ands, relations, adds, mults, unaries, accesses, exprs, rec_inits}
use Rattle.cedar_grammar.specs.LooseReading.{syntax, Reading, Reader, ◌>>◌, mapped, needed, each_step, each_at, each_of, after_item, items_step, items_at, items_of, before_rest, operator_at, chain_step, chain_at, links_of, chain_of, or_op, and_op, rel_op, add_op, mult_op, next_word, qualified, name_next, name_at, name_of, literal_of, ref_init_of, ref_rest, named_step, named_of, rec_init_of, primary_of, begins_access, access_of, member_of, bangs, dashes, after_dashes, after_bangs, unary_of, mult_of, add_of, is_step, relation_step, relation_of, and_of, or_of, choice_of, expr_of, expr_at}
use Rattle.cedar_grammar.proofs.Basics.{bind_ok, needed_ok, cond_ok, ok_pair, mapped_ok, word_read-is, next_word-is}
use Rattle.cedar_grammar.proofs.Lone.{choice-if}

-- the first list is an end of the second
pub data Rest : List Token → List Token → Type 0 where
  all : {ts : List Token} → Rest ts ts
  after : (t : Token) {rest ts : List Token} → Rest rest ts → Rest rest (t ∷ ts)

pub rest-trans : (a b c : List Token) → Rest a b → Rest b c → Rest a c
rest-trans a b c d all = d
rest-trans a b c d (after t {ts = ts} e) = after t (rest-trans a b ts d e)

pub rest-length : (rest ts : List Token) → Rest rest ts → length rest ≤ length ts
rest-length rest ts all = omega arith
rest-length rest ts (after t {ts = us} d) = let one = rest-length rest us d in omega arith

pub rest-at : (rest ts us : List Token) (t : Token) → ts ≡ t ∷ us → Rest rest us → Rest rest ts
rest-at rest ts us t e d = subst (λ q. Rest rest q) (sym e) (after t d)

-- of what is equal
pub rest-is : (us rest ts : List Token) → us ≡ rest → Rest us ts → Rest rest ts
rest-is us rest ts e d = subst (λ r. Rest r ts) e d

abbrev pub Leaves : {A : Type 0} → Reader A → Type 0
Leaves {A} rd = (ts : List Token) (x : A) (rest : List Token) → rd ts ≡ Ok (x, rest) → Rest rest ts

pub mapped-leaves : {A B : Type 0} (f : A → B) (rd : Reader A) → Leaves rd → Leaves (λ ts. mapped f (rd ts))
mapped-leaves f rd l ts x rest e = let m = mapped_ok f (rd ts) e in l ts m.0 rest m.1

pub eat-leaves : (m : Mark) (ts us : List Token) → needed (eat m ts) ≡ Ok us → Rest us ts
eat-leaves m ts us e = rest-at us ts us (mark m) (eat-is m ts us (needed_ok (eat m ts) e)) all

pub word-leaves : (ts : List Token) (w : Word) (us : List Token) → needed (word_read ts) ≡ Ok (w, us) → Rest us ts
word-leaves ts w us e = rest-at us ts us (word w) (word_read-is ts us w (needed_ok (word_read ts) e)) all

-- ---- loops

module _ {A : Type 0} (rd : Reader A) (l : Leaves rd) where
  each_step-leaves : (more : Reader (List A)) → Leaves more → (ts : List Token) (b : Bool) (xs : List A) (rest : List Token) → each_step rd more ts b ≡ Ok (xs, rest) → Rest rest ts
  each_step-leaves more ih ts false xs rest e = rest-is ts rest ts (ok_pair e).1 all
  each_step-leaves more ih ts true xs rest e =
      let one = bind_ok (rd ts) (λ x. more x.1 >> λ ys. Ok (x.0 ∷ ys.0, ys.1)) e in
      let two = bind_ok (more one.0.1) (λ ys. Ok (one.0.0 ∷ ys.0, ys.1)) one.2 in
      rest-is two.0.1 rest ts (ok_pair two.2).1 (rest-trans two.0.1 one.0.1 ts (ih one.0.1 two.0.0 two.0.1 two.1) (l ts one.0.0 one.0.1 one.1))

  pub each_at-leaves : (begins : List Token → Bool) (n : ℕ) → Leaves (each_at begins rd n)
  unfolding each_at
  each_at-leaves begins zero ts xs rest e = rest-is ts rest ts (ok_pair e).1 all
  each_at-leaves begins (suc n) ts xs rest e = each_step-leaves (each_at begins rd n) (each_at-leaves begins n) ts (begins ts) xs rest e

  pub each-leaves : (begins : List Token → Bool) → Leaves (each_of begins rd)
  unfolding each_of
  each-leaves begins ts xs rest e = each_at-leaves begins (suc (length ts)) ts xs rest e

  after_item-leaves : (more : Reader (List A)) → Leaves more → (close : Mark) (a : A) (ts : List Token) (o : Option (List Token)) (xs : List A) (rest : List Token) → eat close ts ≡ o → after_item more a ts o ≡ Ok (xs, rest) → Rest rest ts
  after_item-leaves more ih close a ts (Some us) xs rest e f = rest-is us rest ts (ok_pair f).1 (rest-at us ts us (mark close) (eat-is close ts us e) all)
  after_item-leaves more ih close a ts None xs rest e f =
      let one = bind_ok (needed (eat token.Comma ts)) (λ us. more us >> λ ys. Ok (a ∷ ys.0, ys.1)) f in
      let two = bind_ok (more one.0) (λ ys. Ok (a ∷ ys.0, ys.1)) one.2 in
      rest-is two.0.1 rest ts (ok_pair two.2).1 (rest-trans two.0.1 one.0 ts (ih one.0 two.0.0 two.0.1 two.1) (eat-leaves token.Comma ts one.0 one.1))

  items_step-leaves : (more : Reader (List A)) → Leaves more → (close : Mark) (ts : List Token) (o : Option (List Token)) (xs : List A) (rest : List Token) → eat close ts ≡ o → items_step close rd more ts o ≡ Ok (xs, rest) → Rest rest ts
  items_step-leaves more ih close ts (Some us) xs rest e f = rest-is us rest ts (ok_pair f).1 (rest-at us ts us (mark close) (eat-is close ts us e) all)
  items_step-leaves more ih close ts None xs rest e f =
      let one = bind_ok (rd ts) (λ a. after_item more a.0 a.1 (eat close a.1)) f in
      rest-trans rest one.0.1 ts (after_item-leaves more ih close one.0.0 one.0.1 (eat close one.0.1) xs rest refl one.2) (l ts one.0.0 one.0.1 one.1)

  items_at-leaves : (close : Mark) (n : ℕ) → Leaves (items_at close rd n)
  unfolding items_at
  items_at-leaves close zero ts xs rest e = absurd (cc e)
  items_at-leaves close (suc n) ts xs rest e = items_step-leaves (items_at close rd n) (items_at-leaves close n) close ts (eat close ts) xs rest refl e

  pub items-leaves : (close : Mark) → Leaves (items_of close rd)
  unfolding items_of
  items-leaves close ts xs rest e = items_at-leaves close (suc (length ts)) ts xs rest e

module _ {Op : Type 0} (op : Token → Option Op) where
  pub operator-leaves : (ts : List Token) (x : Op × List Token) → operator_at op ts ≡ Some x → Rest x.1 ts
  operator-leaves [] x e = absurd (cc e)
  operator-leaves (o ∷ ts) x e = by (op o) e
    where
      by : (q : Option Op) → before_rest ts q ≡ Some x → Rest x.1 (o ∷ ts)
      by None f = absurd (cc f)
      by (Some p) f = let same : ◌≡◌ {A = Op × List Token} (p, ts) x = cc f in rest-is ts x.1 (o ∷ ts) (ap (λ y. y.1) same) (after o all)

module _ {Op A : Type 0} (op : Token → Option Op) (rd : Reader A) (l : Leaves rd) where
  chain_step-leaves : (more : Reader (List (Op × A))) → Leaves more → (ts : List Token) (o : Option (Op × List Token)) (xs : List (Op × A)) (rest : List Token) → operator_at op ts ≡ o → chain_step rd more ts o ≡ Ok (xs, rest) → Rest rest ts
  chain_step-leaves more ih ts None xs rest f e = rest-is ts rest ts (ok_pair e).1 all
  chain_step-leaves more ih ts (Some x) xs rest f e =
      let one = bind_ok (rd x.1) (λ b. more b.1 >> λ ys. Ok ((x.0, b.0) ∷ ys.0, ys.1)) e in
      let two = bind_ok (more one.0.1) (λ ys. Ok ((x.0, one.0.0) ∷ ys.0, ys.1)) one.2 in
      rest-is two.0.1 rest ts (ok_pair two.2).1 (rest-trans two.0.1 x.1 ts (rest-trans two.0.1 one.0.1 x.1 (ih one.0.1 two.0.0 two.0.1 two.1) (l x.1 one.0.0 one.0.1 one.1)) (operator-leaves op ts x f))

  chain_at-leaves : (n : ℕ) → Leaves (chain_at op rd n)
  unfolding chain_at
  chain_at-leaves zero ts xs rest e = rest-is ts rest ts (ok_pair e).1 all
  chain_at-leaves (suc n) ts xs rest e = chain_step-leaves (chain_at op rd n) (chain_at-leaves n) ts (operator_at op ts) xs rest refl e

  pub links-leaves : Leaves (links_of op rd)
  unfolding links_of
  links-leaves ts xs rest e = chain_at-leaves (suc (length ts)) ts xs rest e

  pub chain-leaves : Leaves (chain_of op rd)
  unfolding chain_of
  chain-leaves ts x rest e =
      let one = bind_ok (rd ts) (λ a. links_of op rd a.1 >> λ ys. Ok ((a.0, ys.0), ys.1)) e in
      let two = bind_ok (links_of op rd one.0.1) (λ ys. Ok ((one.0.0, ys.0), ys.1)) one.2 in
      rest-is two.0.1 rest ts (ok_pair two.2).1 (rest-trans two.0.1 one.0.1 ts (links-leaves one.0.1 two.0.0 two.0.1 two.1) (l ts one.0.0 one.0.1 one.1))

-- ---- names and literals

name_next-leaves : (more : Reader loose.Name) → Leaves more → (w : Word) (ts : List Token) (o : Option (List Token)) (n : loose.Name) (rest : List Token) → next_word ts ≡ o → name_next more w ts o ≡ Ok (n, rest) → Rest rest ts
name_next-leaves more ih w ts None n rest e f = rest-is ts rest ts (ok_pair f).1 all
name_next-leaves more ih w ts (Some us) n rest e f = let m = mapped_ok (qualified w) (more us) f in rest-at rest ts us (mark token.ColonColon) (next_word-is ts us e) (ih us m.0 rest m.1)

name_at-leaves : (n : ℕ) → Leaves (name_at n)
unfolding name_at
name_at-leaves zero ts x rest e = absurd (cc e)
name_at-leaves (suc n) ts x rest e =
    let one = bind_ok (needed (word_read ts)) (λ w. name_next (name_at n) w.0 w.1 (next_word w.1)) e in
    rest-trans rest one.0.1 ts (name_next-leaves (name_at n) (name_at-leaves n) one.0.0 one.0.1 (next_word one.0.1) x rest refl one.2) (word-leaves ts one.0.0 one.0.1 one.1)

pub name-leaves : Leaves name_of
unfolding name_of
name-leaves ts x rest e = name_at-leaves (suc (length ts)) ts x rest e

pub literal-leaves : Leaves literal_of
unfolding literal_of
literal-leaves [] x rest e = absurd (cc e)
literal-leaves (word token.True ∷ ts) x rest e = after _ (rest-is ts rest ts (ok_pair e).1 all)
literal-leaves (word token.False ∷ ts) x rest e = after _ (rest-is ts rest ts (ok_pair e).1 all)
literal-leaves (number n ∷ ts) x rest e = after _ (rest-is ts rest ts (ok_pair (cond_ok (nat_lt n (2 ^ 64)) (Ok (loose.num n, ts)) syntax e).1).1 all)
literal-leaves (text raw ∷ ts) x rest e = after _ (rest-is ts rest ts (ok_pair e).1 all)
literal-leaves (t ∷ ts) x rest e = absurd (cc e)

pub ref_init-leaves : Leaves ref_init_of
unfolding ref_init_of
ref_init-leaves ts x rest e =
    let one = bind_ok (needed (word_read ts)) (λ w. needed (eat token.Colon w.1) >> λ us. mapped (loose.ref_init (loose.ident w.0)) (literal_of us)) e in
    let two = bind_ok (needed (eat token.Colon one.0.1)) (λ us. mapped (loose.ref_init (loose.ident one.0.0)) (literal_of us)) one.2 in
    rest-trans rest one.0.1 ts (rest-trans rest two.0 one.0.1 (mapped-leaves (loose.ref_init (loose.ident one.0.0)) literal_of literal-leaves two.0 x rest two.2) (eat-leaves token.Colon one.0.1 two.0 two.1)) (word-leaves ts one.0.0 one.0.1 one.1)

pub ref_rest-leaves : (n : loose.Name) → Leaves (ref_rest n)
unfolding ref_rest
ref_rest-leaves n [] x rest e = absurd (cc e)
ref_rest-leaves n (text raw ∷ ts) x rest e = after _ (rest-is ts rest ts (ok_pair e).1 all)
ref_rest-leaves n (mark token.LeftBrace ∷ ts) x rest e = after _ (mapped-leaves (loose.ref n) (items_of token.RightBrace ref_init_of) (items-leaves ref_init_of ref_init-leaves token.RightBrace) ts x rest e)
ref_rest-leaves n (t ∷ ts) x rest e = absurd (cc e)

named-leaves : Leaves named_of
unfolding named_of
named-leaves ts x rest e =
    let one = bind_ok (name_of ts) (λ p. named_step p.0 p.1 (eat token.ColonColon p.1)) e in
    rest-trans rest one.0.1 ts (by one.0.0 one.0.1 (eat token.ColonColon one.0.1) refl one.2) (name-leaves ts one.0.0 one.0.1 one.1)
  where
    by : (n : loose.Name) (us : List Token) (o : Option (List Token)) → eat token.ColonColon us ≡ o → named_step n us o ≡ Ok (x, rest) → Rest rest us
    by n us None f g = rest-is us rest us (ok_pair g).1 all
    by n us (Some vs) f g = rest-at rest us vs (mark token.ColonColon) (eat-is token.ColonColon us vs f) (mapped-leaves loose.entity (ref_rest n) (ref_rest-leaves n) vs x rest g)

pub signs-rest : (m : Mark) (ts : List Token) → Rest (signs_of m ts).1 ts
unfolding signs_of
signs-rest m [] = all
signs-rest m (t ∷ ts) = by (is_mark m t) refl (signs-rest m ts)
  where
    by : (b : Bool) → is_mark m t ≡ b → Rest (signs_of m ts).1 ts → Rest (signs_of m (t ∷ ts)).1 (t ∷ ts)
    by true e d = rw (e, signs_of) (after t d)
    by false e d = rw (e, signs_of) all

-- ---- expressions

module _ (inner : Reader loose.Expr) (l : Leaves inner) where
  -- what is inside a bracket, and the mark that closes it
  abbrev closed : {A : Type 0} → Mark → (loose.Expr → A) → loose.Expr × List Token → Reading A
  closed close f e = needed (eat close e.1) >> λ us. Ok (f e.0, us)

  closed-leaves : {A : Type 0} (close : Mark) (f : loose.Expr → A) (ts : List Token) (x : A) (rest : List Token) → (inner ts >> closed close f) ≡ Ok (x, rest) → Rest rest ts
  closed-leaves close f ts x rest e =
      let one = bind_ok (inner ts) (closed close f) e in
      let two = bind_ok (needed (eat close one.0.1)) (λ us. Ok (f one.0.0, us)) one.2 in
      rest-is two.0 rest ts (ok_pair two.2).1 (rest-trans two.0 one.0.1 ts (eat-leaves close one.0.1 two.0 two.1) (l ts one.0.0 one.0.1 one.1))

  pub rec_init-leaves : Leaves (rec_init_of inner)
  unfolding rec_init_of
  rec_init-leaves ts x rest e =
      let one = bind_ok (inner ts) (λ k. needed (eat token.Colon k.1) >> λ us. mapped (loose.rec_init k.0) (inner us)) e in
      let two = bind_ok (needed (eat token.Colon one.0.1)) (λ us. mapped (loose.rec_init one.0.0) (inner us)) one.2 in
      rest-trans rest one.0.1 ts (rest-trans rest two.0 one.0.1 (mapped-leaves (loose.rec_init one.0.0) inner l two.0 x rest two.2) (eat-leaves token.Colon one.0.1 two.0 two.1)) (l ts one.0.0 one.0.1 one.1)

  pub primary-leaves : Leaves (primary_of inner)
  unfolding primary_of
  primary-leaves [] x rest e = absurd (cc e)
  primary-leaves (word token.If ∷ ts) x rest e = absurd (cc e)
  primary-leaves (word token.True ∷ ts) x rest e = mapped-leaves loose.literal literal_of literal-leaves (word token.True ∷ ts) x rest e
  primary-leaves (word token.False ∷ ts) x rest e = mapped-leaves loose.literal literal_of literal-leaves (word token.False ∷ ts) x rest e
  primary-leaves (word w ∷ ts) x rest e = named-leaves (word w ∷ ts) x rest e
  primary-leaves (number n ∷ ts) x rest e = mapped-leaves loose.literal literal_of literal-leaves (number n ∷ ts) x rest e
  primary-leaves (text raw ∷ ts) x rest e = mapped-leaves loose.literal literal_of literal-leaves (text raw ∷ ts) x rest e
  primary-leaves (slot w ∷ ts) x rest e = after _ (rest-is ts rest ts (ok_pair e).1 all)
  primary-leaves (mark token.LeftParen ∷ ts) x rest e = after _ (closed-leaves token.RightParen loose.expr ts x rest e)
  primary-leaves (mark token.LeftBracket ∷ ts) x rest e = after _ (mapped-leaves (λ es. loose.e_list (exprs es)) (items_of token.RightBracket inner) (items-leaves inner l token.RightBracket) ts x rest e)
  primary-leaves (mark token.LeftBrace ∷ ts) x rest e = after _ (mapped-leaves (λ es. loose.r_inits (rec_inits es)) (items_of token.RightBrace (rec_init_of inner)) (items-leaves (rec_init_of inner) rec_init-leaves token.RightBrace) ts x rest e)
  primary-leaves (t ∷ ts) x rest e = absurd (cc e)

  -- an access takes its first token, and an end of the further ones is left
  pub access-after : (ts : List Token) (x : loose.MemAccess) (rest : List Token) → access_of inner ts ≡ Ok (x, rest) → (t : Token) × (us : List Token) × (ts ≡ t ∷ us) × Rest rest us
  unfolding access_of
  access-after [] x rest e = absurd (cc e)
  access-after (mark token.Dot ∷ ts) x rest e =
      let one = bind_ok (needed (word_read ts)) (λ w. Ok (loose.field (loose.ident w.0), w.1)) e in
      (mark token.Dot, ts, refl, rest-is one.0.1 rest ts (ok_pair one.2).1 (word-leaves ts one.0.0 one.0.1 one.1))
  access-after (mark token.LeftParen ∷ ts) x rest e = (mark token.LeftParen, ts, refl, mapped-leaves (λ es. loose.call (exprs es)) (items_of token.RightParen inner) (items-leaves inner l token.RightParen) ts x rest e)
  access-after (mark token.LeftBracket ∷ ts) x rest e = (mark token.LeftBracket, ts, refl, closed-leaves token.RightBracket loose.index ts x rest e)
  access-after (t ∷ ts) x rest e = absurd (cc e)

  pub access-leaves : Leaves (access_of inner)
  access-leaves ts x rest e = let a = access-after ts x rest e in rest-at rest ts a.1 a.0 a.2 a.3

  pub member-leaves : Leaves (member_of inner)
  unfolding member_of
  member-leaves ts x rest e =
      let one = bind_ok (primary_of inner ts) (λ p. mapped (λ xs. loose.member p.0 (accesses xs)) (each_of begins_access (access_of inner) p.1)) e in
      rest-trans rest one.0.1 ts (mapped-leaves (λ xs. loose.member one.0.0 (accesses xs)) (each_of begins_access (access_of inner)) (each-leaves (access_of inner) access-leaves begins_access) one.0.1 x rest one.2) (primary-leaves ts one.0.0 one.0.1 one.1)

  dashes-leaves : (ts : List Token) (n : ℕ) (mid : List Token) → Rest mid ts → (x : loose.Unary) (rest : List Token) → after_dashes (member_of inner) ts n mid ≡ Ok (x, rest) → Rest rest ts
  dashes-leaves ts zero mid d x rest e = mapped-leaves (loose.unary None) (member_of inner) member-leaves ts x rest e
  dashes-leaves ts (suc n) mid d x rest e = rest-trans rest mid ts (mapped-leaves (loose.unary (Some (dashes n))) (member_of inner) member-leaves mid x rest e) d

  bangs-leaves : (ts : List Token) (n : ℕ) (mid : List Token) → Rest mid ts → (x : loose.Unary) (rest : List Token) → after_bangs (member_of inner) ts n mid ≡ Ok (x, rest) → Rest rest ts
  bangs-leaves ts zero mid d x rest e = dashes-leaves ts (signs_of token.Minus ts).0 (signs_of token.Minus ts).1 (signs-rest token.Minus ts) x rest e
  bangs-leaves ts (suc n) mid d x rest e = rest-trans rest mid ts (mapped-leaves (loose.unary (Some (bangs n))) (member_of inner) member-leaves mid x rest e) d

  pub unary-leaves : Leaves (unary_of inner)
  unfolding unary_of
  unary-leaves ts x rest e = bangs-leaves ts (signs_of token.Bang ts).0 (signs_of token.Bang ts).1 (signs-rest token.Bang ts) x rest e

  pub mult-leaves : Leaves (mult_of inner)
  unfolding mult_of
  mult-leaves = mapped-leaves (λ x. loose.mult x.0 (unaries x.1)) (chain_of mult_op (unary_of inner)) (chain-leaves mult_op (unary_of inner) unary-leaves)

  pub add-leaves : Leaves (add_of inner)
  unfolding add_of
  add-leaves = mapped-leaves (λ x. loose.add x.0 (mults x.1)) (chain_of add_op (mult_of inner)) (chain-leaves add_op (mult_of inner) mult-leaves)

  is_step-leaves : (a t : loose.Add) (ts : List Token) (o : Option (List Token)) (x : loose.Relation) (rest : List Token) → eat_in ts ≡ o → is_step inner a t ts o ≡ Ok (x, rest) → Rest rest ts
  is_step-leaves a t ts None x rest e f = rest-is ts rest ts (ok_pair f).1 all
  is_step-leaves a t ts (Some us) x rest e f = rest-at rest ts us (word token.In) (eat_in-is ts us e) (mapped-leaves (loose.is_type_in a t) (add_of inner) add-leaves us x rest f)

  links_step-leaves : (a : loose.Add) → Leaves (λ ts. mapped (λ bs. loose.common a (adds bs)) (links_of rel_op (add_of inner) ts))
  links_step-leaves a = mapped-leaves (λ bs. loose.common a (adds bs)) (links_of rel_op (add_of inner)) (links-leaves rel_op (add_of inner) add-leaves)

  relation_step-leaves : (a : loose.Add) → Leaves (relation_step inner a)
  relation_step-leaves a [] x rest e = links_step-leaves a [] x rest e
  relation_step-leaves a (word token.Has ∷ ts) x rest e = after _ (mapped-leaves (loose.has a) (add_of inner) add-leaves ts x rest e)
  relation_step-leaves a (word token.Like ∷ ts) x rest e = after _ (mapped-leaves (loose.like a) (add_of inner) add-leaves ts x rest e)
  relation_step-leaves a (word token.Is ∷ ts) x rest e =
      let one = bind_ok (add_of inner ts) (λ t. is_step inner a t.0 t.1 (eat_in t.1)) e in
      after _ (rest-trans rest one.0.1 ts (is_step-leaves a one.0.0 one.0.1 (eat_in one.0.1) x rest refl one.2) (add-leaves ts one.0.0 one.0.1 one.1))
  relation_step-leaves a (t ∷ ts) x rest e = links_step-leaves a (t ∷ ts) x rest e

  pub relation-leaves : Leaves (relation_of inner)
  unfolding relation_of
  relation-leaves ts x rest e =
      let one = bind_ok (add_of inner ts) (λ a. relation_step inner a.0 a.1) e in
      rest-trans rest one.0.1 ts (relation_step-leaves one.0.0 one.0.1 x rest one.2) (add-leaves ts one.0.0 one.0.1 one.1)

  pub and-leaves : Leaves (and_of inner)
  unfolding and_of
  and-leaves = mapped-leaves (λ x. loose.and x.0 (relations (map (λ y. y.1) x.1))) (chain_of and_op (relation_of inner)) (chain-leaves and_op (relation_of inner) relation-leaves)

  pub or-leaves : Leaves (or_of inner)
  unfolding or_of
  or-leaves = mapped-leaves (λ x. loose.or x.0 (ands (map (λ y. y.1) x.1))) (chain_of or_op (and_of inner)) (chain-leaves or_op (and_of inner) and-leaves)

  choice-leaves : Leaves (choice_of inner)
  choice-leaves ts x rest e =
      let k = choice-if inner ts x rest e in
      let third = l k.v k.c rest k.no in
      let second = l k.u k.b (word token.Else ∷ k.v) k.yes in
      let first = l ts k.a (word token.Then ∷ k.u) k.test in
      rest-trans rest k.u ts (rest-trans rest k.v k.u third (rest-trans k.v (word token.Else ∷ k.v) k.u (after _ all) second)) (rest-trans k.u (word token.Then ∷ k.u) ts (after _ all) first)

  pub expr-leaves : Leaves (expr_of inner)
  unfolding expr_of
  expr-leaves (word token.If ∷ ts) x rest e = after _ (choice-leaves ts x rest e)
  expr-leaves [] x rest e = mapped-leaves loose.or_expr (or_of inner) or-leaves [] x rest e
  expr-leaves (t ∷ ts) x rest e = mapped-leaves loose.or_expr (or_of inner) or-leaves (t ∷ ts) x rest e

pub expr_at-leaves : (n : ℕ) → Leaves (expr_at n)
unfolding expr_at
expr_at-leaves zero ts x rest e = absurd (cc e)
expr_at-leaves (suc n) ts x rest e = expr-leaves (expr_at n) (expr_at-leaves n) ts x rest e
