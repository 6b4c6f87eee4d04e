-- What stands alone is read alone: an expression that is a primary, and nothing else, is read where the primary is.
use Rattle.std.proofs.Common.{◌≡◌, ℕ, zero, suc, ◌^◌, Bool, true, false, List, [], ◌∷◌, Option, Some, None, Ok, refl, ap, ◌∙◌, subst, arith}
use Rattle.std.specs.Prelude.{map, nat_lt}
use Rattle.cedar_grammar.specs.Token as token
use Rattle.cedar_grammar.specs.Token.{Word, Mark, Token, word, number, text, slot, mark, id_of}
use Rattle.cedar_grammar.specs.Steps.{eat, eat_in, eat_then, eat_else, signs_of}
use Rattle.cedar_grammar.proofs.Parts.{bind_some, eat-is, eat_then-is, eat_else-is}
use Rattle.cedar_grammar.specs.Loose as loose
use Rattle.cedar_grammar.specs.Loose.{ands, relations, adds, mults, unaries, accesses, exprs, rec_inits}
use Rattle.cedar_grammar.specs.LooseReading.{Reading, Reader, ◌>>◌, mapped, needed, each_of, items_of, links_of, chain_of, or_op, and_op, rel_op, add_op, mult_op, name_of, literal_of, ref_rest, ref_of, named_step, named_of, slot_of, rec_init_of, primary_of, begins_access, access_of, member_of, bangs, dashes, after_dashes, after_bangs, unary_of, mult_of, add_of, is_step, relation_step, relation_of, and_of, or_of, choice_of, expr_of}
use Rattle.cedar_grammar.specs.Converting.{lone_member, without_accesses, lone_primary, lone_add, alone}
use Rattle.cedar_grammar.proofs.Basics.{bind_ok, needed_ok, cond_ok, ok_pair, mapped_ok, Below, below-more, access-below, or-silent, and-silent, rel-silent, add-silent, mult-silent}
use Rattle.cedar_grammar.proofs.Loops.{each-nothing, each-stop, links-lone, chain-lone, links-stop, chain-one}

-- ---- the forms

abbrev pub lone_sum : loose.Member → loose.Add
lone_sum m = loose.add (loose.mult (loose.unary None m) loose.no_unaries) loose.no_mults

abbrev pub lone_expr : loose.Add → loose.Expr
lone_expr a = loose.or_expr (loose.or (loose.and (loose.common a loose.no_adds) loose.no_relations) loose.no_ands)

abbrev pub lone : loose.Primary → loose.Expr
lone p = lone_expr (lone_sum (loose.member p loose.no_accesses))

pub lone_member-is : (a : loose.Add) (m : loose.Member) → lone_member a ≡ Some m → a ≡ lone_sum m
lone_member-is (loose.add (loose.mult (loose.unary None k) loose.no_unaries) loose.no_mults) m e = let same : k ≡ m = cc e in ap lone_sum same
lone_member-is a m e = absurd (cc e)

without-is : (m : loose.Member) (p : loose.Primary) → without_accesses m ≡ Some p → m ≡ loose.member p loose.no_accesses
without-is (loose.member q loose.no_accesses) p e = let same : q ≡ p = cc e in ap (λ x. loose.member x loose.no_accesses) same
without-is m p e = absurd (cc e)

lone_add-is : (e : loose.Expr) (a : loose.Add) → lone_add e ≡ Some a → e ≡ lone_expr a
lone_add-is (loose.or_expr (loose.or (loose.and (loose.common b loose.no_adds) loose.no_relations) loose.no_ands)) a e = let same : b ≡ a = cc e in ap lone_expr same
lone_add-is e a f = absurd (cc f)

pub lone_primary-is : (a : loose.Add) (p : loose.Primary) → lone_primary a ≡ Some p → a ≡ lone_sum (loose.member p loose.no_accesses)
lone_primary-is a p e = let one = bind_some (lone_member a) without_accesses e in lone_member-is a one.0 one.1 ∙ ap lone_sum (without-is one.0 p one.2)

pub alone-is : (e : loose.Expr) (p : loose.Primary) → alone e ≡ Some p → e ≡ lone p
alone-is e p f = let one = bind_some (lone_add e) lone_primary f in lone_add-is e one.0 one.1 ∙ ap lone_expr (lone_primary-is one.0 p one.2)

-- ---- from what is read

accesses-none : (xs : List loose.MemAccess) → accesses xs ≡ loose.no_accesses → xs ≡ []
accesses-none [] e = refl
accesses-none (x ∷ xs) e = absurd (cc e)

unaries-none : (xs : List (loose.MultOp × loose.Unary)) → unaries xs ≡ loose.no_unaries → xs ≡ []
unaries-none [] e = refl
unaries-none (x ∷ xs) e = absurd (cc e)

mults-none : (xs : List (loose.AddOp × loose.Mult)) → mults xs ≡ loose.no_mults → xs ≡ []
mults-none [] e = refl
mults-none (x ∷ xs) e = absurd (cc e)

adds-none : (xs : List (loose.RelOp × loose.Add)) → adds xs ≡ loose.no_adds → xs ≡ []
adds-none [] e = refl
adds-none (x ∷ xs) e = absurd (cc e)

relations-none : (xs : List (Unit {0} × loose.Relation)) → relations (map (λ y. y.1) xs) ≡ loose.no_relations → xs ≡ []
relations-none [] e = refl
relations-none (x ∷ xs) e = absurd (cc e)

ands-none : (xs : List (Unit {0} × loose.And)) → ands (map (λ y. y.1) xs) ≡ loose.no_ands → xs ≡ []
ands-none [] e = refl
ands-none (x ∷ xs) e = absurd (cc e)

-- a pair by its parts
pair-is : {A B : Type 0} (x : A × B) (a : A) (b : B) → x.0 ≡ a → x.1 ≡ b → x ≡ (a, b)
pair-is x a b e f = ap (λ y. (y, x.1)) e ∙ ap (λ y. (a, y)) f

module _ (inner : Reader loose.Expr) where
  pub member-lone : (ts : List Token) (p : loose.Primary) (rest : List Token) → member_of inner ts ≡ Ok (loose.member p loose.no_accesses, rest) → primary_of inner ts ≡ Ok (p, rest)
  unfolding member_of
  member-lone ts p rest e =
      let one = bind_ok (primary_of inner ts) (λ q. mapped (λ xs. loose.member q.0 (accesses xs)) (each_of begins_access (access_of inner) q.1)) e in
      let two = mapped_ok (λ xs. loose.member one.0.0 (accesses xs)) (each_of begins_access (access_of inner) one.0.1) one.2 in
      let same : one.0.0 ≡ p = cc two.2 in
      let none : accesses two.0 ≡ loose.no_accesses = cc two.2 in
      let stays = each-nothing begins_access (access_of inner) one.0.1 rest (two.1 ∙ ap (λ xs. Ok (xs, rest)) (accesses-none two.0 none)) in
      one.1 ∙ ap (λ q. Ok (q, one.0.1)) same ∙ ap (λ r. Ok (p, r)) stays

  dashes-lone : (ts : List Token) (n : ℕ) (mid : List Token) (m : loose.Member) (rest : List Token) → after_dashes (member_of inner) ts n mid ≡ Ok (loose.unary None m, rest) → member_of inner ts ≡ Ok (m, rest)
  dashes-lone ts zero mid m rest e =
      let one = mapped_ok (loose.unary None) (member_of inner ts) e in
      let same : one.0 ≡ m = cc one.2 in
      one.1 ∙ ap (λ x. Ok (x, rest)) same
  dashes-lone ts (suc n) mid m rest e = absurd (cc (mapped_ok (loose.unary (Some (dashes n))) (member_of inner mid) e).2)

  bangs-lone : (ts : List Token) (n : ℕ) (mid : List Token) (m : loose.Member) (rest : List Token) → after_bangs (member_of inner) ts n mid ≡ Ok (loose.unary None m, rest) → member_of inner ts ≡ Ok (m, rest)
  bangs-lone ts zero mid m rest e = dashes-lone ts (signs_of token.Minus ts).0 (signs_of token.Minus ts).1 m rest e
  bangs-lone ts (suc n) mid m rest e = absurd (cc (mapped_ok (loose.unary (Some (bangs n))) (member_of inner mid) e).2)

  unary-lone : (ts : List Token) (m : loose.Member) (rest : List Token) → unary_of inner ts ≡ Ok (loose.unary None m, rest) → member_of inner ts ≡ Ok (m, rest)
  unfolding unary_of
  unary-lone ts m rest e = bangs-lone ts (signs_of token.Bang ts).0 (signs_of token.Bang ts).1 m rest e

  mult-lone : (ts : List Token) (u : loose.Unary) (rest : List Token) → mult_of inner ts ≡ Ok (loose.mult u loose.no_unaries, rest) → unary_of inner ts ≡ Ok (u, rest)
  unfolding mult_of
  mult-lone ts u rest e =
      let one = mapped_ok (λ x. loose.mult x.0 (unaries x.1)) (chain_of mult_op (unary_of inner) ts) e in
      let same : one.0.0 ≡ u = cc one.2 in
      let none : unaries one.0.1 ≡ loose.no_unaries = cc one.2 in
      chain-lone mult_op (unary_of inner) ts u rest (one.1 ∙ ap (λ x. Ok (x, rest)) (pair-is one.0 u [] same (unaries-none one.0.1 none)))

  add-lone : (ts : List Token) (m : loose.Mult) (rest : List Token) → add_of inner ts ≡ Ok (loose.add m loose.no_mults, rest) → mult_of inner ts ≡ Ok (m, rest)
  unfolding add_of
  add-lone ts m rest e =
      let one = mapped_ok (λ x. loose.add x.0 (mults x.1)) (chain_of add_op (mult_of inner) ts) e in
      let same : one.0.0 ≡ m = cc one.2 in
      let none : mults one.0.1 ≡ loose.no_mults = cc one.2 in
      chain-lone add_op (mult_of inner) ts m rest (one.1 ∙ ap (λ x. Ok (x, rest)) (pair-is one.0 m [] same (mults-none one.0.1 none)))

  pub sum-lone : (ts : List Token) (m : loose.Member) (rest : List Token) → add_of inner ts ≡ Ok (lone_sum m, rest) → member_of inner ts ≡ Ok (m, rest)
  sum-lone ts m rest e = unary-lone ts m rest (mult-lone ts (loose.unary None m) rest (add-lone ts (loose.mult (loose.unary None m) loose.no_unaries) rest e))

  links_step-lone : (a b : loose.Add) (us rest : List Token) → mapped (λ bs. loose.common a (adds bs)) (links_of rel_op (add_of inner) us) ≡ Ok (loose.common b loose.no_adds, rest) → (a ≡ b) × (us ≡ rest)
  links_step-lone a b us rest e =
      let one = mapped_ok (λ bs. loose.common a (adds bs)) (links_of rel_op (add_of inner) us) e in
      let same : a ≡ b = cc one.2 in
      let none : adds one.0 ≡ loose.no_adds = cc one.2 in
      (same, links-lone rel_op (add_of inner) us rest (one.1 ∙ ap (λ bs. Ok (bs, rest)) (adds-none one.0 none)))

  is_step-common : (a t b : loose.Add) (more : loose.Adds) (us rest : List Token) (o : Option (List Token)) → is_step inner a t us o ≡ Ok (loose.common b more, rest) → ⊥
  is_step-common a t b more us rest None e = cc (ok_pair e).0
  is_step-common a t b more us rest (Some vs) e = cc (mapped_ok (loose.is_type_in a t) (add_of inner vs) e).2

  relation_step-lone : (a b : loose.Add) (us rest : List Token) → relation_step inner a us ≡ Ok (loose.common b loose.no_adds, rest) → (a ≡ b) × (us ≡ rest)
  relation_step-lone a b [] rest e = links_step-lone a b [] rest e
  relation_step-lone a b (word token.Has ∷ us) rest e = absurd (cc (mapped_ok (loose.has a) (add_of inner us) e).2)
  relation_step-lone a b (word token.Like ∷ us) rest e = absurd (cc (mapped_ok (loose.like a) (add_of inner us) e).2)
  relation_step-lone a b (word token.Is ∷ us) rest e =
      let one = bind_ok (add_of inner us) (λ t. is_step inner a t.0 t.1 (eat_in t.1)) e in
      absurd (is_step-common a one.0.0 b loose.no_adds one.0.1 rest (eat_in one.0.1) one.2)
  relation_step-lone a b (o ∷ us) rest e = links_step-lone a b (o ∷ us) rest e

  relation-lone : (ts : List Token) (a : loose.Add) (rest : List Token) → relation_of inner ts ≡ Ok (loose.common a loose.no_adds, rest) → add_of inner ts ≡ Ok (a, rest)
  unfolding relation_of
  relation-lone ts a rest e =
      let one = bind_ok (add_of inner ts) (λ b. relation_step inner b.0 b.1) e in
      let two = relation_step-lone one.0.0 a one.0.1 rest one.2 in
      one.1 ∙ ap (λ b. Ok (b, one.0.1)) two.0 ∙ ap (λ r. Ok (a, r)) two.1

  and-lone : (ts : List Token) (r : loose.Relation) (rest : List Token) → and_of inner ts ≡ Ok (loose.and r loose.no_relations, rest) → relation_of inner ts ≡ Ok (r, rest)
  unfolding and_of
  and-lone ts r rest e =
      let one = mapped_ok (λ x. loose.and x.0 (relations (map (λ y. y.1) x.1))) (chain_of and_op (relation_of inner) ts) e in
      let same : one.0.0 ≡ r = cc one.2 in
      let none : relations (map (λ y. y.1) one.0.1) ≡ loose.no_relations = cc one.2 in
      chain-lone and_op (relation_of inner) ts r rest (one.1 ∙ ap (λ x. Ok (x, rest)) (pair-is one.0 r [] same (relations-none one.0.1 none)))

  or-lone : (ts : List Token) (a : loose.And) (rest : List Token) → or_of inner ts ≡ Ok (loose.or a loose.no_ands, rest) → and_of inner ts ≡ Ok (a, rest)
  unfolding or_of
  or-lone ts a rest e =
      let one = mapped_ok (λ x. loose.or x.0 (ands (map (λ y. y.1) x.1))) (chain_of or_op (and_of inner) ts) e in
      let same : one.0.0 ≡ a = cc one.2 in
      let none : ands (map (λ y. y.1) one.0.1) ≡ loose.no_ands = cc one.2 in
      chain-lone or_op (and_of inner) ts a rest (one.1 ∙ ap (λ x. Ok (x, rest)) (pair-is one.0 a [] same (ands-none one.0.1 none)))

  -- what an `if` is read from
  pub record Choice (ts : List Token) (e : loose.Expr) (rest : List Token) : Type 0 where
    pub a : loose.Expr
    pub b : loose.Expr
    pub c : loose.Expr
    pub u : List Token
    pub v : List Token
    pub test : inner ts ≡ Ok (a, word token.Then ∷ u)
    pub yes : inner u ≡ Ok (b, word token.Else ∷ v)
    pub no : inner v ≡ Ok (c, rest)
    pub is : loose.if_expr a b c ≡ e

  pub choice-if : (ts : List Token) (e : loose.Expr) (rest : List Token) → choice_of inner ts ≡ Ok (e, rest) → Choice ts e rest
  unfolding choice_of
  choice-if ts e rest f =
      let one = bind_ok (inner ts) (λ a. needed (eat_then a.1) >> λ us. inner us >> λ b. needed (eat_else b.1) >> λ vs. inner vs >> λ c. Ok (loose.if_expr a.0 b.0 c.0, c.1)) f in
      let two = bind_ok (needed (eat_then one.0.1)) (λ us. inner us >> λ b. needed (eat_else b.1) >> λ vs. inner vs >> λ c. Ok (loose.if_expr one.0.0 b.0 c.0, c.1)) one.2 in
      let three = bind_ok (inner two.0) (λ b. needed (eat_else b.1) >> λ vs. inner vs >> λ c. Ok (loose.if_expr one.0.0 b.0 c.0, c.1)) two.2 in
      let four = bind_ok (needed (eat_else three.0.1)) (λ vs. inner vs >> λ c. Ok (loose.if_expr one.0.0 three.0.0 c.0, c.1)) three.2 in
      let five = bind_ok (inner four.0) (λ c. Ok (loose.if_expr one.0.0 three.0.0 c.0, c.1)) four.2 in
      let v = ok_pair five.2 in
      record {
        a = one.0.0;
        b = three.0.0;
        c = five.0.0;
        u = two.0;
        v = four.0;
        test = one.1 ∙ ap (λ r. Ok (one.0.0, r)) (eat_then-is one.0.1 two.0 (needed_ok (eat_then one.0.1) two.1));
        yes = three.1 ∙ ap (λ r. Ok (three.0.0, r)) (eat_else-is three.0.1 four.0 (needed_ok (eat_else three.0.1) four.1));
        no = five.1 ∙ ap (λ r. Ok (five.0.0, r)) v.1;
        is = v.0;
      }

  mapped-or : (ts : List Token) (o : loose.Or) (rest : List Token) → mapped loose.or_expr (or_of inner ts) ≡ Ok (loose.or_expr o, rest) → or_of inner ts ≡ Ok (o, rest)
  mapped-or ts o rest e =
      let one = mapped_ok loose.or_expr (or_of inner ts) e in
      let same : one.0 ≡ o = cc one.2 in
      one.1 ∙ ap (λ x. Ok (x, rest)) same

  or_expr-lone : (ts : List Token) (o : loose.Or) (rest : List Token) → expr_of inner ts ≡ Ok (loose.or_expr o, rest) → or_of inner ts ≡ Ok (o, rest)
  unfolding expr_of
  or_expr-lone (word token.If ∷ ts) o rest e = absurd (cc (choice-if ts (loose.or_expr o) rest e).is)
  or_expr-lone [] o rest e = mapped-or [] o rest e
  or_expr-lone (t ∷ ts) o rest e = mapped-or (t ∷ ts) o rest e

  pub expr-lone : (ts : List Token) (p : loose.Primary) (rest : List Token) → expr_of inner ts ≡ Ok (lone p, rest) → primary_of inner ts ≡ Ok (p, rest)
  expr-lone ts p rest e =
      let m = loose.member p loose.no_accesses in
      let r = loose.common (lone_sum m) loose.no_adds in
      let a = loose.and r loose.no_relations in
      member-lone ts p rest (sum-lone ts m rest (relation-lone ts (lone_sum m) rest (and-lone ts r rest (or-lone ts a rest (or_expr-lone ts (loose.or a loose.no_ands) rest e)))))

  pub alone-read : (ts : List Token) (e : loose.Expr) (p : loose.Primary) (rest : List Token) → expr_of inner ts ≡ Ok (e, rest) → alone e ≡ Some p → primary_of inner ts ≡ Ok (p, rest)
  alone-read ts e p rest f g = expr-lone ts p rest (f ∙ ap (λ x. Ok (x, rest)) (alone-is e p g))

-- ---- to what is read

-- no sign and no `if`
abbrev pub begins_plain : Token → Bool
begins_plain (word token.If) = false
begins_plain (mark token.Bang) = false
begins_plain (mark token.Minus) = false
begins_plain t = true

-- the tokens begin with neither
pub record Plain (ts : List Token) : Type 0 where
  pub no_bang : signs_of token.Bang ts ≡ (0, ts)
  pub no_minus : signs_of token.Minus ts ≡ (0, ts)
  pub no_if : (inner : Reader loose.Expr) → expr_of inner ts ≡ mapped loose.or_expr (or_of inner ts)

pub plainly : (t : Token) (ts : List Token) → begins_plain t ≡ true → Plain (t ∷ ts)
unfolding signs_of expr_of
plainly (word token.If) ts h = absurd (cc h)
plainly (mark token.Bang) ts h = absurd (cc h)
plainly (mark token.Minus) ts h = absurd (cc h)
plainly t ts h = record { no_bang = refl; no_minus = refl; no_if = λ inner. refl }

module _ (inner : Reader loose.Expr) where
  pub member-one : (ts : List Token) (p : loose.Primary) (rest : List Token) → primary_of inner ts ≡ Ok (p, rest) → Below 6 rest → member_of inner ts ≡ Ok (loose.member p loose.no_accesses, rest)
  unfolding member_of
  member-one ts p rest e h = rw (e, each-stop begins_access (access_of inner) rest (access-below rest h))

  pub unary-one : (ts : List Token) (m : loose.Member) (rest : List Token) → Plain ts → member_of inner ts ≡ Ok (m, rest) → unary_of inner ts ≡ Ok (loose.unary None m, rest)
  unfolding unary_of
  unary-one ts m rest p e = rw (p.no_bang, p.no_minus, e)

  mult-one : (ts : List Token) (u : loose.Unary) (rest : List Token) → unary_of inner ts ≡ Ok (u, rest) → Below 5 rest → mult_of inner ts ≡ Ok (loose.mult u loose.no_unaries, rest)
  unfolding mult_of
  mult-one ts u rest e h = rw (chain-one mult_op (unary_of inner) 5 mult-silent ts u rest e h)

  add-one : (ts : List Token) (m : loose.Mult) (rest : List Token) → mult_of inner ts ≡ Ok (m, rest) → Below 4 rest → add_of inner ts ≡ Ok (loose.add m loose.no_mults, rest)
  unfolding add_of
  add-one ts m rest e h = rw (chain-one add_op (mult_of inner) 4 add-silent ts m rest e h)

  pub sum-one : (ts : List Token) (m : loose.Member) (rest : List Token) → Plain ts → member_of inner ts ≡ Ok (m, rest) → Below 4 rest → add_of inner ts ≡ Ok (lone_sum m, rest)
  sum-one ts m rest p e h = add-one ts (loose.mult (loose.unary None m) loose.no_unaries) rest (mult-one ts (loose.unary None m) rest (unary-one ts m rest p e) (below-more 4 5 (omega arith) rest h)) h

  pub relation-stop : (a : loose.Add) (ts : List Token) → Below 3 ts → relation_step inner a ts ≡ Ok (loose.common a loose.no_adds, ts)
  relation-stop a [] h = rw (links-stop rel_op (add_of inner) 3 rel-silent [] h)
  relation-stop a (word token.Has ∷ ts) h = absurd (omega arith)
  relation-stop a (word token.Like ∷ ts) h = absurd (omega arith)
  relation-stop a (word token.Is ∷ ts) h = absurd (omega arith)
  relation-stop a (o ∷ ts) h = rw (links-stop rel_op (add_of inner) 3 rel-silent (o ∷ ts) h)

  relation-one : (ts : List Token) (a : loose.Add) (rest : List Token) → add_of inner ts ≡ Ok (a, rest) → Below 3 rest → relation_of inner ts ≡ Ok (loose.common a loose.no_adds, rest)
  unfolding relation_of
  relation-one ts a rest e h = rw e (relation-stop a rest h)

  and-one : (ts : List Token) (r : loose.Relation) (rest : List Token) → relation_of inner ts ≡ Ok (r, rest) → Below 2 rest → and_of inner ts ≡ Ok (loose.and r loose.no_relations, rest)
  unfolding and_of
  and-one ts r rest e h = rw (chain-one and_op (relation_of inner) 2 and-silent ts r rest e h)

  or-one : (ts : List Token) (a : loose.And) (rest : List Token) → and_of inner ts ≡ Ok (a, rest) → Below 1 rest → or_of inner ts ≡ Ok (loose.or a loose.no_ands, rest)
  unfolding or_of
  or-one ts a rest e h = rw (chain-one or_op (and_of inner) 1 or-silent ts a rest e h)

  pub lone-read : (ts : List Token) (p : loose.Primary) (rest : List Token) → Plain ts → primary_of inner ts ≡ Ok (p, rest) → Below 1 rest → expr_of inner ts ≡ Ok (lone p, rest)
  lone-read ts p rest q e h =
      let m = loose.member p loose.no_accesses in
      let r = loose.common (lone_sum m) loose.no_adds in
      let a = loose.and r loose.no_relations in
      let sum = sum-one ts m rest q (member-one ts p rest e (below-more 1 6 (omega arith) rest h)) (below-more 1 4 (omega arith) rest h) in
      let or = or-one ts a rest (and-one ts r rest (relation-one ts (lone_sum m) rest sum (below-more 1 3 (omega arith) rest h)) (below-more 1 2 (omega arith) rest h)) h in
      rw (q.no_if inner, or)

-- ---- what a primary is read from

pub ref-read : (ts : List Token) (n : loose.Name) (us vs : List Token) (r : loose.Ref) (rest : List Token) → name_of ts ≡ Ok (n, us) → eat token.ColonColon us ≡ Some vs → ref_rest n vs ≡ Ok (r, rest) → ref_of ts ≡ Ok (r, rest)
unfolding ref_of
ref-read ts n us vs r rest f g h = rw (f, g, h)

module _ (inner : Reader loose.Expr) where
  abbrev pub Told : loose.Primary → List Token → List Token → Type 0
  Told (loose.literal loose.true_) ts rest = ts ≡ word token.True ∷ rest
  Told (loose.literal loose.false_) ts rest = ts ≡ word token.False ∷ rest
  Told (loose.literal (loose.num n)) ts rest = ts ≡ number n ∷ rest
  Told (loose.literal (loose.str (loose.string raw))) ts rest = ts ≡ text raw ∷ rest
  Told (loose.entity r) ts rest = ref_of ts ≡ Ok (r, rest)
  Told (loose.named n) ts rest = name_of ts ≡ Ok (n, rest)
  Told (loose.slot s) ts rest = (w : Word) × (ts ≡ slot w ∷ rest) × (slot_of w ≡ s)
  Told (loose.expr e) ts rest = (us : List Token) × (ts ≡ mark token.LeftParen ∷ us) × (inner us ≡ Ok (e, mark token.RightParen ∷ rest))
  Told (loose.e_list es) ts rest = (us : List Token) × (xs : List loose.Expr) × (ts ≡ mark token.LeftBracket ∷ us) × (items_of token.RightBracket inner us ≡ Ok (xs, rest)) × (exprs xs ≡ es)
  Told (loose.r_inits rs) ts rest = (us : List Token) × (xs : List loose.RecInit) × (ts ≡ mark token.LeftBrace ∷ us) × (items_of token.RightBrace (rec_init_of inner) us ≡ Ok (xs, rest)) × (rec_inits xs ≡ rs)
  Told p ts rest = Unit {0}

  told-at : (ts us rest : List Token) (q p : loose.Primary) → ◌≡◌ {A = Reading loose.Primary} (Ok (q, us)) (Ok (p, rest)) → Told q ts us → Told p ts rest
  told-at ts us rest q p e d = let v = ok_pair e in subst (λ r. Told p ts r) v.1 (subst (λ x. Told x ts us) v.0 d)

  told-named : (ts : List Token) (p : loose.Primary) (rest : List Token) → named_of ts ≡ Ok (p, rest) → Told p ts rest
  unfolding named_of
  told-named ts p rest e =
      let one = bind_ok (name_of ts) (λ n. named_step n.0 n.1 (eat token.ColonColon n.1)) e in
      by one.0.0 one.0.1 (eat token.ColonColon one.0.1) one.1 refl one.2
    where
      by : (n : loose.Name) (us : List Token) (o : Option (List Token)) → name_of ts ≡ Ok (n, us) → eat token.ColonColon us ≡ o → named_step n us o ≡ Ok (p, rest) → Told p ts rest
      by n us None f g h = told-at ts us rest (loose.named n) p h f
      by n us (Some vs) f g h =
          let m = mapped_ok loose.entity (ref_rest n vs) h in
          subst (λ q. Told q ts rest) m.2 (ref-read ts n us vs m.0 rest f g m.1)

  told-literal : (t : Token) (ts : List Token) (p : loose.Primary) (rest : List Token) → mapped loose.literal (literal_of (t ∷ ts)) ≡ Ok (p, rest) → Told p (t ∷ ts) rest
  unfolding literal_of
  told-literal (word token.True) ts p rest e = told-at (word token.True ∷ ts) ts rest (loose.literal loose.true_) p e refl
  told-literal (word token.False) ts p rest e = told-at (word token.False ∷ ts) ts rest (loose.literal loose.false_) p e refl
  told-literal (text raw) ts p rest e = told-at (text raw ∷ ts) ts rest (loose.literal (loose.str (loose.string raw))) p e refl
  told-literal (number n) ts p rest e =
      let m = mapped_ok loose.literal (literal_of (number n ∷ ts)) e in
      let w = cond_ok (nat_lt n (2 ^ 64)) (Ok (loose.num n, ts)) _ m.1 in
      told-at (number n ∷ ts) ts rest (loose.literal (loose.num n)) p (ap (mapped loose.literal) w.1 ∙ ap (λ q. Ok (q, rest)) m.2) refl
  told-literal t ts p rest e = absurd (cc e)

  pub told : (ts : List Token) (p : loose.Primary) (rest : List Token) → primary_of inner ts ≡ Ok (p, rest) → Told p ts rest
  unfolding primary_of
  told [] p rest e = absurd (cc e)
  told (word token.If ∷ ts) p rest e = absurd (cc e)
  told (word token.True ∷ ts) p rest e = told-literal (word token.True) ts p rest e
  told (word token.False ∷ ts) p rest e = told-literal (word token.False) ts p rest e
  told (word w ∷ ts) p rest e = told-named (word w ∷ ts) p rest e
  told (number n ∷ ts) p rest e = told-literal (number n) ts p rest e
  told (text raw ∷ ts) p rest e = told-literal (text raw) ts p rest e
  told (slot w ∷ ts) p rest e = told-at (slot w ∷ ts) ts rest (loose.slot (slot_of w)) p e (w, refl, refl)
  told (mark token.LeftParen ∷ ts) p rest e =
      let one = bind_ok (inner ts) (λ x. needed (eat token.RightParen x.1) >> λ us. Ok (loose.expr x.0, us)) e in
      let two = bind_ok (needed (eat token.RightParen one.0.1)) (λ us. Ok (loose.expr one.0.0, us)) one.2 in
      told-at (mark token.LeftParen ∷ ts) two.0 rest (loose.expr one.0.0) p two.2 (ts, refl, one.1 ∙ ap (λ r. Ok (one.0.0, r)) (eat-is token.RightParen one.0.1 two.0 (needed_ok (eat token.RightParen one.0.1) two.1)))
  told (mark token.LeftBracket ∷ ts) p rest e =
      let m = mapped_ok (λ es. loose.e_list (exprs es)) (items_of token.RightBracket inner ts) e in
      subst (λ q. Told q (mark token.LeftBracket ∷ ts) rest) m.2 (ts, m.0, refl, m.1, refl)
  told (mark token.LeftBrace ∷ ts) p rest e =
      let m = mapped_ok (λ es. loose.r_inits (rec_inits es)) (items_of token.RightBrace (rec_init_of inner) ts) e in
      subst (λ q. Told q (mark token.LeftBrace ∷ ts) rest) m.2 (ts, m.0, refl, m.1, refl)
  told (t ∷ ts) p rest e = absurd (cc e)
