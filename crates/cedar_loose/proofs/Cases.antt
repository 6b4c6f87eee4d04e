-- What the reading functions give by the tokens that are next.
use Rattle.std.proofs.Common.{◌≡◌, ℕ, zero, suc, ◌<◌, true, false, ◌-◌, List, [], ◌∷◌, length, Option, Some, None, Result, Ok, Err, refl, sym, ap, ◌∙◌, subst, arith}
use Rattle.cedar_grammar.specs.Token as token
use Rattle.cedar_grammar.specs.Token.{Word, Mark, Token, word, number, text, slot, mark}
use Rattle.cedar_grammar.specs.Steps.{eat, word_read}
use Rattle.cedar_grammar.proofs.Parts.{eat-is}
use Rattle.cedar_grammar.specs.Loose as loose
use Rattle.cedar_grammar.specs.Loose.{Expr, Add, Primary}
use Rattle.cedar_grammar.specs.LooseReading.{Fault, depth, begins_access, each_of, member_of, Reading, Reader, ◌>>◌, mapped, needed, eat_is, items_of, literal_of, named_of, rec_init_of, primary_of, access_of, add_of, relation_step, relation_of, choice_of, or_of, expr_of, expr_at}
use Rattle.cedar_grammar.proofs.Rests.{Leaves, rest-length, access-after}
use Rattle.cedar_loose.specs.declared.error.ReadError.{ReadError}
use Rattle.cedar_loose.specs.Gives.{Fails, Gives}
use Rattle.cedar_loose.proofs.Loops.{fails_by, first_fails}
use Rattle.cedar_loose.specs.Steps.{begins_literal, begins_name, slot_read, eat_if, eat_has, eat_like, is_of, comparisons_of}

-- ---- expressions

pub expr_if : (inner : Reader Expr) (ts us : List Token) → eat_if ts ≡ Some us → expr_of inner ts ≡ choice_of inner us
unfolding expr_of
expr_if inner (word token.If ∷ ts) us e = let same : ts ≡ us = cc e in ap (choice_of inner) same
expr_if inner ts us e = absurd (cc e)

pub expr_or : (inner : Reader Expr) (ts : List Token) → eat_if ts ≡ None → expr_of inner ts ≡ mapped loose.or_expr (or_of inner ts)
unfolding expr_of
expr_or inner (word token.If ∷ ts) e = absurd (cc e)
expr_or inner ts e = refl

-- ---- relations

pub relation_has : (inner : Reader Expr) (a : Add) (ts us : List Token) → eat_has ts ≡ Some us → relation_step inner a ts ≡ mapped (loose.has a) (add_of inner us)
relation_has inner a (word token.Has ∷ ts) us e = let same : ts ≡ us = cc e in ap (λ q. mapped (loose.has a) (add_of inner q)) same
relation_has inner a ts us e = absurd (cc e)

pub relation_like : (inner : Reader Expr) (a : Add) (ts us : List Token) → eat_like ts ≡ Some us → relation_step inner a ts ≡ mapped (loose.like a) (add_of inner us)
relation_like inner a (word token.Like ∷ ts) us e = let same : ts ≡ us = cc e in ap (λ q. mapped (loose.like a) (add_of inner q)) same
relation_like inner a ts us e = absurd (cc e)

pub relation_is : (inner : Reader Expr) (a : Add) (ts us : List Token) → eat_is ts ≡ Some us → relation_step inner a ts ≡ is_of inner a us
relation_is inner a (word token.Is ∷ ts) us e = let same : ts ≡ us = cc e in ap (is_of inner a) same
relation_is inner a ts us e = absurd (cc e)

pub relation_common : (inner : Reader Expr) (a : Add) (ts : List Token) → eat_has ts ≡ None → eat_like ts ≡ None → eat_is ts ≡ None → relation_step inner a ts ≡ comparisons_of inner a ts
relation_common inner a (word token.Has ∷ ts) e f g = absurd (cc e)
relation_common inner a (word token.Like ∷ ts) e f g = absurd (cc f)
relation_common inner a (word token.Is ∷ ts) e f g = absurd (cc g)
relation_common inner a ts e f g = refl

-- ---- accesses

pub access_field : (inner : Reader Expr) (ts us : List Token) → eat token.Dot ts ≡ Some us → access_of inner ts ≡ mapped loose.field (mapped loose.ident (needed (word_read us)))
unfolding access_of
access_field inner ts us e = rw (eat-is token.Dot ts us e) (by (word_read us))
  where
    by : (o : Option (Word × List Token)) → (needed o >> λ w. Ok (loose.field (loose.ident w.0), w.1)) ≡ mapped loose.field (mapped loose.ident (needed o))
    by None = refl
    by (Some w) = refl

pub access_call : (inner : Reader Expr) (ts us : List Token) → eat token.LeftParen ts ≡ Some us → access_of inner ts ≡ mapped (λ es. loose.call (loose.exprs es)) (items_of token.RightParen inner us)
unfolding access_of
access_call inner ts us e = rw (eat-is token.LeftParen ts us e) refl

-- what stands in square brackets
abbrev pub index_of : Reader Expr → List Token → Reading loose.MemAccess
index_of inner us = inner us >> λ e. needed (eat token.RightBracket e.1) >> λ vs. Ok (loose.index e.0, vs)

pub access_index : (inner : Reader Expr) (ts : List Token) → eat token.Dot ts ≡ None → eat token.LeftParen ts ≡ None → access_of inner ts ≡ (needed (eat token.LeftBracket ts) >> index_of inner)
unfolding access_of
access_index inner [] e f = refl
access_index inner (mark token.Dot ∷ ts) e f = absurd (cc e)
access_index inner (mark token.LeftParen ∷ ts) e f = absurd (cc f)
access_index inner (mark token.LeftBracket ∷ ts) e f = refl
access_index inner (t ∷ ts) e f = refl

-- ---- primaries

pub primary_paren : (inner : Reader Expr) (ts us : List Token) → eat token.LeftParen ts ≡ Some us → primary_of inner ts ≡ (inner us >> λ e. needed (eat token.RightParen e.1) >> λ vs. Ok (loose.expr e.0, vs))
unfolding primary_of
primary_paren inner ts us e = rw (eat-is token.LeftParen ts us e) refl

pub primary_list : (inner : Reader Expr) (ts us : List Token) → eat token.LeftBracket ts ≡ Some us → primary_of inner ts ≡ mapped (λ es. loose.e_list (loose.exprs es)) (items_of token.RightBracket inner us)
unfolding primary_of
primary_list inner ts us e = rw (eat-is token.LeftBracket ts us e) refl

pub primary_record : (inner : Reader Expr) (ts us : List Token) → eat token.LeftBrace ts ≡ Some us → primary_of inner ts ≡ mapped (λ es. loose.r_inits (loose.rec_inits es)) (items_of token.RightBrace (rec_init_of inner) us)
unfolding primary_of
primary_record inner ts us e = rw (eat-is token.LeftBrace ts us e) refl

pub primary_literal : (inner : Reader Expr) (ts : List Token) → true ≡ begins_literal ts → primary_of inner ts ≡ mapped loose.literal (literal_of ts)
unfolding primary_of
primary_literal inner (word token.True ∷ ts) e = refl
primary_literal inner (word token.False ∷ ts) e = refl
primary_literal inner (number n ∷ ts) e = refl
primary_literal inner (text raw ∷ ts) e = refl
primary_literal inner ts e = absurd (cc e)

pub primary_name : (inner : Reader Expr) (ts : List Token) → true ≡ begins_name ts → primary_of inner ts ≡ named_of ts
unfolding primary_of
primary_name inner (word token.If ∷ ts) e = absurd (cc e)
primary_name inner (word token.True ∷ ts) e = absurd (cc e)
primary_name inner (word token.False ∷ ts) e = absurd (cc e)
primary_name inner (word w ∷ ts) e = refl
primary_name inner ts e = absurd (cc e)

pub primary_slot : (inner : Reader Expr) (ts : List Token) → false ≡ begins_literal ts → false ≡ begins_name ts → eat token.LeftParen ts ≡ None → eat token.LeftBracket ts ≡ None → eat token.LeftBrace ts ≡ None → primary_of inner ts ≡ mapped loose.slot (slot_read ts)
unfolding primary_of
primary_slot inner [] l n e f g = refl
primary_slot inner (word token.If ∷ ts) l n e f g = refl
primary_slot inner (word token.True ∷ ts) l n e f g = absurd (cc l)
primary_slot inner (word token.False ∷ ts) l n e f g = absurd (cc l)
primary_slot inner (word w ∷ ts) l n e f g = absurd (cc n)
primary_slot inner (number v ∷ ts) l n e f g = absurd (cc l)
primary_slot inner (text raw ∷ ts) l n e f g = absurd (cc l)
primary_slot inner (slot w ∷ ts) l n e f g = refl
primary_slot inner (mark token.LeftParen ∷ ts) l n e f g = absurd (cc e)
primary_slot inner (mark token.LeftBracket ∷ ts) l n e f g = absurd (cc f)
primary_slot inner (mark token.LeftBrace ∷ ts) l n e f g = absurd (cc g)
primary_slot inner (mark m ∷ ts) l n e f g = refl

-- ---- members

module _ (inner : Reader Expr) (start : List Token) (p : Primary) (mid : List Token) (first : primary_of inner start ≡ Ok (p, mid)) where
  pub member_then_fails : (e : ReadError) → Fails e (each_of begins_access (access_of inner) mid) → Fails e (member_of inner start)
  unfolding member_of
  member_then_fails e h = fails_by e (each_of begins_access (access_of inner) mid) (primary_of inner start >> λ q. mapped (λ xs. loose.member q.0 (loose.accesses xs)) (each_of begins_access (access_of inner) q.1)) (λ f i. rw (first, i)) h

  pub member_done : (front : List loose.MemAccess) (us : List Token) → each_of begins_access (access_of inner) mid ≡ Ok (front, us) → member_of inner start ≡ Ok (loose.member p (loose.accesses front), us)
  unfolding member_of
  member_done front us e = rw (first, e)

pub access_fewer : (inner : Reader Expr) → Leaves inner → (ts : List Token) (x : loose.MemAccess) (us : List Token) → access_of inner ts ≡ Ok (x, us) → length us < length ts
access_fewer inner l ts x us e = let a = access-after inner l ts x us e in let long = ap length a.2 in let less = rest-length us a.1 a.3 in omega (arith, long, less)

-- ---- behind tests that took nothing

-- an error of what is the same is the same
pub fails_as : {A : Type 0} (e : ReadError) (read other : Result A Fault) → read ≡ other → Fails e other → Fails e read
fails_as e read other same h = subst (Fails e) (sym same) h

pub gives_as : {X A : Type 0} (view : X → A) (r : Result X ReadError) (rest : List Token) (read other : Reading A) → read ≡ other → Gives view r rest other → Gives view r rest read
gives_as view r rest read other same h = subst (Gives view r rest) (sym same) h

pub expr_at_none : (n : ℕ) (ts : List Token) → n ≡ 0 → expr_at n ts ≡ Err depth
unfolding expr_at
expr_at_none n ts e = rw e refl

pub relation_first_fails : (inner : Reader Expr) (ts : List Token) (e : ReadError) → Fails e (add_of inner ts) → Fails e (relation_of inner ts)
unfolding relation_of
relation_first_fails inner ts e h = first_fails e (add_of inner ts) (λ a. relation_step inner a.0 a.1) h

pub member_first_fails : (inner : Reader Expr) (ts : List Token) (e : ReadError) → Fails e (primary_of inner ts) → Fails e (member_of inner ts)
unfolding member_of
member_first_fails inner ts e h = first_fails e (primary_of inner ts) (λ q. mapped (λ xs. loose.member q.0 (loose.accesses xs)) (each_of begins_access (access_of inner) q.1)) h

less : (n : ℕ) → suc n - 1 ≡ n
less n = omega arith

module _ (n : ℕ) (some : n ≡ 0 → ⊥) where
  pub expr_at_if : (ts us : List Token) → eat_if ts ≡ Some us → expr_at n ts ≡ choice_of (expr_at (n - 1)) us
  unfolding expr_at
  expr_at_if ts us e = by n some
    where
      by : (k : ℕ) → (k ≡ 0 → ⊥) → expr_at k ts ≡ choice_of (expr_at (k - 1)) us
      by zero z = absurd (z refl)
      by (suc k) z = expr_if (expr_at k) ts us e ∙ ap (λ j. choice_of (expr_at j) us) (sym (less k))

  pub expr_at_or : (ts us : List Token) → (eat_if ts ≡ None) × (us ≡ ts) → expr_at n ts ≡ mapped loose.or_expr (or_of (expr_at (n - 1)) us)
  unfolding expr_at
  expr_at_or ts us e = by n some
    where
      by : (k : ℕ) → (k ≡ 0 → ⊥) → expr_at k ts ≡ mapped loose.or_expr (or_of (expr_at (k - 1)) us)
      by zero z = absurd (z refl)
      by (suc k) z = expr_or (expr_at k) ts e.0 ∙ (ap (λ j. mapped loose.or_expr (or_of (expr_at j) ts)) (sym (less k)) ∙ ap (λ q. mapped loose.or_expr (or_of (expr_at (suc k - 1)) q)) (sym e.1))

module _ (inner : Reader Expr) (ts : List Token) (a : Add) (mid : List Token) (first : add_of inner ts ≡ Ok (a, mid)) where
  step : relation_of inner ts ≡ relation_step inner a mid
  unfolding relation_of
  step = rw first refl

  pub relation_by_has : (us : List Token) → eat_has mid ≡ Some us → relation_of inner ts ≡ mapped (loose.has a) (add_of inner us)
  relation_by_has us e = step ∙ relation_has inner a mid us e

  module _ (m : List Token) (h : (eat_has mid ≡ None) × (m ≡ mid)) where
    pub relation_by_like : (us : List Token) → eat_like m ≡ Some us → relation_of inner ts ≡ mapped (loose.like a) (add_of inner us)
    relation_by_like us e = step ∙ relation_like inner a mid us (sym (ap eat_like h.1) ∙ e)

    module _ (l : List Token) (i : (eat_like m ≡ None) × (l ≡ m)) where
      same : l ≡ mid
      same = i.1 ∙ h.1

      pub relation_by_is : (us : List Token) → eat_is l ≡ Some us → relation_of inner ts ≡ is_of inner a us
      relation_by_is us e = step ∙ relation_is inner a mid us (sym (ap eat_is same) ∙ e)

      pub relation_by_common : (us : List Token) → (eat_is l ≡ None) × (us ≡ l) → relation_of inner ts ≡ comparisons_of inner a us
      relation_by_common us e =
          step ∙ (relation_common inner a mid h.0 (sym (ap eat_like h.1) ∙ i.0) (sym (ap eat_is same) ∙ e.0) ∙ ap (comparisons_of inner a) (sym (e.1 ∙ same)))

module _ (inner : Reader Expr) (ts m : List Token) where
  pub access_by_call : (eat token.Dot ts ≡ None) × (m ≡ ts) → (us : List Token) → eat token.LeftParen m ≡ Some us → access_of inner ts ≡ mapped (λ es. loose.call (loose.exprs es)) (items_of token.RightParen inner us)
  access_by_call d us e = access_call inner ts us (sym (ap (eat token.LeftParen) d.1) ∙ e)

  pub access_by_index : (eat token.Dot ts ≡ None) × (m ≡ ts) → (us : List Token) → (eat token.LeftParen m ≡ None) × (us ≡ m) → access_of inner ts ≡ (needed (eat token.LeftBracket us) >> index_of inner)
  access_by_index d us e = access_index inner ts d.0 (sym (ap (eat token.LeftParen) d.1) ∙ e.0) ∙ ap (λ q. needed (eat token.LeftBracket q) >> index_of inner) (sym (e.1 ∙ d.1))

  module _ (p : (eat token.LeftParen ts ≡ None) × (m ≡ ts)) where
    pub primary_by_list : (us : List Token) → eat token.LeftBracket m ≡ Some us → primary_of inner ts ≡ mapped (λ es. loose.e_list (loose.exprs es)) (items_of token.RightBracket inner us)
    primary_by_list us e = primary_list inner ts us (sym (ap (eat token.LeftBracket) p.1) ∙ e)

    module _ (l : List Token) (b : (eat token.LeftBracket m ≡ None) × (l ≡ m)) where
      pub primary_by_record : (us : List Token) → eat token.LeftBrace l ≡ Some us → primary_of inner ts ≡ mapped (λ es. loose.r_inits (loose.rec_inits es)) (items_of token.RightBrace (rec_init_of inner) us)
      primary_by_record us e = primary_record inner ts us (sym (ap (eat token.LeftBrace) (b.1 ∙ p.1)) ∙ e)
