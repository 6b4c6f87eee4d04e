-- Signs before an operand.
use Rattle.std.proofs.Common.{◌≡◌, ℕ, zero, suc, ◌<◌, ◌≤◌, Bool, true, false, List, [], ◌∷◌, Option, Some, None, length, refl, ap, ◌∙◌, cond, arith}
use Rattle.std.specs.Prelude.{min}
use Rattle.std.proofs.lemmas.Bool.{lt-ltb, le-ltb}
use Rattle.cedar_grammar.specs.Token as token
use Rattle.cedar_grammar.specs.Token.{Mark, Token, mark}
use Rattle.cedar_grammar.specs.Steps.{is_mark, eat, signs_of}
use Rattle.cedar_grammar.specs.Loose as loose
use Rattle.cedar_grammar.specs.Loose.{Expr}
use Rattle.cedar_grammar.specs.LooseReading.{Reader, mapped, member_of, after_bangs, after_dashes, unary_of}

-- one more sign
pub record OneSign (m : Mark) (ts us : List Token) : Type 0 where
  pub count : (signs_of m ts).0 ≡ suc (signs_of m us).0
  pub after : (signs_of m ts).1 ≡ (signs_of m us).1
  pub fewer : length us < length ts

pub sign_more : (m : Mark) (ts us : List Token) → eat m ts ≡ Some us → OneSign m ts us
unfolding signs_of
sign_more m [] us e = absurd (cc e)
sign_more m (t ∷ ts) us e = by (is_mark m t) refl e
  where
    by : (b : Bool) → is_mark m t ≡ b → cond b (Some ts) None ≡ Some us → OneSign m (t ∷ ts) us
    by true f g = let same : ts ≡ us = cc g in record { count = rw (signs_of, f, same) refl; after = rw (signs_of, f, same) refl; fewer = let long = ap length same in omega (arith, long) }
    by false f g = absurd (cc g)

-- no sign
pub sign_none : (m : Mark) (ts : List Token) → eat m ts ≡ None → ((signs_of m ts).0 ≡ 0) × ((signs_of m ts).1 ≡ ts)
unfolding signs_of
sign_none m [] e = (refl, refl)
sign_none m (t ∷ ts) e = by (is_mark m t) refl e
  where
    by : (b : Bool) → is_mark m t ≡ b → cond b (Some ts) None ≡ None → ((signs_of m (t ∷ ts)).0 ≡ 0) × ((signs_of m (t ∷ ts)).1 ≡ t ∷ ts)
    by true f g = absurd (cc g)
    by false f g = (rw (signs_of, f) refl, rw (signs_of, f) refl)

-- ---- what the counts say

module _ (inner : Reader Expr) (ts us : List Token) (c : ℕ) where
  -- what is read where these signs stand before the member
  abbrev pub ReadsSigned : Option loose.NegOp → Type 0
  ReadsSigned op = unary_of inner ts ≡ mapped (loose.unary op) (member_of inner us)

  many-bangs : (n : ℕ) (mid : List Token) → c ≡ min n 255 → us ≡ mid → 4 < c → after_bangs (member_of inner) ts n mid ≡ mapped (loose.unary (Some loose.over_bang)) (member_of inner us)
  many-bangs zero mid k s lt = absurd (omega (arith, k, lt))
  many-bangs (suc n) mid k s lt = rw (le-ltb n 4 (omega (arith, k, lt)), s) refl

  few-bangs : (n : ℕ) (mid : List Token) → c ≡ min n 255 → us ≡ mid → c ≤ 4 → 0 < c → after_bangs (member_of inner) ts n mid ≡ mapped (loose.unary (Some (loose.bang c))) (member_of inner us)
  few-bangs zero mid k s le lt = absurd (omega (arith, k, lt))
  few-bangs (suc n) mid k s le lt = let same : c ≡ suc n = omega (arith, k, le) in rw (lt-ltb n 4 (omega (arith, k, le)), s, same) refl

  many-dashes : (n : ℕ) (mid : List Token) → c ≡ min n 255 → us ≡ mid → 4 < c → after_dashes (member_of inner) ts n mid ≡ mapped (loose.unary (Some loose.over_dash)) (member_of inner us)
  many-dashes zero mid k s lt = absurd (omega (arith, k, lt))
  many-dashes (suc n) mid k s lt = rw (le-ltb n 4 (omega (arith, k, lt)), s) refl

  few-dashes : (n : ℕ) (mid : List Token) → c ≡ min n 255 → us ≡ mid → c ≤ 4 → 0 < c → after_dashes (member_of inner) ts n mid ≡ mapped (loose.unary (Some (loose.dash c))) (member_of inner us)
  few-dashes zero mid k s le lt = absurd (omega (arith, k, lt))
  few-dashes (suc n) mid k s le lt = let same : c ≡ suc n = omega (arith, k, le) in rw (lt-ltb n 4 (omega (arith, k, le)), s, same) refl

  no-dashes : (n : ℕ) (mid : List Token) → c ≡ min n 255 → c ≤ 0 → us ≡ ts → after_dashes (member_of inner) ts n mid ≡ mapped (loose.unary None) (member_of inner us)
  no-dashes zero mid k le s = rw s refl
  no-dashes (suc n) mid k le s = absurd (omega (arith, k, le))

  pub over_bangs : c ≡ min (signs_of token.Bang ts).0 255 → us ≡ (signs_of token.Bang ts).1 → 4 < c → ReadsSigned (Some loose.over_bang)
  unfolding unary_of
  over_bangs k s lt = many-bangs (signs_of token.Bang ts).0 (signs_of token.Bang ts).1 k s lt

  pub bangs : c ≡ min (signs_of token.Bang ts).0 255 → us ≡ (signs_of token.Bang ts).1 → c ≤ 4 → 0 < c → ReadsSigned (Some (loose.bang c))
  unfolding unary_of
  bangs k s le lt = few-bangs (signs_of token.Bang ts).0 (signs_of token.Bang ts).1 k s le lt

  -- no bang is next
  module _ (none : (signs_of token.Bang ts).0 ≡ 0) where
    pub over_dashes : c ≡ min (signs_of token.Minus ts).0 255 → us ≡ (signs_of token.Minus ts).1 → 4 < c → ReadsSigned (Some loose.over_dash)
    unfolding unary_of
    over_dashes k s lt = rw none (many-dashes (signs_of token.Minus ts).0 (signs_of token.Minus ts).1 k s lt)

    pub dashes : c ≡ min (signs_of token.Minus ts).0 255 → us ≡ (signs_of token.Minus ts).1 → c ≤ 4 → 0 < c → ReadsSigned (Some (loose.dash c))
    unfolding unary_of
    dashes k s le lt = rw none (few-dashes (signs_of token.Minus ts).0 (signs_of token.Minus ts).1 k s le lt)

    pub unsigned : c ≡ min (signs_of token.Minus ts).0 255 → c ≤ 0 → us ≡ ts → ReadsSigned None
    unfolding unary_of
    unsigned k le s = rw none (no-dashes (signs_of token.Minus ts).0 (signs_of token.Minus ts).1 k le s)

none_taken : (m : Mark) (ts : List Token) → (signs_of m ts).0 ≡ 0 → (signs_of m ts).1 ≡ ts
unfolding signs_of
none_taken m [] e = refl
none_taken m (t ∷ ts) e = by (is_mark m t) refl
  where
    by : (b : Bool) → is_mark m t ≡ b → (signs_of m (t ∷ ts)).1 ≡ t ∷ ts
    by true f = let count : (signs_of m (t ∷ ts)).0 ≡ suc (signs_of m ts).0 = rw (signs_of, f) refl in absurd (omega (arith, count, e))
    by false f = rw (signs_of, f) refl

-- where the count is none, all tokens are left
pub no_sign : (m : Mark) (ts us : List Token) (c : ℕ) → c ≡ min (signs_of m ts).0 255 → us ≡ (signs_of m ts).1 → c ≤ 0 → ((signs_of m ts).0 ≡ 0) × (us ≡ ts)
no_sign m ts us c k s le = let none : (signs_of m ts).0 ≡ 0 = omega (arith, k, le) in (none, s ∙ none_taken m ts none)
