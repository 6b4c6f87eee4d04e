-- How deep tokens nest that are gone through one after the other.
use Rattle.std.proofs.Common.{◌≡◌, ℕ, suc, ◌+◌, ◌<◌, ◌≤◌, List, [], ◌∷◌, length, sym, subst, ◌≡◌, arith}
use Rattle.cedar_schema_grammar.specs.Tokens as token
use Rattle.cedar_schema_grammar.specs.Tokens.{Token, word, text, mark}
use Rattle.cedar_schema_text.specs.Nesting.{open_behind, most_open, nesting}

-- So many are open before these tokens, and nowhere before them more than the limit.
pub record Gone (limit : ℕ) (all ts : List Token) (count : ℕ) : Type 0 where
  pub within : count ≤ limit
  pub short : count + length ts ≤ length all
  pub least : most_open count ts ≤ nesting all
  pub most : most_open count ts ≤ limit → nesting all ≤ limit

pub most_least : (n : ℕ) (ts : List Token) → n ≤ most_open n ts
most_least n [] = omega arith
most_least n (t ∷ ts) = omega arith

opened : (n : ℕ) (t : Token) → open_behind n t ≤ suc n
opened n (word s) = omega arith
opened n (text raw) = omega arith
opened n (mark token.LeftBrace) = omega arith
opened n (mark token.RightBrace) = omega arith
opened n (mark token.LeftBracket) = omega arith
opened n (mark token.RightBracket) = omega arith
opened n (mark token.LeftParen) = omega arith
opened n (mark token.RightParen) = omega arith
opened n (mark token.LeftAngle) = omega arith
opened n (mark token.RightAngle) = omega arith
opened n (mark token.Comma) = omega arith
opened n (mark token.Semicolon) = omega arith
opened n (mark token.Colon) = omega arith
opened n (mark token.ColonColon) = omega arith
opened n (mark token.Question) = omega arith
opened n (mark token.Equal) = omega arith
opened n (mark token.At) = omega arith

module _ (limit : ℕ) (all : List Token) where
  pub gone_none : Gone limit all all 0
  gone_none = record { within = omega arith; short = omega arith; least = omega arith; most = λ h. h }

  module _ (t : Token) (ts : List Token) (count : ℕ) (gone : Gone limit all (t ∷ ts) count) where
    pub gone_more : open_behind count t ≤ limit → Gone limit all ts (open_behind count t)
    gone_more l =
        let one = opened count t in
        let short = gone.short in
        let least = gone.least in
        let within = gone.within in
        record { within = l; short = omega (arith, one, short); least = omega (arith, least); most = λ h. gone.most (omega (arith, h, within)) }

    pub gone_beyond : limit < open_behind count t → limit < nesting all
    gone_beyond l = let least = gone.least in let one = most_least (open_behind count t) ts in omega (arith, least, one, l)

  pub gone_all : (count : ℕ) → Gone limit all [] count → nesting all ≤ limit
  gone_all count gone = gone.most gone.within

-- the same where the first token is known
module _ (limit : ℕ) (all xs : List Token) (x : Token) (ys : List Token) (first : xs ≡ x ∷ ys) (count next : ℕ) (gone : Gone limit all xs count) (opens : next ≡ open_behind count x) where
  here : Gone limit all (x ∷ ys) count
  here = subst (λ zs. Gone limit all zs count) first gone

  pub goes_on : next ≤ limit → Gone limit all ys next
  goes_on l = subst (Gone limit all ys) (sym opens) (gone_more limit all x ys count here (subst (λ n. n ≤ limit) opens l))

  pub goes_beyond : limit < next → limit < nesting all
  goes_beyond l = gone_beyond limit all x ys count here (subst (λ n. limit < n) opens l)

pub goes_to_end : (limit : ℕ) (all xs : List Token) (count : ℕ) → xs ≡ [] → Gone limit all xs count → nesting all ≤ limit
goes_to_end limit all xs count e gone = gone_all limit all count (subst (λ zs. Gone limit all zs count) e gone)
