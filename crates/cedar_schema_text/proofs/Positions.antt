-- How many tokens are left at a position.
use Rattle.std.proofs.Common.{◌≡◌, ℕ, suc, subst, ◌-◌, ◌+◌, ◌<◌, ◌≤◌, List, ◌∷◌, length, drop, ap, ◌∙◌, arith}
use Rattle.std.proofs.lemmas.List.{length-drop, length-map}
use Rattle.cedar_schema_grammar.specs.Tokens.{Token}
use Rattle.cedar_schema_text.specs.declared.reader.Reader.{Reader}
use Rattle.cedar_schema_text.specs.View.{token_of}
use Rattle.cedar_schema_text.specs.Gives.{left, bound, IsBehind}

pub left_length : (r : Reader) (at : ℕ) → length (left r at) ≡ length r.tokens.items - at
left_length r at = length-map (drop at r.tokens.items) token_of ∙ length-drop at r.tokens.items

pub left_bound : (r : Reader) (at : ℕ) → length (left r at) < bound r
left_bound r at = let one = left_length r at in omega (arith, one)

pub left_most : (r : Reader) (at : ℕ) → length (left r at) ≤ length r.tokens.items
left_most r at = let one = left_length r at in omega (arith, one)

-- behind a token that stands there or further on
pub left_after : (r : Reader) (a b c : ℕ) → a ≤ b → IsBehind r b c → length (left r c) < length (left r a)
left_after r a b c l h = let one = left_length r a in let two = left_length r c in omega (arith, one, two, h.0, h.1, l)

-- behind a token that stands there, or further on
pub left_before : (r : Reader) (a b c : ℕ) → IsBehind r a b → b ≤ c → length (left r c) < length (left r a)
left_before r a b c h l = let one = left_length r a in let two = left_length r c in omega (arith, one, two, h.0, h.1, l)

pub fewer_after : (r : Reader) (a b c : ℕ) → a ≤ b → IsBehind r b c → length r.tokens.items - c < length r.tokens.items - a
fewer_after r a b c l h = omega (arith, h.0, h.1, l)

pub fewer_before : (r : Reader) (a b c : ℕ) → IsBehind r a b → b ≤ c → length r.tokens.items - c < length r.tokens.items - a
fewer_before r a b c h l = omega (arith, h.0, h.1, l)

-- where tokens are left, the position is that of one
pub left_inside : (r : Reader) (at : ℕ) (t : Token) (ts : List Token) → left r at ≡ t ∷ ts → at < length r.tokens.items
left_inside r at t ts e = let one = left_length r at in let two = ap length e in omega (arith, one, two)

pub fewer_next : (r : Reader) (at : ℕ) (t : Token) (ts : List Token) → left r at ≡ t ∷ ts → length r.tokens.items - (at + 1) < length r.tokens.items - at
fewer_next r at t ts e = let inside = left_inside r at t ts e in omega (arith, inside)

one_more : (n : ℕ) → suc n ≡ n + 1
one_more n = omega arith

pub next_left : (r : Reader) (at : ℕ) (t : Token) → left r at ≡ t ∷ left r (suc at) → left r at ≡ t ∷ left r (at + 1)
next_left r at t e = subst (λ n. left r at ≡ t ∷ left r n) (one_more at) e
