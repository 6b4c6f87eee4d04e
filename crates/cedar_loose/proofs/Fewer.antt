-- Annotations, clauses and policies take tokens.
use Rattle.std.proofs.Common.{◌≡◌, ℕ, suc, ◌<◌, List, ◌∷◌, length, Ok, refl, ap, arith}
use Rattle.cedar_grammar.specs.Token as token
use Rattle.cedar_grammar.specs.Token.{Token, word, mark}
use Rattle.cedar_grammar.specs.Steps.{eat, word_read, begins_annotation}
use Rattle.cedar_grammar.proofs.Parts.{eat-is}
use Rattle.cedar_grammar.specs.Loose as loose
use Rattle.cedar_grammar.specs.LooseReading.{◌>>◌, needed, annotated, annotation_of, braced, begins_cond, cond_of, variable_def_of, policy_of, expr_at}
use Rattle.cedar_grammar.proofs.Basics.{bind_ok, needed_ok, word_read-is}
use Rattle.cedar_grammar.proofs.Rests.{rest-length, eat-leaves, each-leaves, items-leaves, expr_at-leaves}
use Rattle.cedar_grammar.proofs.PolicyRests.{annotated-leaves, annotation-leaves, variable_def-leaves, braced-leaves, cond-leaves, parts}

pub annotation_fewer : (ts : List Token) (x : loose.Annotation) (rest : List Token) → annotation_of ts ≡ Ok (x, rest) → length rest < length ts
unfolding annotation_of
annotation_fewer ts x rest e =
    let one = bind_ok (needed (eat token.At ts)) (λ us. needed (word_read us) >> λ w. annotated w.0 w.1 (eat token.LeftParen w.1)) e in
    let two = bind_ok (needed (word_read one.0)) (λ w. annotated w.0 w.1 (eat token.LeftParen w.1)) one.2 in
    let last = rest-length rest two.0.1 (annotated-leaves two.0.0 two.0.1 (eat token.LeftParen two.0.1) x rest refl two.2) in
    let first = ap length (eat-is token.At ts one.0 (needed_ok (eat token.At ts) one.1)) in
    let next = ap length (word_read-is one.0 two.0.1 two.0.0 (needed_ok (word_read one.0) two.1)) in
    omega (arith, last, first, next)

pub cond_fewer : (n : ℕ) (ts : List Token) (x : loose.Cond) (rest : List Token) → cond_of n ts ≡ Ok (x, rest) → length rest < length ts
unfolding cond_of
cond_fewer n ts x rest e =
    let one = bind_ok (needed (word_read ts)) (λ w. needed (eat token.LeftBrace w.1) >> λ us. braced (expr_at n) w.0 us (eat token.RightBrace us)) e in
    let two = bind_ok (needed (eat token.LeftBrace one.0.1)) (λ us. braced (expr_at n) one.0.0 us (eat token.RightBrace us)) one.2 in
    let last = rest-length rest two.0 (braced-leaves (expr_at n) (expr_at-leaves n) one.0.0 two.0 (eat token.RightBrace two.0) refl x rest two.2) in
    let first = ap length (word_read-is ts one.0.1 one.0.0 (needed_ok (word_read ts) one.1)) in
    let next = rest-length two.0 one.0.1 (eat-leaves token.LeftBrace one.0.1 two.0 two.1) in
    omega (arith, last, first, next)

pub policy_fewer : (n : ℕ) (ts : List Token) (x : loose.Policy) (rest : List Token) → policy_of n ts ≡ Ok (x, rest) → length rest < length ts
policy_fewer n ts x rest e =
    let k = parts n ts x rest e in
    let one = rest-length (word k.w ∷ mark token.LeftParen ∷ k.a) ts (each-leaves annotation_of annotation-leaves begins_annotation ts k.notes (word k.w ∷ mark token.LeftParen ∷ k.a) k.annotations) in
    let two = rest-length k.b k.a (items-leaves (variable_def_of n) (variable_def-leaves n) token.RightParen k.a k.defs k.b k.scope) in
    let three = rest-length (mark token.Semicolon ∷ rest) k.b (each-leaves (cond_of (suc n)) (cond-leaves (suc n)) begins_cond k.b k.conds (mark token.Semicolon ∷ rest) k.clauses) in
    omega (arith, one, two, three)
