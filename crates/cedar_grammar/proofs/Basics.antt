-- What a single step of reading says, and what may follow what is read.
use Rattle.std.proofs.Common.{◌≡◌, ℕ, ◌<◌, ◌≤◌, Bool, true, false, cond, List, [], ◌∷◌, Option, Some, None, Result, Ok, Err, refl, ap, ◌∙◌, arith}
use Rattle.cedar_language.specs.Tree.{Tree}
use Rattle.cedar_grammar.specs.Token as token
use Rattle.cedar_grammar.specs.Token.{Word, Mark, Token, word, number, text, slot, mark, id_of}
use Rattle.cedar_grammar.specs.Build.{Link, linked, Comparison, conjunction, disjunction}
use Rattle.cedar_grammar.specs.Grammar.{link_of, comparison_of}
use Rattle.cedar_grammar.specs.Steps.{◌>>=◌, eat, eat_in, word_read}
use Rattle.cedar_grammar.proofs.Parts.{some_pair}
use Rattle.cedar_grammar.specs.Loose as loose
use Rattle.cedar_grammar.specs.LooseReading.{Fault, Reading, ◌>>◌, mapped, needed, operator_at, or_op, and_op, rel_op, add_op, mult_op, next_word, begins_access}
use Rattle.cedar_grammar.specs.Converting as converting
use Rattle.cedar_grammar.specs.Converting.{sum, product}

-- ---- steps

pub bind_ok : {A B : Type 0} {y : B} (r : Result A Fault) (f : A → Result B Fault) → (r >> f) ≡ Ok y → (x : A) × (r ≡ Ok x) × (f x ≡ Ok y)
bind_ok (Ok x) f e = (x, refl, e)
bind_ok (Err x) f e = absurd (cc e)

pub needed_ok : {A : Type 0} {x : A} (o : Option A) → needed o ≡ Ok x → o ≡ Some x
needed_ok None e = absurd (cc e)
needed_ok (Some y) e = cc e

pub cond_ok : {A : Type 0} {y : A} (b : Bool) (r : Result A Fault) (f : Fault) → cond b r (Err f) ≡ Ok y → (b ≡ true) × (r ≡ Ok y)
cond_ok true r f e = (refl, e)
cond_ok false r f e = absurd (cc e)

pub ok_pair : {A B : Type 0} {a c : A} {b d : B} → ◌≡◌ {A = Result (A × B) Fault} (Ok (a, b)) (Ok (c, d)) → (a ≡ c) × (b ≡ d)
ok_pair {A} {B} {a} {c} {b} {d} e = let p : ◌≡◌ {A = A × B} (a, b) (c, d) = cc e in (ap (λ x. x.0) p, ap (λ x. x.1) p)

pub mapped_ok : {A B : Type 0} {b : B} {rest : List Token} (f : A → B) (r : Reading A) → mapped f r ≡ Ok (b, rest) → (a : A) × (r ≡ Ok (a, rest)) × (f a ≡ b)
mapped_ok f (Ok x) e = let v = ok_pair e in (x.0, ap (λ q. Ok (x.0, q)) v.1, v.0)
mapped_ok f (Err x) e = absurd (cc e)

pub bind_same : {A B : Type 0} (o : Option A) (f g : A → Option B) → ((x : A) → f x ≡ g x) → (o >>= f) ≡ (o >>= g)
bind_same None f g h = refl
bind_same (Some x) f g h = h x

pub word_read-is : (ts us : List Token) (w : Word) → word_read ts ≡ Some (w, us) → ts ≡ word w ∷ us
word_read-is (word v ∷ ts) us w e = let p = some_pair e in ap (λ x. word x ∷ ts) p.0 ∙ ap (λ vs. word w ∷ vs) p.1
word_read-is ts us w e = absurd (cc e)

pub next_word-is : (ts us : List Token) → next_word ts ≡ Some us → ts ≡ mark token.ColonColon ∷ us
next_word-is (mark token.ColonColon ∷ word w ∷ ts) us e = let same : word w ∷ ts ≡ us = cc e in ap (λ vs. mark token.ColonColon ∷ vs) same
next_word-is ts us e = absurd (cc e)

-- ---- levels

-- the level of the operator or access that a token begins, or 0
abbrev pub level_of : Token → ℕ
level_of (mark token.OrOr) = 1
level_of (mark token.AndAnd) = 2
level_of (mark token.Less) = 3
level_of (mark token.LessEqual) = 3
level_of (mark token.Greater) = 3
level_of (mark token.GreaterEqual) = 3
level_of (mark token.EqualEqual) = 3
level_of (mark token.NotEqual) = 3
level_of (word token.In) = 3
level_of (word token.Has) = 3
level_of (word token.Like) = 3
level_of (word token.Is) = 3
level_of (mark token.Equal) = 3
level_of (mark token.Plus) = 4
level_of (mark token.Minus) = 4
level_of (mark token.Star) = 5
level_of (mark token.Slash) = 5
level_of (mark token.Percent) = 5
level_of (mark token.Dot) = 6
level_of (mark token.LeftBracket) = 6
level_of (mark token.ColonColon) = 7
level_of (mark token.LeftParen) = 7
level_of t = 0

-- nothing of level k or more is next
abbrev pub Below : ℕ → List Token → Type 0
Below k [] = Unit {0}
Below k (o ∷ ts) = level_of o < k

pub below-more : (j k : ℕ) → j ≤ k → (ts : List Token) → Below j ts → Below k ts
below-more j k le [] h = tt
below-more j k le (o ∷ ts) h = omega arith

pub eat-colons : (ts : List Token) → Below 7 ts → eat token.ColonColon ts ≡ None
eat-colons [] h = refl
eat-colons (mark token.ColonColon ∷ ts) h = absurd (omega arith)
eat-colons (t ∷ ts) h = refl

pub eat_in-below : (ts : List Token) → Below 3 ts → eat_in ts ≡ None
eat_in-below [] h = refl
eat_in-below (word token.In ∷ ts) h = absurd (omega arith)
eat_in-below (t ∷ ts) h = refl

pub next_word-below : (ts : List Token) → Below 7 ts → next_word ts ≡ None
next_word-below [] h = refl
next_word-below (mark token.ColonColon ∷ ts) h = absurd (omega arith)
next_word-below (t ∷ ts) h = refl

pub access-below : (ts : List Token) → Below 6 ts → begins_access ts ≡ false
access-below [] h = refl
access-below (mark token.Dot ∷ ts) h = absurd (omega arith)
access-below (mark token.LeftParen ∷ ts) h = absurd (omega arith)
access-below (mark token.LeftBracket ∷ ts) h = absurd (omega arith)
access-below (t ∷ ts) h = refl

-- ---- operators

-- no token below the level is such an operator
abbrev pub Silent : {Op : Type 0} → ℕ → (Token → Option Op) → Type 0
Silent k op = (o : Token) → level_of o < k → op o ≡ None

pub silent : {Op : Type 0} (k : ℕ) (op : Token → Option Op) → Silent k op → (ts : List Token) → Below k ts → operator_at op ts ≡ None
silent k op s [] h = refl
silent k op s (o ∷ ts) h = rw (s o h)

pub or-silent : Silent 1 or_op
or-silent (mark token.OrOr) h = absurd (omega arith)
or-silent o h = refl

pub and-silent : Silent 2 and_op
and-silent (mark token.AndAnd) h = absurd (omega arith)
and-silent o h = refl

pub rel-silent : Silent 3 rel_op
rel-silent (mark token.Less) h = absurd (omega arith)
rel-silent (mark token.LessEqual) h = absurd (omega arith)
rel-silent (mark token.Greater) h = absurd (omega arith)
rel-silent (mark token.GreaterEqual) h = absurd (omega arith)
rel-silent (mark token.EqualEqual) h = absurd (omega arith)
rel-silent (mark token.NotEqual) h = absurd (omega arith)
rel-silent (mark token.Equal) h = absurd (omega arith)
rel-silent (word token.In) h = absurd (omega arith)
rel-silent o h = refl

pub add-silent : Silent 4 add_op
add-silent (mark token.Plus) h = absurd (omega arith)
add-silent (mark token.Minus) h = absurd (omega arith)
add-silent o h = refl

pub mult-silent : Silent 5 mult_op
mult-silent (mark token.Star) h = absurd (omega arith)
mult-silent (mark token.Slash) h = absurd (omega arith)
mult-silent (mark token.Percent) h = absurd (omega arith)
mult-silent o h = refl

-- what an operator of a chain makes of two trees
abbrev pub Join : Type 0 → Type 0
Join Op = Op → Tree → Tree → Option Tree

-- the operators of the strict grammar at a level are among these, and join alike
abbrev pub Links : {Op : Type 0} → ℕ → (Token → Option Op) → Join Op → Type 0
Links {Op} k op join = (o : Token) (l : Link) → link_of o ≡ Some (k, l) → (level_of o ≡ k) × (p : Op) × (op o ≡ Some p) × ((a b : Tree) → join p a b ≡ Some (linked l a b))

-- and of these only they join
abbrev pub Joins : {Op : Type 0} → ℕ → (Token → Option Op) → Join Op → Type 0
Joins {Op} k op join = (o : Token) (p : Op) (a b t : Tree) → op o ≡ Some p → join p a b ≡ Some t → (l : Link) × (link_of o ≡ Some (k, l)) × (linked l a b ≡ t)

abbrev pub or_join : Join (Unit {0})
or_join p a b = Some (disjunction a b)

abbrev pub and_join : Join (Unit {0})
and_join p a b = Some (conjunction a b)

abbrev pub add_join : Join loose.AddOp
add_join p a b = Some (sum p a b)

linked-same : (k l : Link) (a b : Tree) → k ≡ l → ◌≡◌ {A = Option Tree} (Some (linked k a b)) (Some (linked l a b))
linked-same k l a b e = ap (λ j. Some (linked j a b)) e

pub or-links : Links 1 or_op or_join
or-links (mark token.OrOr) l e = (refl, tt, refl, λ a b. linked-same _ l a b (some_pair e).1)
or-links (mark token.AndAnd) l e = absurd (omega (arith, (some_pair e).0))
or-links (mark token.Plus) l e = absurd (omega (arith, (some_pair e).0))
or-links (mark token.Minus) l e = absurd (omega (arith, (some_pair e).0))
or-links (mark token.Star) l e = absurd (omega (arith, (some_pair e).0))
or-links o l e = absurd (cc e)

pub and-links : Links 2 and_op and_join
and-links (mark token.AndAnd) l e = (refl, tt, refl, λ a b. linked-same _ l a b (some_pair e).1)
and-links (mark token.OrOr) l e = absurd (omega (arith, (some_pair e).0))
and-links (mark token.Plus) l e = absurd (omega (arith, (some_pair e).0))
and-links (mark token.Minus) l e = absurd (omega (arith, (some_pair e).0))
and-links (mark token.Star) l e = absurd (omega (arith, (some_pair e).0))
and-links o l e = absurd (cc e)

pub add-links : Links 4 add_op add_join
add-links (mark token.Plus) l e = (refl, loose.plus, refl, λ a b. linked-same _ l a b (some_pair e).1)
add-links (mark token.Minus) l e = (refl, loose.minus, refl, λ a b. linked-same _ l a b (some_pair e).1)
add-links (mark token.OrOr) l e = absurd (omega (arith, (some_pair e).0))
add-links (mark token.AndAnd) l e = absurd (omega (arith, (some_pair e).0))
add-links (mark token.Star) l e = absurd (omega (arith, (some_pair e).0))
add-links o l e = absurd (cc e)

pub mult-links : Links 5 mult_op product
mult-links (mark token.Star) l e = (refl, loose.times, refl, λ a b. linked-same _ l a b (some_pair e).1)
mult-links (mark token.OrOr) l e = absurd (omega (arith, (some_pair e).0))
mult-links (mark token.AndAnd) l e = absurd (omega (arith, (some_pair e).0))
mult-links (mark token.Plus) l e = absurd (omega (arith, (some_pair e).0))
mult-links (mark token.Minus) l e = absurd (omega (arith, (some_pair e).0))
mult-links o l e = absurd (cc e)

pub or-joins : Joins 1 or_op or_join
or-joins (mark token.OrOr) p a b t e f = (_, refl, cc f)
or-joins o p a b t e f = absurd (cc e)

pub and-joins : Joins 2 and_op and_join
and-joins (mark token.AndAnd) p a b t e f = (_, refl, cc f)
and-joins o p a b t e f = absurd (cc e)

pub add-joins : Joins 4 add_op add_join
add-joins (mark token.Plus) p a b t e f = (_, refl, cc (e, f))
add-joins (mark token.Minus) p a b t e f = (_, refl, cc (e, f))
add-joins o p a b t e f = absurd (cc e)

pub mult-joins : Joins 5 mult_op product
mult-joins (mark token.Star) loose.times a b t e f = (_, refl, cc f)
mult-joins (mark token.Star) loose.divide a b t e f = absurd (cc f)
mult-joins (mark token.Star) loose.mod_ a b t e f = absurd (cc f)
mult-joins (mark token.Slash) loose.times a b t e f = absurd (cc e)
mult-joins (mark token.Slash) loose.divide a b t e f = absurd (cc f)
mult-joins (mark token.Slash) loose.mod_ a b t e f = absurd (cc f)
mult-joins (mark token.Percent) loose.times a b t e f = absurd (cc e)
mult-joins (mark token.Percent) loose.divide a b t e f = absurd (cc f)
mult-joins (mark token.Percent) loose.mod_ a b t e f = absurd (cc f)
mult-joins o p a b t e f = absurd (cc e)

-- comparisons
pub rel-forward : (o : Token) (c : Comparison) → comparison_of o ≡ Some c → (level_of o ≡ 3) × (p : loose.RelOp) × (rel_op o ≡ Some p) × (converting.comparison_of p ≡ Some c)
rel-forward (mark token.Less) c e = (refl, _, refl, e)
rel-forward (mark token.LessEqual) c e = (refl, _, refl, e)
rel-forward (mark token.Greater) c e = (refl, _, refl, e)
rel-forward (mark token.GreaterEqual) c e = (refl, _, refl, e)
rel-forward (mark token.EqualEqual) c e = (refl, _, refl, e)
rel-forward (mark token.NotEqual) c e = (refl, _, refl, e)
rel-forward (word token.In) c e = (refl, _, refl, e)
rel-forward o c e = absurd (cc e)

same-op : (p q : loose.RelOp) (c : Comparison) → ◌≡◌ {A = Option loose.RelOp} (Some p) (Some q) → converting.comparison_of q ≡ Some c → converting.comparison_of p ≡ Some c
same-op p q c e f = let same : p ≡ q = cc e in ap converting.comparison_of same ∙ f

pub rel-back : (o : Token) (p : loose.RelOp) (c : Comparison) → rel_op o ≡ Some p → converting.comparison_of p ≡ Some c → comparison_of o ≡ Some c
rel-back (mark token.Less) p c e f = same-op _ p c e f
rel-back (mark token.LessEqual) p c e f = same-op _ p c e f
rel-back (mark token.Greater) p c e f = same-op _ p c e f
rel-back (mark token.GreaterEqual) p c e f = same-op _ p c e f
rel-back (mark token.EqualEqual) p c e f = same-op _ p c e f
rel-back (mark token.NotEqual) p c e f = same-op _ p c e f
rel-back (word token.In) p c e f = same-op _ p c e f
rel-back (mark token.Equal) p c e f = absurd (cc (same-op _ p c e f))
rel-back o p c e f = absurd (cc e)
