-- Reading tokens into a loose tree: what each rule of the loose grammar gives of the tokens and the tokens that it leaves, or why it gives nothing.
use Rattle.std.specs.Prelude.{ℕ, zero, suc, ◌^◌, nat_lt, List, [], ◌∷◌, length, map, Option, Some, None, Result, Ok, Err, Bool, true, false, cond}
use Rattle.cedar_grammar.specs.Token as token
use Rattle.cedar_grammar.specs.Token.{Word, Mark, Token, word, number, text, slot, mark, spelled}
use Rattle.cedar_grammar.specs.Steps.{eat, eat_in, eat_then, eat_else, word_read, text_read, begins_annotation, is_more, signs_of}
use Rattle.cedar_grammar.specs.Loose as loose
use Rattle.cedar_grammar.specs.Loose.{Ident, ident, Name, name, Ref, uid, ref, RefInit, ref_init, Literal, Slot, RelOp, AddOp, MultOp, NegOp, Expr, or_expr, if_expr, Or, or, And, and, Relation, common, Add, add, Mult, mult, Unary, unary, Member, member, MemAccess, field, call, index, Primary, RecInit, rec_init, ands, relations, adds, mults, unaries, accesses, exprs, rec_inits, Annotation, annotation, VariableDef, variable_def, Cond, Policy, policy, Policies, policies}

-- why nothing is read
pub data Fault : Type 0 where
  -- the tokens aren't of the loose grammar
  syntax : Fault
  -- more constructs stand round a token than may
  depth : Fault

abbrev pub Reading : Type 0 → Type 0
Reading A = Result (A × List Token) Fault

abbrev pub Reader : Type 0 → Type 0
Reader A = List Token → Reading A

infixl 10 ◌>>◌
abbrev pub ◌>>◌ : {A B : Type 0} → Result A Fault → (A → Result B Fault) → Result B Fault
(Ok x) >> f = f x
(Err e) >> f = Err e

abbrev pub mapped : {A B : Type 0} → (A → B) → Reading A → Reading B
mapped f read = read >> λ x. Ok (f x.0, x.1)

-- what has to stand there
abbrev pub needed : {A : Type 0} → Option A → Result A Fault
needed None = Err syntax
needed (Some x) = Ok x

-- ---- one after the other

module _ {A : Type 0} where
  abbrev pub each_step : Reader A → Reader (List A) → List Token → Bool → Reading (List A)
  each_step item more ts true = item ts >> λ x. more x.1 >> λ xs. Ok (x.0 ∷ xs.0, xs.1)
  each_step item more ts false = Ok ([], ts)

  unfoldable pub each_at : (List Token → Bool) → Reader A → ℕ → Reader (List A)
  each_at begins item zero ts = Ok ([], ts)
  each_at begins item (suc n) ts = each_step item (each_at begins item n) ts (begins ts)

  -- items as long as the tokens begin one
  unfoldable pub each_of : (List Token → Bool) → Reader A → Reader (List A)
  each_of begins item ts = each_at begins item (suc (length ts)) ts

-- ---- lists

module _ {A : Type 0} where
  abbrev pub after_item : Reader (List A) → A → List Token → Option (List Token) → Reading (List A)
  after_item more a ts (Some us) = Ok (a ∷ [], us)
  after_item more a ts None = needed (eat token.Comma ts) >> λ us. more us >> λ xs. Ok (a ∷ xs.0, xs.1)

  abbrev pub items_step : Mark → Reader A → Reader (List A) → List Token → Option (List Token) → Reading (List A)
  items_step close item more ts (Some us) = Ok ([], us)
  items_step close item more ts None = item ts >> λ a. after_item more a.0 a.1 (eat close a.1)

  unfoldable pub items_at : Mark → Reader A → ℕ → Reader (List A)
  items_at close item zero ts = Err syntax
  items_at close item (suc n) ts = items_step close item (items_at close item n) ts (eat close ts)

  -- items with a comma between each two, up to the closing mark; one comma may stand before it, where there is an item
  unfoldable pub items_of : Mark → Reader A → Reader (List A)
  items_of close item ts = items_at close item (suc (length ts)) ts

-- ---- chains

abbrev pub before_rest : {Op : Type 0} → List Token → Option Op → Option (Op × List Token)
before_rest ts None = None
before_rest ts (Some o) = Some (o, ts)

-- an operator in front, and what follows it
abbrev pub operator_at : {Op : Type 0} → (Token → Option Op) → List Token → Option (Op × List Token)
operator_at op [] = None
operator_at op (t ∷ ts) = before_rest ts (op t)

module _ {Op A : Type 0} where
  abbrev pub chain_step : Reader A → Reader (List (Op × A)) → List Token → Option (Op × List Token) → Reading (List (Op × A))
  chain_step item more ts None = Ok ([], ts)
  chain_step item more ts (Some x) = item x.1 >> λ b. more b.1 >> λ bs. Ok ((x.0, b.0) ∷ bs.0, bs.1)

  unfoldable pub chain_at : (Token → Option Op) → Reader A → ℕ → Reader (List (Op × A))
  chain_at op item zero ts = Ok ([], ts)
  chain_at op item (suc n) ts = chain_step item (chain_at op item n) ts (operator_at op ts)

  -- operators, and what follows each
  unfoldable pub links_of : (Token → Option Op) → Reader A → Reader (List (Op × A))
  links_of op item ts = chain_at op item (suc (length ts)) ts

  unfoldable pub chain_of : (Token → Option Op) → Reader A → Reader (A × List (Op × A))
  chain_of op item ts = item ts >> λ a. links_of op item a.1 >> λ bs. Ok ((a.0, bs.0), bs.1)

abbrev pub or_op : Token → Option (Unit {0})
or_op (mark token.OrOr) = Some tt
or_op t = None

abbrev pub and_op : Token → Option (Unit {0})
and_op (mark token.AndAnd) = Some tt
and_op t = None

abbrev pub rel_op : Token → Option RelOp
rel_op (mark token.Less) = Some loose.less
rel_op (mark token.LessEqual) = Some loose.less_eq
rel_op (mark token.GreaterEqual) = Some loose.greater_eq
rel_op (mark token.Greater) = Some loose.greater
rel_op (mark token.NotEqual) = Some loose.not_eq
rel_op (mark token.EqualEqual) = Some loose.eq
rel_op (word token.In) = Some loose.in_
rel_op (mark token.Equal) = Some loose.invalid_single_eq
rel_op t = None

abbrev pub add_op : Token → Option AddOp
add_op (mark token.Plus) = Some loose.plus
add_op (mark token.Minus) = Some loose.minus
add_op t = None

abbrev pub mult_op : Token → Option MultOp
mult_op (mark token.Star) = Some loose.times
mult_op (mark token.Slash) = Some loose.divide
mult_op (mark token.Percent) = Some loose.mod_
mult_op t = None

-- ---- names, literals and entities

-- what follows `::`, where a word does
abbrev pub next_word : List Token → Option (List Token)
next_word (mark token.ColonColon ∷ word w ∷ ts) = Some (word w ∷ ts)
next_word ts = None

abbrev pub qualified : Word → Name → Name
qualified w loose.missing_name = loose.missing_name
qualified w (name is i) = name (ident w ∷ is) i

abbrev pub name_next : Reader Name → Word → List Token → Option (List Token) → Reading Name
name_next more w ts None = Ok (name [] (ident w), ts)
name_next more w ts (Some us) = mapped (qualified w) (more us)

unfoldable pub name_at : ℕ → Reader Name
name_at zero ts = Err syntax
name_at (suc n) ts = needed (word_read ts) >> λ w. name_next (name_at n) w.0 w.1 (next_word w.1)

-- words with `::` between each two; any word, since the conversion refuses the reserved ones
unfoldable pub name_of : Reader Name
name_of ts = name_at (suc (length ts)) ts

-- numbers of more than 64 bits are refused at once
unfoldable pub literal_of : Reader Literal
literal_of (word token.True ∷ ts) = Ok (loose.true_, ts)
literal_of (word token.False ∷ ts) = Ok (loose.false_, ts)
literal_of (number n ∷ ts) = cond (nat_lt n (2 ^ 64)) (Ok (loose.num n, ts)) (Err syntax)
literal_of (text raw ∷ ts) = Ok (loose.str (loose.string raw), ts)
literal_of ts = Err syntax

unfoldable pub ref_init_of : Reader RefInit
ref_init_of ts = needed (word_read ts) >> λ w. needed (eat token.Colon w.1) >> λ us. mapped (ref_init (ident w.0)) (literal_of us)

-- what follows a name and `::`
unfoldable pub ref_rest : Name → Reader Ref
ref_rest p (text raw ∷ ts) = Ok (uid p (loose.string raw), ts)
ref_rest p (mark token.LeftBrace ∷ ts) = mapped (ref p) (items_of token.RightBrace ref_init_of ts)
ref_rest p ts = Err syntax

unfoldable pub ref_of : Reader Ref
ref_of ts = name_of ts >> λ p. needed (eat token.ColonColon p.1) >> λ us. ref_rest p.0 us

abbrev pub named_step : Name → List Token → Option (List Token) → Reading Primary
named_step p ts None = Ok (loose.named p, ts)
named_step p ts (Some us) = mapped loose.entity (ref_rest p us)

-- a name, or an entity
unfoldable pub named_of : Reader Primary
named_of ts = name_of ts >> λ p. named_step p.0 p.1 (eat token.ColonColon p.1)

abbrev pub slot_of : Word → Slot
slot_of token.Principal = loose.principal_slot
slot_of token.Resource = loose.resource_slot
slot_of w = loose.other_slot (spelled w)

-- ---- primaries and what follows them

unfoldable pub rec_init_of : Reader Expr → Reader RecInit
rec_init_of inner ts = inner ts >> λ k. needed (eat token.Colon k.1) >> λ us. mapped (rec_init k.0) (inner us)

-- the reader is that of the expressions inside brackets
unfoldable pub primary_of : Reader Expr → Reader Primary
primary_of inner (word token.If ∷ ts) = Err syntax
primary_of inner (word token.True ∷ ts) = mapped loose.literal (literal_of (word token.True ∷ ts))
primary_of inner (word token.False ∷ ts) = mapped loose.literal (literal_of (word token.False ∷ ts))
primary_of inner (word w ∷ ts) = named_of (word w ∷ ts)
primary_of inner (number n ∷ ts) = mapped loose.literal (literal_of (number n ∷ ts))
primary_of inner (text raw ∷ ts) = mapped loose.literal (literal_of (text raw ∷ ts))
primary_of inner (slot w ∷ ts) = Ok (loose.slot (slot_of w), ts)
primary_of inner (mark token.LeftParen ∷ ts) = inner ts >> λ e. needed (eat token.RightParen e.1) >> λ us. Ok (loose.expr e.0, us)
primary_of inner (mark token.LeftBracket ∷ ts) = mapped (λ es. loose.e_list (exprs es)) (items_of token.RightBracket inner ts)
primary_of inner (mark token.LeftBrace ∷ ts) = mapped (λ es. loose.r_inits (rec_inits es)) (items_of token.RightBrace (rec_init_of inner) ts)
primary_of inner ts = Err syntax

abbrev pub begins_access : List Token → Bool
begins_access (mark token.Dot ∷ ts) = true
begins_access (mark token.LeftParen ∷ ts) = true
begins_access (mark token.LeftBracket ∷ ts) = true
begins_access ts = false

unfoldable pub access_of : Reader Expr → Reader MemAccess
access_of inner (mark token.Dot ∷ ts) = needed (word_read ts) >> λ w. Ok (field (ident w.0), w.1)
access_of inner (mark token.LeftParen ∷ ts) = mapped (λ es. call (exprs es)) (items_of token.RightParen inner ts)
access_of inner (mark token.LeftBracket ∷ ts) = inner ts >> λ e. needed (eat token.RightBracket e.1) >> λ us. Ok (index e.0, us)
access_of inner ts = Err syntax

unfoldable pub member_of : Reader Expr → Reader Member
member_of inner ts = primary_of inner ts >> λ p. mapped (λ xs. member p.0 (accesses xs)) (each_of begins_access (access_of inner) p.1)

-- ---- signs

-- one more than n of them: at most four are kept
abbrev pub bangs : ℕ → NegOp
bangs n = cond (nat_lt n 4) (loose.bang (suc n)) loose.over_bang

abbrev pub dashes : ℕ → NegOp
dashes n = cond (nat_lt n 4) (loose.dash (suc n)) loose.over_dash

abbrev pub after_dashes : Reader Member → List Token → ℕ → List Token → Reading Unary
after_dashes item ts zero mid = mapped (unary None) (item ts)
after_dashes item ts (suc n) mid = mapped (unary (Some (dashes n))) (item mid)

abbrev pub after_bangs : Reader Member → List Token → ℕ → List Token → Reading Unary
after_bangs item ts zero mid = after_dashes item ts (signs_of token.Minus ts).0 (signs_of token.Minus ts).1
after_bangs item ts (suc n) mid = mapped (unary (Some (bangs n))) (item mid)

unfoldable pub unary_of : Reader Expr → Reader Unary
unary_of inner ts = after_bangs (member_of inner) ts (signs_of token.Bang ts).0 (signs_of token.Bang ts).1

-- ---- operators

unfoldable pub mult_of : Reader Expr → Reader Mult
mult_of inner ts = mapped (λ x. mult x.0 (unaries x.1)) (chain_of mult_op (unary_of inner) ts)

unfoldable pub add_of : Reader Expr → Reader Add
add_of inner ts = mapped (λ x. add x.0 (mults x.1)) (chain_of add_op (mult_of inner) ts)

abbrev pub is_step : Reader Expr → Add → Add → List Token → Option (List Token) → Reading Relation
is_step inner a t ts None = Ok (loose.is_type a t, ts)
is_step inner a t ts (Some us) = mapped (loose.is_type_in a t) (add_of inner us)

abbrev pub relation_step : Reader Expr → Add → Reader Relation
relation_step inner a (word token.Has ∷ ts) = mapped (loose.has a) (add_of inner ts)
relation_step inner a (word token.Like ∷ ts) = mapped (loose.like a) (add_of inner ts)
relation_step inner a (word token.Is ∷ ts) = add_of inner ts >> λ t. is_step inner a t.0 t.1 (eat_in t.1)
relation_step inner a ts = mapped (λ bs. common a (adds bs)) (links_of rel_op (add_of inner) ts)

-- `has`, `like` or `is`, or comparisons as many as there are
unfoldable pub relation_of : Reader Expr → Reader Relation
relation_of inner ts = add_of inner ts >> λ a. relation_step inner a.0 a.1

unfoldable pub and_of : Reader Expr → Reader And
and_of inner ts = mapped (λ x. and x.0 (relations (map (λ y. y.1) x.1))) (chain_of and_op (relation_of inner) ts)

unfoldable pub or_of : Reader Expr → Reader Or
or_of inner ts = mapped (λ x. or x.0 (ands (map (λ y. y.1) x.1))) (chain_of or_op (and_of inner) ts)

unfoldable pub choice_of : Reader Expr → Reader Expr
choice_of inner ts = inner ts >> λ a. needed (eat_then a.1) >> λ us. inner us >> λ b. needed (eat_else b.1) >> λ vs. inner vs >> λ c. Ok (if_expr a.0 b.0 c.0, c.1)

unfoldable pub expr_of : Reader Expr → Reader Expr
expr_of inner (word token.If ∷ ts) = choice_of inner ts
expr_of inner ts = mapped or_expr (or_of inner ts)

-- with a nesting of at most so much: it falls at each bracket and at `if`
unfoldable pub expr_at : ℕ → Reader Expr
expr_at zero ts = Err depth
expr_at (suc n) ts = expr_of (expr_at n) ts

-- ---- policies

abbrev pub annotated : Word → List Token → Option (List Token) → Reading Annotation
annotated w ts None = Ok (annotation (ident w) None, ts)
annotated w ts (Some us) = needed (text_read us) >> λ raw. needed (eat token.RightParen raw.1) >> λ vs. Ok (annotation (ident w) (Some (loose.string raw.0)), vs)

unfoldable pub annotation_of : Reader Annotation
annotation_of ts = needed (eat token.At ts) >> λ us. needed (word_read us) >> λ w. annotated w.0 w.1 (eat token.LeftParen w.1)

abbrev pub eat_is : List Token → Option (List Token)
eat_is (word token.Is ∷ ts) = Some ts
eat_is ts = None

-- what follows a mark or a word, where that stands
abbrev pub optional : {A : Type 0} → Reader A → List Token → Option (List Token) → Reading (Option A)
optional item ts None = Ok (None, ts)
optional item ts (Some us) = mapped (λ x. Some x) (item us)

abbrev pub compared_step : Reader Expr → List Token → Option (RelOp × List Token) → Reading (Option (RelOp × Expr))
compared_step whole ts None = Ok (None, ts)
compared_step whole ts (Some x) = mapped (λ e. Some (x.0, e)) (whole x.1)

-- a variable with what is asked of it
unfoldable pub variable_def_of : ℕ → Reader VariableDef
variable_def_of n ts =
    needed (word_read ts) >> λ w. optional name_of w.1 (eat token.Colon w.1) >> λ p. optional (add_of (expr_at n)) p.1 (eat_is p.1) >> λ t.
    compared_step (expr_at (suc n)) t.1 (operator_at rel_op t.1) >> λ c. Ok (variable_def (ident w.0) p.0 t.0 c.0, c.1)

abbrev pub braced : Reader Expr → Word → List Token → Option (List Token) → Reading Cond
braced whole w ts (Some us) = Ok (loose.cond (ident w) None, us)
braced whole w ts None = whole ts >> λ e. needed (eat token.RightBrace e.1) >> λ us. Ok (loose.cond (ident w) (Some e.0), us)

unfoldable pub cond_of : ℕ → Reader Cond
cond_of n ts = needed (word_read ts) >> λ w. needed (eat token.LeftBrace w.1) >> λ us. braced (expr_at n) w.0 us (eat token.RightBrace us)

abbrev pub begins_cond : List Token → Bool
begins_cond (word w ∷ ts) = true
begins_cond ts = false

-- a policy with a nesting of at most one more than n
unfoldable pub policy_of : ℕ → Reader Policy
policy_of n ts =
    each_of begins_annotation annotation_of ts >> λ xs. needed (word_read xs.1) >> λ w. needed (eat token.LeftParen w.1) >> λ us. items_of token.RightParen (variable_def_of n) us >> λ vs.
    each_of begins_cond (cond_of (suc n)) vs.1 >> λ cs. needed (eat token.Semicolon cs.1) >> λ rest. Ok (policy xs.0 (ident w.0) vs.0 cs.0, rest)

-- with a nesting of at most so much
unfoldable pub policy_at : ℕ → Reader Policy
policy_at zero ts = Err depth
policy_at (suc n) ts = policy_of n ts

unfoldable pub policies_at : ℕ → Reader Policies
policies_at zero ts = Err depth
policies_at (suc n) ts = mapped policies (each_of is_more (policy_of n) ts)

-- ---- all tokens

abbrev pub whole : {A : Type 0} → A × List Token → Result A Fault
whole (a, []) = Ok a
whole (a, t ∷ ts) = Err syntax

abbrev pub read_policies : ℕ → List Token → Result Policies Fault
read_policies n ts = policies_at n ts >> whole

abbrev pub read_policy : ℕ → List Token → Result Policy Fault
read_policy n ts = policy_at n ts >> whole

abbrev pub read_expr : ℕ → List Token → Result Expr Fault
read_expr n ts = expr_at n ts >> whole

abbrev pub read_ref : List Token → Result Ref Fault
read_ref ts = ref_of ts >> whole

abbrev pub read_primary : ℕ → List Token → Result Primary Fault
read_primary zero ts = Err depth
read_primary (suc n) ts = primary_of (expr_at n) ts >> whole

abbrev pub read_name : List Token → Result Name Fault
read_name ts = name_of ts >> whole

abbrev pub read_ident : List Token → Result Ident Fault
read_ident ts = mapped (λ w. ident w) (needed (word_read ts)) >> whole

-- ---- where constructs open

abbrev pub opens : Token → Bool
opens (mark token.LeftParen) = true
opens (mark token.LeftBracket) = true
opens (mark token.LeftBrace) = true
opens (word token.If) = true
opens t = false

-- how many constructs open among the tokens
abbrev pub openers : List Token → ℕ
openers [] = 0
openers (t ∷ ts) = cond (opens t) (suc (openers ts)) (openers ts)
