-- What holds of each tree that the grammar gives, where it holds of leaves and is kept by each construct.
use Rattle.std.proofs.Common.{◌≡◌, ◌⊎◌, inl, inr, ℕ, zero, suc, Bool, true, false, cond, List, [], ◌∷◌, map, Option, Some, None, refl, subst}
use Rattle.std.specs.Cmp.Lexicographic.{slice_cmp}
use Rattle.std.specs.Ordering.{nat_cmp, is_lt}
use Rattle.cedar_language.specs.Uid.{Text}
use Rattle.cedar_language.specs.Tree as tree
use Rattle.cedar_language.specs.Tree.{Literal, Variable, SlotId, Tree, Trees, no_trees, a_tree, Lit, Var, Slot, If, Apply, Boolean, Operator, Call}
use Rattle.cedar_grammar.specs.Token as token
use Rattle.cedar_grammar.specs.Token.{Token, Mark, mark}
use Rattle.cedar_grammar.specs.Names.{Names, is_among, is_function}
use Rattle.cedar_grammar.specs.Build as build
use Rattle.cedar_grammar.specs.Build.{trees, unary, conjunction, disjunction, Link, or_link, and_link, linked, Comparison, greater, greater_equal, not_equal, compared, has, nots, negs, without_argument, with_argument, method, Keyed, put, by_key}
use Rattle.cedar_grammar.specs.Grammar.{Rule, Inner, Items, no_items, last_item, an_item, Entry, id_entry, text_entry, Primary, true_is, false_is, number_is, text_is, variable_is, slot_is, entity_is, call_is, group_is, list_is, record_is, Access, attribute, call, index, Accesses, no_access, an_access, Member, member, Unary, plain, not_is, neg_is, negative_is, Tail, stop, go_on, Chain, chain, Mul, Relation, alone, compare, has_text, has_ids, like_is, is_type, is_type_in, And, Expr, or_is, if_is, Within}
use Rattle.cedar_grammar.specs.Policies.{Each, no_more, one_more, Clause, when_is, unless_is, joined}

-- a call is of a function of the table, or of a method
abbrev pub IsInTable : Names → Operator → Type 0
IsInTable names (Call p) = (is_function names p ≡ true) ⊎ ((m : Text) × (p ≡ m ∷ []) × (is_among m names.methods ≡ true))
IsInTable names op = Unit {0}

-- of all of them
abbrev pub AllHold : (Tree → Type 0) → Trees → Type 0
AllHold P no_trees = Unit {0}
AllHold P (a_tree t ts) = P t × AllHold P ts

pub record IsKept (names : Names) (P : Tree → Type 0) : Type 0 where
  pub literal : (l : Literal) → P (Lit l)
  pub variable : (v : Variable) → P (Var v)
  pub slot : (s : SlotId) → P (Slot s)
  pub if_ : (a b c : Tree) → P a → P b → P c → P (If a b c)
  pub and : (a b : Tree) → P a → P b → P (tree.And a b)
  pub or : (a b : Tree) → P a → P b → P (tree.Or a b)
  pub apply : (op : Operator) (ts : Trees) → IsInTable names op → AllHold P ts → P (Apply op ts)

module _ (names : Names) (P : Tree → Type 0) (kept : IsKept names P) where
  abbrev All : Trees → Type 0
  All ts = AllHold P ts

  -- what the rule gives passes
  abbrev pub GivesKept : Rule Tree → Type 0
  GivesKept r = (ts : List Token) (t : Tree) (rest : List Token) → r ts t rest → P t

  -- ---- trees of parts

  one : (op : Operator) (a : Tree) → IsInTable names op → P a → P (unary op a)
  one op a ok e = kept.apply op (trees (a ∷ [])) ok (e, tt)

  two : (op : Operator) (a b : Tree) → IsInTable names op → P a → P b → P (Apply op (trees (a ∷ b ∷ [])))
  two op a b ok e f = kept.apply op (trees (a ∷ b ∷ [])) ok (e, (f, tt))

  pub conjunction-kept : (a b : Tree) → P a → P b → P (conjunction a b)
  conjunction-kept (Lit (Boolean p)) (Lit (Boolean q)) e f = kept.literal _
  conjunction-kept a b e f = kept.and a b e f

  disjunction-kept : (a b : Tree) → P a → P b → P (disjunction a b)
  disjunction-kept (Lit (Boolean p)) (Lit (Boolean q)) e f = kept.literal _
  disjunction-kept a b e f = kept.or a b e f

  linked-kept : (l : Link) (a b : Tree) → P a → P b → P (linked l a b)
  linked-kept or_link a b e f = disjunction-kept a b e f
  linked-kept and_link a b e f = conjunction-kept a b e f
  linked-kept build.plus_link a b e f = two tree.Add a b tt e f
  linked-kept build.minus_link a b e f = two tree.Sub a b tt e f
  linked-kept build.times_link a b e f = two tree.Mul a b tt e f

  compared-kept : (c : Comparison) (a b : Tree) → P a → P b → P (compared c a b)
  compared-kept build.less a b e f = two tree.Less a b tt e f
  compared-kept build.less_equal a b e f = two tree.LessEq a b tt e f
  compared-kept greater a b e f = one tree.Not _ tt (two tree.LessEq a b tt e f)
  compared-kept greater_equal a b e f = one tree.Not _ tt (two tree.Less a b tt e f)
  compared-kept build.equal a b e f = two tree.Equal a b tt e f
  compared-kept not_equal a b e f = one tree.Not _ tt (two tree.Equal a b tt e f)
  compared-kept build.in_ a b e f = two tree.In a b tt e f

  has-kept : (ids : List Text) (a : Tree) → P a → P (has ids a)
  has-kept [] a e = e
  has-kept (s ∷ []) a e = one (tree.HasAttr s) a tt e
  has-kept (s ∷ r ∷ rs) a e = one (tree.HasPath s (r ∷ rs)) a tt e

  nots-kept : (n : ℕ) (t : Tree) → P t → P (nots n t)
  nots-kept zero t e = e
  nots-kept (suc n) t e = one tree.Not (nots n t) tt (nots-kept n t e)

  negs-kept : (n : ℕ) (t : Tree) → P t → P (negs n t)
  negs-kept zero t e = e
  negs-kept (suc n) t e = one tree.Neg (negs n t) tt (negs-kept n t e)

  -- ---- methods

  abbrev SomeKept : Option Tree → Type 0
  SomeKept o = (t : Tree) → o ≡ Some t → P t

  cond-kept : (b : Bool) (o p : Option Tree) → SomeKept o → SomeKept p → SomeKept (cond b o p)
  cond-kept true o p f g = f
  cond-kept false o p f g = g

  none-kept : SomeKept None
  none-kept t e = absurd (cc e)

  if-kept : (b : Bool) (o : Option Tree) → (b ≡ true → SomeKept o) → SomeKept (cond b o None)
  if-kept true o f = f refl
  if-kept false o f = none-kept

  some-kept : (u : Tree) → P u → SomeKept (Some u)
  some-kept u f t e = let same : u ≡ t = cc e in subst P same f

  with_argument-kept : (op : Operator) (a : Tree) (xs : List Tree) → IsInTable names op → P a → All (trees xs) → SomeKept (with_argument op a xs)
  with_argument-kept op a (x ∷ []) ok e f = some-kept (Apply op (trees (a ∷ x ∷ []))) (kept.apply op (trees (a ∷ x ∷ [])) ok (e, f))
  with_argument-kept op a xs ok e f = none-kept

  without_argument-kept : (op : Operator) (a : Tree) (xs : List Tree) → IsInTable names op → P a → SomeKept (without_argument op a xs)
  without_argument-kept op a [] ok e = some-kept (unary op a) (one op a ok e)
  without_argument-kept op a xs ok e = none-kept

  method-kept : (m : Text) (a : Tree) (xs : List Tree) → P a → All (trees xs) → SomeKept (method names m a xs)
  method-kept m a xs e f =
      cond-kept _ _ _ (with_argument-kept tree.Contains a xs tt e f)
      (cond-kept _ _ _ (with_argument-kept tree.ContainsAll a xs tt e f)
      (cond-kept _ _ _ (with_argument-kept tree.ContainsAny a xs tt e f)
      (cond-kept _ _ _ (with_argument-kept tree.GetTag a xs tt e f)
      (cond-kept _ _ _ (with_argument-kept tree.HasTag a xs tt e f)
      (cond-kept _ _ _ (without_argument-kept tree.IsEmpty a xs tt e)
      (if-kept (is_among m names.methods) _ (λ h. some-kept (Apply (Call (m ∷ [])) (trees (a ∷ xs))) (kept.apply (Call (m ∷ [])) (trees (a ∷ xs)) (inr (m, refl, h)) (e, f)))))))))

  -- ---- records

  abbrev values : List (Keyed Tree) → Trees
  values es = trees (map (λ e. e.1) es)

  entries-cond : (b : Bool) (es fs : List (Keyed Tree)) → All (values es) → All (values fs) → All (values (cond b es fs))
  entries-cond true es fs f g = f
  entries-cond false es fs f g = g

  put-kept : (e : Keyed Tree) (es : List (Keyed Tree)) → P e.1 → All (values es) → All (values (put e es))
  put-kept e [] f g = (f, tt)
  put-kept e (h ∷ es) f g = entries-cond (is_lt (slice_cmp nat_cmp e.0 h.0)) (e ∷ h ∷ es) (h ∷ put e es) (f, g) (g.0, put-kept e es f g.1)

  by_key-kept : (es : List (Keyed Tree)) → All (values es) → All (values (by_key es))
  by_key-kept [] f = tt
  by_key-kept (e ∷ es) f = put-kept e (by_key es) f.0 (by_key-kept es f.1)

  -- ---- the rules

  items-kept : (close : Mark) (r : Rule Tree) → GivesKept r → (ts : List Token) (xs : List Tree) (rest : List Token) → Items close r ts xs rest → All (trees xs)
  items-kept close r g ts xs rest no_items = tt
  items-kept close r g ts xs rest (last_item {a} d) = (g ts a (mark close ∷ rest) d, tt)
  items-kept close r g ts xs rest (an_item {a} {xs = ys} mid d more) = (g ts a (mark token.Comma ∷ mid) d, items-kept close r g mid ys rest more)

  entry-kept : (r : Rule Tree) → GivesKept r → (ts : List Token) (e : Keyed Tree) (rest : List Token) → Entry r ts e rest → P e.1
  entry-kept r g ts e rest (id_entry {t} {ts = us} f d) = g us t rest d
  entry-kept r g ts e rest (text_entry {t} {ts = us} f d) = g us t rest d

  entries-kept : (close : Mark) (r : Rule Tree) → GivesKept r → (ts : List Token) (es : List (Keyed Tree)) (rest : List Token) → Items close (Entry r) ts es rest → All (values es)
  entries-kept close r g ts es rest no_items = tt
  entries-kept close r g ts es rest (last_item {a} d) = (entry-kept r g ts a (mark close ∷ rest) d, tt)
  entries-kept close r g ts es rest (an_item {a} {xs = fs} mid d more) = (entry-kept r g ts a (mark token.Comma ∷ mid) d, entries-kept close r g mid fs rest more)

  tail-kept : (k : ℕ) (r : Rule Tree) → GivesKept r → (a t : Tree) (ts rest : List Token) → P a → Tail k r a ts t rest → P t
  tail-kept k r g a t ts rest f stop = f
  tail-kept k r g a t ts rest f (go_on b o l {ts = us} mid e d more) = tail-kept k r g (linked l a b) t mid rest (linked-kept l a b f (g us b mid d)) more

  chain-kept : (k : ℕ) (r : Rule Tree) → GivesKept r → GivesKept (Chain k r)
  chain-kept k r g ts t rest (chain a mid d more) = tail-kept k r g a t mid rest (g ts a mid d) more

  module _ (levels : ℕ) (expr : Rule Tree) (inside : GivesKept expr) where
    abbrev i : Inner
    i = record { names = names; levels = levels; expr = expr }

    primary-kept : GivesKept (Primary i)
    primary-kept ts t rest true_is = kept.literal _
    primary-kept ts t rest false_is = kept.literal _
    primary-kept ts t rest (number_is h) = kept.literal _
    primary-kept ts t rest (text_is e) = kept.literal _
    primary-kept ts t rest (variable_is e) = kept.variable _
    primary-kept ts t rest (slot_is e) = kept.slot _
    primary-kept ts t rest (entity_is d) = kept.literal _
    primary-kept ts t rest (call_is {p} {xs} mid d e its) = kept.apply (Call p) (trees xs) (inl e) (items-kept token.RightParen expr inside mid xs rest its)
    primary-kept ts t rest (group_is {ts = us} d) = inside us t (mark token.RightParen ∷ rest) d
    primary-kept ts t rest (list_is {xs} {ts = us} its) = kept.apply tree.MakeSet (trees xs) tt (items-kept token.RightBracket expr inside us xs rest its)
    primary-kept ts t rest (record_is {es} {ts = us} its e) = kept.apply _ _ tt (by_key-kept es (entries-kept token.RightBrace expr inside us es rest its))

    access-kept : (a t : Tree) (ts rest : List Token) → P a → Access i a ts t rest → P t
    access-kept a t ts rest f (attribute {s} e) = one (tree.GetAttr s) a tt f
    access-kept a t ts rest f (call {m} {xs} {ts = us} e its g) = method-kept m a xs f (items-kept token.RightParen expr inside us xs rest its) t g
    access-kept a t ts rest f (index {s} lt e) = one (tree.GetAttr s) a tt f

    accesses-kept : (a t : Tree) (ts rest : List Token) → P a → Accesses i a ts t rest → P t
    accesses-kept a t ts rest f no_access = f
    accesses-kept a t ts rest f (an_access b mid d more) = accesses-kept b t mid rest (access-kept a b ts mid f d) more

    member-kept : GivesKept (Member i)
    member-kept ts t rest (member a mid d more) = accesses-kept a t mid rest (primary-kept ts a mid d) more

    unary-kept : GivesKept (Unary i)
    unary-kept ts t rest (plain d) = member-kept ts t rest d
    unary-kept ts t rest (not_is {t = u} k mid lt d e) = nots-kept (suc k) u (member-kept mid u rest e)
    unary-kept ts t rest (neg_is {t = u} k mid lt d e f) = negs-kept (suc k) u (member-kept mid u rest e)
    unary-kept ts t rest (negative_is k v lt h d) = negs-kept k _ (kept.literal _)

    add-kept : GivesKept (Chain 4 (Mul i))
    add-kept = chain-kept 4 (Mul i) (chain-kept 5 (Unary i) unary-kept)

    relation-kept : GivesKept (Relation i)
    relation-kept ts t rest (alone d) = add-kept ts t rest d
    relation-kept ts t rest (compare a b o c mid d e f) = compared-kept c a b (add-kept ts a (o ∷ mid) d) (add-kept mid b rest f)
    relation-kept ts t rest (has_text a raw {s} d e) = one (tree.HasAttr s) a tt (add-kept ts a _ d)
    relation-kept ts t rest (has_ids a ids mid d e) = has-kept ids a (add-kept ts a _ d)
    relation-kept ts t rest (like_is a raw {p} d e) = one (tree.Like p) a tt (add-kept ts a _ d)
    relation-kept ts t rest (is_type a p mid d e) = one (tree.Is p) a tt (add-kept ts a _ d)
    relation-kept ts t rest (is_type_in a p b mid after d e f) =
        let left = add-kept ts a _ d in
        conjunction-kept (unary (tree.Is p) a) (Apply tree.In (trees (a ∷ b ∷ []))) (one (tree.Is p) a tt left) (two tree.In a b tt left (add-kept after b rest f))

    expr-kept : GivesKept (Expr i)
    expr-kept ts t rest (or_is d) = chain-kept 1 (And i) (chain-kept 2 (Relation i) relation-kept) ts t rest d
    expr-kept ts t rest (if_is {a} {b} {c} {ts = us} u v d e f) = kept.if_ a b c (inside us a _ d) (inside u b _ e) (inside v c rest f)

  pub within-kept : (n : ℕ) → GivesKept (Within names n)
  within-kept zero ts t rest d = absurd d
  within-kept (suc n) ts t rest d = expr-kept n (Within names n) (within-kept n) ts t rest d

  -- ---- clauses

  clause-kept : (r : Rule Tree) → GivesKept r → GivesKept (Clause r)
  clause-kept r g ts t rest (when_is {ts = us} e) = g us t (mark token.RightBrace ∷ rest) e
  clause-kept r g ts t rest (unless_is {t = u} {ts = us} e) = one tree.Not u tt (g us u (mark token.RightBrace ∷ rest) e)

  pub clauses-kept : (r : Rule Tree) → GivesKept r → (ts : List Token) (xs : List Tree) (rest : List Token) → Each (Clause r) ts xs rest → All (trees xs)
  clauses-kept r g ts xs rest no_more = tt
  clauses-kept r g ts xs rest (one_more {x} {xs = ys} mid d more) = (clause-kept r g ts x mid d, clauses-kept r g mid ys rest more)

  pub joined-kept : (a : Tree) (xs : List Tree) → P a → All (trees xs) → P (joined a xs)
  joined-kept a [] e f = e
  joined-kept a (b ∷ xs) e f = joined-kept (conjunction a b) xs (conjunction-kept a b e f.0) f.1
