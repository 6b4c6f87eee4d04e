-- What the strict grammar of expressions has, the loose reading gives as a tree that converts to it.
use Rattle.std.proofs.Common.{◌≡◌, ℕ, zero, suc, ◌<◌, ◌^◌, Bool, true, false, List, [], ◌∷◌, ◌++◌, length, Option, Some, None, Ok, refl, ap, ◌∙◌, arith}
use Rattle.std.specs.Prelude.{map}
use Rattle.std.proofs.lemmas.Bool.{lt-ltb, le-leb}
use Rattle.cedar_language.specs.Uid.{Text, Name, Uid}
use Rattle.cedar_language.specs.Tree.{Tree, SlotId, Variable}
use Rattle.cedar_grammar.specs.Token as token
use Rattle.cedar_grammar.specs.Token.{Word, Mark, Token, word, number, text, slot, mark, id_of}
use Rattle.cedar_grammar.specs.Escape.{string_of}
use Rattle.cedar_grammar.specs.Names.{Names, variable_of, slot_id, is_function}
use Rattle.cedar_grammar.specs.Build.{Keyed}
use Rattle.cedar_grammar.specs.Grammar.{Rule, Inner, Ids, one_id, more_ids, EntityRule, entity, Items, Entry, id_entry, text_entry, Primary, true_is, false_is, number_is, text_is, variable_is, slot_is, entity_is, call_is, group_is, list_is, record_is, attribute, call, index, Accesses, no_access, an_access, Member, member, Signs, no_sign, a_sign, IsNumber, Unary, plain, not_is, neg_is, negative_is, Chain, Mul, Relation, alone, compare, has_text, has_ids, like_is, is_type, is_type_in, And, Expr, or_is, if_is, Within}
use Rattle.cedar_grammar.specs.Steps.{◌>>=◌, is_mark, eat, signs_of}
use Rattle.cedar_grammar.proofs.Parts.{is_mark-same}
use Rattle.cedar_grammar.proofs.Eats.{Eats, items-eats, entry-eats, unary-eats, chain-eats, relation-eats, within-eats, Front, Begins, begins_primary, begins_unary, begins_expr, begins_key, front-eat, expr-paren, expr-bracket, key-brace, primary-bang, primary-minus, entry-begins, member-begins, ids-begin, signs-begin, or-begins, within-begins}
use Rattle.cedar_grammar.specs.Loose as loose
use Rattle.cedar_grammar.specs.Loose.{ands, relations, adds, mults, unaries, accesses, exprs, rec_inits}
use Rattle.cedar_grammar.specs.LooseReading.{Reader, slot_of, mapped, each_at, each_of, items_of, chain_of, or_op, and_op, rel_op, add_op, mult_op, next_word, qualified, name_at, name_of, literal_of, ref_rest, ref_of, named_of, rec_init_of, primary_of, begins_access, access_of, member_of, unary_of, mult_of, add_of, relation_step, relation_of, and_of, or_of, choice_of, expr_of, expr_at}
use Rattle.cedar_grammar.specs.Converting.{each, named_slot, ident_text, name_path, ref_entity, fields, member_fields, lone_number, product, Head, a_tree, a_name, an_attribute, head_tree, called, expr_tree, or_tree, and_tree, relation_tree, add_tree, mult_tree, unary_tree, member_tree, accesses_tree, primary_head, rec_init_tree}
use Rattle.cedar_grammar.proofs.Basics.{level_of, Below, below-more, eat-colons, eat_in-below, next_word-below, access-below, or-silent, and-silent, add-silent, mult-silent, or_join, and_join, add_join, or-links, and-links, add-links, mult-links, rel-forward, rel-silent}
use Rattle.cedar_grammar.proofs.Loops.{Reads, Completes, wrapped-complete, each_at-stop, items-complete, chain_tree, chain-complete, links-one}
use Rattle.cedar_grammar.proofs.Equations.{or-chain, and-chain, add-chain, mult-chain, exprs-each, rec_inits-each}
use Rattle.cedar_grammar.proofs.Lone.{lone, lone_sum, Plain, plainly, begins_plain, member-one, sum-one, relation-stop, lone-read, member-lone, told}

-- ---- names

one_more : (x : Option Text) (o : Option (List Text)) (q : Option Text) (s : Text) (p : List Text) → x ≡ Some s → (o >>= λ a. q >>= λ b. Some (a ++ (b ∷ []))) ≡ Some p → ((x >>= λ y. o >>= λ ys. Some (y ∷ ys)) >>= λ a. q >>= λ b. Some (a ++ (b ∷ []))) ≡ Some (s ∷ p)
one_more None o q s p e f = absurd (cc e)
one_more (Some x) None q s p e f = absurd (cc f)
one_more (Some x) (Some a) None s p e f = absurd (cc f)
one_more (Some x) (Some a) (Some b) s p e f =
    let first : x ≡ s = cc e in
    let rest : a ++ (b ∷ []) ≡ p = cc f in
    ap (λ y. Some (y ∷ (a ++ (b ∷ [])))) first ∙ ap (λ ys. Some (s ∷ ys)) rest

qualified-path : (w : Word) (s : Text) (n : loose.Name) (p : List Text) → id_of w ≡ Some s → name_path n ≡ Some p → name_path (qualified w n) ≡ Some (s ∷ p)
qualified-path w s loose.missing_name p e f = absurd (cc f)
qualified-path w s (loose.name is i) p e f = one_more (id_of w) (each ident_text is) (ident_text i) s p e f

ids-next : (sep : Mark) (ts : List Token) (p : List Text) (rest : List Token) → Ids sep ts p rest → next_word (mark token.ColonColon ∷ ts) ≡ Some ts
ids-next sep ts p rest (one_id e) = refl
ids-next sep ts p rest (more_ids e d) = refl

name_at-complete : (n : ℕ) (ts : List Token) (p : List Text) (rest : List Token) → length ts < n → Ids token.ColonColon ts p rest → next_word rest ≡ None → Reads (name_at n) name_path ts p rest
unfolding name_at
name_at-complete zero ts p rest lt d h = absurd (omega arith)
name_at-complete (suc n) ts p rest lt (one_id {w} {s} e) h = (loose.name [] (loose.ident w), rw h, rw e)
name_at-complete (suc n) ts p rest lt (more_ids {w} {s} {p = q} {ts = us} e d) h =
    let r = name_at-complete n us q rest (omega arith) d h in
    (qualified w r.0, rw (ids-next token.ColonColon us q rest d, r.1), qualified-path w s r.0 q e r.2)

pub name-complete : (ts : List Token) (p : List Text) (rest : List Token) → Ids token.ColonColon ts p rest → next_word rest ≡ None → Reads name_of name_path ts p rest
unfolding name_of
name-complete ts p rest d h = name_at-complete (suc (length ts)) ts p rest (omega arith) d h

pub ref-complete : (ts : List Token) (u : Uid) (rest : List Token) → EntityRule ts u rest → Reads ref_of ref_entity ts u rest
unfolding ref_of ref_rest
ref-complete ts u rest (entity p raw d e) =
    let r = name-complete ts p (mark token.ColonColon ∷ text raw ∷ rest) d refl in
    (loose.uid r.0 (loose.string raw), rw r.1, rw (r.2, e))

-- ---- a name in front

module _ (inner : Reader loose.Expr) where
  primary-word : (w : Word) (ts : List Token) (s : Text) → id_of w ≡ Some s → primary_of inner (word w ∷ ts) ≡ named_of (word w ∷ ts)
  unfolding primary_of
  primary-word token.If ts s e = absurd (cc e)
  primary-word token.True ts s e = absurd (cc e)
  primary-word token.False ts s e = absurd (cc e)
  primary-word w ts s e = refl

  ids-named : (sep : Mark) (ts : List Token) (p : List Text) (rest : List Token) → Ids sep ts p rest → primary_of inner ts ≡ named_of ts
  ids-named sep ts p rest (one_id {w} {s} e) = primary-word w rest s e
  ids-named sep ts p rest (more_ids {w} {s} {ts = us} e d) = primary-word w (mark sep ∷ us) s e

  named-name : (ts : List Token) (n : loose.Name) (rest : List Token) → name_of ts ≡ Ok (n, rest) → eat token.ColonColon rest ≡ None → named_of ts ≡ Ok (loose.named n, rest)
  unfolding named_of
  named-name ts n rest e h = rw (e, h)

  -- a path that isn't called and no entity's
  pub path-complete : (ts : List Token) (p : Name) (rest : List Token) → Ids token.ColonColon ts p rest → next_word rest ≡ None → eat token.ColonColon rest ≡ None → (n : loose.Name) × (primary_of inner ts ≡ Ok (loose.named n, rest)) × (name_path n ≡ Some p)
  path-complete ts p rest d g h =
      let r = name-complete ts p rest d g in
      (r.0, ids-named token.ColonColon ts p rest d ∙ named-name ts r.0 rest r.1 h, r.2)

  named-entity : (ts : List Token) (p : Name) (raw : List ℕ) (s : Text) (rest : List Token) → Ids token.ColonColon ts p (mark token.ColonColon ∷ text raw ∷ rest) → string_of raw ≡ Some s → (r : loose.Ref) × (named_of ts ≡ Ok (loose.entity r, rest)) × (ref_entity r ≡ Some (record { type_name = p; id = s }))
  unfolding named_of ref_rest
  named-entity ts p raw s rest d e =
      let r = name-complete ts p (mark token.ColonColon ∷ text raw ∷ rest) d refl in
      (loose.uid r.0 (loose.string raw), rw r.1, rw (r.2, e))

  pub entity-complete : (ts : List Token) (u : Uid) (rest : List Token) → EntityRule ts u rest → (r : loose.Ref) × (primary_of inner ts ≡ Ok (loose.entity r, rest)) × (ref_entity r ≡ Some u)
  entity-complete ts u rest (entity p raw {s} d e) =
      let r = named-entity ts p raw s rest d e in
      (r.0, ids-named token.ColonColon ts p (mark token.ColonColon ∷ text raw ∷ rest) d ∙ r.1, r.2)

  -- an identifier alone
  pub id-complete : (w : Word) (s : Text) (rest : List Token) → id_of w ≡ Some s → next_word rest ≡ None → eat token.ColonColon rest ≡ None → primary_of inner (word w ∷ rest) ≡ Ok (loose.named (loose.name [] (loose.ident w)), rest)
  unfolding named_of name_of name_at
  id-complete w s rest e g h = primary-word w rest s e ∙ rw (g, h) refl

  pub text-primary : (raw : List ℕ) (rest : List Token) → primary_of inner (text raw ∷ rest) ≡ Ok (loose.literal (loose.str (loose.string raw)), rest)
  unfolding primary_of literal_of
  text-primary raw rest = refl

  number-primary : (n : ℕ) (rest : List Token) → n < 2 ^ 64 → primary_of inner (number n ∷ rest) ≡ Ok (loose.literal (loose.num n), rest)
  unfolding primary_of literal_of
  number-primary n rest h = rw (lt-ltb n (2 ^ 64) h)

pub front-plain : (ts : List Token) → Front begins_primary ts → Plain ts
front-plain [] h = absurd h
front-plain (t ∷ ts) h = plainly t ts (by t h)
  where
    by : (t : Token) → begins_primary t ≡ true → begins_plain t ≡ true
    by (word token.If) e = absurd (cc e)
    by (mark token.Bang) e = absurd (cc e)
    by (mark token.Minus) e = absurd (cc e)
    by t e = refl

module _ (inner : Reader loose.Expr) where
  -- a path after `is`
  pub path-sum : (mid : List Token) (p : Name) (rest : List Token) → Ids token.ColonColon mid p rest → Below 4 rest → (n : loose.Name) × (add_of inner mid ≡ Ok (lone_sum (loose.member (loose.named n) loose.no_accesses), rest)) × (name_path n ≡ Some p)
  path-sum mid p rest d h =
      let n = path-complete inner mid p rest d (next_word-below rest (below-more 4 7 (omega arith) rest h)) (eat-colons rest (below-more 4 7 (omega arith) rest h)) in
      (n.0, sum-one inner mid (loose.member (loose.named n.0) loose.no_accesses) rest (front-plain mid (ids-begin token.ColonColon mid p rest d)) (member-one inner mid (loose.named n.0) rest n.1 (below-more 4 6 (omega arith) rest h)) h, n.2)

-- the texts and the identifiers that stand alone
pub record Lones (rd : Reader loose.Expr) : Type 0 where
  pub texts : (raw : List ℕ) (rest : List Token) → Below 1 rest → rd (text raw ∷ rest) ≡ Ok (lone (loose.literal (loose.str (loose.string raw))), rest)
  pub words : (w : Word) (s : Text) (rest : List Token) → id_of w ≡ Some s → Below 1 rest → rd (word w ∷ rest) ≡ Ok (lone (loose.named (loose.name [] (loose.ident w))), rest)

lones-of : (inner : Reader loose.Expr) → Lones (expr_of inner)
lones-of inner = record {
  texts = λ raw rest h. lone-read inner (text raw ∷ rest) (loose.literal (loose.str (loose.string raw))) rest (plainly (text raw) rest refl) (text-primary inner raw rest) h;
  words = λ w s rest e h. lone-read inner (word w ∷ rest) (loose.named (loose.name [] (loose.ident w))) rest (front-plain (word w ∷ rest) (ids-begin token.Dot (word w ∷ rest) (s ∷ []) rest (one_id e)))
      (id-complete inner w s rest e (next_word-below rest (below-more 1 7 (omega arith) rest h)) (eat-colons rest (below-more 1 7 (omega arith) rest h))) h;
}

-- ---- signs

pub signs-complete : (m : Mark) (n : ℕ) (ts rest : List Token) → Signs m n ts rest → eat m rest ≡ None → signs_of m ts ≡ (n, rest)
unfolding signs_of
signs-complete m n ts rest (a_sign {n = k} {ts = us} d) h = rw (is_mark-same m, signs_of, signs-complete m k us rest d h)
signs-complete m n ts [] no_sign h = refl
signs-complete m n ts (t ∷ us) no_sign h = by (is_mark m t) refl
  where
    by : (b : Bool) → is_mark m t ≡ b → signs_of m (t ∷ us) ≡ (0, t ∷ us)
    by true e = absurd (cc (rw e at h))
    by false e = rw (e, signs_of)

-- ---- the rules over the expressions inside

variable-id : (w : Word) (v : Variable) → variable_of w ≡ Some v → (s : Text) × (id_of w ≡ Some s)
variable-id token.Principal v e = (_, refl)
variable-id token.Action v e = (_, refl)
variable-id token.Resource v e = (_, refl)
variable-id token.Context v e = (_, refl)
variable-id w v e = absurd (cc e)

-- the slot of a word is read as it
slot-read : (w : Word) (s : SlotId) → slot_id w ≡ Some s → named_slot (slot_of w) ≡ Some s
slot-read token.Principal s e = e
slot-read token.Resource s e = e
slot-read w s e = absurd (cc e)

module _ (names : Names) (levels : ℕ) (expr : Rule Tree) (rd : Reader loose.Expr) (c : Completes 1 expr rd (expr_tree names)) (eats : Eats expr) (front : Begins begins_expr expr)
    (live : (ts : List Token) (t : Tree) (rest : List Token) → expr ts t rest → 0 < levels) (lones : 0 < levels → Lones rd) where
  abbrev i : Inner
  i = record { names = names; levels = levels; expr = expr }

  arguments-complete : (ts : List Token) (xs : List Tree) (rest : List Token) → Items token.RightParen expr ts xs rest → Reads (items_of token.RightParen rd) (each (expr_tree names)) ts xs rest
  arguments-complete = items-complete token.RightParen expr rd (expr_tree names) c eats (λ ts x rest d. front-eat begins_expr token.RightParen expr-paren ts (front ts x rest d)) refl refl

  list-complete : (ts : List Token) (xs : List Tree) (rest : List Token) → Items token.RightBracket expr ts xs rest → Reads (items_of token.RightBracket rd) (each (expr_tree names)) ts xs rest
  list-complete = items-complete token.RightBracket expr rd (expr_tree names) c eats (λ ts x rest d. front-eat begins_expr token.RightBracket expr-bracket ts (front ts x rest d)) refl refl

  entry-complete : Completes 1 (Entry expr) (rec_init_of rd) (rec_init_tree names)
  unfolding rec_init_of rec_init_tree
  entry-complete ts e rest (id_entry {w} {k} {t} {ts = us} f d) h =
      let low : 0 < 1 = omega arith in
      let r = c us t rest d h in
      (loose.rec_init (lone (loose.named (loose.name [] (loose.ident w)))) r.0, rw ((lones (live us t rest d)).words w k (mark token.Colon ∷ us) f low, r.1), rw (f, r.2))
  entry-complete ts e rest (text_entry {raw} {k} {t} {ts = us} f d) h =
      let low : 0 < 1 = omega arith in
      let r = c us t rest d h in
      (loose.rec_init (lone (loose.literal (loose.str (loose.string raw)))) r.0, rw ((lones (live us t rest d)).texts raw (mark token.Colon ∷ us) low, r.1), rw (f, r.2))

  entries-complete : (ts : List Token) (es : List (Keyed Tree)) (rest : List Token) → Items token.RightBrace (Entry expr) ts es rest → Reads (items_of token.RightBrace (rec_init_of rd)) (each (rec_init_tree names)) ts es rest
  entries-complete = items-complete token.RightBrace (Entry expr) (rec_init_of rd) (rec_init_tree names) entry-complete (entry-eats expr eats) (λ ts x rest d. front-eat begins_key token.RightBrace key-brace ts (entry-begins expr ts x rest d)) refl refl

  -- a primary is read, and its head is the tree
  pub record Heads (ts : List Token) (t : Tree) (rest : List Token) : Type 0 where
    pub p : loose.Primary
    pub h : Head
    pub read : primary_of rd ts ≡ Ok (p, rest)
    pub head : primary_head names p ≡ Some h
    pub tree : head_tree h ≡ Some t

  abbrev pub NoCall : {ts : List Token} {t : Tree} {rest : List Token} → Primary i ts t rest → Type 0
  NoCall (call_is mid d e its) = ⊥
  NoCall d = Unit {0}

  pub primary-complete : (ts : List Token) (t : Tree) (rest : List Token) (d : Primary i ts t rest) → NoCall d → Below 7 rest → Heads ts t rest
  unfolding primary_of literal_of primary_head
  primary-complete ts t rest true_is q b = record { p = loose.literal loose.true_; h = a_tree t; read = refl; head = refl; tree = refl }
  primary-complete ts t rest false_is q b = record { p = loose.literal loose.false_; h = a_tree t; read = refl; head = refl; tree = refl }
  primary-complete ts t rest (number_is {n} lt) q b =
      let small : n < 2 ^ 64 = omega arith in
      record { p = loose.literal (loose.num n); h = a_tree t; read = rw (lt-ltb n (2 ^ 64) small); head = rw (lt-ltb n (2 ^ 63) lt); tree = refl }
  primary-complete ts t rest (text_is {raw} e) q b = record { p = loose.literal (loose.str (loose.string raw)); h = a_tree t; read = refl; head = rw e; tree = refl }
  primary-complete ts t rest (variable_is {w} {v} e) q b =
      let s = variable-id w v e in
      record { p = loose.named (loose.name [] (loose.ident w)); h = a_name (loose.name [] (loose.ident w)); read = id-complete rd w s.0 rest s.1 (next_word-below rest b) (eat-colons rest b); head = refl; tree = rw e }
  primary-complete ts t rest (slot_is {w} {s} e) q b = record { p = loose.slot (slot_of w); h = a_tree t; read = refl; head = rw (slot-read w s e); tree = refl }
  primary-complete ts t rest (entity_is {u} d) q b =
      let r = entity-complete rd ts u rest d in
      record { p = loose.entity r.0; h = a_tree t; read = r.1; head = rw r.2; tree = refl }
  primary-complete ts t rest (call_is mid d e its) q b = absurd q
  primary-complete ts t rest (group_is {ts = us} d) q b =
      let low : 0 < 1 = omega arith in
      let r = c us t (mark token.RightParen ∷ rest) d low in
      record { p = loose.expr r.0; h = a_tree t; read = rw r.1; head = rw r.2; tree = refl }
  primary-complete ts t rest (list_is {xs} {ts = us} its) q b =
      let r = list-complete us xs rest its in
      record { p = loose.e_list (exprs r.0); h = a_tree t; read = rw r.1; head = rw (exprs-each names r.0, r.2); tree = refl }
  primary-complete ts t rest (record_is {es} {ts = us} its e) q b =
      let r = entries-complete us es rest its in
      record { p = loose.r_inits (rec_inits r.0); h = a_tree t; read = rw r.1; head = rw (rec_inits-each names r.0, r.2, e); tree = refl }

  accesses-below : (a t : Tree) (ts rest : List Token) → Accesses i a ts t rest → Below 6 rest → Below 7 ts
  accesses-below a t ts rest no_access h = below-more 6 7 (omega arith) ts h
  accesses-below a t ts rest (an_access b mid (attribute e) more) h = omega arith
  accesses-below a t ts rest (an_access b mid (call e its m) more) h = omega arith
  accesses-below a t ts rest (an_access b mid (index lt e) more) h = omega arith

  abbrev accesses_from : Head → List loose.MemAccess → Option Tree
  accesses_from h xs = accesses_tree names h (accesses xs)

  accesses-complete : (n : ℕ) (h : Head) (a t : Tree) (ts rest : List Token) → length ts < n → Accesses i a ts t rest → Below 6 rest → head_tree h ≡ Some a → Reads (each_at begins_access (access_of rd) n) (accesses_from h) ts t rest
  unfolding each_at access_of accesses_tree
  accesses-complete zero h a t ts rest lt d b g = absurd (omega arith)
  accesses-complete (suc n) h a t ts rest lt no_access b g = ([], rw (access-below ts b), g)
  accesses-complete (suc n) h a t ts rest lt (an_access z mid (attribute {w} {s} e) more) b g =
      let m = accesses-complete n (an_attribute a s) z t mid rest (omega arith) more b refl in
      (loose.field (loose.ident w) ∷ m.0, rw m.1, rw (g, e, m.2))
  accesses-complete (suc zero) h a t ts rest lt (an_access z mid (call e its meth) more) b g = absurd (omega arith)
  accesses-complete (suc (suc n)) h a t ts rest lt (an_access z mid (call {w} {m = s} {xs} {ts = us} e its meth) more) b g =
      let fewer = items-eats token.RightParen expr eats us xs mid its in
      let r = arguments-complete us xs mid its in
      let m = accesses-complete n (a_tree z) z t mid rest (omega arith) more b refl in
      (loose.field (loose.ident w) ∷ loose.call (exprs r.0) ∷ m.0, rw (r.1, m.1), rw (g, e, exprs-each names r.0, r.2, meth, m.2))
  accesses-complete (suc n) h a t ts rest lt (an_access z mid (index {raw} {s} le e) more) b g =
      let low : 0 < 1 = omega arith in
      let m = accesses-complete n (a_tree z) z t mid rest (omega arith) more b refl in
      (loose.index (lone (loose.literal (loose.str (loose.string raw)))) ∷ m.0, rw ((lones le).texts raw (mark token.RightBracket ∷ mid) low, m.1), rw (g, e, m.2))

  member-heads : (ts : List Token) (a : Tree) (mid : List Token) (t : Tree) (rest : List Token) → Heads ts a mid → Accesses i a mid t rest → Below 6 rest → Reads (member_of rd) (member_tree names) ts t rest
  unfolding member_of each_of member_tree
  member-heads ts a mid t rest r more b =
      let m = accesses-complete (suc (length mid)) r.h a t mid rest (omega arith) more b r.tree in
      (loose.member r.p (accesses m.0), rw (r.read, m.1), rw (r.head, m.2))

  member-call : (ts : List Token) (p : Name) (xs : List Tree) (m0 mid : List Token) (t : Tree) (rest : List Token) → Ids token.ColonColon ts p (mark token.LeftParen ∷ m0) → is_function names p ≡ true → Items token.RightParen expr m0 xs mid
      → (a : Tree) → ((n : loose.Name) → name_path n ≡ Some p → called names (a_name n) xs ≡ Some a) → Accesses i a mid t rest → Below 6 rest → Reads (member_of rd) (member_tree names) ts t rest
  unfolding member_of each_of each_at access_of member_tree
  member-call ts p xs m0 mid t rest d e its a f more b =
      let n = path-complete rd ts p (mark token.LeftParen ∷ m0) d refl refl in
      let r = arguments-complete m0 xs mid its in
      let fewer = items-eats token.RightParen expr eats m0 xs mid its in
      let m = accesses-complete (suc (length m0)) (a_tree a) a t mid rest (omega arith) more b refl in
      (loose.member (loose.named n.0) (accesses (loose.call (exprs r.0) ∷ m.0)), rw (n.1, r.1, m.1), rw (exprs-each names r.0, r.2, f n.0 n.2, m.2))

  pub member-complete : Completes 6 (Member i) (member_of rd) (member_tree names)
  member-complete ts t rest (member a mid (call_is {p} {xs} m0 d f its) more) b = member-call ts p xs m0 mid t rest d f its a (λ n e. rw (e, f)) more b
  member-complete ts t rest (member a mid d more) b = member-heads ts a mid t rest (primary-complete ts a mid d tt (accesses-below a t mid rest more b)) more b

  lone_number-is : (m : loose.Member) (v : ℕ) → lone_number m ≡ Some v → m ≡ loose.member (loose.literal (loose.num v)) loose.no_accesses
  lone_number-is (loose.member (loose.literal (loose.num n)) loose.no_accesses) v e = let same : n ≡ v = cc e in ap (λ x. loose.member (loose.literal (loose.num x)) loose.no_accesses) same
  lone_number-is m v e = absurd (cc e)

  not-alone : (mid : List Token) (m : loose.Member) (rest : List Token) → member_of rd mid ≡ Ok (m, rest) → (IsNumber mid rest → ⊥) → (o : Option ℕ) → lone_number m ≡ o → o ≡ None
  not-alone mid m rest e h None f = refl
  not-alone mid m rest e h (Some v) f = absurd (h (v, told rd mid (loose.literal (loose.num v)) rest (member-lone rd mid (loose.literal (loose.num v)) rest (e ∙ ap (λ x. Ok (x, rest)) (lone_number-is m v f)))))

  member-bang : (ts : List Token) (t : Tree) (rest : List Token) → Member i ts t rest → eat token.Bang ts ≡ None
  member-bang ts t rest d = front-eat begins_primary token.Bang primary-bang ts (member-begins i ts t rest d)

  member-minus : (ts : List Token) (t : Tree) (rest : List Token) → Member i ts t rest → eat token.Minus ts ≡ None
  member-minus ts t rest d = front-eat begins_primary token.Minus primary-minus ts (member-begins i ts t rest d)

  minus-bang : (n : ℕ) (ts mid : List Token) → Signs token.Minus (suc n) ts mid → signs_of token.Bang ts ≡ (0, ts)
  minus-bang n ts mid s = let f = signs-begin token.Minus n ts mid s in signs-complete token.Bang 0 ts ts no_sign (ap (eat token.Bang) f.1)

  pub unary-complete : Completes 6 (Unary i) (unary_of rd) (unary_tree names)
  unfolding unary_of unary_tree
  unary-complete ts t rest (plain d) h =
      let r = member-complete ts t rest d h in
      (loose.unary None r.0, rw (signs-complete token.Bang 0 ts ts no_sign (member-bang ts t rest d), signs-complete token.Minus 0 ts ts no_sign (member-minus ts t rest d), r.1), r.2)
  unary-complete ts t rest (not_is {t = u} n mid lt s d) h =
      let r = member-complete mid u rest d h in
      (loose.unary (Some (loose.bang (suc n))) r.0, rw (signs-complete token.Bang (suc n) ts mid s (member-bang mid u rest d), r.1, lt-ltb n 4 lt), rw r.2)
  unary-complete ts t rest (neg_is {t = u} n mid lt s d nn) h =
      let r = member-complete mid u rest d h in
      (loose.unary (Some (loose.dash (suc n))) r.0, rw (minus-bang n ts mid s, signs-complete token.Minus (suc n) ts mid s (member-minus mid u rest d), r.1, lt-ltb n 4 lt), rw (not-alone mid r.0 rest r.1 nn (lone_number r.0) refl, r.2))
  unary-complete ts t rest (negative_is n v lt le s) h =
      let small : v < 2 ^ 64 = omega arith in
      let p = loose.literal (loose.num v) in
      (loose.unary (Some (loose.dash (suc n))) (loose.member p loose.no_accesses), rw (minus-bang n ts (number v ∷ rest) s, signs-complete token.Minus (suc n) ts (number v ∷ rest) s refl, member-one rd (number v ∷ rest) p rest (number-primary rd v rest small) h, lt-ltb n 4 lt), rw (le-leb v (2 ^ 63) le))

  mult-complete : Completes 5 (Mul i) (mult_of rd) (mult_tree names)
  unfolding mult_of
  mult-complete =
      wrapped-complete 5 (Mul i) (chain_of mult_op (unary_of rd)) (chain_tree (unary_tree names) product) (λ x. loose.mult x.0 (unaries x.1)) (mult_tree names) (mult-chain names)
      (chain-complete 5 (Unary i) mult_op (unary_of rd) (unary_tree names) product unary-complete (unary-eats i eats) mult-links mult-silent)

  pub add-complete : Completes 4 (Chain 4 (Mul i)) (add_of rd) (add_tree names)
  unfolding add_of
  add-complete =
      wrapped-complete 4 (Chain 4 (Mul i)) (chain_of add_op (mult_of rd)) (chain_tree (mult_tree names) add_join) (λ x. loose.add x.0 (mults x.1)) (add_tree names) (add-chain names)
      (chain-complete 4 (Mul i) add_op (mult_of rd) (mult_tree names) add_join mult-complete (chain-eats 5 (Unary i) (unary-eats i eats)) add-links add-silent)

  -- ---- relations

  compare-step : (a : loose.Add) (o : Token) (p : loose.RelOp) (mid : List Token) (b : loose.Add) (rest : List Token) → rel_op o ≡ Some p → add_of rd mid ≡ Ok (b, rest) → Below 3 rest → relation_step rd a (o ∷ mid) ≡ Ok (loose.common a (loose.an_add p b loose.no_adds), rest)
  compare-step a (word token.Has) p mid b rest e f h = absurd (cc e)
  compare-step a (word token.Like) p mid b rest e f h = absurd (cc e)
  compare-step a (word token.Is) p mid b rest e f h = absurd (cc e)
  compare-step a o p mid b rest e f h = rw (links-one rel_op (add_of rd) 3 rel-silent o p mid b rest e f h)

  -- a string after `has` or `like`
  text-sum : (raw : List ℕ) (rest : List Token) → Below 3 rest → add_of rd (text raw ∷ rest) ≡ Ok (lone_sum (loose.member (loose.literal (loose.str (loose.string raw))) loose.no_accesses), rest)
  text-sum raw rest h =
      let p = loose.literal (loose.str (loose.string raw)) in
      sum-one rd (text raw ∷ rest) (loose.member p loose.no_accesses) rest (plainly (text raw) rest refl) (member-one rd (text raw ∷ rest) p rest (text-primary rd raw rest) (below-more 3 6 (omega arith) rest h)) (below-more 3 4 (omega arith) rest h)

  abbrev fields_from : List loose.MemAccess → Option (List Text)
  fields_from xs = fields (accesses xs)

  dots-complete : (n : ℕ) (us : List Token) (q : List Text) (rest : List Token) → length us < n → Ids token.Dot us q rest → Below 6 rest → Reads (each_at begins_access (access_of rd) n) fields_from (mark token.Dot ∷ us) q rest
  unfolding each_at access_of
  dots-complete zero us q rest lt d h = absurd (omega arith)
  dots-complete (suc n) us q rest lt (one_id {w} {s} e) h = (loose.field (loose.ident w) ∷ [], rw (each_at-stop begins_access (access_of rd) n rest (access-below rest h)), rw e)
  dots-complete (suc n) us q rest lt (more_ids {w} {s} {p} {ts = vs} e d) h =
      let m = dots-complete n vs p rest (omega arith) d h in
      (loose.field (loose.ident w) ∷ m.0, rw m.1, rw (e, m.2))

  ids-member : (mid : List Token) (ids : List Text) (rest : List Token) → Ids token.Dot mid ids rest → Below 6 rest → Reads (member_of rd) member_fields mid ids rest
  unfolding member_of each_of
  ids-member mid ids rest (one_id {w} {s} e) h =
      let p = loose.named (loose.name [] (loose.ident w)) in
      (loose.member p loose.no_accesses, member-one rd mid p rest (id-complete rd w s rest e (next_word-below rest (below-more 6 7 (omega arith) rest h)) (eat-colons rest (below-more 6 7 (omega arith) rest h))) h, rw e)
  ids-member mid ids rest (more_ids {w} {s} {p = q} {ts = us} e d) h =
      let m = dots-complete (suc (suc (length us))) us q rest (omega arith) d h in
      (loose.member (loose.named (loose.name [] (loose.ident w))) (accesses m.0), rw (id-complete rd w s (mark token.Dot ∷ us) e refl refl, m.1), rw (e, m.2))

  relation-complete : Completes 3 (Relation i) (relation_of rd) (relation_tree names)
  unfolding relation_of relation_tree
  relation-complete ts t rest (alone d) h =
      let r = add-complete ts t rest d (below-more 3 4 (omega arith) rest h) in
      (loose.common r.0 loose.no_adds, rw r.1 (relation-stop rd r.0 rest h), rw r.2)
  relation-complete ts t rest (compare a b o k mid d e f) h =
      let fw = rel-forward o k e in
      let low : level_of o < 4 = omega (arith, fw.0) in
      let r = add-complete ts a (o ∷ mid) d low in
      let q = add-complete mid b rest f (below-more 3 4 (omega arith) rest h) in
      (loose.common r.0 (loose.an_add fw.1 q.0 loose.no_adds), rw r.1 (compare-step r.0 o fw.1 mid q.0 rest fw.2 q.1 h), rw (r.2, fw.3, q.2))
  relation-complete ts t rest (has_text a raw d e) h =
      let low : 3 < 4 = omega arith in
      let r = add-complete ts a (word token.Has ∷ text raw ∷ rest) d low in
      (loose.has r.0 (lone_sum (loose.member (loose.literal (loose.str (loose.string raw))) loose.no_accesses)), rw (r.1, text-sum raw rest h), rw (r.2, e))
  relation-complete ts t rest (has_ids a ids mid d e) h =
      let low : 3 < 4 = omega arith in
      let r = add-complete ts a (word token.Has ∷ mid) d low in
      let m = ids-member mid ids rest e (below-more 3 6 (omega arith) rest h) in
      (loose.has r.0 (lone_sum m.0), rw (r.1, sum-one rd mid m.0 rest (front-plain mid (ids-begin token.Dot mid ids rest e)) m.1 (below-more 3 4 (omega arith) rest h)), rw (r.2, m.2))
  relation-complete ts t rest (like_is a raw d e) h =
      let low : 3 < 4 = omega arith in
      let r = add-complete ts a (word token.Like ∷ text raw ∷ rest) d low in
      (loose.like r.0 (lone_sum (loose.member (loose.literal (loose.str (loose.string raw))) loose.no_accesses)), rw (r.1, text-sum raw rest h), rw (r.2, e))
  relation-complete ts t rest (is_type a p mid d e) h =
      let low : 3 < 4 = omega arith in
      let r = add-complete ts a (word token.Is ∷ mid) d low in
      let n = path-sum rd mid p rest e (below-more 3 4 (omega arith) rest h) in
      (loose.is_type r.0 (lone_sum (loose.member (loose.named n.0) loose.no_accesses)), rw (r.1, n.1, eat_in-below rest h), rw (r.2, n.2))
  relation-complete ts t rest (is_type_in a p b mid after d e f) h =
      let low : 3 < 4 = omega arith in
      let r = add-complete ts a (word token.Is ∷ mid) d low in
      let n = path-sum rd mid p (word token.In ∷ after) e low in
      let q = add-complete after b rest f (below-more 3 4 (omega arith) rest h) in
      (loose.is_type_in r.0 (lone_sum (loose.member (loose.named n.0) loose.no_accesses)) q.0, rw (r.1, n.1, q.1), rw (r.2, n.2, q.2))

  and-complete : Completes 2 (And i) (and_of rd) (and_tree names)
  unfolding and_of
  and-complete =
      wrapped-complete 2 (And i) (chain_of and_op (relation_of rd)) (chain_tree (relation_tree names) and_join) (λ x. loose.and x.0 (relations (map (λ y. y.1) x.1))) (and_tree names) (and-chain names)
      (chain-complete 2 (Relation i) and_op (relation_of rd) (relation_tree names) and_join relation-complete (relation-eats i eats) and-links and-silent)

  or-complete : Completes 1 (Chain 1 (And i)) (or_of rd) (or_tree names)
  unfolding or_of
  or-complete =
      wrapped-complete 1 (Chain 1 (And i)) (chain_of or_op (and_of rd)) (chain_tree (and_tree names) or_join) (λ x. loose.or x.0 (ands (map (λ y. y.1) x.1))) (or_tree names) (or-chain names)
      (chain-complete 1 (And i) or_op (and_of rd) (and_tree names) or_join and-complete (chain-eats 2 (Relation i) (relation-eats i eats)) or-links or-silent)

  expr-or : (ts : List Token) → Front begins_unary ts → expr_of rd ts ≡ mapped loose.or_expr (or_of rd ts)
  unfolding expr_of
  expr-or [] h = absurd h
  expr-or (word token.If ∷ ts) h = absurd (cc h)
  expr-or (o ∷ ts) h = refl

  pub expr-complete : Completes 1 (Expr i) (expr_of rd) (expr_tree names)
  unfolding expr_of choice_of expr_tree
  expr-complete ts t rest (or_is d) h =
      let r = or-complete ts t rest d h in
      (loose.or_expr r.0, expr-or ts (or-begins i ts t rest d) ∙ ap (mapped loose.or_expr) r.1, r.2)
  expr-complete ts t rest (if_is {a} {b} {c = z} {ts = us} u v d e f) h =
      let low : 0 < 1 = omega arith in
      let x = c us a (word token.Then ∷ u) d low in
      let y = c u b (word token.Else ∷ v) e low in
      let w = c v z rest f h in
      (loose.if_expr x.0 y.0 w.0, rw (x.1, y.1, w.1), rw (x.2, y.2, w.2))

pub lones-at : (n : ℕ) → 0 < n → Lones (expr_at n)
unfolding expr_at
lones-at zero lt = absurd (omega arith)
lones-at (suc n) lt = lones-of (expr_at n)

pub within-live : (names : Names) (n : ℕ) (ts : List Token) (t : Tree) (rest : List Token) → Within names n ts t rest → 0 < n
within-live names zero ts t rest d = absurd d
within-live names (suc n) ts t rest d = omega arith

pub within-complete : (names : Names) (n : ℕ) → Completes 1 (Within names n) (expr_at n) (expr_tree names)
unfolding expr_at
within-complete names zero ts t rest d h = absurd d
within-complete names (suc n) ts t rest d h = expr-complete names n (Within names n) (expr_at n) (within-complete names n) (within-eats names n) (within-begins names n) (within-live names n) (lones-at n) ts t rest d h
