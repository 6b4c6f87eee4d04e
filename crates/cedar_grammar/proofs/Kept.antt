-- A rule reads the same of tokens in which slots are filled, but that entities stand in the places of slots.
use Rattle.std.proofs.Common.{◌≡◌, ℕ, zero, suc, ◌+◌, ◌<◌, ◌≤◌, Bool, true, false, cond, List, [], ◌∷◌, ◌++◌, map, length, Option, Some, None, refl, sym, ap, ◌∙◌, subst, arith}
use Rattle.std.specs.Option.{option_map}
use Rattle.std.specs.Prelude.{is_some, pos, neg_ℤ}
use Rattle.cedar_language.specs.Uid.{Name, Uid}
use Rattle.cedar_language.specs.Tree as tree
use Rattle.cedar_language.specs.Tree.{Tree, Apply, SlotId}
use Rattle.cedar_grammar.specs.Token as token
use Rattle.cedar_grammar.specs.Token.{Token, Mark, Word, word, number, text, slot, mark}
use Rattle.cedar_grammar.specs.Names.{Names, are_distinct, slot_id}
use Rattle.cedar_grammar.specs.Build.{Link, linked, Comparison, long}
use Rattle.cedar_grammar.specs.Grammar.{Rule, Inner, Ids, one_id, more_ids, EntityRule, entity, Items, no_items, last_item, an_item, Entry, id_entry, text_entry, Primary, true_is, false_is, number_is, text_is, variable_is, slot_is, entity_is, call_is, group_is, list_is, record_is, Access, attribute, call, index, Accesses, no_access, an_access, Member, member, Signs, no_sign, a_sign, IsNumber, Unary, plain, not_is, neg_is, negative_is, link_of, Tail, stop, go_on, Chain, chain, Mul, comparison_of, Relation, alone, compare, has_text, has_ids, like_is, is_type, is_type_in, And, Expr, or_is, if_is, Within}
use Rattle.cedar_grammar.specs.Policy.{Slots, bound_slot, bound_tree}
use Rattle.cedar_grammar.specs.Policies.{slot_of, Filled, all_filled, kept, replaced}
use Rattle.cedar_grammar.proofs.Eats.{Eats, entity-eats, access-eats, accesses-eats, within-eats}
use Rattle.cedar_grammar.proofs.BoundTrees.{bound_entry, trees-bound, linked-bound, compared-bound, has-bound, nots-bound, negs-bound, method-bound, keys-bound, record-bound}

-- none of these tokens is one that is filled
abbrev pub stay : List Token → Bool
stay [] = true
stay (t ∷ ts) = cond (is_some (slot_of t)) false (stay ts)

stays : (o : Option SlotId) (b : Bool) → cond (is_some o) false b ≡ true → (o ≡ None) × (b ≡ true)
stays None b e = (refl, e)
stays (Some s) b e = absurd (cc e)

one-stays : (t : Token) → slot_of t ≡ None → stay (t ∷ []) ≡ true
one-stays t e = rw e

link-stays : (o : Token) (x : ℕ × Link) → link_of o ≡ Some x → stay (o ∷ []) ≡ true
link-stays (slot w) x e = absurd (cc e)
link-stays o x e = refl

comparison-stays : (o : Token) (c : Comparison) → comparison_of o ≡ Some c → stay (o ∷ []) ≡ true
comparison-stays (slot w) c e = absurd (cc e)
comparison-stays o c e = refl

-- ---- entities

ids-before : (sep : Mark) (ts : List Token) (p : Name) (rest more : List Token) → Ids sep ts p rest → Ids sep (ts ++ more) p (rest ++ more)
ids-before sep ts p rest more (one_id e) = one_id e
ids-before sep ts p rest more (more_ids {p = q} {ts = vs} e d) = more_ids e (ids-before sep vs q rest more d)

-- an entity before further tokens
pub entity-before : (ts : List Token) (u : Uid) (rest more : List Token) → EntityRule ts u rest → EntityRule (ts ++ more) u (rest ++ more)
entity-before ts u rest more (entity p raw d e) = entity p raw (ids-before token.ColonColon ts p (mark token.ColonColon ∷ text raw ∷ rest) more d) e

-- some tokens before others are more than these
longer : (ts us : List Token) → 0 < length ts → suc (length us) ≤ length (ts ++ us)
longer [] us h = absurd (omega arith)
longer (t ∷ []) us h = omega arith
longer (t ∷ s ∷ ts) us h = let more = longer (s ∷ ts) us (omega arith) in omega arith

module _ (b : Slots) where
  -- the tokens in front stay
  pub keeps : (front : List Token) → stay front ≡ true → (ts us : List Token) → Filled b (front ++ ts) us → (more : List Token) × (us ≡ front ++ more) × Filled b ts more
  keeps [] e ts us f = (us, refl, f)
  keeps (t ∷ front) e ts us (kept x {us = vs} g f) = let w = keeps front (stays (slot_of t) (stay front) e).1 ts vs f in (w.0, ap (λ q. t ∷ q) w.1, w.2)
  keeps (t ∷ front) e ts us (replaced x s u spelling g h d f) = let same : Some s ≡ None = sym g ∙ (stays (slot_of t) (stay front) e).0 in absurd (cc same)

  -- The rule gives this of these tokens, and what it leaves is filled in the same way. It takes no fewer tokens.
  abbrev pub Kept : {A : Type 0} → Rule A → A → List Token → List Token → List Token → Type 0
  Kept r x ts rest us = (more : List Token) × r us x more × Filled b rest more × (length ts + length more ≤ length us + length rest)

  -- what is given stays the same, where no slot stands in it
  abbrev pub Keeps : {A : Type 0} → Rule A → Type 0
  Keeps {A} r = (ts : List Token) (x : A) (rest us : List Token) → r ts x rest → Filled b ts us → Kept r x ts rest us

  -- it changes so
  abbrev pub Moves : {A : Type 0} → (A → A) → Rule A → Type 0
  Moves {A} g r = (ts : List Token) (x : A) (rest us : List Token) → r ts x rest → Filled b ts us → Kept r (g x) ts rest us

  pub kept-as : {A : Type 0} (r : Rule A) (x : A) (ts rest us vs more : List Token) → us ≡ vs → r vs x more → Filled b rest more → length ts + length more ≤ length vs + length rest → Kept r x ts rest us
  kept-as r x ts rest us vs more e d f l = (more, subst (λ q. r q x more) (sym e) d, f, subst (λ q. length ts + length more ≤ length q + length rest) (sym e) l)

  -- what is left begins with tokens that stay
  pub ahead : {A : Type 0} (r : Rule A) (x : A) (ts us front rest : List Token) → stay front ≡ true → Kept r x ts (front ++ rest) us → (more : List Token) × r us x (front ++ more) × Filled b rest more × (length ts + length (front ++ more) ≤ length us + length (front ++ rest))
  ahead r x ts us front rest e m = let k = keeps front e rest m.0 m.2 in (k.0, subst (λ q. r us x q) k.1 m.1, k.2, subst (λ q. length ts + length q ≤ length us + length (front ++ rest)) k.1 m.3)

  -- ---- names, lists

  pub ids-keep : (sep : Mark) → Keeps (Ids sep)
  ids-keep sep ts p rest us (one_id {w} e) f =
      let k = keeps (word w ∷ []) refl rest us f in
      kept-as (Ids sep) p ts rest us (word w ∷ k.0) k.0 k.1 (one_id e) k.2 (omega arith)
  ids-keep sep ts p rest us (more_ids {w} {p = q} {ts = vs} e d) f =
      let k = keeps (word w ∷ mark sep ∷ []) refl vs us f in
      let m = ids-keep sep vs q rest k.0 d k.2 in
      let l = m.3 in
      kept-as (Ids sep) p ts rest us (word w ∷ mark sep ∷ k.0) m.0 k.1 (more_ids e m.1) m.2 (omega arith)

  pub entity-keeps : Keeps EntityRule
  entity-keeps ts u rest us (entity p raw d e) f =
      let m = ahead (Ids token.ColonColon) p ts us (mark token.ColonColon ∷ text raw ∷ []) rest refl (ids-keep token.ColonColon ts p (mark token.ColonColon ∷ text raw ∷ rest) us d f) in
      let l = m.3 in (m.0, entity p raw m.1 e, m.2, omega arith)

  pub items-keep : {A : Type 0} (close : Mark) (r : Rule A) → Keeps r → Keeps (Items close r)
  items-keep close r g ts xs rest us no_items f =
      let k = keeps (mark close ∷ []) refl rest us f in
      kept-as (Items close r) xs ts rest us (mark close ∷ k.0) k.0 k.1 no_items k.2 (omega arith)
  items-keep close r g ts xs rest us (last_item {a} d) f =
      let m = ahead r a ts us (mark close ∷ []) rest refl (g ts a (mark close ∷ rest) us d f) in
      let l = m.3 in (m.0, last_item m.1, m.2, omega arith)
  items-keep close r g ts xs rest us (an_item {a} {xs = ys} mid d more) f =
      let m = ahead r a ts us (mark token.Comma ∷ []) mid refl (g ts a (mark token.Comma ∷ mid) us d f) in
      let n = items-keep close r g mid ys rest m.0 more m.2 in
      let l = m.3 in
      let k = n.3 in (n.0, an_item m.0 m.1 n.1, n.2, omega arith)

  pub items-move : {A : Type 0} (g : A → A) (close : Mark) (r : Rule A) → Moves g r → Moves (map g) (Items close r)
  items-move g close r h ts xs rest us no_items f =
      let k = keeps (mark close ∷ []) refl rest us f in
      kept-as (Items close r) (map g xs) ts rest us (mark close ∷ k.0) k.0 k.1 no_items k.2 (omega arith)
  items-move g close r h ts xs rest us (last_item {a} d) f =
      let m = ahead r (g a) ts us (mark close ∷ []) rest refl (h ts a (mark close ∷ rest) us d f) in
      let l = m.3 in (m.0, last_item m.1, m.2, omega arith)
  items-move g close r h ts xs rest us (an_item {a} {xs = ys} mid d more) f =
      let m = ahead r (g a) ts us (mark token.Comma ∷ []) mid refl (h ts a (mark token.Comma ∷ mid) us d f) in
      let n = items-move g close r h mid ys rest m.0 more m.2 in
      let l = m.3 in
      let k = n.3 in (n.0, an_item m.0 m.1 n.1, n.2, omega arith)

  -- a tree changes to the one with the bound entities
  abbrev pub bt : Tree → Tree
  bt = bound_tree b

  entry-moves : (r : Rule Tree) → Moves bt r → Moves (bound_entry b) (Entry r)
  entry-moves r g ts x rest us (id_entry {w} {t} {ts = vs} e d) f =
      let k = keeps (word w ∷ mark token.Colon ∷ []) refl vs us f in
      let m = g vs t rest k.0 d k.2 in
      let l = m.3 in kept-as (Entry r) (bound_entry b x) ts rest us (word w ∷ mark token.Colon ∷ k.0) m.0 k.1 (id_entry e m.1) m.2 (omega arith)
  entry-moves r g ts x rest us (text_entry {raw} {t} {ts = vs} e d) f =
      let k = keeps (text raw ∷ mark token.Colon ∷ []) refl vs us f in
      let m = g vs t rest k.0 d k.2 in
      let l = m.3 in kept-as (Entry r) (bound_entry b x) ts rest us (text raw ∷ mark token.Colon ∷ k.0) m.0 k.1 (text_entry e m.1) m.2 (omega arith)

  -- ---- chains

  tail-moves : (k : ℕ) (r : Rule Tree) → Moves bt r → (a : Tree) (ts : List Token) (t : Tree) (rest us : List Token) → Tail k r a ts t rest → Filled b ts us → Kept (Tail k r (bt a)) (bt t) ts rest us
  tail-moves n r g a ts t rest us stop f = (us, stop, f, omega arith)
  tail-moves n r g a ts t rest us (go_on c o l {ts = vs} mid e d more) f =
      let k = keeps (o ∷ []) (link-stays o (n, l) e) vs us f in
      let m = g vs c mid k.0 d k.2 in
      let w = tail-moves n r g (linked l a c) mid t rest m.0 more m.2 in
      let x = m.3 in
      let y = w.3 in
      kept-as (Tail n r (bt a)) (bt t) ts rest us (o ∷ k.0) w.0 k.1 (go_on (bt c) o l m.0 e m.1 (subst (λ q. Tail n r q m.0 (bt t) w.0) (linked-bound b l a c) w.1)) w.2 (omega arith)

  chain-moves : (k : ℕ) (r : Rule Tree) → Moves bt r → Moves bt (Chain k r)
  chain-moves n r g ts t rest us (chain a mid d more) f =
      let m = g ts a mid us d f in
      let w = tail-moves n r g a mid t rest m.0 more m.2 in
      let x = m.3 in
      let y = w.3 in (w.0, chain (bt a) m.0 m.1 w.1, w.2, omega arith)

  abbrev SignsRule : Mark → Rule ℕ
  SignsRule m ts n rest = Signs m n ts rest

  signs-keep : (s : Mark) → Keeps (SignsRule s)
  signs-keep s ts n rest us no_sign f = (us, no_sign, f, omega arith)
  signs-keep s ts n rest us (a_sign {n = k} {ts = vs} d) f =
      let h = keeps (mark s ∷ []) refl vs us f in
      let m = signs-keep s vs k rest h.0 d h.2 in
      let l = m.3 in kept-as (SignsRule s) n ts rest us (mark s ∷ h.0) m.0 h.1 (a_sign m.1) m.2 (omega arith)

  -- ---- slots

  slot-moves : (i : Inner) (w : Word) (s : SlotId) (rest us : List Token) → slot_id w ≡ Some s → Filled b (slot w ∷ rest) us → Kept (Primary i) (bound_slot s (b s)) (slot w ∷ rest) rest us
  slot-moves i w s rest us e (kept t {us = vs} g f) = let same : Some s ≡ None = sym e ∙ g in absurd (cc same)
  slot-moves i w s rest us e (replaced t z u spelling {us = vs} g h d f) =
      let same : Some s ≡ Some z = sym e ∙ g in
      let is : s ≡ z = cc same in
      let binds : b s ≡ Some u = ap b is ∙ h in
      let some = entity-eats spelling u [] d in
      let l = longer spelling vs some in
      (vs, subst (λ o. Primary i (spelling ++ vs) (bound_slot s o) vs) (sym binds) (entity_is (entity-before spelling u [] vs d)), f, omega arith)

  -- ---- expressions

  module _ (i : Inner) (eats : Eats i.expr) (inside : Moves bt i.expr) where
    pub primary-moves : Moves bt (Primary i)
    primary-moves ts t rest us true_is f = let k = keeps (word token.True ∷ []) refl rest us f in kept-as (Primary i) (bt t) ts rest us (word token.True ∷ k.0) k.0 k.1 true_is k.2 (omega arith)
    primary-moves ts t rest us false_is f = let k = keeps (word token.False ∷ []) refl rest us f in kept-as (Primary i) (bt t) ts rest us (word token.False ∷ k.0) k.0 k.1 false_is k.2 (omega arith)
    primary-moves ts t rest us (number_is {n} h) f = let k = keeps (number n ∷ []) refl rest us f in kept-as (Primary i) (bt t) ts rest us (number n ∷ k.0) k.0 k.1 (number_is h) k.2 (omega arith)
    primary-moves ts t rest us (text_is {raw} e) f = let k = keeps (text raw ∷ []) refl rest us f in kept-as (Primary i) (bt t) ts rest us (text raw ∷ k.0) k.0 k.1 (text_is e) k.2 (omega arith)
    primary-moves ts t rest us (variable_is {w} e) f = let k = keeps (word w ∷ []) refl rest us f in kept-as (Primary i) (bt t) ts rest us (word w ∷ k.0) k.0 k.1 (variable_is e) k.2 (omega arith)
    primary-moves ts t rest us (slot_is {w} {s} e) f = slot-moves i w s rest us e f
    primary-moves ts t rest us (entity_is {u} d) f = let m = entity-keeps ts u rest us d f in (m.0, entity_is m.1, m.2, m.3)
    primary-moves ts t rest us (call_is {p} {xs} mid d e its) f =
        let m = ahead (Ids token.ColonColon) p ts us (mark token.LeftParen ∷ []) mid refl (ids-keep token.ColonColon ts p (mark token.LeftParen ∷ mid) us d f) in
        let n = items-move bt token.RightParen i.expr inside mid xs rest m.0 its m.2 in
        let k = m.3 in
        let l = n.3 in (n.0, subst (λ q. Primary i us (Apply (tree.Call p) q) n.0) (trees-bound b xs) (call_is m.0 m.1 e n.1), n.2, omega arith)
    primary-moves ts t rest us (group_is {ts = vs} d) f =
        let k = keeps (mark token.LeftParen ∷ []) refl vs us f in
        let m = ahead i.expr (bt t) vs k.0 (mark token.RightParen ∷ []) rest refl (inside vs t (mark token.RightParen ∷ rest) k.0 d k.2) in
        let l = m.3 in kept-as (Primary i) (bt t) ts rest us (mark token.LeftParen ∷ k.0) m.0 k.1 (group_is m.1) m.2 (omega arith)
    primary-moves ts t rest us (list_is {xs} {ts = vs} its) f =
        let k = keeps (mark token.LeftBracket ∷ []) refl vs us f in
        let m = items-move bt token.RightBracket i.expr inside vs xs rest k.0 its k.2 in
        let l = m.3 in kept-as (Primary i) (bt t) ts rest us (mark token.LeftBracket ∷ k.0) m.0 k.1 (subst (λ q. Primary i (mark token.LeftBracket ∷ k.0) (Apply tree.MakeSet q) m.0) (trees-bound b xs) (list_is m.1)) m.2 (omega arith)
    primary-moves ts t rest us (record_is {es} {ts = vs} its e) f =
        let k = keeps (mark token.LeftBrace ∷ []) refl vs us f in
        let m = items-move (bound_entry b) token.RightBrace (Entry i.expr) (entry-moves i.expr inside) vs es rest k.0 its k.2 in
        let l = m.3 in kept-as (Primary i) (bt t) ts rest us (mark token.LeftBrace ∷ k.0) m.0 k.1 (subst (λ q. Primary i (mark token.LeftBrace ∷ k.0) q m.0) (record-bound b es) (record_is m.1 (ap are_distinct (keys-bound b es) ∙ e))) m.2 (omega arith)

    access-moves : (a : Tree) (ts : List Token) (t : Tree) (rest us : List Token) → Access i a ts t rest → Filled b ts us → Kept (Access i (bt a)) (bt t) ts rest us
    access-moves a ts t rest us (attribute {w} e) f =
        let k = keeps (mark token.Dot ∷ word w ∷ []) refl rest us f in
        kept-as (Access i (bt a)) (bt t) ts rest us (mark token.Dot ∷ word w ∷ k.0) k.0 k.1 (attribute e) k.2 (omega arith)
    access-moves a ts t rest us (call {w} {m = z} {xs} {ts = vs} e its g) f =
        let k = keeps (mark token.Dot ∷ word w ∷ mark token.LeftParen ∷ []) refl vs us f in
        let m = items-move bt token.RightParen i.expr inside vs xs rest k.0 its k.2 in
        let l = m.3 in kept-as (Access i (bt a)) (bt t) ts rest us (mark token.Dot ∷ word w ∷ mark token.LeftParen ∷ k.0) m.0 k.1 (call e m.1 (method-bound b i.names z a xs ∙ ap (option_map bt) g)) m.2 (omega arith)
    access-moves a ts t rest us (index {raw} lt e) f =
        let k = keeps (mark token.LeftBracket ∷ text raw ∷ mark token.RightBracket ∷ []) refl rest us f in
        kept-as (Access i (bt a)) (bt t) ts rest us (mark token.LeftBracket ∷ text raw ∷ mark token.RightBracket ∷ k.0) k.0 k.1 (index lt e) k.2 (omega arith)

    accesses-move : (a : Tree) (ts : List Token) (t : Tree) (rest us : List Token) → Accesses i a ts t rest → Filled b ts us → Kept (Accesses i (bt a)) (bt t) ts rest us
    accesses-move a ts t rest us no_access f = (us, no_access, f, omega arith)
    accesses-move a ts t rest us (an_access c mid d more) f =
        let m = access-moves a ts c mid us d f in
        let n = accesses-move c mid t rest m.0 more m.2 in
        let k = m.3 in
        let l = n.3 in (n.0, an_access (bt c) m.0 m.1 n.1, n.2, omega arith)

    member-moves : Moves bt (Member i)
    member-moves ts t rest us (member a mid d more) f =
        let m = primary-moves ts a mid us d f in
        let n = accesses-move a mid t rest m.0 more m.2 in
        let k = m.3 in
        let l = n.3 in (n.0, member (bt a) m.0 m.1 n.1, n.2, omega arith)

    -- a number that takes as many tokens as the member is the member alone
    ids-number : (n : ℕ) (ms : List Token) (sep : Mark) (p : Name) (rest : List Token) → Ids sep (number n ∷ ms) p rest → ⊥
    ids-number n ms sep p rest d = elim d [ ]

    primary-number : (n : ℕ) (ms : List Token) (a : Tree) (mid : List Token) → Primary i (number n ∷ ms) a mid → mid ≡ ms
    primary-number n ms a mid (number_is h) = refl
    primary-number n ms a mid (entity_is (entity p raw d e)) = absurd (ids-number n ms token.ColonColon p _ d)
    primary-number n ms a mid (call_is {p} after d e its) = absurd (ids-number n ms token.ColonColon p _ d)

    accesses-none : (a t : Tree) (ms rest : List Token) → Accesses i a ms t rest → length ms ≤ length rest → ms ≡ rest
    accesses-none a t ms rest no_access le = refl
    accesses-none a t ms rest (an_access c mid d more) le =
        let one = access-eats i eats a c ms mid d in
        let two = accesses-eats i eats c t mid rest more in absurd (omega arith)

    member-number : (n : ℕ) (ms : List Token) (t : Tree) (rest : List Token) → Member i (number n ∷ ms) t rest → length ms ≤ length rest → ms ≡ rest
    member-number n ms t rest (member a mid d more) le =
        let one = primary-number n ms a mid d in
        accesses-none a t ms rest (subst (λ q. Accesses i a q t rest) one more) le

    spelling-word : (n : ℕ) (spelling : List Token) (u : Uid) (vs more : List Token) → EntityRule spelling u [] → spelling ++ vs ≡ number n ∷ more → ⊥
    spelling-word n spelling u vs more (entity p raw (one_id d) e) h = cc h
    spelling-word n spelling u vs more (entity p raw (more_ids d more2) e) h = cc h

    number-stays : (mid rest : List Token) (t : Tree) (us more : List Token) → Member i mid t rest → Filled b mid us → length mid + length more ≤ length us + length rest → IsNumber us more → IsNumber mid rest
    number-stays mid rest t us more d all_filled l x = absurd (cc (x.1))
    number-stays mid rest t us more d (replaced o s u spelling {us = vs} g h e f) l x = absurd (spelling-word x.0 spelling u vs more e x.1)
    number-stays mid rest t us more d (kept o {ts = ms} {us = vs} g f) l x =
        let same : o ≡ number x.0 = head-of o (number x.0) vs more x.1 in
        let after : vs ≡ more = tail-of o (number x.0) vs more x.1 in
        let far : length vs ≡ length more = ap length after in
        (x.0, ap (λ q. q ∷ ms) same ∙ ap (λ q. number x.0 ∷ q) (member-number x.0 ms t rest (subst (λ q. Member i (q ∷ ms) t rest) same d) (omega arith)))
      where
        head-of : (p q : Token) (ps qs : List Token) → ◌≡◌ {A = List Token} (p ∷ ps) (q ∷ qs) → p ≡ q
        head-of p q ps qs e = cc e

        tail-of : (p q : Token) (ps qs : List Token) → ◌≡◌ {A = List Token} (p ∷ ps) (q ∷ qs) → ps ≡ qs
        tail-of p q ps qs e = cc e

    unary-moves : Moves bt (Unary i)
    unary-moves ts t rest us (plain d) f = let m = member-moves ts t rest us d f in (m.0, plain m.1, m.2, m.3)
    unary-moves ts t rest us (not_is {t = u} n mid lt d e) f =
        let m = signs-keep token.Bang ts (suc n) mid us d f in
        let w = member-moves mid u rest m.0 e m.2 in
        let k = m.3 in
        let l = w.3 in (w.0, subst (λ q. Unary i us q w.0) (nots-bound b (suc n) u) (not_is n m.0 lt m.1 w.1), w.2, omega arith)
    unary-moves ts t rest us (neg_is {t = u} n mid lt d e h) f =
        let m = signs-keep token.Minus ts (suc n) mid us d f in
        let w = member-moves mid u rest m.0 e m.2 in
        let k = m.3 in
        let l = w.3 in (w.0, subst (λ q. Unary i us q w.0) (negs-bound b (suc n) u) (neg_is n m.0 lt m.1 w.1 (λ x. h (number-stays mid rest u m.0 w.0 e m.2 l x))), w.2, omega arith)
    unary-moves ts t rest us (negative_is n v lt h d) f =
        let m = ahead (SignsRule token.Minus) (suc n) ts us (number v ∷ []) rest refl (signs-keep token.Minus ts (suc n) (number v ∷ rest) us d f) in
        let l = m.3 in (m.0, subst (λ q. Unary i us q m.0) (negs-bound b n (long (neg_ℤ (pos v)))) (negative_is n v lt h m.1), m.2, omega arith)

    pub add-moves : Moves bt (Chain 4 (Mul i))
    add-moves = chain-moves 4 (Mul i) (chain-moves 5 (Unary i) unary-moves)

    -- the left side of a relation, and what begins its right side
    left-moves : (a : Tree) (ts front rest us : List Token) → stay front ≡ true → Chain 4 (Mul i) ts a (front ++ rest) → Filled b ts us → (more : List Token) × Chain 4 (Mul i) us (bt a) (front ++ more) × Filled b rest more × (length ts + length (front ++ more) ≤ length us + length (front ++ rest))
    left-moves a ts front rest us e d f = ahead (Chain 4 (Mul i)) (bt a) ts us front rest e (add-moves ts a (front ++ rest) us d f)

    relation-moves : Moves bt (Relation i)
    relation-moves ts t rest us (alone d) f = let m = add-moves ts t rest us d f in (m.0, alone m.1, m.2, m.3)
    relation-moves ts t rest us (compare a c o op mid d e g) f =
        let m = left-moves a ts (o ∷ []) mid us (comparison-stays o op e) d f in
        let n = add-moves mid c rest m.0 g m.2 in
        let k = m.3 in
        let l = n.3 in (n.0, subst (λ q. Relation i us q n.0) (compared-bound b op a c) (compare (bt a) (bt c) o op m.0 m.1 e n.1), n.2, omega arith)
    relation-moves ts t rest us (has_text a raw d e) f =
        let m = left-moves a ts (word token.Has ∷ text raw ∷ []) rest us refl d f in
        let k = m.3 in (m.0, has_text (bt a) raw m.1 e, m.2, omega arith)
    relation-moves ts t rest us (has_ids a ids mid d e) f =
        let m = left-moves a ts (word token.Has ∷ []) mid us refl d f in
        let n = ids-keep token.Dot mid ids rest m.0 e m.2 in
        let k = m.3 in
        let l = n.3 in (n.0, subst (λ q. Relation i us q n.0) (has-bound b ids a) (has_ids (bt a) ids m.0 m.1 n.1), n.2, omega arith)
    relation-moves ts t rest us (like_is a raw d e) f =
        let m = left-moves a ts (word token.Like ∷ text raw ∷ []) rest us refl d f in
        let k = m.3 in (m.0, like_is (bt a) raw m.1 e, m.2, omega arith)
    relation-moves ts t rest us (is_type a p mid d e) f =
        let m = left-moves a ts (word token.Is ∷ []) mid us refl d f in
        let n = ids-keep token.ColonColon mid p rest m.0 e m.2 in
        let k = m.3 in
        let l = n.3 in (n.0, is_type (bt a) p m.0 m.1 n.1, n.2, omega arith)
    relation-moves ts t rest us (is_type_in a p c mid after d e g) f =
        let m = left-moves a ts (word token.Is ∷ []) mid us refl d f in
        let n = ahead (Ids token.ColonColon) p mid m.0 (word token.In ∷ []) after refl (ids-keep token.ColonColon mid p (word token.In ∷ after) m.0 e m.2) in
        let w = add-moves after c rest n.0 g n.2 in
        let j = m.3 in
        let k = n.3 in
        let l = w.3 in (w.0, is_type_in (bt a) p (bt c) m.0 n.0 m.1 n.1 w.1, w.2, omega arith)

    or-moves : Moves bt (Chain 1 (And i))
    or-moves = chain-moves 1 (And i) (chain-moves 2 (Relation i) relation-moves)

    expr-moves : Moves bt (Expr i)
    expr-moves ts t rest us (or_is d) f = let m = or-moves ts t rest us d f in (m.0, or_is m.1, m.2, m.3)
    expr-moves ts t rest us (if_is {a} {b = c} {c = x} {ts = vs} u v d e g) f =
        let k = keeps (word token.If ∷ []) refl vs us f in
        let m = ahead i.expr (bt a) vs k.0 (word token.Then ∷ []) u refl (inside vs a (word token.Then ∷ u) k.0 d k.2) in
        let n = ahead i.expr (bt c) u m.0 (word token.Else ∷ []) v refl (inside u c (word token.Else ∷ v) m.0 e m.2) in
        let w = inside v x rest n.0 g n.2 in
        let h = m.3 in
        let j = n.3 in
        let l = w.3 in kept-as (Expr i) (bt t) ts rest us (word token.If ∷ k.0) w.0 k.1 (if_is m.0 n.0 m.1 n.1 w.1) w.2 (omega arith)

  pub within-moves : (names : Names) (n : ℕ) → Moves bt (Within names n)
  within-moves names zero ts t rest us d f = absurd d
  within-moves names (suc n) ts t rest us d f = expr-moves (record { names = names; levels = n; expr = Within names n }) (within-eats names n) (within-moves names n) ts t rest us d f
