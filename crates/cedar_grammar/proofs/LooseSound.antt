-- What the loose reading gives, and the conversion makes a tree of, the strict grammar of expressions has.
use Rattle.std.proofs.Common.{◌≡◌, ℕ, zero, suc, ◌<◌, ◌^◌, ◌⊎◌, inl, inr, Bool, true, false, cond, List, [], ◌∷◌, ◌++◌, length, Option, Some, None, Ok, refl, sym, ap, ◌∙◌, subst, arith}
use Rattle.std.specs.Prelude.{map, nat_lt, nat_le, pos, neg_ℤ}
use Rattle.std.proofs.lemmas.Bool.{ltb-true, leb-true}
use Rattle.cedar_language.specs.Uid.{Text, Name, Uid}
use Rattle.cedar_language.specs.Tree.{Tree, Lit, Var, Slot, SlotId, If, Apply, String, Entity, Variable, GetAttr, Like, Is, Call, MakeSet}
use Rattle.cedar_grammar.specs.Token as token
use Rattle.cedar_grammar.specs.Token.{Word, Mark, Token, word, number, text, slot, mark, id_of}
use Rattle.cedar_grammar.specs.Escape.{string_of, pattern_of}
use Rattle.cedar_grammar.specs.Names.{Names, variable_of, slot_id, is_function, are_distinct}
use Rattle.cedar_grammar.specs.Build.{truth, long, trees, Keyed, keys, record_of, unary, compared, is_in, nots, negs, has}
use Rattle.cedar_grammar.specs.Grammar.{Rule, Inner, Ids, one_id, more_ids, EntityRule, entity, Items, Entry, id_entry, text_entry, Primary, true_is, false_is, number_is, text_is, variable_is, slot_is, entity_is, call_is, group_is, list_is, record_is, attribute, call, index, Accesses, no_access, an_access, Member, member, Signs, no_sign, a_sign, IsNumber, Unary, plain, not_is, neg_is, negative_is, Chain, Mul, Relation, alone, compare, has_text, has_ids, like_is, is_type, is_type_in, And, Expr, or_is, if_is, Within}
use Rattle.cedar_grammar.specs.Grammar as grammar
use Rattle.cedar_grammar.specs.Steps.{◌>>=◌, is_mark, eat, eat_in, word_read, signs_of}
use Rattle.cedar_grammar.proofs.Parts.{bind_some, cond_some, is_mark-is, eat-is, eat_in-is}
use Rattle.cedar_grammar.specs.Loose as loose
use Rattle.cedar_grammar.specs.Loose.{ands, relations, adds, mults, unaries, accesses, exprs, rec_inits}
use Rattle.cedar_grammar.specs.LooseReading.{syntax, slot_of, literal_of, Reading, Reader, ◌>>◌, mapped, needed, each_step, each_at, each_of, items_of, links_of, chain_of, or_op, and_op, rel_op, add_op, mult_op, next_word, qualified, name_next, name_at, name_of, ref_init_of, ref_rest, ref_of, rec_init_of, primary_of, begins_access, access_of, member_of, bangs, dashes, after_dashes, after_bangs, unary_of, mult_of, add_of, is_step, relation_step, relation_of, and_of, or_of, choice_of, expr_of, expr_at}
use Rattle.cedar_grammar.specs.Converting as converting
use Rattle.cedar_grammar.specs.Converting.{each, named_slot, ident_text, name_path, str_text, ref_entity, literal_tree, name_variable, primary_path, primary_key, primary_text, primary_raw, lone_member, lone_primary, fields, member_fields, lone_number, product, negated, signed, Head, a_tree, a_name, an_attribute, head_tree, called, record_tree, expr_tree, or_tree, and_tree, relation_tree, adds_tree, add_tree, mult_tree, unary_tree, member_tree, accesses_tree, access_head, primary_head, exprs_trees, rec_inits_trees, rec_init_tree}
use Rattle.cedar_grammar.proofs.Basics.{bind_ok, needed_ok, cond_ok, ok_pair, mapped_ok, word_read-is, next_word-is, or_join, and_join, add_join, or-joins, and-joins, add-joins, mult-joins, rel-back}
use Rattle.cedar_grammar.proofs.Loops.{Sounds, moved, wrapped-sound, items-sound, chain_tree, chain-sound, links-lone, links-single}
use Rattle.cedar_grammar.proofs.Equations.{or-chain, and-chain, add-chain, mult-chain, exprs-each, rec_inits-each}
use Rattle.cedar_grammar.proofs.Lone.{lone_member-is, lone_primary-is, member-lone, sum-lone, choice-if, alone-read, Told, told}
use Rattle.cedar_grammar.proofs.Rests.{rest-length, Leaves, access-after, access-leaves, each_at-leaves, expr_at-leaves}

-- ---- names

one_less : (x : Option Text) (o : Option (List Text)) (q : Option Text) (p : List Text) → ((x >>= λ y. o >>= λ ys. Some (y ∷ ys)) >>= λ a. q >>= λ b. Some (a ++ (b ∷ []))) ≡ Some p → (s : Text) × (r : List Text) × (x ≡ Some s) × ((o >>= λ a. q >>= λ b. Some (a ++ (b ∷ []))) ≡ Some r) × (s ∷ r ≡ p)
one_less None o q p e = absurd (cc e)
one_less (Some x) None q p e = absurd (cc e)
one_less (Some x) (Some a) None p e = absurd (cc e)
one_less (Some x) (Some a) (Some b) p e = (x, a ++ (b ∷ []), refl, refl, cc e)

unqualified : (w : Word) (n : loose.Name) (p : List Text) → name_path (qualified w n) ≡ Some p → (s : Text) × (r : List Text) × (id_of w ≡ Some s) × (name_path n ≡ Some r) × (s ∷ r ≡ p)
unqualified w loose.missing_name p e = absurd (cc e)
unqualified w (loose.name is i) p e = one_less (id_of w) (each ident_text is) (ident_text i) p e

name_next-sound : (n : ℕ) → ((ts : List Token) (x : loose.Name) (p : List Text) (rest : List Token) → name_at n ts ≡ Ok (x, rest) → name_path x ≡ Some p → Ids token.ColonColon ts p rest)
    → (ts : List Token) (w : Word) (us : List Token) (x : loose.Name) (p : List Text) (rest : List Token) (o : Option (List Token)) → ts ≡ word w ∷ us → next_word us ≡ o → name_next (name_at n) w us o ≡ Ok (x, rest) → name_path x ≡ Some p → Ids token.ColonColon ts p rest
name_next-sound n ih ts w us x p rest None e f g h =
    let v = ok_pair g in
    let one = bind_some (id_of w) (λ s. Some (s ∷ [])) (ap name_path v.0 ∙ h) in
    let same : one.0 ∷ [] ≡ p = cc one.2 in
    rw e (moved (Ids token.ColonColon) (word w ∷ us) us rest (one.0 ∷ []) p same v.1 (one_id one.1))
name_next-sound n ih ts w us x p rest (Some vs) e f g h =
    let m = mapped_ok (qualified w) (name_at n vs) g in
    let q = unqualified w m.0 p (ap name_path m.2 ∙ h) in
    rw (e, next_word-is us vs f, ← q.4) (more_ids q.2 (ih vs m.0 q.1 rest m.1 q.3))

name_at-sound : (n : ℕ) (ts : List Token) (x : loose.Name) (p : List Text) (rest : List Token) → name_at n ts ≡ Ok (x, rest) → name_path x ≡ Some p → Ids token.ColonColon ts p rest
unfolding name_at
name_at-sound zero ts x p rest e h = absurd (cc e)
name_at-sound (suc n) ts x p rest e h =
    let one = bind_ok (needed (word_read ts)) (λ w. name_next (name_at n) w.0 w.1 (next_word w.1)) e in
    name_next-sound n (name_at-sound n) ts one.0.0 one.0.1 x p rest (next_word one.0.1) (word_read-is ts one.0.1 one.0.0 (needed_ok (word_read ts) one.1)) refl one.2 h

pub name-sound : Sounds (Ids token.ColonColon) name_of name_path
unfolding name_of
name-sound ts x p rest e h = name_at-sound (suc (length ts)) ts x p rest e h

-- a name of one identifier
one-qualified : (w : Word) (n : loose.Name) (i : loose.Ident) → qualified w n ≡ loose.name [] i → ⊥
one-qualified w loose.missing_name i e = cc e
one-qualified w (loose.name is j) i e = let none : loose.ident w ∷ is ≡ [] = cc e in cc none

pub one-word : (ts : List Token) (i : loose.Ident) (rest : List Token) → name_of ts ≡ Ok (loose.name [] i, rest) → (w : Word) × (loose.ident w ≡ i) × (ts ≡ word w ∷ rest)
unfolding name_of name_at
one-word ts i rest e =
    let one = bind_ok (needed (word_read ts)) (λ w. name_next (name_at (length ts)) w.0 w.1 (next_word w.1)) e in
    by one.0.0 one.0.1 (next_word one.0.1) (word_read-is ts one.0.1 one.0.0 (needed_ok (word_read ts) one.1)) one.2
  where
    by : (w : Word) (us : List Token) (o : Option (List Token)) → ts ≡ word w ∷ us → name_next (name_at (length ts)) w us o ≡ Ok (loose.name [] i, rest) → (v : Word) × (loose.ident v ≡ i) × (ts ≡ word v ∷ rest)
    by w us None f g = let v = ok_pair g in let same : loose.ident w ≡ i = cc v.0 in (w, same, f ∙ ap (λ r. word w ∷ r) v.1)
    by w us (Some vs) f g = let m = mapped_ok (qualified w) (name_at (length ts) vs) g in absurd (one-qualified w m.0 i m.2)

ref_rest-sound : (ts : List Token) (n : loose.Name) (us : List Token) (vs : List Token) (r : loose.Ref) (u : Uid) (rest : List Token) → name_of ts ≡ Ok (n, us) → us ≡ mark token.ColonColon ∷ vs → ref_rest n vs ≡ Ok (r, rest) → ref_entity r ≡ Some u → EntityRule ts u rest
unfolding ref_rest
ref_rest-sound ts n us [] r u rest e f g h = absurd (cc g)
ref_rest-sound ts n us (text raw ∷ vs) r u rest e f g h =
    let v = ok_pair g in
    let one = bind_some (name_path n) (λ p. string_of raw >>= λ t. Some (record { type_name = p; id = t })) (ap ref_entity v.0 ∙ h) in
    let two = bind_some (string_of raw) (λ t. Some (record { type_name = one.0; id = t })) one.2 in
    let same : record { type_name = one.0; id = two.0 } ≡ u = cc two.2 in
    let path = name-sound ts n one.0 us e one.1 in
    let at : us ≡ mark token.ColonColon ∷ text raw ∷ rest = f ∙ ap (λ q. mark token.ColonColon ∷ text raw ∷ q) v.1 in
    moved EntityRule ts rest rest (record { type_name = one.0; id = two.0 }) u same refl (entity one.0 raw (subst (λ q. Ids token.ColonColon ts one.0 q) at path) two.1)
ref_rest-sound ts n us (mark token.LeftBrace ∷ vs) r u rest e f g h =
    let m = mapped_ok (loose.ref n) (items_of token.RightBrace ref_init_of vs) g in
    absurd (cc (ap ref_entity m.2 ∙ h))
ref_rest-sound ts n us (t ∷ vs) r u rest e f g h = absurd (cc g)

pub ref-sound : Sounds EntityRule ref_of ref_entity
unfolding ref_of
ref-sound ts r u rest e h =
    let one = bind_ok (name_of ts) (λ p. needed (eat token.ColonColon p.1) >> λ us. ref_rest p.0 us) e in
    let two = bind_ok (needed (eat token.ColonColon one.0.1)) (λ us. ref_rest one.0.0 us) one.2 in
    ref_rest-sound ts one.0.0 one.0.1 two.0 r u rest one.1 (eat-is token.ColonColon one.0.1 two.0 (needed_ok (eat token.ColonColon one.0.1) two.1)) two.2 h

-- ---- what stands alone

text-told : (inner : Reader loose.Expr) (p : loose.Primary) (ts rest : List Token) (s : Text) → Told inner p ts rest → primary_text p ≡ Some s → (raw : List ℕ) × (ts ≡ text raw ∷ rest) × (string_of raw ≡ Some s)
text-told inner (loose.literal (loose.str (loose.string raw))) ts rest s d e = (raw, d, e)
text-told inner p ts rest s d e = absurd (cc e)

raw-told : (inner : Reader loose.Expr) (p : loose.Primary) (ts rest : List Token) (raw : List ℕ) → Told inner p ts rest → primary_raw p ≡ Some raw → ts ≡ text raw ∷ rest
raw-told inner (loose.literal (loose.str (loose.string q))) ts rest raw d e = let same : q ≡ raw = cc e in d ∙ ap (λ x. text x ∷ rest) same
raw-told inner p ts rest raw d e = absurd (cc e)

pub path-told : (inner : Reader loose.Expr) (p : loose.Primary) (ts rest : List Token) (q : Name) → Told inner p ts rest → primary_path p ≡ Some q → Ids token.ColonColon ts q rest
path-told inner (loose.named n) ts rest q d e = name-sound ts n q rest d e
path-told inner p ts rest q d e = absurd (cc e)

abbrev KeyAt : List Token → List Token → Text → Type 0
KeyAt ts rest k = ((w : Word) × (ts ≡ word w ∷ rest) × (id_of w ≡ Some k)) ⊎ ((raw : List ℕ) × (ts ≡ text raw ∷ rest) × (string_of raw ≡ Some k))

ident-at : (w : Word) (i : loose.Ident) (k : Text) → loose.ident w ≡ i → ident_text i ≡ Some k → id_of w ≡ Some k
ident-at w i k e f = ap ident_text e ∙ f

key-told : (inner : Reader loose.Expr) (p : loose.Primary) (ts rest : List Token) (k : Text) → Told inner p ts rest → primary_key p ≡ Some k → KeyAt ts rest k
key-told inner (loose.named (loose.name [] i)) ts rest k d e = let o = one-word ts i rest d in inl (o.0, o.2, ident-at o.0 i k o.1 e)
key-told inner (loose.literal (loose.str (loose.string raw))) ts rest k d e = inr (raw, d, e)
key-told inner p ts rest k d e = absurd (cc e)

module _ (rd : Reader loose.Expr) where
  -- a primary alone where a sum is read
  pub sum-told : (us : List Token) (t : loose.Add) (p : loose.Primary) (rest : List Token) → add_of rd us ≡ Ok (t, rest) → lone_primary t ≡ Some p → Told rd p us rest
  sum-told us t p rest e f = let m = loose.member p loose.no_accesses in told rd us p rest (member-lone rd us p rest (sum-lone rd us m rest (e ∙ ap (λ x. Ok (x, rest)) (lone_primary-is t p f))))

-- ---- signs

signs-sound : (m : Mark) (ts : List Token) → Signs m (signs_of m ts).0 ts (signs_of m ts).1
unfolding signs_of
signs-sound m [] = no_sign
signs-sound m (t ∷ ts) = by (signs-sound m ts) (is_mark m t) refl
  where
    by : Signs m (signs_of m ts).0 ts (signs_of m ts).1 → (b : Bool) → is_mark m t ≡ b → Signs m (signs_of m (t ∷ ts)).0 (t ∷ ts) (signs_of m (t ∷ ts)).1
    by d true e = rw (e, signs_of) (rw (is_mark-is m t e) (a_sign d))
    by d false e = rw (e, signs_of) no_sign

lone_number-is : (m : loose.Member) (v : ℕ) → lone_number m ≡ Some v → m ≡ loose.member (loose.literal (loose.num v)) loose.no_accesses
lone_number-is (loose.member (loose.literal (loose.num n)) loose.no_accesses) v e = let same : n ≡ v = cc e in ap (λ x. loose.member (loose.literal (loose.num x)) loose.no_accesses) same
lone_number-is m v e = absurd (cc e)

-- the word of a slot
slot-at : (w : Word) (s : SlotId) → named_slot (slot_of w) ≡ Some s → slot_id w ≡ Some s
slot-at token.Principal s e = e
slot-at token.Resource s e = e
slot-at w s e = absurd (cc e)

-- ---- the rules over the expressions inside

module _ (names : Names) (levels : ℕ) (expr : Rule Tree) (rd : Reader loose.Expr) (s : Sounds expr rd (expr_tree names)) (leaves : Leaves rd) (live : (ts : List Token) (x : loose.Expr × List Token) → rd ts ≡ Ok x → 0 < levels)
    (tells : (ts : List Token) (e : loose.Expr) (p : loose.Primary) (rest : List Token) → rd ts ≡ Ok (e, rest) → converting.alone e ≡ Some p → (inner : Reader loose.Expr) × (primary_of inner ts ≡ Ok (p, rest))) where
  abbrev i : Inner
  i = record { names = names; levels = levels; expr = expr }

  alone-told : (ts : List Token) (e : loose.Expr) (p : loose.Primary) (rest : List Token) → rd ts ≡ Ok (e, rest) → converting.alone e ≡ Some p → (inner : Reader loose.Expr) × Told inner p ts rest
  alone-told ts e p rest f g = let t = tells ts e p rest f g in (t.0, told t.0 ts p rest t.1)

  exprs-sound : (close : Mark) (ts : List Token) (bs : List loose.Expr) (es : loose.Exprs) (xs : List Tree) (rest : List Token) → items_of close rd ts ≡ Ok (bs, rest) → exprs bs ≡ es → exprs_trees names es ≡ Some xs → Items close expr ts xs rest
  exprs-sound close ts bs es xs rest e f g = items-sound close expr rd (expr_tree names) s ts bs xs rest e (sym (exprs-each names bs) ∙ ap (exprs_trees names) f ∙ g)

  entry-sound : Sounds (Entry expr) (rec_init_of rd) (rec_init_tree names)
  unfolding rec_init_of rec_init_tree
  entry-sound ts r x rest e h =
      let one = bind_ok (rd ts) (λ k. needed (eat token.Colon k.1) >> λ us. mapped (loose.rec_init k.0) (rd us)) e in
      let two = bind_ok (needed (eat token.Colon one.0.1)) (λ us. mapped (loose.rec_init one.0.0) (rd us)) one.2 in
      let three = mapped_ok (loose.rec_init one.0.0) (rd two.0) two.2 in
      let four = bind_some (converting.alone one.0.0 >>= primary_key) (λ k. expr_tree names three.0 >>= λ t. Some ((k, t))) (ap (rec_init_tree names) three.2 ∙ h) in
      let five = bind_some (expr_tree names three.0) (λ t. Some ((four.0, t))) four.2 in
      let six = bind_some (converting.alone one.0.0) primary_key four.1 in
      let front = one.1 ∙ ap (λ q. Ok (one.0.0, q)) (eat-is token.Colon one.0.1 two.0 (needed_ok (eat token.Colon one.0.1) two.1)) in
      let key = alone-told ts one.0.0 six.0 (mark token.Colon ∷ two.0) front six.1 in
      let same : ◌≡◌ {A = Keyed Tree} (four.0, five.0) x = cc five.2 in
      moved (Entry expr) ts rest rest (four.0, five.0) x same refl (by ts two.0 four.0 five.0 (key-told key.0 six.0 ts (mark token.Colon ∷ two.0) four.0 key.1 six.2) (s two.0 three.0 five.0 rest three.1 five.1))
    where
      by : (ts us : List Token) (k : Text) (t : Tree) → KeyAt ts (mark token.Colon ∷ us) k → expr us t rest → Entry expr ts (k, t) rest
      by ts us k t (inl y) d = rw y.1 (id_entry y.2 d)
      by ts us k t (inr y) d = rw y.1 (text_entry y.2 d)

  rec_inits-sound : (ts : List Token) (bs : List loose.RecInit) (rs : loose.RecInits) (es : List (Keyed Tree)) (rest : List Token) → items_of token.RightBrace (rec_init_of rd) ts ≡ Ok (bs, rest) → rec_inits bs ≡ rs → rec_inits_trees names rs ≡ Some es → Items token.RightBrace (Entry expr) ts es rest
  rec_inits-sound ts bs rs es rest e f g = items-sound token.RightBrace (Entry expr) (rec_init_of rd) (rec_init_tree names) entry-sound ts bs es rest e (sym (rec_inits-each names bs) ∙ ap (rec_inits_trees names) f ∙ g)

  -- ---- members

  -- what the strict grammar has of the tokens up to where the head has come
  abbrev Stands : List Token → Head → List Token → Type 0
  Stands ts (a_tree a) us = (t : Tree) (rest : List Token) → Accesses i a us t rest → Member i ts t rest
  Stands ts (a_name n) us = name_of ts ≡ Ok (n, us)
  Stands ts (an_attribute a x) us = (w : Word) × (id_of w ≡ Some x) × ((t : Tree) (rest : List Token) → Accesses i a (mark token.Dot ∷ word w ∷ us) t rest → Member i ts t rest)

  -- what it has of the tokens of a primary
  abbrev At : List Token → Head → List Token → Type 0
  At ts (a_tree a) us = Primary i ts a us
  At ts (a_name n) us = name_of ts ≡ Ok (n, us)
  At ts (an_attribute a x) us = ⊥

  at-stands : (ts us : List Token) (h : Head) → At ts h us → Stands ts h us
  at-stands ts us (a_tree a) d = λ t rest more. member a us d more
  at-stands ts us (a_name n) d = d
  at-stands ts us (an_attribute a x) d = absurd d

  tree-at : (ts us : List Token) (a : Tree) (h : Head) → ◌≡◌ {A = Option Head} (Some (a_tree a)) (Some h) → Primary i ts a us → At ts h us
  tree-at ts us a h e d = let same : a_tree a ≡ h = cc e in subst (λ g. At ts g us) same d

  literal-primary : (ts : List Token) (l : loose.Literal) (a : Tree) (rest : List Token) → Told rd (loose.literal l) ts rest → literal_tree l ≡ Some a → Primary i ts a rest
  literal-primary ts loose.missing_literal a rest d e = absurd (cc e)
  literal-primary ts loose.true_ a rest d e = let same : truth true ≡ a = cc e in rw (d, ← same) true_is
  literal-primary ts loose.false_ a rest d e = let same : truth false ≡ a = cc e in rw (d, ← same) false_is
  literal-primary ts (loose.num n) a rest d e =
      let w = cond_some (nat_lt n (2 ^ 63)) (Some (long (pos n))) e in
      let same : long (pos n) ≡ a = cc w.1 in
      rw (d, ← same) (number_is (ltb-true n (2 ^ 63) w.0))
  literal-primary ts (loose.str (loose.string raw)) a rest d e =
      let one = bind_some (string_of raw) (λ t. Some (Lit (String t))) e in
      let same : Lit (String one.0) ≡ a = cc one.2 in
      rw (d, ← same) (text_is one.1)
  literal-primary ts (loose.str x) a rest d e = absurd (cc e)

  slot-primary : (ts : List Token) (x : loose.Slot) (s : SlotId) (rest : List Token) → Told rd (loose.slot x) ts rest → named_slot x ≡ Some s → Primary i ts (Slot s) rest
  slot-primary ts x s rest d e = rw d.1 (slot_is (slot-at d.0 s (ap named_slot d.2 ∙ e)))

  primary-at : (ts : List Token) (p : loose.Primary) (h : Head) (rest : List Token) → Told rd p ts rest → primary_head names p ≡ Some h → At ts h rest
  unfolding primary_head
  primary-at ts loose.missing_primary h rest d e = absurd (cc e)
  primary-at ts (loose.literal l) h rest d e =
      let one = bind_some (literal_tree l) (λ t. Some (a_tree t)) e in
      tree-at ts rest one.0 h one.2 (literal-primary ts l one.0 rest d one.1)
  primary-at ts (loose.entity r) h rest d e =
      let one = bind_some (ref_entity r) (λ u. Some (a_tree (Lit (Entity u)))) e in
      tree-at ts rest (Lit (Entity one.0)) h one.2 (entity_is (ref-sound ts r one.0 rest d one.1))
  primary-at ts (loose.named n) h rest d e = let same : a_name n ≡ h = cc e in subst (λ g. At ts g rest) same d
  primary-at ts (loose.slot x) h rest d e =
      let one = bind_some (named_slot x) (λ s. Some (a_tree (Slot s))) e in
      tree-at ts rest (Slot one.0) h one.2 (slot-primary ts x one.0 rest d one.1)
  primary-at ts (loose.expr x) h rest d e =
      let one = bind_some (expr_tree names x) (λ t. Some (a_tree t)) e in
      tree-at ts rest one.0 h one.2 (rw d.1 (group_is (s d.0 x one.0 (mark token.RightParen ∷ rest) d.2 one.1)))
  primary-at ts (loose.e_list es) h rest d e =
      let one = bind_some (exprs_trees names es) (λ xs. Some (a_tree (Apply MakeSet (trees xs)))) e in
      tree-at ts rest (Apply MakeSet (trees one.0)) h one.2 (rw d.2 (list_is (exprs-sound token.RightBracket d.0 d.1 es one.0 rest d.3 d.4 one.1)))
  primary-at ts (loose.r_inits rs) h rest d e =
      let one = bind_some (rec_inits_trees names rs) (λ es. record_tree es >>= λ t. Some (a_tree t)) e in
      let two = bind_some (record_tree one.0) (λ t. Some (a_tree t)) one.2 in
      let three = cond_some (are_distinct (keys one.0)) (Some (record_of one.0)) two.1 in
      let same : record_of one.0 ≡ two.0 = cc three.1 in
      tree-at ts rest two.0 h two.2 (rw (d.2, ← same) (record_is (rec_inits-sound d.0 d.1 rs one.0 rest d.3 d.4 one.1) three.0))

  variable-word : (ts : List Token) (n : loose.Name) (us : List Token) (v : Variable) → name_of ts ≡ Ok (n, us) → name_variable n ≡ Some v → Primary i ts (Var v) us
  variable-word ts (loose.name [] (loose.ident w)) us v e f =
      let o = one-word ts (loose.ident w) us e in
      let same : o.0 ≡ w = cc o.1 in
      rw o.2 (variable_is (ap variable_of same ∙ f))
  variable-word ts n us v e f = absurd (cc f)

  -- the head as a tree, and the accesses that follow
  head-stands : (ts : List Token) (h : Head) (us : List Token) (a : Tree) → Stands ts h us → head_tree h ≡ Some a → (t : Tree) (rest : List Token) → Accesses i a us t rest → Member i ts t rest
  head-stands ts (a_tree b) us a d e t rest more = let same : b ≡ a = cc e in d t rest (subst (λ x. Accesses i x us t rest) (sym same) more)
  head-stands ts (a_name n) us a d e t rest more =
      let one = bind_some (name_variable n) (λ v. Some (Var v)) e in
      let same : Var one.0 ≡ a = cc one.2 in
      member a us (subst (λ x. Primary i ts x us) same (variable-word ts n us one.0 d one.1)) more
  head-stands ts (an_attribute b x) us a d e t rest more =
      let same : unary (GetAttr x) b ≡ a = cc e in
      d.2 t rest (an_access (unary (GetAttr x) b) us (attribute d.1) (subst (λ y. Accesses i y us t rest) (sym same) more))

  abbrev AccessTold : loose.MemAccess → List Token → List Token → Type 0
  AccessTold (loose.field j) us vs = (w : Word) × (us ≡ mark token.Dot ∷ word w ∷ vs) × (loose.ident w ≡ j)
  AccessTold (loose.call es) us vs = (qs : List Token) × (bs : List loose.Expr) × (us ≡ mark token.LeftParen ∷ qs) × (items_of token.RightParen rd qs ≡ Ok (bs, vs)) × (exprs bs ≡ es)
  AccessTold (loose.index e) us vs = (qs : List Token) × (us ≡ mark token.LeftBracket ∷ qs) × (rd qs ≡ Ok (e, mark token.RightBracket ∷ vs))
  AccessTold loose.missing_access us vs = Unit {0}

  access-told : (us : List Token) (x : loose.MemAccess) (vs : List Token) → access_of rd us ≡ Ok (x, vs) → AccessTold x us vs
  unfolding access_of
  access-told [] x vs e = absurd (cc e)
  access-told (mark token.Dot ∷ us) x vs e =
      let one = bind_ok (needed (word_read us)) (λ w. Ok (loose.field (loose.ident w.0), w.1)) e in
      let v = ok_pair one.2 in
      subst (λ y. AccessTold y (mark token.Dot ∷ us) vs) v.0 (one.0.0, ap (λ q. mark token.Dot ∷ q) (word_read-is us one.0.1 one.0.0 (needed_ok (word_read us) one.1) ∙ ap (λ q. word one.0.0 ∷ q) v.1), refl)
  access-told (mark token.LeftParen ∷ us) x vs e =
      let m = mapped_ok (λ es. loose.call (exprs es)) (items_of token.RightParen rd us) e in
      subst (λ y. AccessTold y (mark token.LeftParen ∷ us) vs) m.2 (us, m.0, refl, m.1, refl)
  access-told (mark token.LeftBracket ∷ us) x vs e =
      let one = bind_ok (rd us) (λ a. needed (eat token.RightBracket a.1) >> λ qs. Ok (loose.index a.0, qs)) e in
      let two = bind_ok (needed (eat token.RightBracket one.0.1)) (λ qs. Ok (loose.index one.0.0, qs)) one.2 in
      let v = ok_pair two.2 in
      let at = eat-is token.RightBracket one.0.1 two.0 (needed_ok (eat token.RightBracket one.0.1) two.1) ∙ ap (λ q. mark token.RightBracket ∷ q) v.1 in
      subst (λ y. AccessTold y (mark token.LeftBracket ∷ us) vs) v.0 (us, refl, one.1 ∙ ap (λ q. Ok (one.0.0, q)) at)
  access-told (t ∷ us) x vs e = absurd (cc e)

  call-stands : (ts : List Token) (h : Head) (us qs vs : List Token) (xs : List Tree) (a : Tree) → Stands ts h us → us ≡ mark token.LeftParen ∷ qs → Items token.RightParen expr qs xs vs → called names h xs ≡ Some a → Stands ts (a_tree a) vs
  call-stands ts (a_tree b) us qs vs xs a d f its e = absurd (cc e)
  call-stands ts (a_name n) us qs vs xs a d f its e =
      let one = bind_some (name_path n) (λ p. cond (is_function names p) (Some (Apply (Call p) (trees xs))) None) e in
      let two = cond_some (is_function names one.0) (Some (Apply (Call one.0) (trees xs))) one.2 in
      let same : Apply (Call one.0) (trees xs) ≡ a = cc two.1 in
      let path = subst (λ q. Ids token.ColonColon ts one.0 q) f (name-sound ts n one.0 us d one.1) in
      λ t rest more. member a vs (subst (λ x. Primary i ts x vs) same (call_is qs path two.0 its)) more
  call-stands ts (an_attribute b x) us qs vs xs a d f its e =
      λ t rest more. d.2 t rest (an_access a vs (subst (λ q. grammar.Access i b (mark token.Dot ∷ word d.0 ∷ q) a vs) (sym f) (call d.1 its e)) more)

  access-stands : (ts : List Token) (h : Head) (us : List Token) (x : loose.MemAccess) (g : Head) (vs : List Token) → Stands ts h us → AccessTold x us vs → access_head names h x ≡ Some g → Stands ts g vs
  unfolding access_head
  access-stands ts h us loose.missing_access g vs d a e = absurd (cc e)
  access-stands ts h us (loose.field j) g vs d a e =
      let one = bind_some (head_tree h) (λ b. ident_text j >>= λ x. Some (an_attribute b x)) e in
      let two = bind_some (ident_text j) (λ x. Some (an_attribute one.0 x)) one.2 in
      let same : an_attribute one.0 two.0 ≡ g = cc two.2 in
      subst (λ k. Stands ts k vs) same (a.0, ident-at a.0 j two.0 a.2 two.1, λ t rest more. head-stands ts h us one.0 d one.1 t rest (subst (λ q. Accesses i one.0 q t rest) (sym a.1) more))
  access-stands ts h us (loose.call es) g vs d a e =
      let one = bind_some (exprs_trees names es) (λ xs. called names h xs >>= λ t. Some (a_tree t)) e in
      let two = bind_some (called names h one.0) (λ t. Some (a_tree t)) one.2 in
      let same : a_tree two.0 ≡ g = cc two.2 in
      subst (λ k. Stands ts k vs) same (call-stands ts h us a.0 vs one.0 two.0 d a.2 (exprs-sound token.RightParen a.0 a.1 es one.0 vs a.3 a.4 one.1) two.1)
  access-stands ts h us (loose.index x) g vs d a e =
      let one = bind_some (head_tree h) (λ b. converting.alone x >>= primary_text >>= λ q. Some (a_tree (unary (GetAttr q) b))) e in
      let two = bind_some (converting.alone x >>= primary_text) (λ q. Some (a_tree (unary (GetAttr q) one.0))) one.2 in
      let three = bind_some (converting.alone x) primary_text two.1 in
      let same : a_tree (unary (GetAttr two.0) one.0) ≡ g = cc two.2 in
      let p = alone-told a.0 x three.0 (mark token.RightBracket ∷ vs) a.2 three.1 in
      let r = text-told p.0 three.0 a.0 (mark token.RightBracket ∷ vs) two.0 p.1 three.2 in
      let at : us ≡ mark token.LeftBracket ∷ text r.0 ∷ mark token.RightBracket ∷ vs = a.1 ∙ ap (λ q. mark token.LeftBracket ∷ q) r.1 in
      subst (λ k. Stands ts k vs) same (λ t rest more. head-stands ts h us one.0 d one.1 t rest (subst (λ q. Accesses i one.0 q t rest) (sym at) (an_access (unary (GetAttr two.0) one.0) vs (index (live a.0 (x, mark token.RightBracket ∷ vs) a.2) r.2) more)))

  abbrev accesses_from : Head → List loose.MemAccess → Option Tree
  accesses_from h xs = accesses_tree names h (accesses xs)

  abbrev AccessesFrom : ℕ → Type 0
  AccessesFrom n = (ts : List Token) (h : Head) (us : List Token) (xs : List loose.MemAccess) (t : Tree) (rest : List Token) → Stands ts h us → each_at begins_access (access_of rd) n us ≡ Ok (xs, rest) → accesses_from h xs ≡ Some t → Member i ts t rest

  accesses-end : (ts : List Token) (h : Head) (us : List Token) (xs : List loose.MemAccess) (t : Tree) (rest : List Token) → Stands ts h us → ◌≡◌ {A = Reading (List loose.MemAccess)} (Ok ([], us)) (Ok (xs, rest)) → accesses_from h xs ≡ Some t → Member i ts t rest
  unfolding accesses_tree
  accesses-end ts h us xs t rest d e f =
      let v = ok_pair e in
      subst (λ r. Member i ts t r) v.1 (head-stands ts h us t d (ap (accesses_from h) v.0 ∙ f) t us no_access)

  accesses_step-sound : (n : ℕ) → AccessesFrom n → (ts : List Token) (h : Head) (us : List Token) (xs : List loose.MemAccess) (t : Tree) (rest : List Token) (b : Bool) → Stands ts h us → each_step (access_of rd) (each_at begins_access (access_of rd) n) us b ≡ Ok (xs, rest) → accesses_from h xs ≡ Some t → Member i ts t rest
  unfolding accesses_tree
  accesses_step-sound n ih ts h us xs t rest false d e f = accesses-end ts h us xs t rest d e f
  accesses_step-sound n ih ts h us xs t rest true d e f =
      let one = bind_ok (access_of rd us) (λ x. each_at begins_access (access_of rd) n x.1 >> λ ys. Ok (x.0 ∷ ys.0, ys.1)) e in
      let two = bind_ok (each_at begins_access (access_of rd) n one.0.1) (λ ys. Ok (one.0.0 ∷ ys.0, ys.1)) one.2 in
      let v = ok_pair two.2 in
      let three = bind_some (access_head names h one.0.0) (λ g. accesses_tree names g (accesses two.0.0)) (ap (accesses_from h) v.0 ∙ f) in
      subst (λ r. Member i ts t r) v.1 (ih ts three.0 one.0.1 two.0.0 t two.0.1 (access-stands ts h us one.0.0 three.0 one.0.1 d (access-told us one.0.0 one.0.1 one.1) three.1) two.1 three.2)

  accesses-sound : (n : ℕ) → AccessesFrom n
  unfolding each_at
  accesses-sound zero ts h us xs t rest d e f = accesses-end ts h us xs t rest d e f
  accesses-sound (suc n) ts h us xs t rest d e f = accesses_step-sound n (accesses-sound n) ts h us xs t rest (begins_access us) d e f

  pub member-sound : Sounds (Member i) (member_of rd) (member_tree names)
  unfolding member_of each_of member_tree
  member-sound ts m t rest e f =
      let one = bind_ok (primary_of rd ts) (λ p. mapped (λ xs. loose.member p.0 (accesses xs)) (each_of begins_access (access_of rd) p.1)) e in
      let two = mapped_ok (λ xs. loose.member one.0.0 (accesses xs)) (each_of begins_access (access_of rd) one.0.1) one.2 in
      let three = bind_some (primary_head names one.0.0) (λ h. accesses_tree names h (accesses two.0)) (ap (member_tree names) two.2 ∙ f) in
      accesses-sound (suc (length one.0.1)) ts three.0 one.0.1 two.0 t rest (at-stands ts one.0.1 three.0 (primary-at ts one.0.0 three.0 one.0.1 (told rd ts one.0.0 one.0.1 one.1) three.1)) two.1 three.2

  head-primary : (ts : List Token) (h : Head) (a : Tree) (rest : List Token) → At ts h rest → head_tree h ≡ Some a → Primary i ts a rest
  head-primary ts (a_tree b) a rest d e = let same : b ≡ a = cc e in subst (λ x. Primary i ts x rest) same d
  head-primary ts (a_name n) a rest d e =
      let one = bind_some (name_variable n) (λ v. Some (Var v)) e in
      let same : Var one.0 ≡ a = cc one.2 in
      subst (λ x. Primary i ts x rest) same (variable-word ts n rest one.0 d one.1)
  head-primary ts (an_attribute b x) a rest d e = absurd d

  pub primary-sound : Sounds (Primary i) (primary_of rd) (converting.primary_tree names)
  primary-sound ts p a rest e f =
      let one = bind_some (primary_head names p) head_tree f in
      head-primary ts one.0 a rest (primary-at ts p one.0 rest (told rd ts p rest e) one.1) one.2

  -- ---- signs

  -- an access takes a token
  step-takes : (n : ℕ) (ts : List Token) (b : Bool) (x : loose.MemAccess) (xs : List loose.MemAccess) (rest : List Token) → each_step (access_of rd) (each_at begins_access (access_of rd) n) ts b ≡ Ok (x ∷ xs, rest) → length rest < length ts
  step-takes n ts false x xs rest e = absurd (cc (ok_pair e).0)
  step-takes n ts true x xs rest e =
      let one = bind_ok (access_of rd ts) (λ y. each_at begins_access (access_of rd) n y.1 >> λ ys. Ok (y.0 ∷ ys.0, ys.1)) e in
      let two = bind_ok (each_at begins_access (access_of rd) n one.0.1) (λ ys. Ok (one.0.0 ∷ ys.0, ys.1)) one.2 in
      let v = ok_pair two.2 in
      let first = access-after rd leaves ts one.0.0 one.0.1 one.1 in
      let short = rest-length one.0.1 first.1 first.3 in
      let more = rest-length two.0.1 one.0.1 (each_at-leaves (access_of rd) (access-leaves rd leaves) begins_access n one.0.1 two.0.0 two.0.1 two.1) in
      let whole : length ts ≡ suc (length first.1) = ap length first.2 in
      let same : length two.0.1 ≡ length rest = ap length v.1 in
      omega arith

  accesses-take : (ts : List Token) (x : loose.MemAccess) (xs : List loose.MemAccess) (rest : List Token) → each_of begins_access (access_of rd) ts ≡ Ok (x ∷ xs, rest) → length rest < length ts
  unfolding each_of each_at
  accesses-take ts x xs rest e = step-takes (length ts) ts (begins_access ts) x xs rest e

  number-primary : (v : ℕ) (us : List Token) (p : loose.Primary) (rest : List Token) → primary_of rd (number v ∷ us) ≡ Ok (p, rest) → (loose.literal (loose.num v) ≡ p) × (us ≡ rest)
  unfolding primary_of literal_of
  number-primary v us p rest e =
      let m = mapped_ok loose.literal (literal_of (number v ∷ us)) e in
      let w = ok_pair (cond_ok (nat_lt v (2 ^ 64)) (Ok (loose.num v, us)) syntax m.1).1 in
      (ap loose.literal w.0 ∙ m.2, w.1)

  number-member : (v : ℕ) (m : loose.Member) (rest : List Token) → member_of rd (number v ∷ rest) ≡ Ok (m, rest) → lone_number m ≡ Some v
  unfolding member_of
  number-member v m rest e =
      let one = bind_ok (primary_of rd (number v ∷ rest)) (λ p. mapped (λ xs. loose.member p.0 (accesses xs)) (each_of begins_access (access_of rd) p.1)) e in
      let two = mapped_ok (λ xs. loose.member one.0.0 (accesses xs)) (each_of begins_access (access_of rd) one.0.1) one.2 in
      let p = number-primary v rest one.0.0 one.0.1 one.1 in
      by two.0 (ap (each_of begins_access (access_of rd)) p.1 ∙ two.1) (ap (λ q. loose.member q (accesses two.0)) p.0 ∙ two.2)
    where
      by : (xs : List loose.MemAccess) → each_of begins_access (access_of rd) rest ≡ Ok (xs, rest) → loose.member (loose.literal (loose.num v)) (accesses xs) ≡ m → lone_number m ≡ Some v
      by [] f g = ap lone_number (sym g)
      by (x ∷ xs) f g = let fewer = accesses-take rest x xs rest f in absurd (omega arith)

  neg-sound : (n : ℕ) (ts mid : List Token) (m : loose.Member) (t : Tree) (rest : List Token) (o : Option ℕ) → n < 4 → Signs token.Minus (suc n) ts mid → member_of rd mid ≡ Ok (m, rest) → lone_number m ≡ o → negated (suc n) o (member_tree names m) ≡ Some t → Unary i ts t rest
  neg-sound n ts mid m t rest None lt d e f g =
      let one = bind_some (member_tree names m) (λ x. Some (negs (suc n) x)) g in
      let same : negs (suc n) one.0 ≡ t = cc one.2 in
      subst (λ x. Unary i ts x rest) same (neg_is n mid lt d (member-sound mid m one.0 rest e one.1) (λ x. cc (sym f ∙ number-member x.0 m rest (ap (member_of rd) (sym x.1) ∙ e))))
  neg-sound n ts mid m t rest (Some v) lt d e f g =
      let w = cond_some (nat_le v (2 ^ 63)) (Some (negs n (long (neg_ℤ (pos v))))) g in
      let same : negs n (long (neg_ℤ (pos v))) ≡ t = cc w.1 in
      let at : mid ≡ number v ∷ rest = told rd mid (loose.literal (loose.num v)) rest (member-lone rd mid (loose.literal (loose.num v)) rest (e ∙ ap (λ x. Ok (x, rest)) (lone_number-is m v f))) in
      subst (λ x. Unary i ts x rest) same (negative_is n v lt (leb-true v (2 ^ 63) w.0) (subst (λ q. Signs token.Minus (suc n) ts q) at d))

  dashes-sound : (n : ℕ) (ts mid : List Token) (m : loose.Member) (t : Tree) (rest : List Token) (b : Bool) → nat_lt n 4 ≡ b → Signs token.Minus (suc n) ts mid → member_of rd mid ≡ Ok (m, rest) → signed (Some (cond b (loose.dash (suc n)) loose.over_dash)) (lone_number m) (member_tree names m) ≡ Some t → Unary i ts t rest
  dashes-sound n ts mid m t rest true f d e g = neg-sound n ts mid m t rest (lone_number m) (ltb-true n 4 f) d e refl g
  dashes-sound n ts mid m t rest false f d e g = absurd (cc g)

  bangs-sound : (n : ℕ) (ts mid : List Token) (m : loose.Member) (t : Tree) (rest : List Token) (b : Bool) → nat_lt n 4 ≡ b → Signs token.Bang (suc n) ts mid → member_of rd mid ≡ Ok (m, rest) → signed (Some (cond b (loose.bang (suc n)) loose.over_bang)) (lone_number m) (member_tree names m) ≡ Some t → Unary i ts t rest
  bangs-sound n ts mid m t rest true f d e g =
      let one = bind_some (member_tree names m) (λ x. Some (nots (suc n) x)) g in
      let same : nots (suc n) one.0 ≡ t = cc one.2 in
      subst (λ x. Unary i ts x rest) same (not_is n mid (ltb-true n 4 f) d (member-sound mid m one.0 rest e one.1))
  bangs-sound n ts mid m t rest false f d e g = absurd (cc g)

  after_dashes-sound : (ts : List Token) (n : ℕ) (mid : List Token) (u : loose.Unary) (t : Tree) (rest : List Token) → Signs token.Minus n ts mid → after_dashes (member_of rd) ts n mid ≡ Ok (u, rest) → unary_tree names u ≡ Some t → Unary i ts t rest
  unfolding unary_tree
  after_dashes-sound ts zero mid u t rest d e f = let m = mapped_ok (loose.unary None) (member_of rd ts) e in plain (member-sound ts m.0 t rest m.1 (ap (unary_tree names) m.2 ∙ f))
  after_dashes-sound ts (suc n) mid u t rest d e f = let m = mapped_ok (loose.unary (Some (dashes n))) (member_of rd mid) e in dashes-sound n ts mid m.0 t rest (nat_lt n 4) refl d m.1 (ap (unary_tree names) m.2 ∙ f)

  after_bangs-sound : (ts : List Token) (n : ℕ) (mid : List Token) (u : loose.Unary) (t : Tree) (rest : List Token) → Signs token.Bang n ts mid → after_bangs (member_of rd) ts n mid ≡ Ok (u, rest) → unary_tree names u ≡ Some t → Unary i ts t rest
  unfolding unary_tree
  after_bangs-sound ts zero mid u t rest d e f = after_dashes-sound ts (signs_of token.Minus ts).0 (signs_of token.Minus ts).1 u t rest (signs-sound token.Minus ts) e f
  after_bangs-sound ts (suc n) mid u t rest d e f = let m = mapped_ok (loose.unary (Some (bangs n))) (member_of rd mid) e in bangs-sound n ts mid m.0 t rest (nat_lt n 4) refl d m.1 (ap (unary_tree names) m.2 ∙ f)

  unary-sound : Sounds (Unary i) (unary_of rd) (unary_tree names)
  unfolding unary_of
  unary-sound ts u t rest e f = after_bangs-sound ts (signs_of token.Bang ts).0 (signs_of token.Bang ts).1 u t rest (signs-sound token.Bang ts) e f

  -- ---- operators

  mult-sound : Sounds (Mul i) (mult_of rd) (mult_tree names)
  unfolding mult_of
  mult-sound = wrapped-sound (Mul i) (chain_of mult_op (unary_of rd)) (chain_tree (unary_tree names) product) (λ x. loose.mult x.0 (unaries x.1)) (mult_tree names) (mult-chain names) (chain-sound 5 (Unary i) mult_op (unary_of rd) (unary_tree names) product unary-sound mult-joins)

  pub add-sound : Sounds (Chain 4 (Mul i)) (add_of rd) (add_tree names)
  unfolding add_of
  add-sound = wrapped-sound (Chain 4 (Mul i)) (chain_of add_op (mult_of rd)) (chain_tree (mult_tree names) add_join) (λ x. loose.add x.0 (mults x.1)) (add_tree names) (add-chain names) (chain-sound 4 (Mul i) add_op (mult_of rd) (mult_tree names) add_join mult-sound add-joins)

  abbrev DotsFrom : ℕ → Type 0
  DotsFrom n = (w : Word) (x : Text) (us : List Token) (xs : List loose.MemAccess) (q : List Text) (rest : List Token) → id_of w ≡ Some x → each_at begins_access (access_of rd) n us ≡ Ok (xs, rest) → fields (accesses xs) ≡ Some q → Ids token.Dot (word w ∷ us) (x ∷ q) rest

  dots-end : (w : Word) (x : Text) (us : List Token) (xs : List loose.MemAccess) (q : List Text) (rest : List Token) → id_of w ≡ Some x → ◌≡◌ {A = Reading (List loose.MemAccess)} (Ok ([], us)) (Ok (xs, rest)) → fields (accesses xs) ≡ Some q → Ids token.Dot (word w ∷ us) (x ∷ q) rest
  dots-end w x us xs q rest e f g =
      let v = ok_pair f in
      let none : [] ≡ q = cc (ap (λ ys. fields (accesses ys)) v.0 ∙ g) in
      moved (Ids token.Dot) (word w ∷ us) us rest (x ∷ []) (x ∷ q) (ap (λ y. x ∷ y) none) v.1 (one_id e)

  dot-sound : (n : ℕ) → DotsFrom n → (w : Word) (x : Text) (us vs : List Token) (y : loose.MemAccess) (ys : List loose.MemAccess) (q : List Text) (rest : List Token) → id_of w ≡ Some x → AccessTold y us vs → each_at begins_access (access_of rd) n vs ≡ Ok (ys, rest) → fields (loose.an_access y (accesses ys)) ≡ Some q → Ids token.Dot (word w ∷ us) (x ∷ q) rest
  dot-sound n ih w x us vs (loose.field j) ys q rest e a f g =
      let one = bind_some (ident_text j) (λ z. fields (accesses ys) >>= λ zs. Some (z ∷ zs)) g in
      let two = bind_some (fields (accesses ys)) (λ zs. Some (one.0 ∷ zs)) one.2 in
      let same : one.0 ∷ two.0 ≡ q = cc two.2 in
      rw (a.1, ← same) (more_ids e (ih a.0 one.0 vs ys two.0 rest (ident-at a.0 j one.0 a.2 one.1) f two.1))
  dot-sound n ih w x us vs y ys q rest e a f g = absurd (cc g)

  dots_step-sound : (n : ℕ) → DotsFrom n → (w : Word) (x : Text) (us : List Token) (xs : List loose.MemAccess) (q : List Text) (rest : List Token) (b : Bool) → id_of w ≡ Some x → each_step (access_of rd) (each_at begins_access (access_of rd) n) us b ≡ Ok (xs, rest) → fields (accesses xs) ≡ Some q → Ids token.Dot (word w ∷ us) (x ∷ q) rest
  dots_step-sound n ih w x us xs q rest false e f g = dots-end w x us xs q rest e f g
  dots_step-sound n ih w x us xs q rest true e f g =
      let one = bind_ok (access_of rd us) (λ y. each_at begins_access (access_of rd) n y.1 >> λ ys. Ok (y.0 ∷ ys.0, ys.1)) f in
      let two = bind_ok (each_at begins_access (access_of rd) n one.0.1) (λ ys. Ok (one.0.0 ∷ ys.0, ys.1)) one.2 in
      let v = ok_pair two.2 in
      subst (λ r. Ids token.Dot (word w ∷ us) (x ∷ q) r) v.1 (dot-sound n ih w x us one.0.1 one.0.0 two.0.0 q two.0.1 e (access-told us one.0.0 one.0.1 one.1) two.1 (ap (λ ys. fields (accesses ys)) v.0 ∙ g))

  dots-sound : (n : ℕ) → DotsFrom n
  unfolding each_at
  dots-sound zero w x us xs q rest e f g = dots-end w x us xs q rest e f g
  dots-sound (suc n) w x us xs q rest e f g = dots_step-sound n (dots-sound n) w x us xs q rest (begins_access us) e f g

  named-dots : (us : List Token) (j : loose.Ident) (xs : loose.Accesses) (x : Text) (q : List Text) (rest : List Token) → member_of rd us ≡ Ok (loose.member (loose.named (loose.name [] j)) xs, rest) → ident_text j ≡ Some x → fields xs ≡ Some q → Ids token.Dot us (x ∷ q) rest
  unfolding member_of each_of
  named-dots us j xs x q rest e f g =
      let one = bind_ok (primary_of rd us) (λ p. mapped (λ ys. loose.member p.0 (accesses ys)) (each_of begins_access (access_of rd) p.1)) e in
      let two = mapped_ok (λ ys. loose.member one.0.0 (accesses ys)) (each_of begins_access (access_of rd) one.0.1) one.2 in
      let first : one.0.0 ≡ loose.named (loose.name [] j) = cc two.2 in
      let more : accesses two.0 ≡ xs = cc two.2 in
      let o = one-word us j one.0.1 (subst (λ p. Told rd p us one.0.1) first (told rd us one.0.0 one.0.1 one.1)) in
      subst (λ ts. Ids token.Dot ts (x ∷ q) rest) (sym o.2) (dots-sound (suc (length one.0.1)) o.0 x one.0.1 two.0 q rest (ident-at o.0 j x o.1 f) two.1 (ap fields more ∙ g))

  fields-sound : (ts : List Token) (a : Tree) (us : List Token) (m : loose.Member) (q : List Text) (rest : List Token) → Chain 4 (Mul i) ts a (word token.Has ∷ us) → member_of rd us ≡ Ok (m, rest) → member_fields m ≡ Some q → Relation i ts (has q a) rest
  fields-sound ts a us (loose.member (loose.named (loose.name [] j)) xs) q rest d e g =
      let one = bind_some (ident_text j) (λ z. fields xs >>= λ zs. Some (z ∷ zs)) g in
      let two = bind_some (fields xs) (λ zs. Some (one.0 ∷ zs)) one.2 in
      let same : one.0 ∷ two.0 ≡ q = cc two.2 in
      subst (λ z. Relation i ts (has z a) rest) same (has_ids a (one.0 ∷ two.0) us d (named-dots us j xs one.0 two.0 rest e one.1 two.1))
  fields-sound ts a us (loose.member p loose.no_accesses) q rest d e g =
      let one = bind_some (primary_text p) (λ x. Some (x ∷ [])) g in
      let same : one.0 ∷ [] ≡ q = cc one.2 in
      let r = text-told rd p us rest one.0 (told rd us p rest (member-lone rd us p rest e)) one.1 in
      subst (λ z. Relation i ts (has z a) rest) same (has_text a r.0 (subst (λ z. Chain 4 (Mul i) ts a (word token.Has ∷ z)) r.1 d) r.2)
  fields-sound ts a us m q rest d e g = absurd (cc g)

  has-sound : (ts us : List Token) (a f : loose.Add) (t : Tree) (rest : List Token) → add_of rd ts ≡ Ok (a, word token.Has ∷ us) → add_of rd us ≡ Ok (f, rest) → relation_tree names (loose.has a f) ≡ Some t → Relation i ts t rest
  unfolding relation_tree
  has-sound ts us a f t rest d e g =
      let one = bind_some (add_tree names a) (λ x. lone_member f >>= member_fields >>= λ q. Some (has q x)) g in
      let two = bind_some (lone_member f >>= member_fields) (λ q. Some (has q one.0)) one.2 in
      let three = bind_some (lone_member f) member_fields two.1 in
      let same : has two.0 one.0 ≡ t = cc two.2 in
      let m = sum-lone rd us three.0 rest (e ∙ ap (λ x. Ok (x, rest)) (lone_member-is f three.0 three.1)) in
      subst (λ x. Relation i ts x rest) same (fields-sound ts one.0 us three.0 two.0 rest (add-sound ts a one.0 (word token.Has ∷ us) d one.1) m three.2)

  like-sound : (ts us : List Token) (a f : loose.Add) (t : Tree) (rest : List Token) → add_of rd ts ≡ Ok (a, word token.Like ∷ us) → add_of rd us ≡ Ok (f, rest) → relation_tree names (loose.like a f) ≡ Some t → Relation i ts t rest
  unfolding relation_tree
  like-sound ts us a f t rest d e g =
      let one = bind_some (add_tree names a) (λ x. lone_primary f >>= primary_raw >>= pattern_of >>= λ q. Some (unary (Like q) x)) g in
      let two = bind_some (lone_primary f >>= primary_raw >>= pattern_of) (λ q. Some (unary (Like q) one.0)) one.2 in
      let three = bind_some (lone_primary f >>= primary_raw) pattern_of two.1 in
      let four = bind_some (lone_primary f) primary_raw three.1 in
      let same : unary (Like two.0) one.0 ≡ t = cc two.2 in
      let at = raw-told rd four.0 us rest three.0 (sum-told rd us f four.0 rest e four.1) four.2 in
      subst (λ x. Relation i ts x rest) same (like_is one.0 three.0 (subst (λ z. Chain 4 (Mul i) ts one.0 (word token.Like ∷ z)) at (add-sound ts a one.0 (word token.Like ∷ us) d one.1)) three.2)

  type-sound : (ts us : List Token) (a f : loose.Add) (t : Tree) (rest : List Token) → add_of rd ts ≡ Ok (a, word token.Is ∷ us) → add_of rd us ≡ Ok (f, rest) → relation_tree names (loose.is_type a f) ≡ Some t → Relation i ts t rest
  unfolding relation_tree
  type-sound ts us a f t rest d e g =
      let one = bind_some (add_tree names a) (λ x. lone_primary f >>= primary_path >>= λ p. Some (unary (Is p) x)) g in
      let two = bind_some (lone_primary f >>= primary_path) (λ p. Some (unary (Is p) one.0)) one.2 in
      let three = bind_some (lone_primary f) primary_path two.1 in
      let same : unary (Is two.0) one.0 ≡ t = cc two.2 in
      subst (λ x. Relation i ts x rest) same (is_type one.0 two.0 us (add-sound ts a one.0 (word token.Is ∷ us) d one.1) (path-told rd three.0 us rest two.0 (sum-told rd us f three.0 rest e three.1) three.2))

  type_in-sound : (ts us vs : List Token) (a f b : loose.Add) (t : Tree) (rest : List Token) → add_of rd ts ≡ Ok (a, word token.Is ∷ us) → add_of rd us ≡ Ok (f, word token.In ∷ vs) → add_of rd vs ≡ Ok (b, rest) → relation_tree names (loose.is_type_in a f b) ≡ Some t → Relation i ts t rest
  unfolding relation_tree
  type_in-sound ts us vs a f b t rest d e h g =
      let one = bind_some (add_tree names a) (λ x. lone_primary f >>= primary_path >>= λ p. add_tree names b >>= λ y. Some (is_in p x y)) g in
      let two = bind_some (lone_primary f >>= primary_path) (λ p. add_tree names b >>= λ y. Some (is_in p one.0 y)) one.2 in
      let three = bind_some (lone_primary f) primary_path two.1 in
      let four = bind_some (add_tree names b) (λ y. Some (is_in two.0 one.0 y)) two.2 in
      let same : is_in two.0 one.0 four.0 ≡ t = cc four.2 in
      subst (λ x. Relation i ts x rest) same
      (is_type_in one.0 two.0 four.0 us vs (add-sound ts a one.0 (word token.Is ∷ us) d one.1) (path-told rd three.0 us (word token.In ∷ vs) two.0 (sum-told rd us f three.0 (word token.In ∷ vs) e three.1) three.2) (add-sound vs b four.0 rest h four.1))

  is_step-sound : (ts us : List Token) (a f : loose.Add) (ws : List Token) (o : Option (List Token)) (r : loose.Relation) (t : Tree) (rest : List Token) → add_of rd ts ≡ Ok (a, word token.Is ∷ us) → add_of rd us ≡ Ok (f, ws) → eat_in ws ≡ o → is_step rd a f ws o ≡ Ok (r, rest) → relation_tree names r ≡ Some t → Relation i ts t rest
  is_step-sound ts us a f ws None r t rest d e h k g = let v = ok_pair k in type-sound ts us a f t rest d (e ∙ ap (λ q. Ok (f, q)) v.1) (ap (relation_tree names) v.0 ∙ g)
  is_step-sound ts us a f ws (Some vs) r t rest d e h k g =
      let m = mapped_ok (loose.is_type_in a f) (add_of rd vs) k in
      type_in-sound ts us vs a f m.0 t rest d (e ∙ ap (λ q. Ok (f, q)) (eat_in-is ws vs h)) m.1 (ap (relation_tree names) m.2 ∙ g)

  common-sound : (ts us : List Token) (a : loose.Add) (bs : List (loose.RelOp × loose.Add)) (t : Tree) (rest : List Token) → add_of rd ts ≡ Ok (a, us) → links_of rel_op (add_of rd) us ≡ Ok (bs, rest) → relation_tree names (loose.common a (adds bs)) ≡ Some t → Relation i ts t rest
  unfolding relation_tree
  common-sound ts us a [] t rest d e g =
      let one = bind_some (add_tree names a) (λ x. Some x) g in
      let same : one.0 ≡ t = cc one.2 in
      moved (Relation i) ts us rest one.0 t same (links-lone rel_op (add_of rd) us rest e) (alone (add-sound ts a one.0 us d one.1))
  common-sound ts us a (y ∷ []) t rest d e g =
      let one = bind_some (add_tree names a) (λ x. converting.comparison_of y.0 >>= λ c. add_tree names y.1 >>= λ z. Some (compared c x z)) g in
      let two = bind_some (converting.comparison_of y.0) (λ c. add_tree names y.1 >>= λ z. Some (compared c one.0 z)) one.2 in
      let three = bind_some (add_tree names y.1) (λ z. Some (compared two.0 one.0 z)) two.2 in
      let same : compared two.0 one.0 three.0 ≡ t = cc three.2 in
      let l = links-single rel_op (add_of rd) us y rest e in
      subst (λ x. Relation i ts x rest) same
      (compare one.0 three.0 l.0 two.0 l.1 (subst (λ q. Chain 4 (Mul i) ts one.0 q) l.2 (add-sound ts a one.0 us d one.1)) (rel-back l.0 y.0 two.0 l.3 two.1) (add-sound l.1 y.1 three.0 rest l.4 three.1))
  common-sound ts us a (y ∷ z ∷ bs) t rest d e g = let one = bind_some (add_tree names a) (λ x. None) g in absurd (cc one.2)

  links_step-sound : (ts us : List Token) (a : loose.Add) (r : loose.Relation) (t : Tree) (rest : List Token) → add_of rd ts ≡ Ok (a, us) → mapped (λ bs. loose.common a (adds bs)) (links_of rel_op (add_of rd) us) ≡ Ok (r, rest) → relation_tree names r ≡ Some t → Relation i ts t rest
  links_step-sound ts us a r t rest d e g =
      let m = mapped_ok (λ bs. loose.common a (adds bs)) (links_of rel_op (add_of rd) us) e in
      common-sound ts us a m.0 t rest d m.1 (ap (relation_tree names) m.2 ∙ g)

  relation_step-sound : (ts us : List Token) (a : loose.Add) (r : loose.Relation) (t : Tree) (rest : List Token) → add_of rd ts ≡ Ok (a, us) → relation_step rd a us ≡ Ok (r, rest) → relation_tree names r ≡ Some t → Relation i ts t rest
  relation_step-sound ts [] a r t rest d e g = links_step-sound ts [] a r t rest d e g
  relation_step-sound ts (word token.Has ∷ us) a r t rest d e g = let m = mapped_ok (loose.has a) (add_of rd us) e in has-sound ts us a m.0 t rest d m.1 (ap (relation_tree names) m.2 ∙ g)
  relation_step-sound ts (word token.Like ∷ us) a r t rest d e g = let m = mapped_ok (loose.like a) (add_of rd us) e in like-sound ts us a m.0 t rest d m.1 (ap (relation_tree names) m.2 ∙ g)
  relation_step-sound ts (word token.Is ∷ us) a r t rest d e g =
      let one = bind_ok (add_of rd us) (λ q. is_step rd a q.0 q.1 (eat_in q.1)) e in
      is_step-sound ts us a one.0.0 one.0.1 (eat_in one.0.1) r t rest d one.1 refl one.2 g
  relation_step-sound ts (o ∷ us) a r t rest d e g = links_step-sound ts (o ∷ us) a r t rest d e g

  relation-sound : Sounds (Relation i) (relation_of rd) (relation_tree names)
  unfolding relation_of
  relation-sound ts r t rest e g =
      let one = bind_ok (add_of rd ts) (λ a. relation_step rd a.0 a.1) e in
      relation_step-sound ts one.0.1 one.0.0 r t rest one.1 one.2 g

  and-sound : Sounds (And i) (and_of rd) (and_tree names)
  unfolding and_of
  and-sound = wrapped-sound (And i) (chain_of and_op (relation_of rd)) (chain_tree (relation_tree names) and_join) (λ x. loose.and x.0 (relations (map (λ y. y.1) x.1))) (and_tree names) (and-chain names) (chain-sound 2 (Relation i) and_op (relation_of rd) (relation_tree names) and_join relation-sound and-joins)

  or-sound : Sounds (Chain 1 (And i)) (or_of rd) (or_tree names)
  unfolding or_of
  or-sound = wrapped-sound (Chain 1 (And i)) (chain_of or_op (and_of rd)) (chain_tree (and_tree names) or_join) (λ x. loose.or x.0 (ands (map (λ y. y.1) x.1))) (or_tree names) (or-chain names) (chain-sound 1 (And i) or_op (and_of rd) (and_tree names) or_join and-sound or-joins)

  choice-sound : (ts : List Token) (x : loose.Expr) (t : Tree) (rest : List Token) → choice_of rd ts ≡ Ok (x, rest) → expr_tree names x ≡ Some t → Expr i (word token.If ∷ ts) t rest
  unfolding expr_tree
  choice-sound ts x t rest e g =
      let k = choice-if rd ts x rest e in
      let one = bind_some (expr_tree names k.a) (λ p. expr_tree names k.b >>= λ q. expr_tree names k.c >>= λ r. Some (If p q r)) (ap (expr_tree names) k.is ∙ g) in
      let two = bind_some (expr_tree names k.b) (λ q. expr_tree names k.c >>= λ r. Some (If one.0 q r)) one.2 in
      let three = bind_some (expr_tree names k.c) (λ r. Some (If one.0 two.0 r)) two.2 in
      let same : If one.0 two.0 three.0 ≡ t = cc three.2 in
      subst (λ y. Expr i (word token.If ∷ ts) y rest) same (if_is k.u k.v (s ts k.a one.0 (word token.Then ∷ k.u) k.test one.1) (s k.u k.b two.0 (word token.Else ∷ k.v) k.yes two.1) (s k.v k.c three.0 rest k.no three.1))

  or_expr-sound : (ts : List Token) (x : loose.Expr) (t : Tree) (rest : List Token) → mapped loose.or_expr (or_of rd ts) ≡ Ok (x, rest) → expr_tree names x ≡ Some t → Expr i ts t rest
  unfolding expr_tree
  or_expr-sound ts x t rest e g = let m = mapped_ok loose.or_expr (or_of rd ts) e in or_is (or-sound ts m.0 t rest m.1 (ap (expr_tree names) m.2 ∙ g))

  pub expr-sound : Sounds (Expr i) (expr_of rd) (expr_tree names)
  unfolding expr_of
  expr-sound [] x t rest e g = or_expr-sound [] x t rest e g
  expr-sound (word token.If ∷ ts) x t rest e g = choice-sound ts x t rest e g
  expr-sound (o ∷ ts) x t rest e g = or_expr-sound (o ∷ ts) x t rest e g

pub at-live : (n : ℕ) (ts : List Token) (x : loose.Expr × List Token) → expr_at n ts ≡ Ok x → 0 < n
unfolding expr_at
at-live zero ts x e = absurd (cc e)
at-live (suc n) ts x e = omega arith

pub at-tells : (n : ℕ) (ts : List Token) (e : loose.Expr) (p : loose.Primary) (rest : List Token) → expr_at n ts ≡ Ok (e, rest) → converting.alone e ≡ Some p → (inner : Reader loose.Expr) × (primary_of inner ts ≡ Ok (p, rest))
unfolding expr_at
at-tells zero ts e p rest f g = absurd (cc f)
at-tells (suc n) ts e p rest f g = (expr_at n, alone-read (expr_at n) ts e p rest f g)

pub within-sound : (names : Names) (n : ℕ) → Sounds (Within names n) (expr_at n) (expr_tree names)
unfolding expr_at
within-sound names zero ts x t rest e g = absurd (cc e)
within-sound names (suc n) ts x t rest e g = expr-sound names n (Within names n) (expr_at n) (within-sound names n) (expr_at-leaves n) (at-live n) (at-tells n) ts x t rest e g
