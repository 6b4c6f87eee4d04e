-- The keys of annotations, none of which may stand twice.
use Rattle.std.proofs.Common.{◌≡◌, ℕ, zero, suc, ◌<◌, Bool, true, false, cond, not, ◌&&◌, ◌||◌, List, [], ◌∷◌, ◌++◌, length, Option, Some, None, BTreeSet, refl, sym, ap, ◌∙◌, arith}
use Rattle.std.proofs.lemmas.List.{append-nil, append_assoc}
use Rattle.std.specs.Borrow.{Bor}
use Rattle.std.specs.BTreeMap.{is_at}
use Rattle.std.specs.BTreeSet as tree
use Rattle.std.specs.Cmp.Lexicographic.{nat_list_eq_equiv, texts_ties}
use Rattle.std.specs.declared.cmp.Ordering.{Ordering}
use Rattle.cedar_language.specs.Uid.{Text}
use Rattle.cedar_language.specs.Order.{text_cmp}
use Rattle.cedar_grammar.specs.Names.{is_text, is_among, are_distinct}
use Rattle.cedar_grammar.specs.Steps.{◌>>=◌}
use Rattle.cedar_schema_grammar.specs.Tokens.{LeftParen, RightParen, At, Token, mark, eat}
use Rattle.cedar_schema_grammar.specs.Reading.{Read, mapped, any_word, string_read, key_then, keys_at, where_distinct, annotations_at}
use Rattle.cedar_schema_text.specs.declared.read_error.ReadError.{ReadError}
use Rattle.cedar_schema_text.specs.Gives.{Fails}
use Rattle.cedar_schema_text.specs.Parts.{after_value, annotation_read}
use Rattle.cedar_schema_text.proofs.Loops.{fails_by, after, none_before, one_before}

-- ---- texts that are among others

among_same : (k j : Text) (ss : List Text) → is_text k j ≡ true → is_among k ss ≡ is_among j ss
among_same k j [] same = refl
among_same k j (s ∷ ss) same = ap (λ b. b || is_among k ss) (nat_list_eq_equiv.congr k j s same) ∙ ap (λ b. is_text j s || b) (among_same k j ss same)

or_true : (a : Bool) → (a || true) ≡ true
or_true true = refl
or_true false = refl

and_false : (a : Bool) → (a && false) ≡ false
and_false true = refl
and_false false = refl

or_assoc : (a b c : Bool) → (a || (b || c)) ≡ ((a || b) || c)
or_assoc true b c = refl
or_assoc false b c = refl

among_joined : (k : Text) (front ss : List Text) → is_among k (front ++ ss) ≡ (is_among k front || is_among k ss)
among_joined k [] ss = refl
among_joined k (f ∷ fs) ss = ap (λ b. is_text k f || b) (among_joined k fs ss) ∙ or_assoc (is_text k f) (is_among k fs) (is_among k ss)

itself_among : (k : Text) (ss : List Text) → is_among k (k ∷ ss) ≡ true
itself_among k ss = ap (λ b. b || is_among k ss) (nat_list_eq_equiv.refl k)

stands_behind : (k : Text) (front ss : List Text) → is_among k (front ++ (k ∷ ss)) ≡ true
stands_behind k front ss = among_joined k front (k ∷ ss) ∙ ap (λ b. is_among k front || b) (itself_among k ss) ∙ or_true (is_among k front)

-- what stands before stands twice
repeated : (k : Text) (front ss : List Text) → is_among k front ≡ true → are_distinct (front ++ (k ∷ ss)) ≡ false
repeated k [] ss e = absurd (cc e)
repeated k (f ∷ fs) ss e = by (is_text k f) refl e (repeated k fs ss)
  where
    by : (b : Bool) → is_text k f ≡ b → (b || is_among k fs) ≡ true → (is_among k fs ≡ true → are_distinct (fs ++ (k ∷ ss)) ≡ false) → are_distinct ((f ∷ fs) ++ (k ∷ ss)) ≡ false
    by true same h more = ap (λ b. not b && are_distinct (fs ++ (k ∷ ss))) (sym (among_same k f (fs ++ (k ∷ ss)) same) ∙ stands_behind k fs ss)
    by false same h more = ap (λ b. not (is_among f (fs ++ (k ∷ ss))) && b) (more h) ∙ and_false (not (is_among f (fs ++ (k ∷ ss))))

record Others (k f : Text) (fs : List Text) : Type 0 where
  pub first : is_text k f ≡ false
  pub rest : is_among k fs ≡ false

others : (k f : Text) (fs : List Text) → is_among k (f ∷ fs) ≡ false → Others k f fs
others k f fs e = by (is_text k f) refl e
  where
    by : (b : Bool) → is_text k f ≡ b → (b || is_among k fs) ≡ false → Others k f fs
    by true same h = absurd (cc h)
    by false same h = record { first = same; rest = h }

record Differ (f : Text) (fs : List Text) : Type 0 where
  pub new : is_among f fs ≡ false
  pub rest : are_distinct fs ≡ true

differ : (f : Text) (fs : List Text) → are_distinct (f ∷ fs) ≡ true → Differ f fs
differ f fs e = by (is_among f fs) refl e
  where
    by : (b : Bool) → is_among f fs ≡ b → (not b && are_distinct fs) ≡ true → Differ f fs
    by true same h = absurd (cc h)
    by false same h = record { new = same; rest = h }

-- one more that stands nowhere before
distinct_one : (k : Text) (front : List Text) → are_distinct front ≡ true → is_among k front ≡ false → are_distinct (front ++ (k ∷ [])) ≡ true
distinct_one k [] d e = refl
distinct_one k (f ∷ fs) d e =
    let o = others k f fs e in
    let a = differ f fs d in
    let last : is_among f (k ∷ []) ≡ false = ap (λ b. b || false) (nat_list_eq_equiv.symm f k ∙ o.first) in
    let new : is_among f (fs ++ (k ∷ [])) ≡ false = among_joined f fs (k ∷ []) ∙ ap (λ b. b || is_among f (k ∷ [])) (a.new) ∙ last in
    ap (λ b. not b && are_distinct (fs ++ (k ∷ []))) new ∙ distinct_one k fs (a.rest) (o.rest)

-- ---- reading them

abbrev keyed : Text → List Token → Read Text
keyed w vs = Some (w, vs)

key_same : (us : List Token) (more : List Token → Read (List Text)) → (any_word us >>= key_then more) ≡ (annotation_read us >>= λ w. mapped (λ ks. w.0 ∷ ks) (more w.1))
key_same us more = word_by (any_word us)
  where
    closed_by : (w : Text) (o : Option (List Token)) → mapped (λ ks. w ∷ ks) (o >>= more) ≡ ((o >>= keyed w) >>= λ x. mapped (λ ks. x.0 ∷ ks) (more x.1))
    closed_by w None = refl
    closed_by w (Some vs) = refl

    string_by : (w : Text) (r : Read Text) → mapped (λ ks. w ∷ ks) (r >>= λ s. eat (mark RightParen) s.1 >>= more) ≡ (((r >>= λ s. eat (mark RightParen) s.1) >>= keyed w) >>= λ x. mapped (λ ks. x.0 ∷ ks) (more x.1))
    string_by w None = refl
    string_by w (Some s) = closed_by w (eat (mark RightParen) s.1)

    value_by : (w : Text) (ts : List Token) (o : Option (List Token))
        → mapped (λ ks. w ∷ ks) (elim o as (λ _. Read (List Text)) [ None ↦ more ts | Some us ↦ string_read us >>= λ s. eat (mark RightParen) s.1 >>= more ])
        ≡ ((elim o as (λ _. Option (List Token)) [ None ↦ Some ts | Some us ↦ string_read us >>= λ s. eat (mark RightParen) s.1 ] >>= keyed w) >>= λ x. mapped (λ ks. x.0 ∷ ks) (more x.1))
    value_by w ts None = refl
    value_by w ts (Some us) = string_by w (string_read us)

    word_by : (r : Read Text) → (r >>= key_then more) ≡ ((r >>= λ w. after_value w.1 >>= keyed (w.0)) >>= λ w. mapped (λ ks. w.0 ∷ ks) (more w.1))
    word_by None = refl
    word_by (Some w) = value_by w.0 w.1 (eat (mark LeftParen) w.1)

-- where these keys stand before, and then these tokens
abbrev pub distinct_after : List Text → Read (List Text) → Option (List Token)
distinct_after front read = after front read >>= where_distinct

abbrev pub by_text : Bor Text → Bor Text → Ordering
by_text a b = text_cmp a.now b.now

-- the keys so far are those of the set, and with those that are read from here on they are the whole
pub record KeysSoFar (set : BTreeSet (Bor Text)) (ts : List Token) (whole : Option (List Token)) : Type 0 where
  pub front : List Text
  pub turns : ℕ
  pub enough : length ts < turns
  pub same : distinct_after front (keys_at turns ts) ≡ whole
  pub holds : (q : Bor Text) → tree.contains by_text set q ≡ is_among q.now front
  pub distinct : are_distinct front ≡ true

pub keys_none : (set : BTreeSet (Bor Text)) → set.keys ≡ [] → (n : ℕ) (ts : List Token) → length ts < n → KeysSoFar set ts (annotations_at n ts)
unfolding annotations_at
keys_none set e n ts l =
    record {
      front = [];
      turns = n;
      enough = l;
      same = ap (λ r. r >>= where_distinct) (none_before (keys_at n ts));
      holds = λ q. ap (λ ks. tree.contains by_text (record { keys = ks }) q) e;
      distinct = refl;
    }

module _ (set : BTreeSet (Bor Text)) (ts : List Token) (whole : Option (List Token)) (k : KeysSoFar set ts whole) where
  done-at : (n : ℕ) → length ts < n → distinct_after k.front (keys_at n ts) ≡ whole → eat (mark At) ts ≡ None → whole ≡ Some ts
  unfolding keys_at
  done-at zero l s e = absurd (omega (arith, l))
  done-at (suc n) l s e = sym s ∙ rw (e, keys_at) (ap (λ ks. where_distinct (ks, ts)) (append-nil k.front) ∙ ap (λ b. cond b (Some ts) None) (k.distinct))

  pub keys_done : (us : List Token) → (eat (mark At) ts ≡ None) × (us ≡ ts) → whole ≡ Some us
  keys_done us e = done-at k.turns k.enough k.same (e.0) ∙ ap Some (sym e.1)

  module _ (us : List Token) (found : eat (mark At) ts ≡ Some us) where
    step : (n : ℕ) → distinct_after k.front (keys_at (suc n) ts) ≡ whole → distinct_after k.front (annotation_read us >>= λ w. mapped (λ ks. w.0 ∷ ks) (keys_at n w.1)) ≡ whole
    unfolding keys_at
    step n s = ap (distinct_after k.front) (sym (key_same us (keys_at n))) ∙ (sym (rw (found, keys_at) refl) ∙ s)

    fails-at : (n : ℕ) → length ts < n → distinct_after k.front (keys_at n ts) ≡ whole → annotation_read us ≡ None → whole ≡ None
    fails-at zero l s i = absurd (omega (arith, l))
    fails-at (suc n) l s i = sym (step n s) ∙ ap (λ r. distinct_after k.front (r >>= λ w. mapped (λ ks. w.0 ∷ ks) (keys_at n w.1))) i

    pub keys_fail : (e : ReadError) → Fails e (annotation_read us) → Fails e whole
    keys_fail e h = fails_by e (annotation_read us) whole (λ i. fails-at k.turns k.enough k.same i) h

    module _ (key : Bor Text) (vs : List Token) (i : annotation_read us ≡ Some (key.now, vs)) where
      more : (n : ℕ) → distinct_after k.front (keys_at (suc n) ts) ≡ whole → distinct_after (k.front ++ (key.now ∷ [])) (keys_at n vs) ≡ whole
      more n s =
          ap (λ r. r >>= where_distinct) (sym (one_before k.front key.now (keys_at n vs)))
          ∙ (ap (λ r. distinct_after k.front (r >>= λ w. mapped (λ ks. w.0 ∷ ks) (keys_at n w.1))) (sym i) ∙ step n s)

      none-behind : is_among key.now k.front ≡ true → (r : Read (List Text)) → distinct_after (k.front ++ (key.now ∷ [])) r ≡ None
      none-behind e None = refl
      none-behind e (Some x) = ap (λ b. cond b (Some x.1) None) (ap are_distinct (append_assoc k.front (key.now ∷ []) x.0) ∙ repeated key.now k.front x.0 e)

      repeated-at : (n : ℕ) → length ts < n → distinct_after k.front (keys_at n ts) ≡ whole → is_among key.now k.front ≡ true → whole ≡ None
      repeated-at zero l s e = absurd (omega (arith, l))
      repeated-at (suc n) l s e = sym (more n s) ∙ none-behind e (keys_at n vs)

      held : (added b : Bool) → added ≡ not (tree.contains by_text set key) → added ≡ not b → is_among key.now k.front ≡ b
      held added b a e = sym (k.holds key) ∙ not_same (tree.contains by_text set key) b (sym a ∙ e)
        where
          not_same : (x y : Bool) → not x ≡ not y → x ≡ y
          not_same true true h = refl
          not_same true false h = absurd (cc h)
          not_same false true h = absurd (cc h)
          not_same false false h = refl

      pub keys_repeated : (added : Bool) → added ≡ not (tree.contains by_text set key) → added ≡ false → whole ≡ None
      keys_repeated added a e = repeated-at k.turns k.enough k.same (held added true a e)

      module _ (added : Bool) (a : added ≡ not (tree.contains by_text set key)) (e : added ≡ true) (next : BTreeSet (Bor Text))
          (updates : (q : Bor Text) → tree.contains by_text next q ≡ cond (is_at (by_text key) q) true (tree.contains by_text set q)) (fewer : length vs < length ts) where
        or_same : (x y z : Bool) → x ≡ z → cond x true y ≡ (y || (z || false))
        or_same true true z h = refl
        or_same true false z h = h ∙ z_or z
          where
            z_or : (z : Bool) → z ≡ (z || false)
            z_or true = refl
            z_or false = refl
        or_same false true z h = refl
        or_same false false z h = h ∙ z_or z
          where
            z_or : (z : Bool) → z ≡ (z || false)
            z_or true = refl
            z_or false = refl

        holds_more : (q : Bor Text) → tree.contains by_text next q ≡ is_among q.now (k.front ++ (key.now ∷ []))
        holds_more q =
            updates q
            ∙ or_same (is_at (by_text key) q) (tree.contains by_text set q) (is_text q.now key.now) (sym (texts_ties key.now q.now) ∙ nat_list_eq_equiv.symm key.now q.now)
            ∙ ap (λ b. b || is_among q.now (key.now ∷ [])) (k.holds q)
            ∙ sym (among_joined q.now k.front (key.now ∷ []))

        more-at : (n : ℕ) → length ts < n → distinct_after k.front (keys_at n ts) ≡ whole → KeysSoFar next vs whole
        more-at zero l s = absurd (omega (arith, l))
        more-at (suc n) l s =
            record {
              front = k.front ++ (key.now ∷ []);
              turns = n;
              enough = omega (arith, l, fewer);
              same = more n s;
              holds = holds_more;
              distinct = distinct_one key.now k.front k.distinct (held added false a e);
            }

        pub keys_more : KeysSoFar next vs whole
        keys_more = more-at k.turns k.enough k.same
