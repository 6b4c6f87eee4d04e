-- What loops keep that read operands, items or parts one after the other.
use Rattle.std.proofs.Common.{◌≡◌, ℕ, zero, suc, ◌<◌, Bool, true, false, List, [], ◌∷◌, ◌++◌, length, map, Option, Some, None, Result, Ok, Err, refl, sym, ap, ◌∙◌, subst, arith}
use Rattle.std.proofs.lemmas.List.{append-nil, append_assoc}
use Rattle.cedar_grammar.specs.Token as token
use Rattle.cedar_grammar.specs.Token.{Mark, Token, mark}
use Rattle.cedar_grammar.specs.Steps.{eat}
use Rattle.cedar_grammar.proofs.Parts.{eat-is}
use Rattle.cedar_grammar.specs.LooseReading.{Fault, Reading, Reader, ◌>>◌, mapped, needed, each_at, each_of, items_at, items_of, operator_at, before_rest, chain_at, links_of, chain_of}
use Rattle.cedar_grammar.proofs.Rests as rests
use Rattle.cedar_grammar.proofs.Rests.{rest-length}
use Rattle.cedar_loose.specs.declared.error.ReadError.{ReadError}
use Rattle.cedar_loose.specs.declared.error.ReadError.TheVariants.{Syntax, Depth, Memory}
use Rattle.cedar_loose.specs.Gives.{Fails}
use Rattle.cedar_loose.specs.SoFar.{after_items, Each}

-- an error of a part is one of the whole
pub fails_by : {A B : Type 0} (e : ReadError) (read : Result A Fault) (whole : Result B Fault) → ((f : Fault) → read ≡ Err f → whole ≡ Err f) → Fails e read → Fails e whole
fails_by (Syntax at) read whole k h = k _ h
fails_by Depth read whole k h = k _ h
fails_by Memory read whole k h = tt

-- a part that is read first
pub first_fails : {A B : Type 0} (e : ReadError) (read : Result A Fault) (more : A → Result B Fault) → Fails e read → Fails e (read >> more)
first_fails e read more h = fails_by e read (read >> more) (λ f i. ap (λ r. r >> more) i) h

-- a part that is read behind one that is
pub then_fails : {A B : Type 0} (e : ReadError) (read : Result A Fault) (more : A → Result B Fault) (x : A) → read ≡ Ok x → Fails e (more x) → Fails e (read >> more)
then_fails e read more x first h = subst (Fails e) (sym (ap (λ r. r >> more) first)) h

pub then_ok : {A B : Type 0} (read : Result A Fault) (more : A → Result B Fault) (x : A) → read ≡ Ok x → (read >> more) ≡ more x
then_ok read more x first = ap (λ r. r >> more) first

-- what was made of what was read
pub made : {A : Type 0} {x y : A} {us : List Token} {read : Reading A} → y ≡ x → read ≡ Ok (x, us) → read ≡ Ok (y, us)
made {A} {x} {y} {us} {read} same e = e ∙ ap (λ z. Ok (z, us)) (sym same)

pub mapped_fails : {A B : Type 0} (e : ReadError) (read : Reading A) (f : A → B) → Fails e read → Fails e (mapped f read)
mapped_fails e read f h = fails_by e read (mapped f read) (λ g i. ap (mapped f) i) h

operator-fewer : {Op : Type 0} (op : Token → Option Op) (ts : List Token) (x : Op × List Token) → operator_at op ts ≡ Some x → length x.1 < length ts
operator-fewer op [] x e = absurd (cc e)
operator-fewer {Op} op (t ∷ ts) x e = by (op t) e
  where
    by : (q : Option Op) → before_rest ts q ≡ Some x → length x.1 < length (t ∷ ts)
    by None f = absurd (cc f)
    by (Some p) f = let same : ◌≡◌ {A = Op × List Token} (p, ts) x = cc f in let long = ap (λ y. length y.1) same in omega (arith, long)

-- ---- operands with an operator before each

module _ {Op A : Type 0} where
  -- what was read before
  abbrev pub after_links : List (Op × A) → Reading (List (Op × A)) → Reading (List (Op × A))
  after_links front read = read >> λ bs. Ok (front ++ bs.0, bs.1)

  -- the operands so far and those that are read from here on are the whole
  pub record Links (op : Token → Option Op) (item : Reader A) (front : List (Op × A)) (ts : List Token) (whole : Reading (List (Op × A))) : Type 0 where
    pub turns : ℕ
    pub enough : length ts < turns
    pub same : after_links front (chain_at op item turns ts) ≡ whole

  no_link : (read : Reading (List (Op × A))) → after_links [] read ≡ read
  no_link (Ok bs) = refl
  no_link (Err e) = refl

  one_link : (front : List (Op × A)) (x : Op × A) (read : Reading (List (Op × A))) → after_links front (read >> λ bs. Ok (x ∷ bs.0, bs.1)) ≡ after_links (front ++ (x ∷ [])) read
  one_link front x (Ok bs) = ap (λ ys. Ok (ys, bs.1)) (sym (append_assoc front (x ∷ []) bs.0))
  one_link front x (Err e) = refl

  module _ (op : Token → Option Op) (item : Reader A) where
    pub links_start : (ts : List Token) → Links op item [] ts (links_of op item ts)
    unfolding links_of
    links_start ts = record { turns = suc (length ts); enough = omega arith; same = no_link (chain_at op item (suc (length ts)) ts) }

    module _ (front : List (Op × A)) (ts : List Token) (whole : Reading (List (Op × A))) where
      done-at : (n : ℕ) → after_links front (chain_at op item n ts) ≡ whole → operator_at op ts ≡ None → whole ≡ Ok (front, ts)
      unfolding chain_at
      done-at zero e o = sym e ∙ ap (λ xs. Ok (xs, ts)) (append-nil front)
      done-at (suc n) e o = sym e ∙ rw o (ap (λ xs. Ok (xs, ts)) (append-nil front))

      pub links_done : Links op item front ts whole → (us : List Token) → (operator_at op ts ≡ None) × (us ≡ ts) → whole ≡ Ok (front, us)
      links_done k us o = done-at k.turns k.same o.0 ∙ ap (λ vs. Ok (front, vs)) (sym o.1)

      module _ (o : Op) (us : List Token) (found : operator_at op ts ≡ Some (o, us)) where
        fail-at : (f : Fault) (n : ℕ) → length ts < n → after_links front (chain_at op item n ts) ≡ whole → item us ≡ Err f → whole ≡ Err f
        unfolding chain_at
        fail-at f zero lt e i = absurd (omega arith)
        fail-at f (suc n) lt e i = sym e ∙ rw (found, i)

        pub links_fail : (e : ReadError) → Links op item front ts whole → Fails e (item us) → Fails e whole
        links_fail e k h = fails_by e (item us) whole (λ f i. fail-at f k.turns k.enough k.same i) h

        module _ (b : A) (vs : List Token) (i : item us ≡ Ok (b, vs)) (l : rests.Leaves item) where
          pub links_fewer : length vs < length ts
          links_fewer = let one = operator-fewer op ts (o, us) found in let two = rest-length vs us (l us b vs i) in omega arith

          more-at : (n : ℕ) → length ts < n → after_links front (chain_at op item n ts) ≡ whole → Links op item (front ++ ((o, b) ∷ [])) vs whole
          unfolding chain_at
          more-at zero lt e = absurd (omega arith)
          more-at (suc n) lt e = record { turns = n; enough = let one = links_fewer in omega arith; same = sym (one_link front (o, b) (chain_at op item n vs)) ∙ (sym (rw (found, i)) ∙ e) }

          pub links_more : Links op item front ts whole → Links op item (front ++ ((o, b) ∷ [])) vs whole
          links_more k = more-at k.turns k.enough k.same

    -- a first operand, and the others
    module _ (ts : List Token) where
      pub chain_fails : (e : ReadError) → Fails e (item ts) → Fails e (chain_of op item ts)
      unfolding chain_of
      chain_fails e h = first_fails e (item ts) (λ a. links_of op item a.1 >> λ bs. Ok ((a.0, bs.0), bs.1)) h

      module _ (a : A) (mid : List Token) (first : item ts ≡ Ok (a, mid)) where
        pub chain_then_fails : (e : ReadError) → Fails e (links_of op item mid) → Fails e (chain_of op item ts)
        unfolding chain_of
        chain_then_fails e h = fails_by e (links_of op item mid) (item ts >> λ x. links_of op item x.1 >> λ bs. Ok ((x.0, bs.0), bs.1)) (λ f i. rw (first, i)) h

        pub chain_done : (front : List (Op × A)) (us : List Token) → links_of op item mid ≡ Ok (front, us) → chain_of op item ts ≡ Ok ((a, front), us)
        unfolding chain_of
        chain_done front us e = rw (first, e)

    -- the first operand is read, and a loop has come so far
    module _ {B : Type 0} (f : A × List (Op × A) → B) (start : List Token) (a : A) (mid : List Token) (first : item start ≡ Ok (a, mid)) (front : List (Op × A)) (ts : List Token) (k : Links op item front ts (links_of op item mid)) where
      pub chained_done : (us : List Token) → (operator_at op ts ≡ None) × (us ≡ ts) → mapped f (chain_of op item start) ≡ Ok (f (a, front), us)
      chained_done us o = ap (mapped f) (chain_done start a mid first front us (links_done front ts (links_of op item mid) k us o))

      pub chained_fail : (o : Op) (us : List Token) → operator_at op ts ≡ Some (o, us) → (e : ReadError) → Fails e (item us) → Fails e (mapped f (chain_of op item start))
      chained_fail o us found e h = mapped_fails e (chain_of op item start) f (chain_then_fails start a mid first e (links_fail front ts (links_of op item mid) o us found e k h))

-- an operand behind the only operator of its kind
abbrev pub alone : {X A : Type 0} → (X → A) → X → Unit {0} × A
alone view x = (tt, view x)

pub map_alone : {X A : Type 0} (view : X → A) (xs : List X) → map (λ y. y.1) (map (alone view) xs) ≡ map view xs
map_alone view [] = refl
map_alone view (x ∷ xs) = ap (λ ys. view x ∷ ys) (map_alone view xs)

-- ---- items up to a closing mark

module _ {A : Type 0} where
  none_before : (read : Reading (List A)) → after_items [] read ≡ read
  none_before (Ok xs) = refl
  none_before (Err e) = refl

  one_before : (front : List A) (x : A) (read : Reading (List A)) → after_items front (read >> λ xs. Ok (x ∷ xs.0, xs.1)) ≡ after_items (front ++ (x ∷ [])) read
  one_before front x (Ok xs) = ap (λ ys. Ok (ys, xs.1)) (sym (append_assoc front (x ∷ []) xs.0))
  one_before front x (Err e) = refl

  -- the items so far and those that are read from here on are the whole
  pub record Items (close : Mark) (item : Reader A) (front : List A) (ts : List Token) (whole : Reading (List A)) : Type 0 where
    pub turns : ℕ
    pub enough : length ts < turns
    pub same : after_items front (items_at close item turns ts) ≡ whole

  module _ (close : Mark) (item : Reader A) where
    pub items_start : (ts : List Token) → Items close item [] ts (items_of close item ts)
    unfolding items_of
    items_start ts = record { turns = suc (length ts); enough = omega arith; same = none_before (items_at close item (suc (length ts)) ts) }

    module _ (front : List A) (ts : List Token) (whole : Reading (List A)) where
      closed-at : (us : List Token) (n : ℕ) → length ts < n → after_items front (items_at close item n ts) ≡ whole → eat close ts ≡ Some us → whole ≡ Ok (front, us)
      unfolding items_at
      closed-at us zero lt e c = absurd (omega arith)
      closed-at us (suc n) lt e c = sym e ∙ rw c (ap (λ xs. Ok (xs, us)) (append-nil front))

      pub items_closed : Items close item front ts whole → (us : List Token) → eat close ts ≡ Some us → whole ≡ Ok (front, us)
      items_closed k us c = closed-at us k.turns k.enough k.same c

      -- an item has to be next
      module _ (us : List Token) (more : (eat close ts ≡ None) × (us ≡ ts)) where
        item-fail-at : (f : Fault) (n : ℕ) → length ts < n → after_items front (items_at close item n ts) ≡ whole → item us ≡ Err f → whole ≡ Err f
        unfolding items_at
        item-fail-at f zero lt e i = absurd (omega arith)
        item-fail-at f (suc n) lt e i = let here : item ts ≡ Err f = subst (λ vs. item vs ≡ Err f) more.1 i in sym e ∙ rw (more.0, here)

        pub items_fail : (e : ReadError) → Items close item front ts whole → Fails e (item us) → Fails e whole
        items_fail e k h = fails_by e (item us) whole (λ f i. item-fail-at f k.turns k.enough k.same i) h

        module _ (x : A) (vs : List Token) (i : item us ≡ Ok (x, vs)) where
          here : item ts ≡ Ok (x, vs)
          here = subst (λ ws. item ws ≡ Ok (x, vs)) more.1 i

          last-at : (ws : List Token) (n : ℕ) → length ts < n → after_items front (items_at close item n ts) ≡ whole → eat close vs ≡ Some ws → whole ≡ Ok (front ++ (x ∷ []), ws)
          unfolding items_at
          last-at ws zero lt e c = absurd (omega arith)
          last-at ws (suc n) lt e c = sym e ∙ rw (more.0, here, c) refl

          pub items_last : Items close item front ts whole → (ws : List Token) → eat close vs ≡ Some ws → whole ≡ Ok (front ++ (x ∷ []), ws)
          items_last k ws c = last-at ws k.turns k.enough k.same c

          -- a comma has to follow
          module _ (ws : List Token) (open_ : (eat close vs ≡ None) × (ws ≡ vs)) where
            comma-at : (f : Fault) (n : ℕ) → length ts < n → after_items front (items_at close item n ts) ≡ whole → needed (eat token.Comma ws) ≡ Err f → whole ≡ Err f
            unfolding items_at
            comma-at f zero lt e c = absurd (omega arith)
            comma-at f (suc n) lt e c = let at : needed (eat token.Comma vs) ≡ Err f = subst (λ q. needed (eat token.Comma q) ≡ Err f) open_.1 c in sym e ∙ rw (more.0, here, open_.0, at)

            pub items_comma_fails : (e : ReadError) → Items close item front ts whole → Fails e (needed (eat token.Comma ws)) → Fails e whole
            items_comma_fails e k h = fails_by e (needed (eat token.Comma ws)) whole (λ f c. comma-at f k.turns k.enough k.same c) h

            module _ (next : List Token) (c : needed (eat token.Comma ws) ≡ Ok next) (l : rests.Leaves item) where
              at-comma : needed (eat token.Comma vs) ≡ Ok next
              at-comma = subst (λ q. needed (eat token.Comma q) ≡ Ok next) open_.1 c

              comma-fewer : (o : Option (List Token)) → eat token.Comma vs ≡ o → needed o ≡ Ok next → length next < length vs
              comma-fewer None e f = absurd (cc f)
              comma-fewer (Some q) e f = let same : q ≡ next = cc f in let is = ap length (eat-is token.Comma vs q e) in let long = ap length same in omega (arith, is, long)

              pub items_fewer : length next < length ts
              items_fewer = let one = comma-fewer (eat token.Comma vs) refl at-comma in let two = rest-length vs ts (l ts x vs here) in omega arith

              item-more-at : (n : ℕ) → length ts < n → after_items front (items_at close item n ts) ≡ whole → Items close item (front ++ (x ∷ [])) next whole
              unfolding items_at
              item-more-at zero lt e = absurd (omega arith)
              item-more-at (suc n) lt e = record { turns = n; enough = let one = items_fewer in omega arith; same = sym (one_before front x (items_at close item n next)) ∙ (sym (rw (more.0, here, open_.0, at-comma)) ∙ e) }

              pub items_more : Items close item front ts whole → Items close item (front ++ (x ∷ [])) next whole
              items_more k = item-more-at k.turns k.enough k.same

  -- ---- parts as long as the tokens begin one

  module _ (begins : List Token → Bool) (item : Reader A) where
    pub each_start : (ts : List Token) → Each begins item [] ts (each_of begins item ts)
    unfolding each_of
    each_start ts = record { turns = suc (length ts); enough = omega arith; same = none_before (each_at begins item (suc (length ts)) ts) }

    module _ (front : List A) (ts : List Token) (whole : Reading (List A)) where
      ended-at : (n : ℕ) → after_items front (each_at begins item n ts) ≡ whole → begins ts ≡ false → whole ≡ Ok (front, ts)
      unfolding each_at
      ended-at zero e b = sym e ∙ ap (λ xs. Ok (xs, ts)) (append-nil front)
      ended-at (suc n) e b = sym e ∙ rw b (ap (λ xs. Ok (xs, ts)) (append-nil front))

      pub each_done : Each begins item front ts whole → false ≡ begins ts → whole ≡ Ok (front, ts)
      each_done k b = ended-at k.turns k.same (sym b)

      module _ (b : true ≡ begins ts) where
        each-fail-at : (f : Fault) (n : ℕ) → length ts < n → after_items front (each_at begins item n ts) ≡ whole → begins ts ≡ true → item ts ≡ Err f → whole ≡ Err f
        unfolding each_at
        each-fail-at f zero lt e c i = absurd (omega arith)
        each-fail-at f (suc n) lt e c i = sym e ∙ rw (c, i)

        pub each_fail : (e : ReadError) → Each begins item front ts whole → Fails e (item ts) → Fails e whole
        each_fail e k h = fails_by e (item ts) whole (λ f i. each-fail-at f k.turns k.enough k.same (sym b) i) h

        module _ (x : A) (us : List Token) (i : item ts ≡ Ok (x, us)) (fewer : length us < length ts) where
          each-more-at : (n : ℕ) → length ts < n → after_items front (each_at begins item n ts) ≡ whole → begins ts ≡ true → Each begins item (front ++ (x ∷ [])) us whole
          unfolding each_at
          each-more-at zero lt e c = absurd (omega arith)
          each-more-at (suc n) lt e c = record { turns = n; enough = omega arith; same = sym (one_before front x (each_at begins item n us)) ∙ (sym (rw (c, i)) ∙ e) }

          pub each_more : Each begins item front ts whole → Each begins item (front ++ (x ∷ [])) us whole
          each_more k = each-more-at k.turns k.enough k.same (sym b)
