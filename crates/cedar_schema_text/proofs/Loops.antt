-- What loops keep that read parts one after the other.
use Rattle.std.proofs.Common.{◌≡◌, ℕ, zero, suc, ◌<◌, ◌≤◌, Bool, true, false, List, [], ◌∷◌, ◌++◌, length, Option, Some, None, cond, refl, sym, ap, ◌∙◌, subst, arith}
use Rattle.std.proofs.lemmas.List.{append-nil, append_assoc}
use Rattle.cedar_grammar.specs.Steps.{◌>>=◌}
use Rattle.cedar_language.specs.Uid.{Text, Name}
use Rattle.cedar_schema_grammar.specs.Tokens.{Mark, ColonColon, Comma, Token, mark, eat, is_word}
use Rattle.cedar_schema_grammar.specs.Grammar.{goes_on}
use Rattle.cedar_schema_grammar.specs.Reading.{Read, mapped, id_read, path_then, path_at, several_then, several_at, items_then, items_at}
use Rattle.cedar_schema_text.specs.declared.read_error.ReadError.{ReadError}
use Rattle.cedar_schema_text.specs.declared.read_error.ReadError.TheVariants.{Syntax, Memory}
use Rattle.cedar_schema_text.specs.Gives.{Fails}
use Rattle.cedar_schema_text.specs.Parts.{eat_separator}

-- an error of a part is one of the whole
pub fails_by : {A B : Type 0} (e : ReadError) (read : Option A) (whole : Option B) → (read ≡ None → whole ≡ None) → Fails e read → Fails e whole
fails_by (Syntax fault place) read whole k h = k h
fails_by Memory read whole k h = tt

module _ {A : Type 0} where
  -- what was read before, and then this
  abbrev pub after : List A → Read (List A) → Read (List A)
  after front read = mapped (λ xs. front ++ xs) read

  pub none_before : (read : Read (List A)) → after [] read ≡ read
  none_before None = refl
  none_before (Some x) = refl

  pub one_before : (front : List A) (x : A) (read : Read (List A)) → after front (mapped (λ xs. x ∷ xs) read) ≡ after (front ++ (x ∷ [])) read
  one_before front x None = refl
  one_before front x (Some y) = ap (λ ys. Some (ys, y.1)) (sym (append_assoc front (x ∷ []) y.0))

  -- ---- one or more, with something between each two

  module _ (sep : List Token → Option (List Token)) (item : List Token → Read A) where
    abbrev pub behind_item : (List Token → Read (List A)) → List Token → Read (List A)
    behind_item more ts = elim (sep ts) as (λ _. Read (List A)) [ None ↦ Some ([], ts) | Some us ↦ more us ]

    unfoldable pub chain_at : ℕ → List Token → Read (List A)
    chain_at zero ts = None
    chain_at (suc n) ts = elim (item ts) as (λ _. Read (List A)) [ None ↦ None | Some x ↦ mapped (λ xs. x.0 ∷ xs) (behind_item (chain_at n) x.1) ]

    -- the items so far and those that are read from here on are the whole
    pub record Chain (front : List A) (ts : List Token) (whole : Read (List A)) : Type 0 where
      pub turns : ℕ
      pub enough : length ts ≤ turns
      pub same : after front (behind_item (chain_at turns) ts) ≡ whole

    pub chain_first : (n : ℕ) (ts : List Token) (x : A) (us : List Token) → item ts ≡ Some (x, us) → length us ≤ n → Chain (x ∷ []) us (chain_at (suc n) ts)
    unfolding chain_at
    chain_first n ts x us i l = record { turns = n; enough = l; same = rw (i, chain_at) refl }

    pub chain_first_fails : (n : ℕ) (ts : List Token) → item ts ≡ None → chain_at (suc n) ts ≡ None
    unfolding chain_at
    chain_first_fails n ts i = rw (i, chain_at) refl

    module _ (front : List A) (ts : List Token) (whole : Read (List A)) where
      pub chain_done : Chain front ts whole → (us : List Token) → (sep ts ≡ None) × (us ≡ ts) → whole ≡ Some (front, us)
      chain_done k us e = sym k.same ∙ rw (e.0, behind_item) (ap (λ xs. Some (xs, ts)) (append-nil front)) ∙ ap (λ vs. Some (front, vs)) (sym e.1)

      module _ (us : List Token) (found : sep ts ≡ Some us) where
        fails-at : (n : ℕ) → after front (behind_item (chain_at n) ts) ≡ whole → item us ≡ None → whole ≡ None
        unfolding chain_at
        fails-at zero s i = sym s ∙ rw (found, behind_item) refl
        fails-at (suc n) s i = sym s ∙ rw (found, behind_item, i, chain_at) refl

        pub chain_fails : (e : ReadError) → Chain front ts whole → Fails e (item us) → Fails e whole
        chain_fails e k h = fails_by e (item us) whole (λ i. fails-at k.turns k.same i) h

        more-at : (x : A) (vs : List Token) → item us ≡ Some (x, vs) → length vs < length ts → (n : ℕ) → length ts ≤ n → after front (behind_item (chain_at n) ts) ≡ whole → Chain (front ++ (x ∷ [])) vs whole
        unfolding chain_at
        more-at x vs i lt zero l s = absurd (omega (arith, lt, l))
        more-at x vs i lt (suc n) l s =
            record { turns = n; enough = omega (arith, lt, l); same = sym (one_before front x (behind_item (chain_at n) vs)) ∙ (sym (rw (found, behind_item, i, chain_at) refl) ∙ s) }

        pub chain_more : (x : A) (vs : List Token) → item us ≡ Some (x, vs) → length vs < length ts → Chain front ts whole → Chain (front ++ (x ∷ [])) vs whole
        chain_more x vs i lt k = more-at x vs i lt k.turns k.enough k.same

  several_step : (item : List Token → Read A) (n : ℕ) → ((ts : List Token) → several_at item n ts ≡ chain_at (eat (mark Comma)) item n ts)
      → (x : A × List Token) (o : Option (List Token)) → eat (mark Comma) x.1 ≡ o
      → elim o as (λ _. Read (List A)) [ None ↦ Some (x.0 ∷ [], x.1) | Some us ↦ mapped (λ xs. x.0 ∷ xs) (several_at item n us) ]
      ≡ mapped (λ xs. x.0 ∷ xs) (elim o as (λ _. Read (List A)) [ None ↦ Some ([], x.1) | Some us ↦ chain_at (eat (mark Comma)) item n us ])
  several_step item n h x None e = refl
  several_step item n h x (Some us) e = ap (mapped (λ xs. x.0 ∷ xs)) (h us)

  pub several_chain : (item : List Token → Read A) (n : ℕ) (ts : List Token) → several_at item n ts ≡ chain_at (eat (mark Comma)) item n ts
  unfolding several_at chain_at
  several_chain item zero ts = refl
  several_chain item (suc n) ts = by (several_chain item n) (item ts)
    where
      by : ((us : List Token) → several_at item n us ≡ chain_at (eat (mark Comma)) item n us) → (r : Read A) → (r >>= several_then (several_at item n))
          ≡ elim r as (λ _. Read (List A)) [ None ↦ None | Some x ↦ mapped (λ xs. x.0 ∷ xs) (behind_item (eat (mark Comma)) item (chain_at (eat (mark Comma)) item n) x.1) ]
      by h None = refl
      by h (Some x) = several_step item n h x (eat (mark Comma) x.1) refl

  module _ (item : List Token → Read A) (n : ℕ) (ts : List Token) where
    pub several_first : (x : A) (us : List Token) → item ts ≡ Some (x, us) → length us ≤ n → Chain (eat (mark Comma)) item (x ∷ []) us (several_at item (suc n) ts)
    several_first x us i l = subst (Chain (eat (mark Comma)) item (x ∷ []) us) (sym (several_chain item (suc n) ts)) (chain_first (eat (mark Comma)) item n ts x us i l)

    pub several_first_fails : (e : ReadError) → Fails e (item ts) → Fails e (several_at item (suc n) ts)
    several_first_fails e h = fails_by e (item ts) (several_at item (suc n) ts) (λ i. several_chain item (suc n) ts ∙ chain_first_fails (eat (mark Comma)) item n ts i) h

  -- ---- items up to a closing mark

  -- the items so far and those that are read from here on are the whole
  pub record Items (close : Mark) (item : List Token → Read A) (front : List A) (ts : List Token) (whole : Read (List A)) : Type 0 where
    pub turns : ℕ
    pub enough : length ts < turns
    pub same : after front (items_at close item turns ts) ≡ whole

  module _ (close : Mark) (item : List Token → Read A) where
    pub items_start : (n : ℕ) (ts : List Token) → length ts < n → Items close item [] ts (items_at close item n ts)
    items_start n ts l = record { turns = n; enough = l; same = none_before (items_at close item n ts) }

    module _ (front : List A) (ts : List Token) (whole : Read (List A)) where
      closed-at : (us : List Token) (n : ℕ) → length ts < n → after front (items_at close item n ts) ≡ whole → eat (mark close) ts ≡ Some us → whole ≡ Some (front, us)
      unfolding items_at
      closed-at us zero l s c = absurd (omega (arith, l))
      closed-at us (suc n) l s c = sym s ∙ rw (c, items_at) (ap (λ xs. Some (xs, us)) (append-nil front))

      pub items_closed : Items close item front ts whole → (us : List Token) → eat (mark close) ts ≡ Some us → whole ≡ Some (front, us)
      items_closed k us c = closed-at us k.turns k.enough k.same c

      -- an item has to be next
      module _ (us : List Token) (open_ : (eat (mark close) ts ≡ None) × (us ≡ ts)) where
        item-fails-at : (n : ℕ) → length ts < n → after front (items_at close item n ts) ≡ whole → item us ≡ None → whole ≡ None
        unfolding items_at
        item-fails-at zero l s i = absurd (omega (arith, l))
        item-fails-at (suc n) l s i = let here : item ts ≡ None = subst (λ vs. item vs ≡ None) open_.1 i in sym s ∙ rw (open_.0, items_at, here) refl

        pub items_fail : (e : ReadError) → Items close item front ts whole → Fails e (item us) → Fails e whole
        items_fail e k h = fails_by e (item us) whole (λ i. item-fails-at k.turns k.enough k.same i) h

        module _ (x : A) (vs : List Token) (i : item us ≡ Some (x, vs)) where
          here : item ts ≡ Some (x, vs)
          here = subst (λ ws. item ws ≡ Some (x, vs)) open_.1 i

          last-at : (ws : List Token) (n : ℕ) → length ts < n → after front (items_at close item n ts) ≡ whole → eat (mark close) vs ≡ Some ws → whole ≡ Some (front ++ (x ∷ []), ws)
          unfolding items_at
          last-at ws zero l s c = absurd (omega (arith, l))
          last-at ws (suc n) l s c = sym s ∙ rw (open_.0, items_at, here, c, items_then) refl

          pub items_last : Items close item front ts whole → (ws : List Token) → eat (mark close) vs ≡ Some ws → whole ≡ Some (front ++ (x ∷ []), ws)
          items_last k ws c = last-at ws k.turns k.enough k.same c

          -- a comma has to follow
          module _ (ws : List Token) (more : (eat (mark close) vs ≡ None) × (ws ≡ vs)) where
            comma-at : (n : ℕ) → length ts < n → after front (items_at close item n ts) ≡ whole → eat (mark Comma) ws ≡ None → whole ≡ None
            unfolding items_at
            comma-at zero l s c = absurd (omega (arith, l))
            comma-at (suc n) l s c =
                let at : eat (mark Comma) vs ≡ None = subst (λ q. eat (mark Comma) q ≡ None) more.1 c in sym s ∙ rw (open_.0, items_at, here, more.0, items_then, at) refl

            pub items_comma_fails : (e : ReadError) → Items close item front ts whole → Fails e (eat (mark Comma) ws) → Fails e whole
            items_comma_fails e k h = fails_by e (eat (mark Comma) ws) whole (λ c. comma-at k.turns k.enough k.same c) h

            module _ (next : List Token) (c : eat (mark Comma) ws ≡ Some next) (fewer : length next < length ts) where
              item-more-at : (n : ℕ) → length ts < n → after front (items_at close item n ts) ≡ whole → Items close item (front ++ (x ∷ [])) next whole
              unfolding items_at
              item-more-at zero l s = absurd (omega (arith, l))
              item-more-at (suc n) l s =
                  let at : eat (mark Comma) vs ≡ Some next = subst (λ q. eat (mark Comma) q ≡ Some next) more.1 c in
                  record {
                    turns = n;
                    enough = omega (arith, l, fewer);
                    same = sym (one_before front x (items_at close item n next)) ∙ (sym (rw (open_.0, items_at, here, more.0, items_then, at) refl) ∙ s);
                  }

              pub items_more : Items close item front ts whole → Items close item (front ++ (x ∷ [])) next whole
              items_more k = item-more-at k.turns k.enough k.same

-- ---- paths

no_separator : (ts : List Token) → goes_on ts ≡ true → eat (mark ColonColon) ts ≡ None → ⊥
no_separator ts g e = absurd (cc (g, ap (λ o. elim o as (λ _. Bool) [ None ↦ false | Some us ↦ is_word us ]) e))

path_step : (n : ℕ) → ((us : List Token) → path_at n us ≡ chain_at eat_separator id_read n us) → (x : Text × List Token)
    → path_then (path_at n) x ≡ mapped (λ p. x.0 ∷ p) (behind_item eat_separator id_read (chain_at eat_separator id_read n) x.1)
path_step n h x = by (goes_on x.1) refl (eat (mark ColonColon) x.1) refl
  where
    by : (b : Bool) → goes_on x.1 ≡ b → (o : Option (List Token)) → eat (mark ColonColon) x.1 ≡ o
        → elim b as (λ _. Read Name) [ true ↦ o >>= (λ us. mapped (λ p. x.0 ∷ p) (path_at n us)) | false ↦ Some (x.0 ∷ [], x.1) ]
        ≡ mapped (λ p. x.0 ∷ p) (elim (cond b o None) as (λ _. Read Name) [ None ↦ Some ([], x.1) | Some us ↦ chain_at eat_separator id_read n us ])
    by true g None e = absurd (no_separator x.1 g e)
    by true g (Some us) e = ap (mapped (λ p. x.0 ∷ p)) (h us)
    by false g o e = refl

pub path_chain : (n : ℕ) (ts : List Token) → path_at n ts ≡ chain_at eat_separator id_read n ts
unfolding path_at chain_at
path_chain zero ts = refl
path_chain (suc n) ts = by (path_chain n) (id_read ts)
  where
    by : ((us : List Token) → path_at n us ≡ chain_at eat_separator id_read n us) → (r : Read Text)
        → (r >>= path_then (path_at n))
        ≡ elim r as (λ _. Read Name) [ None ↦ None | Some x ↦ mapped (λ p. x.0 ∷ p) (behind_item eat_separator id_read (chain_at eat_separator id_read n) x.1) ]
    by h None = refl
    by h (Some x) = path_step n h x

module _ (n : ℕ) (ts : List Token) where
  pub path_first : (s : Text) (us : List Token) → id_read ts ≡ Some (s, us) → length us ≤ n → Chain eat_separator id_read (s ∷ []) us (path_at (suc n) ts)
  path_first s us i l = subst (Chain eat_separator id_read (s ∷ []) us) (sym (path_chain (suc n) ts)) (chain_first eat_separator id_read n ts s us i l)

  pub path_first_fails : (e : ReadError) → Fails e (id_read ts) → Fails e (path_at (suc n) ts)
  path_first_fails e h = fails_by e (id_read ts) (path_at (suc n) ts) (λ i. path_chain (suc n) ts ∙ chain_first_fails eat_separator id_read n ts i) h
