-- What the loops keep that read declarations and whole schemas.
use Rattle.std.proofs.Common.{◌≡◌, ℕ, zero, suc, ◌<◌, true, false, List, [], ◌∷◌, ◌++◌, length, Option, Some, None, not, refl, sym, ap, ◌∙◌, subst, arith}
use Rattle.std.proofs.lemmas.List.{append-nil, append_assoc}
use Rattle.std.specs.Option.{option_map}
use Rattle.cedar_language.specs.Uid.{Name}
use Rattle.cedar_grammar.specs.Steps.{◌>>=◌}
use Rattle.cedar_schema_grammar.specs.Syntax.{Declaration, Namespace, SchemaSyntax}
use Rattle.cedar_schema_grammar.specs.Tokens.{LeftBrace, RightBrace, Token, mark, eat}
use Rattle.cedar_schema_grammar.specs.Grammar.{namespace_word}
use Rattle.cedar_schema_grammar.specs.Reading.{Read, mapped, path_at, annotations_at, declaration_at, declared_then, declarations_at, is_end, block, lone_then, namespace_then, block_then, schema_at}
use Rattle.cedar_schema_text.specs.declared.read_error.ReadError.{ReadError}
use Rattle.cedar_schema_text.specs.Gives.{Fails}
use Rattle.cedar_schema_text.specs.Parts.{annotated_at, namespace_at, lone_at, unannotated_at, block_at}
use Rattle.cedar_schema_text.proofs.Loops.{fails_by, after, none_before, one_before}

-- ---- declarations

module _ (m : ℕ) where
  annotated_same : (o : Option (List Token)) (more : List Token → Read (List Declaration)) → (o >>= λ us. declaration_at m us >>= declared_then more) ≡ ((o >>= declaration_at m) >>= declared_then more)
  annotated_same None more = refl
  annotated_same (Some us) more = refl

  -- the declarations so far and those that are read from here on are the whole
  pub record Declared (front : List Declaration) (ts : List Token) (whole : Read (List Declaration)) : Type 0 where
    pub turns : ℕ
    pub enough : length ts < turns
    pub same : after front (declarations_at m turns ts) ≡ whole

  pub declared_start : (n : ℕ) (ts : List Token) → length ts < n → Declared [] ts (declarations_at m n ts)
  declared_start n ts l = record { turns = n; enough = l; same = none_before (declarations_at m n ts) }

  module _ (front : List Declaration) (ts : List Token) (whole : Read (List Declaration)) where
    closed-at : (us : List Token) (n : ℕ) → length ts < n → after front (declarations_at m n ts) ≡ whole → eat (mark RightBrace) ts ≡ Some us → whole ≡ Some (front, us)
    unfolding declarations_at
    closed-at us zero l s c = absurd (omega (arith, l))
    closed-at us (suc n) l s c = sym s ∙ rw (c, declarations_at) (ap (λ xs. Some (xs, us)) (append-nil front))

    pub declared_closed : Declared front ts whole → (us : List Token) → eat (mark RightBrace) ts ≡ Some us → whole ≡ Some (front, us)
    declared_closed k us c = closed-at us k.turns k.enough k.same c

    -- a declaration has to be next
    module _ (us : List Token) (open_ : (eat (mark RightBrace) ts ≡ None) × (us ≡ ts)) where
      open-step : (n : ℕ) → after front (declarations_at m (suc n) ts) ≡ whole → after front (annotated_at m us >>= declared_then (declarations_at m n)) ≡ whole
      unfolding declarations_at
      open-step n s = subst (λ vs. after front (annotated_at m vs >>= declared_then (declarations_at m n)) ≡ whole) (sym open_.1) (ap (after front) (sym (annotated_same (annotations_at m ts) (declarations_at m n))) ∙ (sym (rw (open_.0, declarations_at) refl) ∙ s))

      fails-at : (n : ℕ) → length ts < n → after front (declarations_at m n ts) ≡ whole → annotated_at m us ≡ None → whole ≡ None
      fails-at zero l s i = absurd (omega (arith, l))
      fails-at (suc n) l s i = sym (open-step n s) ∙ ap (λ r. after front (r >>= declared_then (declarations_at m n))) i

      pub declared_fail : (e : ReadError) → Declared front ts whole → Fails e (annotated_at m us) → Fails e whole
      declared_fail e k h = fails_by e (annotated_at m us) whole (λ i. fails-at k.turns k.enough k.same i) h

      module _ (d : Declaration) (vs : List Token) (i : annotated_at m us ≡ Some (d, vs)) (fewer : length vs < length ts) where
        more-at : (n : ℕ) → length ts < n → after front (declarations_at m n ts) ≡ whole → Declared (front ++ (d ∷ [])) vs whole
        more-at zero l s = absurd (omega (arith, l))
        more-at (suc n) l s =
            record {
              turns = n;
              enough = omega (arith, l, fewer);
              same = sym (one_before front d (declarations_at m n vs)) ∙ (ap (λ r. after front (r >>= declared_then (declarations_at m n))) (sym i) ∙ open-step n s);
            }

        pub declared_more : Declared front ts whole → Declared (front ++ (d ∷ [])) vs whole
        declared_more k = more-at k.turns k.enough k.same

-- ---- schemas

abbrev pub prefixed : List Namespace → Option SchemaSyntax → Option SchemaSyntax
prefixed front read = option_map (λ ns. front ++ ns) read

none_prefixed : (read : Option SchemaSyntax) → prefixed [] read ≡ read
none_prefixed None = refl
none_prefixed (Some ns) = refl

one_prefixed : (front : List Namespace) (x : Namespace) (read : Option SchemaSyntax) → prefixed front (prefixed (x ∷ []) read) ≡ prefixed (front ++ (x ∷ [])) read
one_prefixed front x None = refl
one_prefixed front x (Some ns) = ap Some (sym (append_assoc front (x ∷ []) ns))

abbrev pub then_blocks : (List Token → Option SchemaSyntax) → Namespace × List Token → Option SchemaSyntax
then_blocks more x = prefixed (x.0 ∷ []) (more x.1)

block_prefixed : (p : Name) (ds : List Declaration) (read : Option SchemaSyntax) → block p ds read ≡ prefixed (record { path = p; declarations = ds } ∷ []) read
block_prefixed p ds None = refl
block_prefixed p ds (Some ns) = refl

module _ (m : ℕ) (more : List Token → Option SchemaSyntax) where
  lone_same : (r : Read Declaration) → (r >>= lone_then more) ≡ (mapped (λ d. record { path = []; declarations = d ∷ [] }) r >>= then_blocks more)
  lone_same None = refl
  lone_same (Some d) = block_prefixed [] (d.0 ∷ []) (more d.1)

  declared_same : (p : Name) (r : Read (List Declaration)) → (r >>= λ ds. block p ds.0 (more ds.1)) ≡ (mapped (λ ds. record { path = p; declarations = ds }) r >>= then_blocks more)
  declared_same p None = refl
  declared_same p (Some ds) = block_prefixed p ds.0 (more ds.1)

  braced_same : (p : Name) (o : Option (List Token)) → (o >>= λ us. declarations_at m m us >>= λ ds. block p ds.0 (more ds.1)) ≡ ((o >>= λ us. mapped (λ ds. record { path = p; declarations = ds }) (declarations_at m m us)) >>= then_blocks more)
  braced_same p None = refl
  braced_same p (Some us) = declared_same p (declarations_at m m us)

  namespace_same : (r : Read Name) → (r >>= namespace_then m more) ≡ ((r >>= λ p. eat (mark LeftBrace) p.1 >>= λ us. mapped (λ ds. record { path = p.0; declarations = ds }) (declarations_at m m us)) >>= then_blocks more)
  namespace_same None = refl
  namespace_same (Some p) = braced_same p.0 (eat (mark LeftBrace) p.1)

  unannotated_same : (ts : List Token) (o : Option (List Token))
      → elim o as (λ _. Option SchemaSyntax) [ Some us ↦ path_at m us >>= namespace_then m more | None ↦ declaration_at m ts >>= lone_then more ]
      ≡ (elim o as (λ _. Read Namespace) [ Some us ↦ namespace_at m us | None ↦ lone_at m ts ] >>= then_blocks more)
  unannotated_same ts (Some us) = namespace_same (path_at m us)
  unannotated_same ts None = lone_same (declaration_at m ts)

  block_same : (o : Option (List Token)) → (o >>= block_then m more) ≡ ((o >>= unannotated_at m) >>= then_blocks more)
  block_same None = refl
  block_same (Some us) = unannotated_same us (eat namespace_word us)

module _ (m : ℕ) where
  -- the blocks so far and those that are read from here on are the whole
  pub record Blocks (front : List Namespace) (ts : List Token) (whole : Option SchemaSyntax) : Type 0 where
    pub turns : ℕ
    pub enough : length ts < turns
    pub same : prefixed front (schema_at m turns ts) ≡ whole

  pub blocks_start : (n : ℕ) (ts : List Token) → length ts < n → Blocks [] ts (schema_at m n ts)
  blocks_start n ts l = record { turns = n; enough = l; same = none_prefixed (schema_at m n ts) }

  module _ (front : List Namespace) (ts : List Token) (whole : Option SchemaSyntax) where
    blocks-done-at : (n : ℕ) → length ts < n → prefixed front (schema_at m n ts) ≡ whole → is_end ts ≡ true → whole ≡ Some front
    unfolding schema_at
    blocks-done-at zero l s e = absurd (omega (arith, l))
    blocks-done-at (suc n) l s e = sym s ∙ rw (e, schema_at) (ap Some (append-nil front))

    pub blocks_done : Blocks front ts whole → is_end ts ≡ true → whole ≡ Some front
    blocks_done k e = blocks-done-at k.turns k.enough k.same e

    module _ (more : is_end ts ≡ false) where
      block-step : (n : ℕ) → prefixed front (schema_at m (suc n) ts) ≡ whole → prefixed front (block_at m ts >>= then_blocks (schema_at m n)) ≡ whole
      unfolding schema_at
      block-step n s = ap (prefixed front) (sym (block_same m (schema_at m n) (annotations_at m ts))) ∙ (sym (rw (more, schema_at) refl) ∙ s)

      block-fails-at : (n : ℕ) → length ts < n → prefixed front (schema_at m n ts) ≡ whole → block_at m ts ≡ None → whole ≡ None
      block-fails-at zero l s i = absurd (omega (arith, l))
      block-fails-at (suc n) l s i = sym (block-step n s) ∙ ap (λ r. prefixed front (r >>= then_blocks (schema_at m n))) i

      pub blocks_fail : (e : ReadError) → Blocks front ts whole → Fails e (block_at m ts) → Fails e whole
      blocks_fail e k h = fails_by e (block_at m ts) whole (λ i. block-fails-at k.turns k.enough k.same i) h

      module _ (x : Namespace) (vs : List Token) (i : block_at m ts ≡ Some (x, vs)) (fewer : length vs < length ts) where
        block-more-at : (n : ℕ) → length ts < n → prefixed front (schema_at m n ts) ≡ whole → Blocks (front ++ (x ∷ [])) vs whole
        block-more-at zero l s = absurd (omega (arith, l))
        block-more-at (suc n) l s =
            record {
              turns = n;
              enough = omega (arith, l, fewer);
              same = sym (one_prefixed front x (schema_at m n vs)) ∙ (ap (λ r. prefixed front (r >>= then_blocks (schema_at m n))) (sym i) ∙ block-step n s);
            }

        pub blocks_more : Blocks front ts whole → Blocks (front ++ (x ∷ [])) vs whole
        blocks_more k = block-more-at k.turns k.enough k.same

pub is_more_end : (ts : List Token) → true ≡ not (is_end ts) → is_end ts ≡ false
is_more_end [] e = absurd (cc e)
is_more_end (t ∷ ts) e = refl

pub is_no_more_end : (ts : List Token) → false ≡ not (is_end ts) → is_end ts ≡ true
is_no_more_end [] e = refl
is_no_more_end (t ∷ ts) e = absurd (cc e)
