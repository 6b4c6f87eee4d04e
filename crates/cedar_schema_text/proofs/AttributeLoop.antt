-- What the loop keeps that reads attributes, and what a type is by its parts.
use Rattle.std.proofs.Common.{◌≡◌, ℕ, zero, suc, ◌-◌, ◌<◌, ◌≤◌, List, [], ◌∷◌, ◌++◌, length, Option, Some, None, refl, sym, ap, ◌∙◌, subst, arith}
use Rattle.cedar_grammar.specs.Steps.{◌>>=◌}
use Rattle.cedar_schema_grammar.specs.Syntax.{TypeSyntax, named, a_set, a_record, AttributesSyntax, no_attributes, an_attribute}
use Rattle.cedar_schema_grammar.specs.Tokens.{LeftBrace, RightBrace, RightAngle, Comma, Token, mark, eat}
use Rattle.cedar_schema_grammar.specs.Grammar.{eat_set}
use Rattle.cedar_schema_grammar.specs.Reading.{Read, mapped, ended, path_at, Key, key_at, attribute_then, type_at, attributes_at}
use Rattle.cedar_schema_syntax.specs.View.{Written, attributes_of}
use Rattle.cedar_schema_text.specs.declared.read_error.ReadError.{ReadError}
use Rattle.cedar_schema_text.specs.Gives.{Fails}
use Rattle.cedar_schema_text.specs.Parts.{attribute_at}
use Rattle.cedar_schema_text.proofs.Loops.{fails_by}
use Rattle.cedar_schema_text.proofs.Stable.{Leaves, eat_leaves, set_leaves, key_within, type_within, no_key, then_same, either_same, type_same, attributes_same}

-- ---- types

module _ (m : ℕ) (ts : List Token) (few : length ts ≤ m) where
  pub type_record : (us : List Token) → eat (mark LeftBrace) ts ≡ Some us → type_at (suc m) ts ≡ mapped a_record (attributes_at (suc m) us)
  unfolding type_at
  type_record us e = rw (e, type_at) (ap (mapped a_record) (by m few us (subst (Leaves (length ts - 1)) e (eat_leaves (mark LeftBrace) (length ts - 1) ts (omega arith))) (some ts us e)))
    where
      some : (ts us : List Token) → eat (mark LeftBrace) ts ≡ Some us → 0 < length ts
      some [] us e = absurd (cc e)
      some (t ∷ ts) us e = omega arith

      by : (m : ℕ) → length ts ≤ m → (us : List Token) → length us ≤ length ts - 1 → 0 < length ts → attributes_at m us ≡ attributes_at (suc m) us
      by m l us k s = attributes_same m (length ts - 1) us (omega (arith, l, s)) k

  pub type_set : (us : List Token) → eat (mark LeftBrace) ts ≡ None → eat_set ts ≡ Some us → type_at (suc m) ts ≡ (type_at (suc m) us >>= λ x. ended (mark RightAngle) (a_set x.0) x.1)
  unfolding type_at
  type_set us e f = rw (e, f, type_at) (ap (λ r. r >>= λ x. ended (mark RightAngle) (a_set x.0) x.1) (by m few us (subst (Leaves (length ts - 1)) f (set_leaves (length ts - 1) ts (omega arith))) (some ts us f)))
    where
      some : (ts us : List Token) → eat_set ts ≡ Some us → 0 < length ts
      some [] us e = absurd (cc e)
      some (t ∷ ts) us e = omega arith

      by : (m : ℕ) → length ts ≤ m → (us : List Token) → length us ≤ length ts - 1 → 0 < length ts → type_at m us ≡ type_at (suc m) us
      by m l us k s = type_same m (length ts - 1) us (omega (arith, l, s)) k

  pub type_named : eat (mark LeftBrace) ts ≡ None → eat_set ts ≡ None → type_at (suc m) ts ≡ mapped named (path_at (suc m) ts)
  unfolding type_at
  type_named e f = rw (e, f, type_at) refl

  -- the same where the brace was looked for before
  module _ (us : List Token) (open_ : (eat (mark LeftBrace) ts ≡ None) × (us ≡ ts)) where
    pub type_set_of : (vs : List Token) → eat_set us ≡ Some vs → type_at (suc m) ts ≡ (type_at (suc m) vs >>= λ x. ended (mark RightAngle) (a_set x.0) x.1)
    type_set_of vs e = type_set vs (open_.0) (subst (λ q. eat_set q ≡ Some vs) (open_.1) e)

    pub type_named_of : (ws : List Token) → (eat_set us ≡ None) × (ws ≡ us) → type_at (suc m) ts ≡ mapped named (path_at (suc m) ws)
    type_named_of ws e = type_named (open_.0) (subst (λ q. eat_set q ≡ None) (open_.1) (e.0)) ∙ ap (λ q. mapped named (path_at (suc m) q)) (sym (e.1 ∙ open_.1))

-- ---- attributes

-- behind an attribute
abbrev pub attribute_behind : (List Token → Read AttributesSyntax) → Written × List Token → Read AttributesSyntax
attribute_behind more w =
    elim (eat (mark Comma) w.1) as (λ _. Read AttributesSyntax) [
      | Some us ↦ mapped (an_attribute w.0.name w.0.presence w.0.type) (more us)
      | None ↦ ended (mark RightBrace) (an_attribute w.0.name w.0.presence w.0.type no_attributes) w.1
    ]

behind_same : (r : Read TypeSyntax) (k : Key) (more : List Token → Read AttributesSyntax) → (r >>= attribute_then more k) ≡ (mapped (λ t. record { name = k.name; presence = k.presence; type = t }) r >>= attribute_behind more)
behind_same None k more = refl
behind_same (Some x) k more = refl

keyed_same : (n : ℕ) (r : Read Key) (more : List Token → Read AttributesSyntax) → (r >>= λ k. type_at n k.1 >>= attribute_then more k.0) ≡ ((r >>= λ k. mapped (λ t. record { name = k.0.name; presence = k.0.presence; type = t }) (type_at n k.1)) >>= attribute_behind more)
keyed_same n None more = refl
keyed_same n (Some k) more = behind_same (type_at n k.1) k.0 more

turned : (m : ℕ) (ts : List Token) → length ts ≤ m → (key_at (suc m) ts >>= λ k. type_at m k.1 >>= attribute_then (attributes_at m) k.0) ≡ (key_at (suc m) ts >>= λ k. type_at (suc m) k.1 >>= attribute_then (attributes_at (suc m)) k.0)
turned zero [] l = no_key zero 1
turned zero (t ∷ ts) l = absurd (omega (arith, l))
turned (suc b) ts l =
    then_same b (key_at (suc (suc b)) ts) _ _ (key_within (suc (suc b)) b ts l)
    (λ k j. ap (λ r. r >>= attribute_then (attributes_at (suc b)) k.0) (type_same (suc b) b k.1 (omega arith) j)
    ∙ then_same b (type_at (suc (suc b)) k.1) (attribute_then (attributes_at (suc b)) k.0) (attribute_then (attributes_at (suc (suc b))) k.0) (type_within (suc (suc b)) b k.1 j)
    (λ x i. either_same b (eat (mark Comma) x.1) _ _ _ _ (eat_leaves (mark Comma) b x.1 (omega (arith, i))) refl
    (λ us h. ap (mapped (an_attribute k.0.name k.0.presence x.0)) (attributes_same (suc b) b us (omega arith) h))))

abbrev pub attributes_step : ℕ → List Token → Read AttributesSyntax
attributes_step n ts =
    elim (eat (mark RightBrace) ts) as (λ _. Read AttributesSyntax) [
      | Some us ↦ Some (no_attributes, us)
      | None ↦ attribute_at n ts >>= attribute_behind (attributes_at n)
    ]

pub attributes_fix : (m : ℕ) (ts : List Token) → length ts ≤ m → attributes_at (suc m) ts ≡ attributes_step (suc m) ts
unfolding attributes_at
attributes_fix m ts l = by (eat (mark RightBrace) ts)
  where
    by : (o : Option (List Token)) → elim o as (λ _. Read AttributesSyntax) [ Some us ↦ Some (no_attributes, us) | None ↦ key_at (suc m) ts >>= λ k. type_at m k.1 >>= attribute_then (attributes_at m) k.0 ]
        ≡ elim o as (λ _. Read AttributesSyntax) [ Some us ↦ Some (no_attributes, us) | None ↦ attribute_at (suc m) ts >>= attribute_behind (attributes_at (suc m)) ]
    by (Some us) = refl
    by None = turned m ts l ∙ keyed_same (suc m) (key_at (suc m) ts) (attributes_at (suc m))

-- attributes before others
abbrev pub joined : List Written → AttributesSyntax → AttributesSyntax
joined [] xs = xs
joined (w ∷ ws) xs = an_attribute w.name w.presence w.type (joined ws xs)

joined_none : (ws : List Written) → joined ws no_attributes ≡ attributes_of ws
joined_none [] = refl
joined_none (w ∷ ws) = ap (an_attribute w.name w.presence w.type) (joined_none ws)

joined_one : (front : List Written) (w : Written) (xs : AttributesSyntax) → joined front (an_attribute w.name w.presence w.type xs) ≡ joined (front ++ (w ∷ [])) xs
joined_one [] w xs = refl
joined_one (v ∷ vs) w xs = ap (an_attribute v.name v.presence v.type) (joined_one vs w xs)

joined_read : (front : List Written) (w : Written) (r : Read AttributesSyntax) → mapped (joined front) (mapped (an_attribute w.name w.presence w.type) r) ≡ mapped (joined (front ++ (w ∷ []))) r
joined_read front w None = refl
joined_read front w (Some x) = ap (λ xs. Some (xs, x.1)) (joined_one front w x.0)

nothing_joined : (r : Read AttributesSyntax) → mapped (joined []) r ≡ r
nothing_joined None = refl
nothing_joined (Some x) = refl

module _ (m : ℕ) where
  -- the attributes so far and those that are read from here on are the whole
  pub record Attributes (front : List Written) (ts : List Token) (whole : Read AttributesSyntax) : Type 0 where
    pub few : length ts ≤ m
    pub same : mapped (joined front) (attributes_at (suc m) ts) ≡ whole

  pub attributes_start : (ts : List Token) → length ts ≤ m → Attributes [] ts (attributes_at (suc m) ts)
  attributes_start ts l = record { few = l; same = nothing_joined (attributes_at (suc m) ts) }

  module _ (front : List Written) (ts : List Token) (whole : Read AttributesSyntax) (k : Attributes front ts whole) where
    step : mapped (joined front) (attributes_step (suc m) ts) ≡ whole
    step = ap (mapped (joined front)) (sym (attributes_fix m ts k.few)) ∙ k.same

    pub attributes_closed : (us : List Token) → eat (mark RightBrace) ts ≡ Some us → whole ≡ Some (attributes_of front, us)
    attributes_closed us c = sym step ∙ rw (c, attributes_step) (ap (λ xs. Some (xs, us)) (joined_none front))

    -- an attribute has to be next
    module _ (us : List Token) (open_ : (eat (mark RightBrace) ts ≡ None) × (us ≡ ts)) where
      none-here : attribute_at (suc m) us ≡ None → whole ≡ None
      none-here i = let here : attribute_at (suc m) ts ≡ None = subst (λ vs. attribute_at (suc m) vs ≡ None) open_.1 i in sym step ∙ rw (open_.0, attributes_step, here) refl

      pub attributes_fail : (e : ReadError) → Fails e (attribute_at (suc m) us) → Fails e whole
      attributes_fail e h = fails_by e (attribute_at (suc m) us) whole none-here h

      module _ (w : Written) (vs : List Token) (i : attribute_at (suc m) us ≡ Some (w, vs)) where
        behind : mapped (joined front) (attribute_behind (attributes_at (suc m)) (w, vs)) ≡ whole
        behind = let here : attribute_at (suc m) ts ≡ Some (w, vs) = subst (λ ws. attribute_at (suc m) ws ≡ Some (w, vs)) open_.1 i in sym (rw (open_.0, attributes_step, here) refl) ∙ step

        -- a comma may follow
        module _ (ws : List Token) (last : (eat (mark Comma) vs ≡ None) × (ws ≡ vs)) where
          end-none : eat (mark RightBrace) ws ≡ None → whole ≡ None
          end-none c = let at : eat (mark RightBrace) vs ≡ None = subst (λ q. eat (mark RightBrace) q ≡ None) last.1 c in sym behind ∙ rw (last.0, attribute_behind, at) refl

          pub attributes_end_fails : (e : ReadError) → Fails e (eat (mark RightBrace) ws) → Fails e whole
          attributes_end_fails e h = fails_by e (eat (mark RightBrace) ws) whole end-none h

          pub attributes_last : (next : List Token) → eat (mark RightBrace) ws ≡ Some next → whole ≡ Some (attributes_of (front ++ (w ∷ [])), next)
          attributes_last next c =
              let at : eat (mark RightBrace) vs ≡ Some next = subst (λ q. eat (mark RightBrace) q ≡ Some next) last.1 c in
              sym behind ∙ rw (last.0, attribute_behind, at) (ap (λ xs. Some (xs, next)) (joined_one front w no_attributes ∙ joined_none (front ++ (w ∷ []))))

        pub attributes_more : (next : List Token) → eat (mark Comma) vs ≡ Some next → length next ≤ m → Attributes (front ++ (w ∷ [])) next whole
        attributes_more next c l = record { few = l; same = sym (joined_read front w (attributes_at (suc m) next)) ∙ (sym (rw (c, attribute_behind) refl) ∙ behind) }
