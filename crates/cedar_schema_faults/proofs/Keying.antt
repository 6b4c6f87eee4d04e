-- Keys with what is told where one stands again.
use Rattle.std.proofs.Common.{◌≡◌, ℕ, ◌+◌, ◌<◌, Bool, true, false, cond, ◌||◌, List, [], ◌∷◌, ◌++◌, length, take, get_or, refl, sym, ap, ◌∙◌, subst}
use Rattle.std.specs.Prelude.{map}
use Rattle.std.specs.List.{list_any}
use Rattle.std.specs.declared.cmp.Ordering.{Ordering}
use Rattle.std.specs.BTreeMap.{is_at}
use Rattle.std.proofs.lemmas.List.{map-append, take_more}
use Rattle.cedar_language.specs.Uid.{Text}
use Rattle.cedar_schema_grammar.specs.Faults.{SchemaFault, repeated, attribute_names}
use Rattle.cedar_schema_syntax.specs.View.{Written, attributes_of, attribute_view, attributes_view}
use Rattle.cedar_schema_syntax.specs.declared.types.Attribute.{Attribute}
use Rattle.cedar_schema_faults.specs.Views.{fault_view}
use Rattle.cedar_schema_faults.specs.Repeats.{shares_key, with_fault, keyed_view, HaveKeys, AddsKey}
use Rattle.cedar_schema_faults.specs.declared.kinds.SchemaError.{SchemaError}

module _ {K : Type 0} (fault : K → SchemaFault) where
  -- a loop over what has keys
  pub one_more_keyed : {A X : Type 0} (view : X → A) (key : A → K) (xs : List X) (i : ℕ) (x : X) (old new : List (K × SchemaError)) → i < length xs
      → x ≡ get_or xs i x → HaveKeys fault (map key (map view (take i xs))) old → AddsKey fault (key (view x)) old new
      → HaveKeys fault (map key (map view (take (i + 1) xs))) new
  one_more_keyed view key xs i x old new low here have add =
      let cut : map view (take (i + 1) xs) ≡ map view (take i xs) ++ view x ∷ []
      = ap (map view) (take_more xs i x low ∙ ap (λ y. take i xs ++ y ∷ []) (sym here)) ∙ map-append view (take i xs) (x ∷ []) in
      let keys : map key (map view (take (i + 1) xs)) ≡ map key (map view (take i xs)) ++ key (view x) ∷ []
      = ap (map key) cut ∙ map-append key (map view (take i xs)) (view x ∷ []) in
      add ∙ ap (λ ps. ps ++ with_fault fault (key (view x)) ∷ []) have
      ∙ sym (ap (map (with_fault fault)) keys ∙ map-append (with_fault fault) (map key (map view (take i xs))) (key (view x) ∷ []))

  module _ (cmp : K → K → Ordering) (same : K → K → Bool) (tells : (x y : K) → is_at (cmp y) x ≡ same x y) where
    again : (k : K) (p : K × SchemaError) → p.0 ≡ k → (ks : List K) (ps : List (K × SchemaError)) → HaveKeys fault ks ps
        → list_any (shares_key cmp p) ps ≡ list_any (same k) ks
    again k p e [] [] have = refl
    again k p e [] (q ∷ ps) have = absurd (cc have)
    again k p e (j ∷ ks) [] have = absurd (cc have)
    again k p e (j ∷ ks) (q ∷ ps) have =
        let head : keyed_view q ≡ with_fault fault j = cc have in
        let rest : HaveKeys fault ks ps = cc have in
        let first : q.0 ≡ j = ap (λ (r : K × SchemaFault). r.0) head in
        ap (λ b. b || list_any (shares_key cmp p) ps) (tells p.0 q.0 ∙ ap (λ x. same x q.0) e ∙ ap (same k) first)
        ∙ ap (λ b. same k j || b) (again k p e ks ps rest)

    pub repeated_faults : (ks : List K) (ps : List (K × SchemaError)) → HaveKeys fault ks ps
        → map (λ p. fault_view p.1) (repeated (shares_key cmp) ps) ≡ map fault (repeated same ks)
    repeated_faults [] [] have = refl
    repeated_faults [] (p ∷ ps) have = absurd (cc have)
    repeated_faults (k ∷ ks) [] have = absurd (cc have)
    repeated_faults (k ∷ ks) (p ∷ ps) have =
        let head : keyed_view p ≡ with_fault fault k = cc have in
        let rest : HaveKeys fault ks ps = cc have in
        by (list_any (shares_key cmp p) ps) (list_any (same k) ks) (again k p (ap (λ (r : K × SchemaFault). r.0) head) ks ps rest)
        (ap (λ (r : K × SchemaFault). r.1) head) (repeated_faults ks ps rest)
      where
        by : (b c : Bool) → b ≡ c → fault_view p.1 ≡ fault k → map (λ q. fault_view q.1) (repeated (shares_key cmp) ps) ≡ map fault (repeated same ks)
            → map (λ q. fault_view q.1) (cond b (p ∷ repeated (shares_key cmp) ps) (repeated (shares_key cmp) ps))
            ≡ map fault (cond c (k ∷ repeated same ks) (repeated same ks))
        by true true e f g = ap (λ x. x ∷ map (λ q. fault_view q.1) (repeated (shares_key cmp) ps)) f ∙ ap (λ xs. fault k ∷ xs) g
        by false false e f g = g
        by true false e f g = absurd (cc e)
        by false true e f g = absurd (cc e)

-- ---- the names of attributes

names_of : (ws : List Written) → map (λ (w : Written). w.name) ws ≡ attribute_names (attributes_of ws)
names_of [] = refl
names_of (w ∷ ws) = ap (λ ns. w.name ∷ ns) (names_of ws)

pub names_are : (xs : List Attribute) → map (λ (w : Written). w.name) (map attribute_view xs) ≡ attribute_names (attributes_view xs)
names_are xs = names_of (map attribute_view xs)
