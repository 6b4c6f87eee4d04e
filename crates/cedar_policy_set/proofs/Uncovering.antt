-- What an index of scopes covers of a set stays covered when an entry is taken out and those behind it move up.
use Rattle.std.proofs.Common.{◌≡◌, ◌⊎◌, inl, inr, ℕ, suc, zero, ◌+◌, ◌-◌, ◌<◌, ◌≤◌, Bool, true, false, not, cond, ltb, lt-ltb, le-ltb, ltb-true, ltb-false, List, [], ◌∷◌, length, refl, sym, ap, subst, ◌∙◌, None, Some, arith}
use Rattle.std.specs.Prelude.{position}
use Rattle.std.specs.List.{slice_get, position_or_len}
use Rattle.std.specs.Map.{keys_of, remove_entry}
use Rattle.cedar_language.specs.Uid.{Text}
use Rattle.cedar_language.specs.Order.{same_text}
use Rattle.cedar_grammar.specs.Policy as grammar
use Rattle.cedar_grammar.specs.Bindings.{Bindings}
use Rattle.cedar_policy_parts.specs.Bindings.{unbound}
use Rattle.cedar_policy_set.specs.ScopeFinding.{IsFound, covered}
use Rattle.cedar_policy_set.specs.ClosedPlaces.{closed_up}
use Rattle.cedar_policy_set.specs.declared.scope_index.index.ScopeIndex.{ScopeIndex}
use Rattle.cedar_policy_set.specs.Entries.{Entry, static_policy, template, link, Entries, without}
use Rattle.cedar_policy_set.specs.Bounds.{entry_of, entries_of}
use Rattle.cedar_policy_set.specs.declared.bounds.BoundKind.{BoundKind}
use Rattle.cedar_policy_set.specs.Scopes.{IsEntryFound, Covers}
use Rattle.cedar_policy_set.proofs.Placed.{nothing_taken}
use Rattle.cedar_policy_set.proofs.Telling.{stands_at}
use Rattle.cedar_policy_set.proofs.Views.{keys_of_entries}

below_or_not : (p n : ℕ) → ((p < n) × (ltb p n ≡ true)) ⊎ ((n ≤ p) × (ltb p n ≡ false))
below_or_not p n = by (ltb p n) refl
  where
    by : (b : Bool) → ltb p n ≡ b → ((p < n) × (ltb p n ≡ true)) ⊎ ((n ≤ p) × (ltb p n ≡ false))
    by true e = inl (ltb-true p n e, e)
    by false e = inr (ltb-false p n e, e)

module _ {X : Type 0} (test : Text → Bool) where
  -- where the entry stands that is taken out
  abbrev pub out_at : List (Text × X) → ℕ
  out_at es = position_or_len test (keys_of es)

  -- what stands at a position then stood there, or behind it
  stood_next : (e : Text × X) (es : List (Text × X)) (p : ℕ) → slice_get es p ≡ slice_get (e ∷ es) (p + 1)
  stood_next e es p = ap (slice_get (e ∷ es)) (let same : suc p ≡ p + 1 = omega arith in same)

  abbrev Stood : List (Text × X) → List (Text × X) → ℕ → ℕ → Type 0
  Stood new old out p = slice_get new p ≡ slice_get old (cond (ltb p out) p (p + 1))

  pub stood : (es : List (Text × X)) (p : ℕ) → out_at es < length es → Stood (remove_entry test es) es (out_at es) p
  stood [] p within = absurd (let never : ⊥ = omega arith in never)
  stood (e ∷ es) p within = by (test e.0) within p (λ q l. stood es q l)
    where
      by : (b : Bool) → cond (not b) (1 + out_at es) 0 < length (e ∷ es) → (q : ℕ) → ((r : ℕ) → out_at es < length es → Stood (remove_entry test es) es (out_at es) r)
          → Stood (cond b es (e ∷ remove_entry test es)) (e ∷ es) (cond (not b) (1 + out_at es) 0) q
      by true l q rest = stood_next e es q ∙ ap (λ c. slice_get (e ∷ es) (cond c q (q + 1))) (sym (le-ltb q 0 (omega arith)))
      by false l zero rest = ap (λ c. slice_get (e ∷ es) (cond c 0 1)) (sym (lt-ltb 0 (1 + out_at es) (omega arith)))
      by false l (suc q) rest = ends (below_or_not q (out_at es))
        where
          own : Stood (remove_entry test es) es (out_at es) q
          own = rest q (omega arith)

          ends : ((q < out_at es) × (ltb q (out_at es) ≡ true)) ⊎ ((out_at es ≤ q) × (ltb q (out_at es) ≡ false)) → slice_get (remove_entry test es) q ≡ slice_get (e ∷ es) (cond (ltb (suc q) (1 + out_at es)) (suc q) (suc q + 1))
          ends (inl a) =
              let (before, is) = a in
              own ∙ ap (λ c. slice_get es (cond c q (q + 1))) is ∙ ap (λ c. slice_get (e ∷ es) (cond c (suc q) (suc q + 1))) (sym (lt-ltb (suc q) (1 + out_at es) (omega arith)))
          ends (inr a) =
              let (behind, is) = a in
              own ∙ ap (λ c. slice_get es (cond c q (q + 1))) is ∙ stood_next e es (q + 1) ∙ ap (slice_get (e ∷ es)) (let same : q + 1 + 1 ≡ suc q + 1 = omega arith in same)
              ∙ ap (λ c. slice_get (e ∷ es) (cond c (suc q) (suc q + 1))) (sym (le-ltb (suc q) (1 + out_at es) (omega arith)))

  -- one fewer is left
  pub one_fewer : (es : List (Text × X)) → out_at es < length es → length (remove_entry test es) + 1 ≡ length es
  one_fewer [] within = absurd (let never : ⊥ = omega arith in never)
  one_fewer (e ∷ es) within = by (test e.0) within (one_fewer es)
    where
      by : (b : Bool) → cond (not b) (1 + out_at es) 0 < length (e ∷ es) → (out_at es < length es → length (remove_entry test es) + 1 ≡ length es) → length (cond b es (e ∷ remove_entry test es)) + 1 ≡ length (e ∷ es)
      by true l rest = omega arith
      by false l rest = let less = rest (omega arith) in omega arith

-- what is found is found where it stands then
abbrev pub KeepsClosedUp : ScopeIndex → ScopeIndex → ℕ → Type 0
KeepsClosedUp x y out = (p : ℕ) (b : Bindings) (s : grammar.Policy) → closed_up out p < covered y → IsFound x p b s → IsFound y (closed_up out p) b s

module _ (x y : ScopeIndex) (out : ℕ) (kept : KeepsClosedUp x y out) where
  entry_kept : (p q : ℕ) (e : Entry) → closed_up out p ≡ q → q < covered y → IsEntryFound x p e → IsEntryFound y q e
  entry_kept p q (static_policy s) at within found = subst (λ r. IsFound y r unbound s) at (kept p unbound s (subst (λ r. r < covered y) (sym at) within) found)
  entry_kept p q (template s) at within found = tt
  entry_kept p q (link t s b) at within found = subst (λ r. IsFound y r b s) at (kept p b s (subst (λ r. r < covered y) (sym at) within) found)

  pub covers_without : (test : Text → Bool) (es : Entries) → out ≡ out_at test es → out_at test es < length es → covered y ≤ covered x → (out < covered x → covered y < covered x) → Covers es x → Covers (remove_entry test es) y
  covers_without test es is inside no_more fewer covers = record {
    within = by_end (below_or_not out (covered x));
    found = λ p e below at. by_side p e below at (below_or_not p out);
  }
    where
      less : length (remove_entry test es) + 1 ≡ length es
      less = one_fewer test es inside

      by_end : ((out < covered x) × (ltb out (covered x) ≡ true)) ⊎ ((covered x ≤ out) × (ltb out (covered x) ≡ false)) → covered y ≤ length (remove_entry test es)
      by_end (inl a) = let own = covers.within in let gone = fewer a.0 in let short = less in omega arith
      by_end (inr a) = let behind = a.0 in let short = less in omega arith

      stands : (p : ℕ) (c : Bool) → ltb p out ≡ c → slice_get (remove_entry test es) p ≡ slice_get es (cond c p (p + 1))
      stands p c is_so = stood test es p inside ∙ ap (λ n. slice_get es (cond (ltb p n) p (p + 1))) (sym is) ∙ ap (λ d. slice_get es (cond d p (p + 1))) is_so

      by_side : (p : ℕ) (e : Text × Entry) → p < covered y → slice_get (remove_entry test es) p ≡ Some e → ((p < out) × (ltb p out ≡ true)) ⊎ ((out ≤ p) × (ltb p out ≡ false)) → IsEntryFound y p e.1
      by_side p e below at (inl a) =
          let before = a.0 in
          entry_kept p p e.1 (ap (λ c. cond c (p - 1) p) (le-ltb out p (omega arith))) below (covers.found p e (omega arith) (sym (stands p true a.1) ∙ at))
      by_side p e below at (inr a) =
          let behind = a.0 in
          let gone = fewer (omega arith) in
          let back : p + 1 - 1 ≡ p = omega arith in
          entry_kept (p + 1) p e.1 (ap (λ c. cond c (p + 1 - 1) (p + 1)) (lt-ltb out (p + 1) (omega arith)) ∙ back) below (covers.found (p + 1) e (omega arith) (sym (stands p false a.1) ∙ at))

-- ---- of a map

as_long : (es : List (Text × BoundKind)) → length (keys_of es) ≡ length (entries_of es)
as_long [] = refl
as_long (e ∷ es) = ap suc (as_long es)

module _ (es : List (Text × BoundKind)) (id : Text) (x : ScopeIndex) (covers : Covers (entries_of es) x) where
  at_is : position_or_len (same_text id) (keys_of es) ≡ out_at (same_text id) (entries_of es)
  at_is = ap (position_or_len (same_text id)) (sym (keys_of_entries es))

  -- the entry of an id is taken out
  pub covers_taken : (i : ℕ) (y : ScopeIndex) → Some i ≡ position (same_text id) (keys_of es) → covered y ≤ covered x → (i < covered x → covered y < covered x) → KeepsClosedUp x y i → Covers (without id (entries_of es)) y
  covers_taken i y told no_more fewer kept =
      let (is, within) = stands_at (same_text id) (keys_of es) i told in
      covers_without x y i kept (same_text id) (entries_of es) (is ∙ at_is) (omega (arith, within, at_is, as_long es)) no_more fewer covers

  -- no entry has it
  pub covers_absent : None ≡ position (same_text id) (keys_of es) → Covers (without id (entries_of es)) x
  covers_absent told = subst (λ fs. Covers fs x) (sym (nothing_taken (same_text id) (entries_of es) (told ∙ ap (position (same_text id)) (sym (keys_of_entries es))))) covers
