-- What is found along edges is what they reach.
use Rattle.std.proofs.Common.{◌≡◌, ◌⊎◌, inl, inr, ◌≤◌, Bool, true, false, ◌&&◌, ◌||◌, not, List, [], ◌∷◌, ◌++◌, length, Option, Some, None, refl, sym, ap, ◌∙◌, subst, true≢false}
use mathlib.Core.Path.{fun_ext}
use Rattle.std.specs.Prelude.{◌↔◌, IfNone}
use Rattle.std.specs.Cmp.{IsEquivalence}
use Rattle.std.specs.Global.{Vec}
use Rattle.std.specs.List.{list_any, flat_map, IsDistinct}
use Rattle.std.specs.Map.{lookup}
use Rattle.std.specs.Option.{option_map_or}
use Rattle.std.specs.Ordering.{eq_by_cmp}
use Rattle.std.specs.declared.cmp.Ordering.{Ordering}
use Rattle.std.specs.Set.{is_member}
use Rattle.std.specs.BTreeMap.{is_at}
use Rattle.std.specs.BTreeSet.{contains, IsOrdered}
use Rattle.std.proofs.lemmas.List.Folds.{list_any-append}
use Rattle.std.proofs.lemmas.Map.Keys.{IsDistinct-from_sorted}
use Rattle.std.proofs.lemmas.Map.Made.{length-le_from_is_member}
use Rattle.cedar_language.specs.Facts.{Reaches, edge, further}
use Rattle.cedar_language.proofs.Booleans.{or_cases, or_left, or_right, and_left, and_both}
use Rattle.cedar_validator_schema.specs.Hierarchies.{targets_at, Leads}
use Rattle.cedar_validator_schema.specs.Searches.{seen_by, IsNew, SeesMore}
use Rattle.cedar_validator_schema.specs.declared.hierarchies.Hierarchy.{Hierarchy}
use Rattle.cedar_validator_schema.specs.declared.searches.Search.{Search}

-- all targets of edges
abbrev pub all_targets : {K : Type 0} → List (K × Vec K) → List K
all_targets es = flat_map (λ e. e.1.items) es

-- a search under way from a key: what was seen is reached, and what edges lead to from it is seen too, unless they are still to be followed
pub record IsFound {K : Type 0} (eq : K → K → Bool) (cmp : K → K → Ordering) (h : Hierarchy K) (from : K) (s : Search K) : Type 0 where
  pub sound : (q : K) → seen_by cmp s q ≡ true → Reaches (Leads eq cmp h) from q
  pub waiting : (q : K) → is_member eq s.pending.items q ≡ true → seen_by cmp s q ≡ true
  pub closed : (x q : K) → seen_by cmp s x ≡ true → is_member eq s.pending.items x ≡ false → Leads eq cmp h x q → seen_by cmp s q ≡ true
  pub first : (q : K) → Leads eq cmp h from q → seen_by cmp s q ≡ true
  pub ordered : IsOrdered cmp s.seen

further_on : {K : Type 0} {Edge : K → K → Type 0} {a b c : K} → Reaches Edge a b → Edge b c → Reaches Edge a c
further_on (edge e) f = further e (edge f)
further_on (further e r) f = further e (further_on r f)

either : (b : Bool) → (b ≡ true) ⊎ (b ≡ false)
either true = inl refl
either false = inr refl

module _ {K : Type 0} (eq : K → K → Bool) (cmp : K → K → Ordering) (h : Hierarchy K) (from : K) where
  -- ---- at the start

  pub found_first : (s t : Search K) → IsNew cmp s → SeesMore eq cmp (targets_at cmp h from) s t → IsFound eq cmp h from t
  found_first s t new more = record {
    sound = λ q e. edge (sym (seen_is q) ∙ e);
    waiting = λ q e. seen_is q ∙ and_left (is_member eq (targets_at cmp h from) q) (not (seen_by cmp s q)) (sym (waits q) ∙ e);
    closed = λ x q e w l. absurd (true≢false (sym (waits x ∙ and_both _ _ (sym (seen_is x) ∙ e) (ap not (nothing x))) ∙ w));
    first = λ q e. seen_is q ∙ e;
    ordered = more.ordered new.ordered;
  }
    where
      nothing : (q : K) → seen_by cmp s q ≡ false
      nothing q = ap (list_any (is_at (cmp q))) new.seen

      seen_is : (q : K) → seen_by cmp t q ≡ is_member eq (targets_at cmp h from) q
      seen_is q = more.seen q ∙ ap (λ b. b || is_member eq (targets_at cmp h from) q) (nothing q)

      waits : (q : K) → is_member eq t.pending.items q ≡ (is_member eq (targets_at cmp h from) q && not (seen_by cmp s q))
      waits q = more.pending q ∙ ap (λ b. b || (is_member eq (targets_at cmp h from) q && not (seen_by cmp s q))) (ap (list_any (eq q)) new.pending)

  -- ---- one more whose edges are followed

  module _ (laws : IsEquivalence eq) (exact : (x y : K) → eq x y ≡ true → x ≡ y) (s m t : Search K) (via : K) (is : IsFound eq cmp h from s)
      (same : m.seen ≡ s.seen) (popped : s.pending.items ≡ m.pending.items ++ via ∷ []) (more : SeesMore eq cmp (targets_at cmp h via) m t) where
    before : (q : K) → seen_by cmp m q ≡ seen_by cmp s q
    before q = ap (λ x. contains cmp x q) same

    was_waiting : (q : K) → is_member eq s.pending.items q ≡ (is_member eq m.pending.items q || (eq q via || false))
    was_waiting q = ap (λ xs. is_member eq xs q) popped ∙ list_any-append (eq q) m.pending.items (via ∷ [])

    via_seen : seen_by cmp s via ≡ true
    via_seen = is.waiting via (was_waiting via ∙ or_right (is_member eq m.pending.items via) (eq via via || false) (or_left (eq via via) false
        (laws.refl via)))

    kept : (q : K) → seen_by cmp s q ≡ true → seen_by cmp t q ≡ true
    kept q e = more.seen q ∙ or_left (seen_by cmp m q) (is_member eq (targets_at cmp h via) q) (before q ∙ e)

    added : (q : K) → is_member eq (targets_at cmp h via) q ≡ true → seen_by cmp t q ≡ true
    added q e = more.seen q ∙ or_right (seen_by cmp m q) (is_member eq (targets_at cmp h via) q) e

    sound : (q : K) → seen_by cmp t q ≡ true → Reaches (Leads eq cmp h) from q
    sound q e = by (or_cases (seen_by cmp m q) (is_member eq (targets_at cmp h via) q) (sym (more.seen q) ∙ e))
      where
        by : (seen_by cmp m q ≡ true) ⊎ (is_member eq (targets_at cmp h via) q ≡ true) → Reaches (Leads eq cmp h) from q
        by (inl f) = is.sound q (sym (before q) ∙ f)
        by (inr f) = further_on (is.sound via via_seen) f

    waiting : (q : K) → is_member eq t.pending.items q ≡ true → seen_by cmp t q ≡ true
    waiting q e = by (or_cases (is_member eq m.pending.items q) (is_member eq (targets_at cmp h via) q && not (seen_by cmp m q)) (sym (more.pending q) ∙ e))
      where
        by : (is_member eq m.pending.items q ≡ true) ⊎ ((is_member eq (targets_at cmp h via) q && not (seen_by cmp m q)) ≡ true) → seen_by cmp t q ≡ true
        by (inl f) = kept q (is.waiting q (was_waiting q ∙ or_left (is_member eq m.pending.items q) (eq q via || false) f))
        by (inr f) = added q (and_left (is_member eq (targets_at cmp h via) q) (not (seen_by cmp m q)) f)

    closed : (x q : K) → seen_by cmp t x ≡ true → is_member eq t.pending.items x ≡ false → Leads eq cmp h x q → seen_by cmp t q ≡ true
    closed x q e w l = elim (either (seen_by cmp m x)) [
      | inr new ↦
          let member = sym (ap (λ b. b || is_member eq (targets_at cmp h via) x) new) ∙ sym (more.seen x) ∙ e in
          absurd (true≢false (sym (more.pending x ∙ or_right (is_member eq m.pending.items x) _ (and_both _ _ member (ap not new))) ∙ w))
      | inl old ↦ elim (either (is_member eq m.pending.items x)) [
        | inl still ↦ absurd (true≢false (sym (more.pending x ∙ or_left (is_member eq m.pending.items x) _ still) ∙ w))
        | inr gone ↦ elim (either (eq x via)) [
          | inl here ↦ added q (subst (λ y. Leads eq cmp h y q) (exact x via here) l)
          | inr there ↦
              kept q (is.closed x q (sym (before x) ∙ old)
              (was_waiting x ∙ ap (λ b. b || (eq x via || false)) gone ∙ ap (λ b. b || false) there) l)
        ]
      ]
    ]

    pub found_more : IsFound eq cmp h from t
    found_more = record {
      sound = sound;
      waiting = waiting;
      closed = closed;
      first = λ q l. kept q (is.first q l);
      ordered = more.ordered (subst (IsOrdered cmp) (sym same) is.ordered);
    }

  -- ---- as many as there are at most

  member_all : (test : K → Bool) (es : List (K × Vec K)) (y : K) → list_any (eq y) (option_map_or (λ row. row.items) (lookup test es) []) ≡ true
      → is_member eq (all_targets es) y ≡ true
  member_all test [] y e = absurd (cc e)
  member_all test (p ∷ es) y e = by (test p.0) refl e (member_all test es y)
    where
      by : (b : Bool) → test p.0 ≡ b → list_any (eq y) (option_map_or (λ row. row.items) (lookup test (p ∷ es)) []) ≡ true
          → (list_any (eq y) (option_map_or (λ row. row.items) (lookup test es) []) ≡ true → is_member eq (all_targets es) y ≡ true)
          → is_member eq (all_targets (p ∷ es)) y ≡ true
      by true f g ih = list_any-append (eq y) p.1.items (all_targets es) ∙ or_left (list_any (eq y) p.1.items) _ (rw (f, lookup) at g)
      by false f g ih = list_any-append (eq y) p.1.items (all_targets es) ∙ or_right (list_any (eq y) p.1.items) _ (ih (rw (f, lookup) at g))

  reached_among : (x q : K) → Reaches (Leads eq cmp h) x q → is_member eq (all_targets h.targets.entries) q ≡ true
  reached_among x q (edge e) = member_all (is_at (cmp x)) h.targets.entries q e
  reached_among x q (further {b} e r) = reached_among b q r

  pub not_more : (laws : IsEquivalence eq) (ties : (x y : K) → eq x y ≡ eq_by_cmp cmp x y) (s : Search K) → IsFound eq cmp h from s
      → length s.seen.keys ≤ length (all_targets h.targets.entries)
  not_more laws ties s is =
      let alike : eq_by_cmp cmp ≡ eq = fun_ext (λ x. fun_ext (λ y. sym (ties x y))) in
      length-le_from_is_member laws s.seen.keys (all_targets h.targets.entries)
      (subst (λ e. IsDistinct e s.seen.keys) alike (IsDistinct-from_sorted cmp s.seen.keys is.ordered))
      (λ q e. reached_among from q (is.sound q (ap (λ f. list_any f s.seen.keys) (fun_ext (λ k. sym (ties q k))) ∙ e)))

  -- ---- at the end

  pub found_all : (s : Search K) → IsFound eq cmp h from s → s.pending.items ≡ [] → (q : K) → (seen_by cmp s q ≡ true) ↔ Reaches (Leads eq cmp h) from q
  found_all s is none q = (is.sound q, reached)
    where
      on : (x y : K) → seen_by cmp s x ≡ true → Reaches (Leads eq cmp h) x y → seen_by cmp s y ≡ true
      on x y e (edge l) = is.closed x y e (ap (list_any (eq x)) none) l
      on x y e (further {b} l r) = on b y (is.closed x b e (ap (list_any (eq x)) none) l) r

      reached : Reaches (Leads eq cmp h) from q → seen_by cmp s q ≡ true
      reached (edge l) = is.first q l
      reached (further {b} l r) = on b q (is.first b l) r

-- nothing is left where none comes
pub none_left : {A P : Type 0} (o : Option A) → IfNone o P → ((x : A) → o ≡ Some x → ⊥) → P
none_left None p n = p
none_left (Some x) p n = absurd (n x refl)
