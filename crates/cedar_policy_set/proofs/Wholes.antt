-- Whole sets stay whole when an id is bound or taken away.
use Rattle.std.proofs.Common.{◌≡◌, Bool, true, false, cond, [], ◌∷◌, ◌++◌, refl, sym, ap, subst, ◌∙◌, true≢false, Option, None, Some, is_some}
use Rattle.std.specs.List.{IsDistinct}
use Rattle.std.specs.Map.{keys_of}
use Rattle.std.specs.Cmp.Lexicographic.{nat_list_eq_equiv}
use Rattle.std.proofs.lemmas.List.{map-append}
use Rattle.std.proofs.lemmas.Map.{lookup-remove_entry}
use Rattle.std.proofs.lemmas.Map.Keys.{IsDistinct-push}
use Rattle.std.proofs.lemmas.Map.Made.{is_some-lookup}
use Rattle.cedar_language.specs.Uid.{Text}
use Rattle.cedar_language.specs.Order.{same_text}
use Rattle.cedar_grammar.specs.Policy.{Policy}
use Rattle.cedar_policy_set.specs.Entries.{Entry, static_policy, template, link, Entries, bound_at, without, HasItsTemplate, IsFull, IsWhole, is_link_to, has_links}
use Rattle.cedar_policy_set.proofs.Finding.{same_id, id_itself, some_apart, found_first, found_later, any_found}

-- a link's template stays when more comes after it
pub has_more : (es more : Entries) (e : Entry) → HasItsTemplate es e → HasItsTemplate (es ++ more) e
has_more es more (static_policy s) h = tt
has_more es more (template s) h = tt
has_more es more (link t s b) h = found_first es more t (template s) h

pub empty_is_whole : IsWhole []
unfolding IsDistinct
empty_is_whole = record { distinct = tt; templates = λ id e h. absurd (some_apart e None refl h); full = λ id e h. absurd (some_apart e None refl h) }

module _ (es : Entries) (id : Text) (e : Entry) (free : bound_at es id ≡ None) where
  -- what is bound after one more id was before, or is this one
  pushed_by : (P : Entry → Type 0) → ((k : Text) (x : Entry) → bound_at es k ≡ Some x → P x) → P e → (k : Text) (x : Entry) → bound_at (es ++ (id, e) ∷ []) k ≡ Some x → P x
  pushed_by P old new k x h = by (bound_at es k) refl
    where
      last : (c : Bool) → cond c (Some e) None ≡ Some x → P x
      last true g = let same : e ≡ x = cc in subst P same new
      last false g = absurd (some_apart x None refl g)

      by : (o : Option Entry) → bound_at es k ≡ o → P x
      by (Some y) f =
          let same : Some y ≡ Some x = sym (found_first es ((id, e) ∷ []) k y f) ∙ h in
          old k x (f ∙ same)
      by None f = last (same_text k id) (sym (found_later es ((id, e) ∷ []) k (ap is_some f)) ∙ h)

  pub whole_push : IsWhole es → HasItsTemplate es e → IsFull e → IsWhole (es ++ (id, e) ∷ [])
  whole_push whole its full =
      record {
        distinct = subst (IsDistinct same_text) (sym (map-append (λ p. p.0) es ((id, e) ∷ [])))
            (IsDistinct-push nat_list_eq_equiv (keys_of es) id whole.distinct (sym (is_some-lookup (same_text id) es) ∙ ap is_some free));
        templates = pushed_by (HasItsTemplate (es ++ (id, e) ∷ [])) (λ k x h. has_more es ((id, e) ∷ []) x (whole.templates k x h)) (has_more es ((id, e) ∷ []) e its);
        full = pushed_by IsFull whole.full full;
      }

-- what is found once an id is taken away
pub found_without : (es : Entries) (id : Text) → IsWhole es → (k : Text) → bound_at (without id es) k ≡ cond (same_text id k) None (bound_at es k)
found_without es id whole k = lookup-remove_entry nat_list_eq_equiv (same_text id) (λ x y h. ap (λ i. same_text i y) (same_id id x h)) k es whole.distinct

module _ (es : Entries) (id : Text) (whole : IsWhole es) (unlinked : (s : Policy) → bound_at es id ≡ Some (template s) → has_links es id ≡ false) where
  still_bound : (k : Text) (e : Entry) → bound_at (without id es) k ≡ Some e → bound_at es k ≡ Some e
  still_bound k e h = by (same_text id k) (sym (found_without es id whole k) ∙ h)
    where
      by : (c : Bool) → cond c None (bound_at es k) ≡ Some e → bound_at es k ≡ Some e
      by true g = absurd (some_apart e None refl g)
      by false g = g

  -- a link that stays has its template still
  still_has : (k : Text) (e : Entry) → bound_at es k ≡ Some e → HasItsTemplate es e → HasItsTemplate (without id es) e
  still_has k (static_policy s) h its = tt
  still_has k (template s) h its = tt
  still_has k (link t s b) h its = found_without es id whole t ∙ by (same_text id t) refl
    where
      by : (c : Bool) → same_text id t ≡ c → cond c None (bound_at es t) ≡ Some (template s)
      by false g = its
      by true g =
          let here : bound_at es id ≡ Some (template s) = ap (bound_at es) (same_id id t g) ∙ its in
          let named : same_text t id ≡ true = ap (same_text t) (same_id id t g) ∙ id_itself t in
          absurd (true≢false (sym (any_found (is_link_to id) es k (link t s b) h named) ∙ unlinked s here))

  pub whole_without : IsDistinct same_text (keys_of (without id es)) → IsWhole (without id es)
  whole_without distinct =
      record {
        distinct = distinct;
        templates = λ k e h. let before = still_bound k e h in still_has k e before (whole.templates k e before);
        full = λ k e h. whole.full k e (still_bound k e h);
      }
