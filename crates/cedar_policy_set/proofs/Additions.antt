-- What adding a policy does, and for which ids it isn't added.
use Rattle.std.proofs.Common.{◌≡◌, Bool, true, false, not, ◌||◌, cond, [], ◌∷◌, ◌++◌, refl, sym, ap, subst, ◌∙◌, true≢false, Option, None, Some, is_some}
use Rattle.std.specs.Option.{option_map_or, ForNone, ForSome}
use Rattle.std.specs.List.{list_any}
use Rattle.std.specs.Map.{keys_of}
use Rattle.std.proofs.lemmas.List.{append_assoc, map-append}
use Rattle.std.proofs.lemmas.List.Folds.{list_any-append}
use Rattle.std.proofs.lemmas.Map.Made.{is_some-lookup}
use Rattle.std.proofs.lemmas.Bool.{not-false, not-true}
use Rattle.cedar_language.specs.Uid.{Text}
use Rattle.cedar_language.specs.Order.{same_text}
use Rattle.cedar_grammar.specs.Policy.{Policy, scope_slots}
use Rattle.cedar_grammar.specs.Bindings.{Bindings, binds_exactly}
use Rattle.cedar_policy_set.specs.Entries.{Entry, static_policy, template, link, Entries, bound_at, is_bound, IsFull, IsWhole}
use Rattle.cedar_policy_set.specs.EntryNodes.{same_entry, entries_decide}
use Rattle.cedar_policy_set.specs.Bounds.{entry_by}
use Rattle.cedar_policy_set.specs.Refused.{taken, in_the_way, lacks_template, added}
use Rattle.cedar_policy_set.proofs.Finding.{id_itself, none_from, some_apart, found_later}
use Rattle.cedar_policy_set.proofs.Wholes.{whole_push}

pub full_entry : (o : Option Text) (t : Text) (s : Policy) (b : Bindings) → ForNone o (scope_slots s ≡ []) → ForSome o (λ _. binds_exactly b s ≡ true) → IsFull (entry_by o t s b)
full_entry None t s b own fills = own refl
full_entry (Some id) t s b own fills = fills id refl

pub free_from : (es : Entries) (id : Text) → taken es id ≡ None → bound_at es id ≡ None
free_from es id h = none_from (bound_at es id) (by (is_bound es id) h)
  where
    by : (c : Bool) → cond c (Some id) None ≡ None → c ≡ false
    by true g = absurd (some_apart id None refl (sym g))
    by false g = refl

bound_push : (es : Entries) (p : Text × Entry) (a : Text) → is_bound (es ++ p ∷ []) a ≡ (is_bound es a || (same_text a p.0 || false))
bound_push es p a =
    is_some-lookup (same_text a) (es ++ p ∷ []) ∙ ap (list_any (same_text a)) (map-append (λ q. q.0) es (p ∷ [])) ∙ list_any-append (same_text a) (keys_of es) (p.0 ∷ [])
    ∙ ap (λ c. c || (same_text a p.0 || false)) (sym (is_some-lookup (same_text a) es))

module _ (es : Entries) (id t : Text) (s : Policy) (b : Bindings) where
  way_none : bound_at es t ≡ None → in_the_way es id (link t s b) ≡ taken (es ++ (t, template s) ∷ []) id
  way_none h =
      ap (λ o. cond (option_map_or (λ e. not (same_entry e (template s))) o false) (Some t) (taken (cond (is_some o) es (es ++ (t, template s) ∷ [])) id)) h

  way_some : (e : Entry) → bound_at es t ≡ Some e → in_the_way es id (link t s b) ≡ cond (not (same_entry e (template s))) (Some t) (taken es id)
  way_some e h =
      ap (λ o. cond (option_map_or (λ x. not (same_entry x (template s))) o false) (Some t) (taken (cond (is_some o) es (es ++ (t, template s) ∷ [])) id)) h

  or_true : (a : Bool) → (a || (true || false)) ≡ true
  or_true true = refl
  or_true false = refl

  or_none : (a : Bool) → (a || (false || false)) ≡ a
  or_none true = refl
  or_none false = refl

  -- the link has its template's id, which isn't bound
  pub way_same : bound_at es t ≡ None → same_text id t ≡ true → in_the_way es id (link t s b) ≡ Some id
  way_same h g = way_none h ∙ ap (λ c. cond c (Some id) None) (bound_push es (t, template s) id ∙ ap (λ c. is_bound es id || (c || false)) g ∙ or_true (is_bound es id))

  -- its template's id isn't bound, and is another one
  pub way_apart : bound_at es t ≡ None → same_text id t ≡ false → in_the_way es id (link t s b) ≡ taken es id
  way_apart h g = way_none h ∙ ap (λ c. cond c (Some id) None) (bound_push es (t, template s) id ∙ ap (λ c. is_bound es id || (c || false)) g ∙ or_none (is_bound es id))

  -- its template's id is bound to something else
  pub way_clash : (e : Entry) → bound_at es t ≡ Some e → same_entry e (template s) ≡ false → in_the_way es id (link t s b) ≡ Some t
  way_clash e h g = way_some e h ∙ ap (λ c. cond (not c) (Some t) (taken es id)) g

  -- its template is bound
  pub way_shared : (e : Entry) → bound_at es t ≡ Some e → same_entry e (template s) ≡ true → in_the_way es id (link t s b) ≡ taken es id
  way_shared e h g = way_some e h ∙ ap (λ c. cond (not c) (Some t) (taken es id)) g

  -- a link that is added after its template has another id
  pub way_differs : bound_at es t ≡ None → in_the_way es id (link t s b) ≡ None → same_text id t ≡ false
  way_differs h free = by (same_text id t) refl
    where
      by : (c : Bool) → same_text id t ≡ c → same_text id t ≡ false
      by true g = absurd (some_apart id None refl (sym free ∙ way_same h g))
      by false g = g

  added_none : bound_at es t ≡ None → added es id (link t s b) ≡ (es ++ (t, template s) ∷ []) ++ (id, link t s b) ∷ []
  added_none h = ap (λ o. cond (is_some o) es (es ++ (t, template s) ∷ []) ++ (id, link t s b) ∷ []) h

  added_some : (e : Entry) → bound_at es t ≡ Some e → added es id (link t s b) ≡ es ++ (id, link t s b) ∷ []
  added_some e h = ap (λ o. cond (is_some o) es (es ++ (t, template s) ∷ []) ++ (id, link t s b) ∷ []) h

  link_added : IsWhole es → in_the_way es id (link t s b) ≡ None → IsFull (link t s b) → IsWhole (added es id (link t s b))
  link_added whole free full = by (bound_at es t) refl
    where
      shared : (e : Entry) → bound_at es t ≡ Some e → (c : Bool) → same_entry e (template s) ≡ c → IsWhole (added es id (link t s b))
      shared e h true g =
          let its : bound_at es t ≡ Some (template s) = h ∙ ap Some ((entries_decide e (template s)).0 g) in
          subst IsWhole (sym (added_some e h)) (whole_push es id (link t s b) (free_from es id (sym (way_shared e h g) ∙ free)) whole its full)
      shared e h false g = absurd (some_apart t None refl (sym free ∙ way_clash e h g))

      by : (o : Option Entry) → bound_at es t ≡ o → IsWhole (added es id (link t s b))
      by (Some e) h = shared e h (same_entry e (template s)) refl
      by None h =
          let before = whole_push es t (template s) h whole tt tt in
          let its : bound_at (es ++ (t, template s) ∷ []) t ≡ Some (template s) =
          found_later es ((t, template s) ∷ []) t (ap is_some h) ∙ ap (λ c. cond c (Some (template s)) None) (id_itself t) in
          subst IsWhole (sym (added_none h))
          (whole_push (es ++ (t, template s) ∷ []) id (link t s b) (free_from (es ++ (t, template s) ∷ []) id (sym (way_none h) ∙ free)) before its full)

-- the set stays whole
pub whole_added : (es : Entries) (id : Text) (e : Entry) → IsWhole es → in_the_way es id e ≡ None → IsFull e → IsWhole (added es id e)
whole_added es id (static_policy s) whole free full = whole_push es id (static_policy s) (free_from es id free) whole tt full
whole_added es id (template s) whole free full = whole_push es id (template s) (free_from es id free) whole tt tt
whole_added es id (link t s b) whole free full = link_added es id t s b whole free full

-- without a template that is new, one entry comes last
pub added_alone : (es : Entries) (id : Text) (e : Entry) → lacks_template es e ≡ false → added es id e ≡ es ++ (id, e) ∷ []
added_alone es id (static_policy s) h = refl
added_alone es id (template s) h = refl
added_alone es id (link t s b) h = ap (λ c. cond c es (es ++ (t, template s) ∷ []) ++ (id, link t s b) ∷ []) (not-false (is_bound es t) h)

-- and with one the two come last
pub added_both : (es : Entries) (id t : Text) (s : Policy) (b : Bindings) → lacks_template es (link t s b) ≡ true → added es id (link t s b) ≡ es ++ (t, template s) ∷ (id, link t s b) ∷ []
added_both es id t s b h =
    ap (λ c. cond c es (es ++ (t, template s) ∷ []) ++ (id, link t s b) ∷ []) (not-true (is_bound es t) h) ∙ append_assoc es ((t, template s) ∷ []) ((id, link t s b) ∷ [])

pub lacks_is_none : (es : Entries) (t : Text) (s : Policy) (b : Bindings) → lacks_template es (link t s b) ≡ true → bound_at es t ≡ None
lacks_is_none es t s b h = none_from (bound_at es t) (not-true (is_bound es t) h)

-- the same of a policy
pub differs_from : (es : Entries) (id : Text) (o : Option Text) (t : Text) (s : Policy) (b : Bindings) → in_the_way es id (entry_by o t s b) ≡ None → lacks_template es (entry_by o t s b) ≡ true → same_text id t ≡ false
differs_from es id None t s b free lacks = absurd (true≢false (sym lacks))
differs_from es id (Some l) t s b free lacks = way_differs es id t s b (lacks_is_none es t s b lacks) free

pub both_are : (es : Entries) (id : Text) (o : Option Text) (t : Text) (s : Policy) (b : Bindings) → lacks_template es (entry_by o t s b) ≡ true → added es id (entry_by o t s b) ≡ es ++ (t, template s) ∷ (id, entry_by o t s b) ∷ []
both_are es id None t s b lacks = absurd (true≢false (sym lacks))
both_are es id (Some l) t s b lacks = added_both es id t s b lacks
