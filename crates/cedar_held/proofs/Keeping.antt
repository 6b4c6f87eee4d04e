-- Sets that a session may hold stay so when they are edited.
use Rattle.std.proofs.Common.{◌≡◌, ◌∙◌, ℕ, suc, Bool, true, false, ◌&&◌, cond, List, [], ◌∷◌, ◌++◌, map, filter, refl, sym, ap, true≢false, is_some, not, Option, None, Some}
use Rattle.std.specs.List.{AllByRecursion, IsDistinct, list_all}
use Rattle.std.specs.Map.{keys_of}
use Rattle.std.specs.Cmp.Lexicographic.{nat_list_eq_equiv}
use Rattle.std.proofs.lemmas.Map.{lookup-remove_entry}
use Rattle.cedar_language.specs.Uid.{Text}
use Rattle.cedar_language.specs.Order.{same_text}
use Rattle.cedar_grammar.specs.Calls.{calls_only}
use Rattle.cedar_grammar.specs.Functions.{is_the_unknown}
use Rattle.cedar_grammar.specs.Bindings.{Bindings}
use Rattle.cedar_grammar.specs.Syntax.{PolicySyntax, is_template, condition}
use Rattle.cedar_policy_set.specs.Entries.{Entry, static_policy, template, link, Entries, bound_at, without}
use Rattle.cedar_policy_set.specs.Texts.{text_entries, syntax_in}
use Rattle.cedar_policy_set.proofs.Finding.{same_id, some_apart, found_first, found_later}
use Rattle.cedar_store.proofs.Wholes.{of_all}
use Rattle.cedar_store.specs.Merged.{renamed_entry, is_more, joining, joined}
use Rattle.cedar_store.specs.Renaming.{NewIds, renamed}
use Rattle.cedar_held.specs.HoldingPolicies.{IsHeld}
use Rattle.cedar_lemmas.proofs.Booleans.{and_both as both}

-- the condition of a policy names no unknown
abbrev names_none : PolicySyntax → Bool
names_none s = calls_only (λ name. not (is_the_unknown name)) (condition s)

-- an entry that a held set may have
abbrev IsFine : Entry → Type 0
IsFine (static_policy s) = (is_template s ≡ false) × (names_none s ≡ true)
IsFine (template s) = (is_template s ≡ true) × (names_none s ≡ true)
IsFine (link t s b) = names_none s ≡ true

-- it is a template where its policy has slots, and a static policy where it has none
abbrev pub IsToldBySlots : Entry → Type 0
IsToldBySlots e = ((s : PolicySyntax) → e ≡ template s → is_template s ≡ true) × ((s : PolicySyntax) → e ≡ static_policy s → is_template s ≡ false)

fine_from : (e : Entry) → IsToldBySlots e → names_none (syntax_in e) ≡ true → IsFine e
fine_from (static_policy s) slots none = (slots.1 s refl, none)
fine_from (template s) slots none = (slots.0 s refl, none)
fine_from (link t s b) slots none = none

no_names : (e : Entry) → IsFine e → names_none (syntax_in e) ≡ true
no_names (static_policy s) h = h.1
no_names (template s) h = h.1
no_names (link t s b) h = h

pub told_by_slots : (es : Entries) → IsHeld es → (id : Text) (e : Entry) → bound_at es id ≡ Some e → IsToldBySlots e
told_by_slots es held id e h = (λ s same. held.slots.templates id s (h ∙ ap Some same), λ s same. held.slots.policies id s (h ∙ ap Some same))

fine_at : (es : Entries) → IsHeld es → (id : Text) (e : Entry) → bound_at es id ≡ Some e → IsFine e
fine_at es held id e h = fine_from e (told_by_slots es held id e h) (held.names id e h)

held_from : (es : Entries) → ((id : Text) (e : Entry) → bound_at es id ≡ Some e → IsFine e) → IsHeld es
held_from es fine = record {
  slots = record { templates = λ id s h. (fine id (template s) h).0; policies = λ id s h. (fine id (static_policy s) h).0 };
  names = λ id e h. no_names e (fine id e h);
}

-- ---- the empty set, and one to which more comes

pub nothing_held : IsHeld []
nothing_held = held_from [] (λ id e h. absurd (some_apart e None refl h))

held_append : (es more : Entries) → IsHeld es → AllByRecursion (λ e. IsFine e.1) more → IsHeld (es ++ more)
held_append es more held fine = held_from (es ++ more) (λ id e h. by id e h (bound_at es id) refl)
  where
    by : (id : Text) (e : Entry) → bound_at (es ++ more) id ≡ Some e → (o : Option Entry) → bound_at es id ≡ o → IsFine e
    by id e h (Some x) f = fine_at es held id e (f ∙ sym (found_first es more id x f) ∙ h)
    by id e h None f = of_all IsFine more fine id e (sym (found_later es more id (ap is_some f)) ∙ h)

-- a link has the syntax of its template
pub held_link : (es : Entries) → IsHeld es → (t id : Text) (s : PolicySyntax) (b : Bindings) → bound_at es t ≡ Some (template s) → IsHeld (es ++ (id, link t s b) ∷ [])
held_link es held t id s b names = held_append es ((id, link t s b) ∷ []) held (held.names t (template s) names, tt)

-- ---- a set from which something goes

pub held_without : (es : Entries) (id : Text) → IsDistinct same_text (keys_of es) → IsHeld es → IsHeld (without id es)
held_without es id distinct held = held_from (without id es) (λ k e h. fine_at es held k e (by k e (same_text id k) (sym (found k) ∙ h)))
  where
    found : (k : Text) → bound_at (without id es) k ≡ cond (same_text id k) None (bound_at es k)
    found k = lookup-remove_entry nat_list_eq_equiv (same_text id) (λ x y h. ap (λ i. same_text i y) (same_id id x h)) k es distinct

    by : (k : Text) (e : Entry) (c : Bool) → cond c None (bound_at es k) ≡ Some e → bound_at es k ≡ Some e
    by k e true g = absurd (some_apart e None refl g)
    by k e false g = g

-- ---- a set with the policies of a text

fine_text : (s : PolicySyntax) → names_none s ≡ true → (c : Bool) → is_template s ≡ c → IsFine (cond c (template s) (static_policy s))
fine_text s none true slots = (slots, none)
fine_text s none false slots = (slots, none)

fine_texts : (i : ℕ) (ss : List PolicySyntax) → list_all names_none ss ≡ true → AllByRecursion (λ e. IsFine e.1) (text_entries i ss)
fine_texts i [] h = tt
fine_texts i (s ∷ ss) h =
    let parts = both (names_none s) (list_all names_none ss) h in
    (fine_text s parts.0 (is_template s) refl, fine_texts (suc i) ss parts.1)

fine_renamed : (r : NewIds) (e : Entry) → IsFine e → IsFine (renamed r e)
fine_renamed r (static_policy s) h = h
fine_renamed r (template s) h = h
fine_renamed r (link t s b) h = h

fine_joining : (mine : Entries) (r : NewIds) (es : Entries) → AllByRecursion (λ e. IsFine e.1) es → AllByRecursion (λ e. IsFine e.1) (joining mine r es)
fine_joining mine r [] h = tt
fine_joining mine r (e ∷ es) h = by (is_more mine e) (fine_joining mine r es h.1)
  where
    by : (c : Bool) → AllByRecursion (λ x. IsFine x.1) (joining mine r es) → AllByRecursion (λ x. IsFine x.1) (map (renamed_entry r) (cond c (e ∷ filter (is_more mine) es) (filter (is_more mine) es)))
    by true rest = (fine_renamed r e.1 h.0, rest)
    by false rest = rest

pub held_joined : (mine : Entries) (ss : List PolicySyntax) (r : NewIds) → IsHeld mine → list_all names_none ss ≡ true → IsHeld (joined mine (text_entries 0 ss) r)
held_joined mine ss r held none = held_append mine (joining mine r (text_entries 0 ss)) held (fine_joining mine r (text_entries 0 ss) (fine_texts 0 ss none))
