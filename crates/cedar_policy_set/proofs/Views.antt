-- What the map of a policy set holds, and what contracts see of it.
use Rattle.std.proofs.Common.{◌≡◌, ℕ, zero, suc, Bool, true, false, cond, List, [], ◌∷◌, ◌++◌, map, refl, sym, ap, subst, ◌∙◌, Option, None, Some, is_some}
use Rattle.std.specs.Option.{option_map, option_map_or, option_copied}
use Rattle.std.specs.List.{slice_get}
use Rattle.std.specs.Prelude.{IfSome, if◌then◌else◌}
use Rattle.std.proofs.lemmas.Option.{slice_get-map}
use denote.Ref.{Bor}
use Rattle.std.specs.Map.{lookup, keys_of, values_of, remove_entry}
use Rattle.std.proofs.lemmas.List.{map-append}
use Rattle.std.proofs.lemmas.Map.Made.{lookup-map_values, keys_of-map_values}
use Rattle.cedar_language.specs.Uid.{Text}
use Rattle.cedar_language.specs.Order.{same_text}
use Rattle.cedar_policy_set.specs.Entries.{bound_at, without, is_policy}
use Rattle.cedar_policy_set.specs.Scopes.{policy_stood}
use Rattle.cedar_policy_set.specs.declared.bounds.BoundKind.{BoundKind}
use Rattle.cedar_policy_set.specs.Bounds.{entry_of, bound_id, entries_of, seen, IsNamed, ListsSlots, ListTheirSlots}
use Rattle.cedar_policy_set.proofs.Finding.{same_id, some_apart, remove_entry-map}

abbrev first_of : {X : Type 0} → X → List X → X
first_of x [] = x
first_of x (y ∷ ys) = y

abbrev rest_of : {X : Type 0} → List X → List X
rest_of [] = []
rest_of (y ∷ ys) = ys

pub head_named : (e : Text × BoundKind) (es : List (Text × BoundKind)) → IsNamed (e ∷ es) → bound_id e.1 ≡ e.0
head_named e es h = ap (first_of (bound_id e.1)) h

pub tail_named : (e : Text × BoundKind) (es : List (Text × BoundKind)) → IsNamed (e ∷ es) → IsNamed es
tail_named e es h = ap rest_of h

-- what is found stands under its own id
pub named_at : (es : List (Text × BoundKind)) → IsNamed es → (id : Text) (b : BoundKind) → lookup (same_text id) es ≡ Some b → bound_id b ≡ id
named_at [] h id b f = absurd (some_apart b None refl f)
named_at (e ∷ es) h id b f = by (same_text id e.0) refl f (named_at es (tail_named e es h) id b)
  where
    by : (c : Bool) → same_text id e.0 ≡ c → cond c (Some e.1) (lookup (same_text id) es) ≡ Some b
        → (lookup (same_text id) es ≡ Some b → bound_id b ≡ id) → bound_id b ≡ id
    by true s g rest = let same : e.1 ≡ b = cc in ap bound_id (sym same) ∙ head_named e es h ∙ sym (same_id id e.0 s)
    by false s g rest = rest g

pub named_append : (es more : List (Text × BoundKind)) → IsNamed es → IsNamed more → IsNamed (es ++ more)
named_append es more h k = map-append (λ e. bound_id e.1) es more ∙ ap (λ xs. xs ++ map (λ e. bound_id e.1) more) h ∙ ap (λ xs. keys_of es ++ xs) k
    ∙ sym (map-append (λ e. e.0) es more)

pub named_push : (es : List (Text × BoundKind)) (id : Text) (b : BoundKind) → IsNamed es → bound_id b ≡ id → IsNamed (es ++ (id, b) ∷ [])
named_push es id b h k = named_append es ((id, b) ∷ []) h (ap (λ x. x ∷ []) k)

pub named_without : (test : Text → Bool) (es : List (Text × BoundKind)) → IsNamed es → IsNamed (remove_entry test es)
named_without test [] h = refl
named_without test (e ∷ es) h = by (test e.0) (named_without test es (tail_named e es h))
  where
    by : (c : Bool) → IsNamed (remove_entry test es) → IsNamed (cond c es (e ∷ remove_entry test es))
    by true rest = tail_named e es h
    by false rest = (λ i. head_named e es h i ∷ rest i)

all_append : (bs more : List BoundKind) → ListTheirSlots bs → ListTheirSlots more → ListTheirSlots (bs ++ more)
all_append [] more h k = k
all_append (b ∷ bs) more h k = (h.0, all_append bs more h.1 k)

pub listed_append : (es more : List (Text × BoundKind)) → ListTheirSlots (values_of es) → ListTheirSlots (values_of more)
    → ListTheirSlots (values_of (es ++ more))
listed_append es more h k = subst ListTheirSlots (sym (map-append (λ e. e.1) es more)) (all_append (values_of es) (values_of more) h k)

pub listed_push : (es : List (Text × BoundKind)) (id : Text) (b : BoundKind) → ListTheirSlots (values_of es) → ListsSlots b
    → ListTheirSlots (values_of (es ++ (id, b) ∷ []))
listed_push es id b h k = listed_append es ((id, b) ∷ []) h (k, tt)

pub listed_without : (test : Text → Bool) (es : List (Text × BoundKind)) → ListTheirSlots (values_of es) → ListTheirSlots (values_of (remove_entry test es))
listed_without test [] h = tt
listed_without test (e ∷ es) h = by (test e.0) (listed_without test es h.1)
  where
    by : (c : Bool) → ListTheirSlots (values_of (remove_entry test es)) → ListTheirSlots (values_of (cond c es (e ∷ remove_entry test es)))
    by true rest = h.1
    by false rest = (h.0, rest)

-- the values, each under its own id, are the entries
pub seen_values : (es : List (Text × BoundKind)) → IsNamed es → seen (values_of es) ≡ entries_of es
seen_values [] h = refl
seen_values (e ∷ es) h = (λ i. (head_named e es h i, entry_of e.1) ∷ seen_values es (tail_named e es h) i)

pub found_entry : (es : List (Text × BoundKind)) (id : Text) → bound_at (entries_of es) id ≡ option_map entry_of (lookup (same_text id) es)
found_entry es id = lookup-map_values entry_of (same_text id) es

pub keys_of_entries : (es : List (Text × BoundKind)) → keys_of (entries_of es) ≡ keys_of es
keys_of_entries es = keys_of-map_values entry_of es

pub entries_append : (es more : List (Text × BoundKind)) → entries_of (es ++ more) ≡ entries_of es ++ entries_of more
entries_append es more = map-append (λ e. (e.0, entry_of e.1)) es more

pub entries_without : (id : Text) (es : List (Text × BoundKind)) → entries_of (remove_entry (same_text id) es) ≡ without id (entries_of es)
entries_without id es = sym (remove_entry-map entry_of (same_text id) es)

pub found_some : (es : List (Text × BoundKind)) (id : Text) → is_some (bound_at (entries_of es) id) ≡ is_some (lookup (same_text id) es)
found_some es id = ap is_some (found_entry es id) ∙ by (lookup (same_text id) es)
  where
    by : (o : Option BoundKind) → is_some (option_map entry_of o) ≡ is_some o
    by None = refl
    by (Some b) = refl

pub taken_named : (es : List (Text × BoundKind)) → IsNamed es → (id : Text) (r : Option BoundKind) → r ≡ lookup (same_text id) es
    → IfSome r (λ b. bound_id b ≡ id)
taken_named es h id None e = tt
taken_named es h id (Some b) e = named_at es h id b (sym e)

pub found_named : (es : List (Text × BoundKind)) → IsNamed es → (id : Text) (r : Option (Bor BoundKind)) → option_copied r ≡ lookup (same_text id) es
    → IfSome r (λ b. bound_id b.now ≡ id)
found_named es h id None e = tt
found_named es h id (Some b) e = named_at es h id b.now (sym e)

-- what stands at a position stands under its own id
named_there : (es : List (Text × BoundKind)) → IsNamed es → (p : ℕ) (id : Text) (b : BoundKind) → slice_get es p ≡ Some (id, b) → bound_id b ≡ id
named_there [] h p id b at = absurd (some_apart (id, b) None refl at)
named_there (e ∷ es) h zero id b at = ap bound_id (sym (ap (λ o. option_map_or (λ x. x.1) o b) at)) ∙ head_named e es h
    ∙ ap (λ o. option_map_or (λ x. x.0) o id) at
named_there (e ∷ es) h (suc p) id b at = named_there es (tail_named e es h) p id b at

pub stood_at : (es : List (Text × BoundKind)) → IsNamed es → (p : ℕ) (id : Text) (b : BoundKind) → slice_get es p ≡ Some (id, b)
    → policy_stood (slice_get (entries_of es) p) ≡ (if is_policy (entry_of b) then Some (bound_id b, entry_of b) else None)
stood_at es h p id b at =
    ap policy_stood (slice_get-map (λ e. (e.0, entry_of e.1)) es p)
    ∙ ap (λ o. policy_stood (option_map (λ e. (e.0, entry_of e.1)) o)) at
    ∙ ap (λ i. if is_policy (entry_of b) then Some (i, entry_of b) else None) (sym (named_there es h p id b at))

pub stood_nowhere : (es : List (Text × BoundKind)) (p : ℕ) → slice_get es p ≡ None → policy_stood (slice_get (entries_of es) p) ≡ None
stood_nowhere es p at = ap policy_stood (slice_get-map (λ e. (e.0, entry_of e.1)) es p) ∙ ap (λ o. policy_stood (option_map (λ e. (e.0, entry_of e.1)) o)) at
