-- Names and ids, each the other way round.
use Rattle.std.proofs.Common.{◌≡◌, Bool, true, false, List, [], ◌∷◌, ◌++◌, Option, Some, None, is_some, cond, refl, sym, ap, subst, ◌∙◌, true≢false}
use Rattle.std.specs.List.{IsDistinct, AllByRecursion}
use Rattle.std.specs.Map.{keys_of}
use Rattle.std.specs.Cmp.Lexicographic.{bytes_decides, nat_list_eq_equiv as same_text_equiv}
use Rattle.std.proofs.lemmas.List.{map-append}
use Rattle.std.proofs.lemmas.Map.Keys.{IsDistinct-head, IsDistinct-tail}
use Rattle.cedar_language.specs.Uid.{Text}
use Rattle.cedar_language.specs.Order.{same_text}
use Rattle.cedar_named_sessions.specs.NameLists.{Names, given_to, swapped, without}

is_none : {A : Type 0} {x : A} → Some x ≡ None → ⊥
is_none e = true≢false (ap is_some e)

same_some : {A : Type 0} {x y : A} → Some x ≡ Some y → x ≡ y
same_some e = cc

-- ---- taking back

-- where nothing was given, nothing is taken back
pub nothing_taken : (id : Text) (names : Names) → given_to names id ≡ None → without id names ≡ names
nothing_taken id [] h = refl
nothing_taken id (e ∷ es) h = by (same_text id e.0) h (nothing_taken id es)
  where
    by : (b : Bool) → cond b (Some e.1) (given_to es id) ≡ None → (given_to es id ≡ None → without id es ≡ es) → cond b es (e ∷ without id es) ≡ e ∷ es
    by true h rest = absurd (is_none h)
    by false h rest = ap (λ fs. e ∷ fs) (rest h)

-- the name that was given last
pub last_taken : (id name : Text) (names : Names) → given_to names id ≡ None → without id (names ++ (id, name) ∷ []) ≡ names
last_taken id name [] h = ap (λ b. cond b [] ((id, name) ∷ [])) ((bytes_decides id id).1 refl)
last_taken id name (e ∷ es) h = by (same_text id e.0) h (last_taken id name es)
  where
    by : (b : Bool) → cond b (Some e.1) (given_to es id) ≡ None → (given_to es id ≡ None → without id (es ++ (id, name) ∷ []) ≡ es)
        → cond b (es ++ (id, name) ∷ []) (e ∷ without id (es ++ (id, name) ∷ [])) ≡ e ∷ es
    by true h rest = absurd (is_none h)
    by false h rest = ap (λ fs. e ∷ fs) (rest h)

-- ---- the other way round

pub swapped_more : (id name : Text) (names : Names) → swapped (names ++ (id, name) ∷ []) ≡ swapped names ++ (name, id) ∷ []
swapped_more id name names = map-append (λ e. (e.1, e.0)) names ((id, name) ∷ [])

-- what holds of all names holds of the one that was given
all_given : (P : Text → Type 0) (id name : Text) (names : Names) → AllByRecursion P (keys_of (swapped names)) → given_to names id ≡ Some name → P name
all_given P id name [] all h = absurd (is_none (sym h))
all_given P id name (e ∷ es) all h = by (same_text id e.0) h (all_given P id name es all.1)
  where
    by : (b : Bool) → cond b (Some e.1) (given_to es id) ≡ Some name → (given_to es id ≡ Some name → P name) → P name
    by true h rest = subst P (same_some h) all.0
    by false h rest = rest h

pub swapped_without : (id name : Text) (names : Names) → IsDistinct same_text (keys_of (swapped names)) → given_to names id ≡ Some name
    → swapped (without id names) ≡ without name (swapped names)
swapped_without id name [] distinct h = refl
swapped_without id name (e ∷ es) distinct h = by (same_text id e.0) h (swapped_without id name es (IsDistinct-tail same_text e.1 (keys_of (swapped es)) distinct))
  where
    rest : Bool → Names
    rest b = cond b (swapped es) ((e.1, e.0) ∷ without name (swapped es))

    by : (b : Bool) → cond b (Some e.1) (given_to es id) ≡ Some name → (given_to es id ≡ Some name → swapped (without id es) ≡ without name (swapped es))
        → swapped (cond b es (e ∷ without id es)) ≡ rest (same_text name e.1)
    by true h later = ap rest (sym ((bytes_decides name e.1).1 (sym (same_some h))))
    by false h later =
        let apart = all_given (λ y. same_text e.1 y ≡ false) id name es (IsDistinct-head same_text e.1 (keys_of (swapped es)) distinct) h in
        ap (λ fs. (e.1, e.0) ∷ fs) (later h) ∙ ap rest (sym (same_text_equiv.symm name e.1 ∙ apart))
