-- Whether two policy sets bind the same ids to the same things, in whatever order.
use Rattle.std.proofs.Common.{◌≡◌, Bool, true, false, ◌&&◌, cond, List, [], ◌∷◌, refl, sym, ap, ◌∙◌, true≢false, Option, Some, None, is_some}
use Rattle.std.specs.Prelude.{◌↔◌, IsTrue}
use Rattle.std.specs.Bool.{Decides}
use Rattle.std.specs.Cmp.{IsEquivalence, first_so, second_so, both_ways, decided, on_equiv, and_equiv}
use Rattle.std.specs.Cmp.Lexicographic.{bytes_decides, nat_list_eq_equiv}
use Rattle.std.specs.List.{list_all}
use Rattle.std.specs.Map.{keys_of}
use Rattle.std.specs.Option.{option_eq}
use Rattle.cedar_language.specs.Uid.{Text}
use Rattle.cedar_language.specs.Order.{same_text}
use Rattle.cedar_policy_set.specs.Entries.{Entry, Entries, bound_at}
use Rattle.cedar_policy_set.specs.EntryNodes.{same_entry, entries_decide}
use Rattle.cedar_policy_set.specs.Bounds.{bound_id, entry_of}
use Rattle.cedar_policy_set.specs.declared.bounds.BoundKind.{BoundKind}

-- each id is bound in both to one thing, or in neither
abbrev pub BindAlike : Entries → Entries → Type 0
BindAlike es fs = (id : Text) → bound_at es id ≡ bound_at fs id

-- whether both have one thing at an id, or neither has any
abbrev pub alike_at : Entries → Entries → Text → Bool
alike_at es fs id = option_eq same_entry (bound_at es id) (bound_at fs id)

-- whether they have at each id that either binds
abbrev pub same_sets : Entries → Entries → Bool
same_sets es fs = list_all (alike_at es fs) (keys_of es) && list_all (alike_at es fs) (keys_of fs)

-- two sets are told to be the same exactly where they bind alike
abbrev pub TestsAlike : Type 0
TestsAlike = (es fs : Entries) → IsTrue (same_sets es fs) ↔ BindAlike es fs

-- ---- it is told exactly where it is so

pub same_entry_equiv : IsEquivalence same_entry
same_entry_equiv = decided same_entry entries_decide

found_alike : (o p : Option Entry) → option_eq same_entry o p ≡ true → o ≡ p
found_alike None None h = refl
found_alike None (Some f) h = absurd (true≢false (sym h))
found_alike (Some e) None h = absurd (true≢false (sym h))
found_alike (Some e) (Some f) h = ap Some ((entries_decide e f).0 h)

alike_found : (o : Option Entry) → option_eq same_entry o o ≡ true
alike_found None = refl
alike_found (Some e) = same_entry_equiv.refl e

-- what holds at each id that is bound holds at one where something is found
at_bound : (t : Text → Bool) (es : Entries) (id : Text) (e : Entry) → list_all t (keys_of es) ≡ true → bound_at es id ≡ Some e → t id ≡ true
at_bound t [] id e h f = absurd (true≢false (sym (ap is_some f)))
at_bound t (x ∷ es) id e h f = by (same_text id x.0) refl f (at_bound t es id e (second_so (t x.0) _ h))
  where
    by : (c : Bool) → same_text id x.0 ≡ c → cond c (Some x.1) (bound_at es id) ≡ Some e → (bound_at es id ≡ Some e → t id ≡ true) → t id ≡ true
    by true same g rest = ap t ((bytes_decides id x.0).0 same) ∙ first_so (t x.0) _ h
    by false same g rest = rest g

every : (t : Text → Bool) → ((id : Text) → t id ≡ true) → (ids : List Text) → list_all t ids ≡ true
every t h [] = refl
every t h (id ∷ ids) = ap (λ b. b && list_all t ids) (h id) ∙ every t h ids

told_alike : (es fs : Entries) → same_sets es fs ≡ true → (id : Text) (o p : Option Entry) → bound_at es id ≡ o → bound_at fs id ≡ p → o ≡ p
told_alike es fs h id None None f g = refl
told_alike es fs h id (Some e) p f g = sym f ∙ found_alike _ _ (at_bound (alike_at es fs) es id e (first_so _ _ h) f) ∙ g
told_alike es fs h id None (Some e) f g = sym f ∙ found_alike _ _ (at_bound (alike_at es fs) fs id e (second_so _ _ h) g) ∙ g

all_alike : (es fs : Entries) → BindAlike es fs → (id : Text) → alike_at es fs id ≡ true
all_alike es fs h id = ap (λ o. option_eq same_entry (bound_at es id) o) (sym (h id)) ∙ alike_found (bound_at es id)

pub sets_decide : (es fs : Entries) → Decides (same_sets es fs) (BindAlike es fs)
sets_decide es fs = (
  λ h id. told_alike es fs h id (bound_at es id) (bound_at fs id) refl refl,
  λ h.
      let t : (id : Text) → alike_at es fs id ≡ true = all_alike es fs h in
      λ i. every (alike_at es fs) t (keys_of es) i && every (alike_at es fs) t (keys_of fs) i,
)

-- ---- so it is an equivalence

pub same_sets_equiv : IsEquivalence same_sets
same_sets_equiv = record {
  refl = λ es. (sets_decide es es).1 (λ id. refl);
  symm = λ es fs. both_ways _ _ (λ h. (sets_decide fs es).1 (λ id. sym ((sets_decide es fs).0 h id))) (λ h. (sets_decide es fs).1 (λ id. sym ((sets_decide fs es).0 h id)));
  congr = λ es fs gs h.
      let alike : BindAlike es fs = (sets_decide es fs).0 h in
      both_ways _ _ (λ k. (sets_decide fs gs).1 (λ id. sym (alike id) ∙ (sets_decide es gs).0 k id)) (λ k. (sets_decide es gs).1 (λ id. alike id ∙ (sets_decide fs gs).0 k id));
}

-- ---- of what one id is bound to

abbrev pub same_bound : BoundKind → BoundKind → Bool
same_bound a b = same_text (bound_id a) (bound_id b) && same_entry (entry_of a) (entry_of b)

pub same_bound_equiv : IsEquivalence same_bound
same_bound_equiv = and_equiv (on_equiv bound_id nat_list_eq_equiv) (on_equiv entry_of same_entry_equiv)
