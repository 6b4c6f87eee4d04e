-- Two whole sets are one whole set after a merge.
use Rattle.std.proofs.Common.{◌≡◌, Bool, true, false, cond, [], ◌∷◌, map, filter, refl, sym, ap, subst, ◌∙◌, true≢false, is_some, Option, None, Some}
use Rattle.std.specs.List.{IsDistinct, AllByRecursion}
use Rattle.std.specs.Map.{keys_of}
use Rattle.std.specs.Set.{is_member}
use Rattle.std.proofs.lemmas.List.{map-append}
use Rattle.std.proofs.lemmas.Map.Made.{is_some-lookup}
use Rattle.std.proofs.lemmas.Map.Keys.{IsDistinct-head, IsDistinct-tail}
use Rattle.cedar_language.specs.Uid.{Text}
use Rattle.cedar_language.specs.Order.{same_text}
use Rattle.cedar_policy_set.specs.Entries.{Entry, static_policy, template, link, Entries, bound_at, HasItsTemplate, IsFull, IsWhole}
use Rattle.cedar_policy_set.proofs.Distinct.{distinct_append}
use Rattle.cedar_policy_set.proofs.Finding.{same_id, id_itself, some_apart, found_first, found_later}
use Rattle.cedar_policy_set.proofs.Wholes.{has_more}
use Rattle.cedar_store.specs.Renaming.{NewIds, IsRenaming, renamed}
use Rattle.cedar_store.specs.Merged.{renamed_entry, is_more, joining, joined}
use Rattle.cedar_store.proofs.Joins.{join_first, more_are_free}
use Rattle.cedar_store.proofs.Keeps.{absent_from_all, keeps_theirs}

-- what holds of all that is looked up holds of all
pub all_of : (P : Text × Entry → Type 0) (es : Entries) → IsDistinct same_text (keys_of es) → ((id : Text) (e : Entry) → bound_at es id ≡ Some e → P (id, e)) → AllByRecursion P es
all_of P [] d h = tt
all_of P (e ∷ es) d h = (h e.0 e.1 (ap (λ c. cond c (Some e.1) (bound_at es e.0)) (id_itself e.0)), all_of P es (IsDistinct-tail same_text e.0 (keys_of es) d) later)
  where
    absent : is_member same_text (keys_of es) e.0 ≡ false
    absent = absent_from_all e.0 (keys_of es) (IsDistinct-head same_text e.0 (keys_of es) d)

    later : (id : Text) (x : Entry) → bound_at es id ≡ Some x → P (id, x)
    later id x f = by (same_text id e.0) refl
      where
        by : (c : Bool) → same_text id e.0 ≡ c → P (id, x)
        by false g = h id x (ap (λ c. cond c (Some e.1) (bound_at es id)) g ∙ f)
        by true g =
            let there : is_member same_text (keys_of es) e.0 ≡ true = ap (is_member same_text (keys_of es)) (sym (same_id id e.0 g)) ∙ sym (is_some-lookup (same_text id) es) ∙ ap is_some f in
            absurd (true≢false (sym there ∙ absent))

-- and back
pub of_all : (P : Entry → Type 0) (es : Entries) → AllByRecursion (λ e. P e.1) es → (id : Text) (e : Entry) → bound_at es id ≡ Some e → P e
of_all P [] a id e h = absurd (some_apart e None refl h)
of_all P (x ∷ es) a id e h = by (same_text id x.0) h (of_all P es a.1 id e)
  where
    by : (c : Bool) → cond c (Some x.1) (bound_at es id) ≡ Some e → (bound_at es id ≡ Some e → P e) → P e
    by true g rest = let same : x.1 ≡ e = cc in subst P same a.0
    by false g rest = rest g

-- what holds of each entry of theirs, once renamed, holds of all that joins
joins_all : (P : Entry → Type 0) (mine : Entries) (renaming : NewIds) (es : Entries) → AllByRecursion (λ e. P (renamed renaming e.1)) es → AllByRecursion (λ e. P e.1) (joining mine renaming es)
joins_all P mine renaming [] a = tt
joins_all P mine renaming (e ∷ es) a = by (is_more mine e) (joins_all P mine renaming es a.1)
  where
    by : (c : Bool) → AllByRecursion (λ x. P x.1) (joining mine renaming es) → AllByRecursion (λ x. P x.1) (map (renamed_entry renaming) (cond c (e ∷ filter (is_more mine) es) (filter (is_more mine) es)))
    by true rest = (a.0, rest)
    by false rest = rest

full_renamed : (renaming : NewIds) (e : Entry) → IsFull e → IsFull (renamed renaming e)
full_renamed renaming (static_policy s) h = h
full_renamed renaming (template s) h = h
full_renamed renaming (link t s b) h = h

module _ (mine theirs : Entries) (renaming : NewIds) (is : IsRenaming mine theirs renaming) (whole_mine : IsWhole mine) (whole_theirs : IsWhole theirs) where
  -- what holds of what both bind, once renamed, holds of the merged set
  holds : (P : Entry → Type 0) → ((id : Text) (e : Entry) → bound_at mine id ≡ Some e → P e) → ((id : Text) (e : Entry) → bound_at theirs id ≡ Some e → P (renamed renaming e))
      → (id : Text) (e : Entry) → bound_at (joined mine theirs renaming) id ≡ Some e → P e
  holds P h k id e f = by (bound_at mine id) refl
    where
      by : (o : Option Entry) → bound_at mine id ≡ o → P e
      by (Some x) g = h id e (g ∙ sym (found_first mine (joining mine renaming theirs) id x g) ∙ f)
      by None g =
          of_all P (joining mine renaming theirs)
          (joins_all P mine renaming theirs (all_of (λ x. P (renamed renaming x.1)) theirs whole_theirs.distinct k))
          id e
          (sym (found_later mine (joining mine renaming theirs) id (ap is_some g)) ∙ f)

  -- each renamed link names a template of the merged set
  has_renamed : (id : Text) (e : Entry) → bound_at theirs id ≡ Some e → HasItsTemplate (joined mine theirs renaming) (renamed renaming e)
  has_renamed id (static_policy s) h = tt
  has_renamed id (template s) h = tt
  has_renamed id (link t s b) h = keeps_theirs mine theirs renaming is whole_mine whole_theirs t (template s) (whole_theirs.templates id (link t s b) h)

  pub whole_joined : IsWhole (joined mine theirs renaming)
  whole_joined =
      record {
        distinct = subst (IsDistinct same_text) (sym (map-append (λ p. p.0) mine (joining mine renaming theirs)))
            (distinct_append (keys_of mine) (keys_of (joining mine renaming theirs)) whole_mine.distinct
            ((join_first mine theirs renaming is whole_theirs.distinct).distinct)
            (λ a m. sym (is_some-lookup (same_text a) mine) ∙ more_are_free mine theirs renaming is theirs (λ b n. n) a m));
        templates = holds (HasItsTemplate (joined mine theirs renaming))
            (λ id e h. has_more mine (joining mine renaming theirs) e (whole_mine.templates id e h))
            has_renamed;
        full = holds IsFull whole_mine.full (λ id e h. full_renamed renaming e (whole_theirs.full id e h));
      }
