-- Places tell of ids: what is told of one, and what stays told when one comes last or is taken away.
use Rattle.std.proofs.Common.{◌≡◌, ℕ, ◌+◌, ◌<◌, Bool, true, false, cond, ltb, ltb-true, List, [], ◌∷◌, ◌++◌, length, refl, sym, ap, ◌∙◌, true≢false, Option, None, Some, is_some, arith}
use Rattle.std.specs.Prelude.{option_map, position, remove}
use Rattle.std.specs.BTreeMap.{get, is_at}
use Rattle.std.specs.Cmp.Lexicographic.{nat_list_eq_equiv, texts_ties}
use Rattle.std.specs.List.{position_or_len, list_any, IsDistinct}
use Rattle.std.specs.Map.{lookup}
use Rattle.std.specs.Option.{unwrap_or}
use Rattle.std.proofs.lemmas.List.Edits.{length-remove}
use Rattle.std.proofs.lemmas.List.{length_push}
use Rattle.std.proofs.lemmas.Map.Keys.{IsDistinct-push}
use Rattle.cedar_language.specs.Uid.{Text}
use Rattle.cedar_language.specs.Order.{same_text, text_cmp}
use Rattle.cedar_policy_set.specs.ClosedPlaces.{position_of, closed_up}
use Rattle.cedar_policy_set.specs.Places.{Tells}
use Rattle.cedar_policy_set.specs.declared.places.Places.{Places}
use Rattle.cedar_policy_set.proofs.Finding.{same_id}
use Rattle.cedar_policy_set.proofs.Placing.{distinct_without, last_stands, others_stay, gone, moves_up}

pub told_nothing : (p : Places) → p.len ≡ 0 → p.of_ids.entries ≡ [] → Tells p []
unfolding IsDistinct
told_nothing p none empty = record {
  distinct = tt;
  as_many = none;
  held = λ id. ap (λ es. option_map (position_of p.gaps.taken.items) (lookup (is_at (text_cmp id)) es)) empty;
}

-- where an id stands: nowhere, or where its place does
pub told_at : (p : Places) (ids : List Text) → Tells p ids → (id : Text) (o : Option ℕ) → o ≡ get text_cmp p.of_ids id → option_map (position_of p.gaps.taken.items) o ≡ position (same_text id) ids
told_at p ids told id o held = ap (option_map (position_of p.gaps.taken.items)) held ∙ told.held id

-- an id that stands somewhere stands first there
pub stands_at : (test : Text → Bool) (ids : List Text) (i : ℕ) → Some i ≡ position test ids → (i ≡ position_or_len test ids) × (position_or_len test ids < length ids)
stands_at test ids i told = by (ltb (position_or_len test ids) (length ids)) refl told
  where
    by : (b : Bool) → ltb (position_or_len test ids) (length ids) ≡ b → Some i ≡ cond b (Some (position_or_len test ids)) None → (i ≡ position_or_len test ids) × (position_or_len test ids < length ids)
    by true e t = (ap (λ o. unwrap_or o 0) t, ltb-true _ _ e)
    by false e t = absurd (true≢false (ap is_some t))

module _ (p q : Places) (ids : List Text) (told : Tells p ids) (id : Text) where
  abbrev was : ℕ → ℕ
  was t = position_of p.gaps.taken.items t

  abbrev now : ℕ → ℕ
  now t = position_of q.gaps.taken.items t

  -- an id comes last
  pub told_push : (place : ℕ) → was place ≡ p.len → q.gaps ≡ p.gaps → q.len ≡ p.len + 1 → list_any (same_text id) ids ≡ false
      → ((k : Text) → get text_cmp q.of_ids k ≡ cond (is_at (text_cmp id) k) (Some place) (get text_cmp p.of_ids k)) → Tells q (ids ++ id ∷ [])
  told_push place last gaps longer free held = record {
    distinct = IsDistinct-push nat_list_eq_equiv ids id told.distinct free;
    as_many = let long = told.as_many in let more = length_push ids id in omega arith;
    held = λ k.
        (λ i. option_map (position_of (gaps i).taken.items) (held k i)) ∙ ap (λ b. option_map was (cond b (Some place) (get text_cmp p.of_ids k))) (sym (texts_ties id k)) ∙ by k (same_text id k) refl;
  }
    where
      by : (k : Text) (b : Bool) → same_text id k ≡ b → option_map was (cond b (Some place) (get text_cmp p.of_ids k)) ≡ position (same_text k) (ids ++ id ∷ [])
      by k true e = ap Some (last ∙ told.as_many) ∙ sym (last_stands ids id free) ∙ ap (λ j. position (same_text j) (ids ++ id ∷ [])) (same_id id k e)
      by k false e = told.held k ∙ sym (others_stay (same_text k) ids id (nat_list_eq_equiv.symm k id ∙ e))

  -- an id is taken away
  pub told_without : (i : ℕ) → Some i ≡ position (same_text id) ids → ((t : ℕ) → now t ≡ closed_up i (was t)) → q.len + 1 ≡ p.len
      → ((k : Text) → get text_cmp q.of_ids k ≡ cond (is_at (text_cmp id) k) None (get text_cmp p.of_ids k)) → Tells q (remove ids i)
  told_without i at closed shorter held =
      let (first, within) = stands_at (same_text id) ids i at in
      record {
        distinct = distinct_without ids i (omega arith) told.distinct;
        as_many = let long = told.as_many in let less = length-remove ids i (omega arith) in omega arith;
        held = λ k. ap (option_map now) (held k) ∙ ap (λ b. option_map now (cond b None (get text_cmp p.of_ids k))) (sym (texts_ties id k)) ∙ by k (same_text id k) refl;
      }
    where
      moved : (o : Option ℕ) → option_map now o ≡ option_map (closed_up i) (option_map was o)
      moved None = refl
      moved (Some t) = ap Some (closed t)

      by : (k : Text) (b : Bool) → same_text id k ≡ b → option_map now (cond b None (get text_cmp p.of_ids k)) ≡ position (same_text k) (remove ids i)
      by k true e = sym (gone ids id i told.distinct at) ∙ ap (λ j. position (same_text j) (remove ids i)) (same_id id k e)
      by k false e =
          moved (get text_cmp p.of_ids k) ∙ ap (option_map (closed_up i)) (told.held k)
          ∙ sym (moves_up (same_text id) (same_text k) ids i (λ x h. ap (same_text k) (sym (same_id id x h)) ∙ nat_list_eq_equiv.symm k id ∙ e) at)
