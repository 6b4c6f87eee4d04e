-- Positions that are gathered: those that were among them stay, and what is listed under an entity comes to them.
use Rattle.std.proofs.Common.{◌≡◌, ◌⊎◌, inl, inr, ℕ, Bool, true, false, ◌||◌, Option, List, [], ◌∷◌, ◌++◌, refl, sym, ◌∙◌, ap, subst, true≢false}
use Rattle.std.specs.Prelude.{nat_eq}
use Rattle.std.specs.FinSet as set
use Rattle.std.specs.List.{dedup}
use Rattle.std.specs.List.Sorted.{IsPermutation}
use Rattle.std.specs.Option.{option_map_or}
use Rattle.std.specs.Set.{is_member}
use Rattle.std.proofs.lemmas.Bool.Decides.{Decides-eqb}
use Rattle.std.proofs.lemmas.List.Kept.{Contains-dedup_nat}
use Rattle.std.proofs.lemmas.List.Sorted.{list_any-IsPermutation}
use Rattle.std.proofs.lemmas.Map.Made.{is_member-Decides}
use Rattle.cedar_language.specs.Uid.{Uid}
use Rattle.cedar_language.specs.Order.{same_uid}
use Rattle.cedar_policy_parts.specs.SameScopes.{uids_decide}
use Rattle.cedar_entities.specs.Data.{EntityData, UidSet, ancestors_of}
use Rattle.cedar_operators.specs.Hierarchy.{is_within_entity}
use Rattle.cedar_policy_set.specs.ScopeFinding.{positions_at, AreAmong}
use Rattle.cedar_policy_set.specs.declared.scope_index.positions.Positions.{Positions}
use Rattle.cedar_policy_set.proofs.Gathering.{among_first, among_second}
use Rattle.cedar_evaluator.specs.Candidates.{HasListed}

-- sorted, each once
pub among_sorted : (ps qs : List ℕ) → IsPermutation ps qs → AreAmong ps (dedup nat_eq qs)
among_sorted ps qs moved p h =
    let here = (is_member-Decides Decides-eqb qs p).0 (sym (list_any-IsPermutation (nat_eq p) ps qs moved) ∙ h) in
    (is_member-Decides Decides-eqb (dedup nat_eq qs) p).1 (Contains-dedup_nat qs p here)

-- ---- more of them

-- each of these entities waits in the walk, or what is listed under it is among the positions
abbrev pub AreGathered : Positions → List Uid → List Uid → List ℕ → Type 0
AreGathered listed all left ps = (u : Uid) → is_member same_uid all u ≡ true → (is_member same_uid left u ≡ true) ⊎ AreAmong (positions_at listed u) ps

module _ (listed : Positions) where
  -- what is listed under one entity is added
  pub one_added : (uid : Uid) (ps more qs : List ℕ) → qs ≡ ps ++ more → more ≡ positions_at listed uid → AreAmong (positions_at listed uid) qs
  one_added uid ps more qs added is = subst (AreAmong (positions_at listed uid)) (sym (added ∙ ap (λ l. ps ++ l) is)) (among_second ps (positions_at listed uid))

  pub gathered_more : (all left : List Uid) (u : Uid) (ps : List ℕ) → AreGathered listed all (u ∷ left) ps → AreGathered listed all left (ps ++ positions_at listed u)
  gathered_more all left u ps gathered v h = by_turn (same_uid v u) refl (gathered v h)
    where
      by_turn : (b : Bool) → same_uid v u ≡ b → ((same_uid v u || is_member same_uid left v) ≡ true) ⊎ AreAmong (positions_at listed v) ps → (is_member same_uid left v ≡ true) ⊎ AreAmong (positions_at listed v) (ps ++ positions_at listed u)
      by_turn true e waits = inr (subst (λ w. AreAmong (positions_at listed w) (ps ++ positions_at listed u)) (sym ((uids_decide v u).0 e)) (among_second ps (positions_at listed u)))
      by_turn false e (inl waits) = inl (subst (λ b. (b || is_member same_uid left v) ≡ true) e waits)
      by_turn false e (inr among) = inr (λ p k. among_first ps (positions_at listed u) p (among p k))

  pub all_gathered : (all : List Uid) (s : UidSet) (ps : List ℕ) → ((u : Uid) → is_member same_uid all u ≡ set.contains s u) → AreGathered listed all [] ps → HasListed listed (set.contains s) ps
  all_gathered all s ps members gathered u h = none_waits (gathered u (members u ∙ h))
    where
      none_waits : (false ≡ true) ⊎ AreAmong (positions_at listed u) ps → AreAmong (positions_at listed u) ps
      none_waits (inl h) = absurd (true≢false (sym h))
      none_waits (inr among) = among

  -- of an entity and its ancestors
  pub all_added : (uid : Uid) (e : Option EntityData) (ps : List ℕ) → AreAmong (positions_at listed uid) ps
      → ((u : Uid) → option_map_or (λ held. set.contains (ancestors_of held) u) e false ≡ true → AreAmong (positions_at listed u) ps) → HasListed listed (is_within_entity uid e) ps
  all_added uid e ps own others u h = by_own (same_uid uid u) refl
    where
      by_own : (b : Bool) → same_uid uid u ≡ b → AreAmong (positions_at listed u) ps
      by_own true is = subst (λ v. AreAmong (positions_at listed v) ps) ((uids_decide uid u).0 is) own
      by_own false is = others u (subst (λ b. (b || option_map_or (λ held. set.contains (ancestors_of held) u) e false) ≡ true) is h)
