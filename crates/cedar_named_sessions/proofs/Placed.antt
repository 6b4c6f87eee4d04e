-- Policies that are given names one after the other.
use Rattle.std.proofs.Common.{◌≡◌, ℕ, suc, ◌+◌, ◌<◌, ◌≤◌, Bool, true, false, not, ◌&&◌, ◌||◌, cond, List, [], ◌∷◌, ◌++◌, Option, None, Some, is_some, Result, Ok, Err, is_ok, length, take, drop, get_or, refl, sym, ap, subst, ◌∙◌, true≢false, arith}
use Rattle.std.specs.FinMap as finite
use Rattle.std.proofs.Math.Seq.{drop-cons}
use Rattle.std.proofs.lemmas.Bool.{or_parts}
use Rattle.std.proofs.lemmas.List.{take_more, take-append-drop}
use Rattle.cedar_language.specs.Order.{same_text}
use Rattle.cedar_language.specs.Uid.{Text}
use Rattle.cedar_replies.specs.declared.refusal.Refusal.{Refusal}
use Rattle.cedar_replies.specs.declared.refusal.Refusal.TheVariants as refusal
use Rattle.cedar_world.specs.World.{Policies}
use Rattle.cedar_named_sessions.specs.Giving.{without_all}
use Rattle.cedar_named_sessions.specs.NameLists.{Names, given_to, without}
use Rattle.cedar_named_sessions.specs.Named.{Placed, clashes, is_taken, is_number, is_held, named}
use Rattle.cedar_named_sessions.specs.Placed.{GivesAll}
use Rattle.cedar_named_sessions.specs.declared.refusals.NamedRefusal.{NamedRefusal}
use Rattle.cedar_named_sessions.specs.declared.refusals.NamedRefusal.TheVariants.{IdConflict, NotOne, Unsaid, Long, Untold, Refused}
use Rattle.cedar_named_sessions.proofs.Swapping.{last_taken}

ok_same : {A E : Type 0} {x y : A} → ◌≡◌ {A = Result A E} (Ok x) (Ok y) → x ≡ y
ok_same e = cc

not_both : {A E : Type 0} {x : A} {y : E} → ◌≡◌ {A = Result A E} (Ok x) (Err y) → ⊥
not_both e = true≢false (ap is_ok e)

none_is : {A : Type 0} (o : Option A) → is_some o ≡ false → o ≡ None
none_is None h = refl
none_is (Some x) h = absurd (true≢false h)

-- what doesn't clash has no given name
pub unnamed : (policies : Policies) (names : Names) (id name : Text) → clashes policies names id name ≡ false → given_to names id ≡ None
unnamed policies names id name h =
    let numbered = is_number name && not (same_text id name) in
    let held = is_held policies names id in
    let free = (or_parts numbered held (or_parts (is_taken policies names name) (numbered || held) h).1).1 in
    none_is (given_to names id) (or_parts (is_some (finite.get policies id)) (is_some (given_to names id)) free).1

module _ (policies : Policies) where
  -- those that come first are given theirs first
  pub given_first : (old mid : Names) (ps qs : Placed) → named policies old ps ≡ Ok mid → named policies old (ps ++ qs) ≡ named policies mid qs
  given_first old mid [] qs h = ap (λ names. named policies names qs) (ok_same h)
  given_first old mid ((id, None) ∷ ps) qs h = given_first old mid ps qs h
  given_first old mid ((id, Some name) ∷ ps) qs h = by (clashes policies old id name) h (given_first (old ++ (id, name) ∷ []) mid ps qs)
    where
      by : (b : Bool) → cond b (Err name) (named policies (old ++ (id, name) ∷ []) ps) ≡ Ok mid
          → (named policies (old ++ (id, name) ∷ []) ps ≡ Ok mid → named policies (old ++ (id, name) ∷ []) (ps ++ qs) ≡ named policies mid qs)
          → cond b (Err name) (named policies (old ++ (id, name) ∷ []) (ps ++ qs)) ≡ named policies mid qs
      by true h rest = absurd (not_both (sym h))
      by false h rest = rest h

  pub given_more : (old mid new : Names) (ps : Placed) (i : ℕ) (p : Text × Option Text) → i < length ps → p ≡ get_or ps i p
      → named policies old (take i ps) ≡ Ok mid → named policies mid (p ∷ []) ≡ Ok new → named policies old (take (i + 1) ps) ≡ Ok new
  given_more old mid new ps i p within at first next =
      let next_at = subst (λ q. named policies mid (q ∷ []) ≡ Ok new) at next in
      ap (named policies old) (take_more ps i p within) ∙ given_first old mid (take i ps) (get_or ps i p ∷ []) first ∙ next_at

  -- one that can't be given ends it
  ends : (mid : Names) (name : Text) (p : Text × Option Text) (ps : Placed) → named policies mid (p ∷ []) ≡ Err name → named policies mid (p ∷ ps) ≡ Err name
  ends mid name (id, None) ps h = absurd (not_both h)
  ends mid name (id, Some other) ps h = by (clashes policies mid id other) h
    where
      by : (b : Bool) → cond b (Err other) (Ok (mid ++ (id, other) ∷ [])) ≡ Err name → cond b (Err other) (named policies (mid ++ (id, other) ∷ []) ps) ≡ Err name
      by true h = h
      by false h = absurd (not_both h)

  pub given_no_more : (old mid : Names) (name : Text) (ps : Placed) (i : ℕ) (p : Text × Option Text) → i < length ps → p ≡ get_or ps i p
      → named policies old (take i ps) ≡ Ok mid → named policies mid (p ∷ []) ≡ Err name → named policies old ps ≡ Err name
  given_no_more old mid name ps i p within at first next =
      let next_at = subst (λ q. named policies mid (q ∷ []) ≡ Err name) at next in
      ap (named policies old) (sym (take-append-drop i ps)) ∙ given_first old mid (take i ps) (drop i ps) first
      ∙ ap (named policies mid) (drop-cons ps i p within) ∙ ends mid name (get_or ps i p) (drop (suc i) ps) next_at

  -- ---- taking back

  -- names that were given are taken back
  pub taken_back : (old new : Names) (ps : Placed) → named policies old ps ≡ Ok new → without_all ps new ≡ old
  taken_back old new [] h = sym (ok_same h)
  taken_back old new ((id, None) ∷ ps) h = taken_back old new ps h
  taken_back old new ((id, Some name) ∷ ps) h = by (clashes policies old id name) h (unnamed policies old id name) (taken_back (old ++ (id, name) ∷ []) new ps)
    where
      by : (b : Bool) → cond b (Err name) (named policies (old ++ (id, name) ∷ []) ps) ≡ Ok new → (b ≡ false → given_to old id ≡ None)
          → (named policies (old ++ (id, name) ∷ []) ps ≡ Ok new → without_all ps new ≡ old ++ (id, name) ∷ []) → without id (without_all ps new) ≡ old
      by true h free rest = absurd (not_both (sym h))
      by false h free rest = ap (without id) (rest h) ∙ last_taken id name old (free refl)

  -- a refused call leaves what was
  pub kept : (mid new : Names) (ps : Placed) (e : NamedRefusal) → GivesAll policies mid ps (Err e) new → new ≡ mid
  kept mid new ps (IdConflict name) h = h.1
  kept mid new ps (Refused refusal.Memory) h = h
  kept mid new ps e h = absurd h

  pub stopped : (old mid left new : Names) (ps : Placed) (i : ℕ) (p : Text × Option Text) (e : NamedRefusal) → i < length ps → p ≡ get_or ps i p
      → named policies old (take i ps) ≡ Ok mid → GivesAll policies mid (p ∷ []) (Err e) left → new ≡ without_all (take i ps) left → GivesAll policies old ps (Err e) new
  stopped old mid left new ps i p (IdConflict name) within at first h back =
      (given_no_more old mid name ps i p within at first h.0, back ∙ ap (without_all (take i ps)) h.1 ∙ taken_back old mid (take i ps) first)
  stopped old mid left new ps i p (Refused refusal.Memory) within at first h back = back ∙ ap (without_all (take i ps)) h ∙ taken_back old mid (take i ps) first
  stopped old mid left new ps i p e within at first h back = absurd h
