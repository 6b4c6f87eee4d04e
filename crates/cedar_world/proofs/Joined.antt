-- What an answer says that two others are joined to.
use Rattle.std.proofs.Common.{◌≡◌, ◌⊎◌, inl, inr, true, ◌||◌, Option, Some, None, is_some, IsTrue, IsSome, refl, sym, ◌∙◌, ap}
use Rattle.std.proofs.lemmas.Bool.{and_from, and_parts, or_cases, or_left, or_right}
use Rattle.std.specs.Option.{option_or}
use Rattle.std.specs.FinMap as finite
use Rattle.cedar_language.specs.Uid.{Text}
use Rattle.cedar_language.specs.Value.{Kind}
use Rattle.cedar_language.specs.Facts.{Facts}
use Rattle.cedar_language.specs.Answering.{Decision, Allow, Deny, kept}
use Rattle.cedar_world.specs.Answer.{Answer, has_id}
use Rattle.cedar_world.specs.World.{World}
use Rattle.cedar_world.specs.Asking.{Question, Told}
use Rattle.cedar_world.specs.Setting.{Setting}
use Rattle.cedar_world.specs.Answers.{HoldsOf, Follows, NamesNoGhosts}
use Rattle.cedar_world.specs.Joined.{IsJoined, Allows}

kept_first : (o p : Option Decision) (d : Decision) → o ≡ Some d → kept o p ≡ Some d
kept_first o p d h = rw h refl

kept_cases : (o p : Option Decision) (d : Decision) → kept o p ≡ Some d → (o ≡ Some d) ⊎ (p ≡ Some d)
kept_cases (Some e) p d h = inl h
kept_cases None p d h = inr h

kept_denied : (o p : Option Decision) → (o ≡ Some Allow → ⊥) → p ≡ Some Deny → kept o p ≡ Some Deny
kept_denied (Some Allow) p n h = absurd (n refl)
kept_denied (Some Deny) p n h = refl
kept_denied None p n h = h

kept_allowed : (o p : Option Decision) → (o ≡ Some Deny → ⊥) → p ≡ Some Allow → kept o p ≡ Some Allow
kept_allowed (Some Deny) p n h = absurd (n refl)
kept_allowed (Some Allow) p n h = refl
kept_allowed None p n h = h

kept_some : (o p : Option Decision) (d : Decision) → p ≡ Some d → (e : Decision) × (kept o p ≡ Some e)
kept_some (Some e) p d h = (e, refl)
kept_some None p d h = (d, h)

first_error : (o p : Option Kind) → is_some o ≡ true → is_some (option_or o p) ≡ true
first_error (Some k) p h = refl
first_error None p h = cc

second_error : (o p : Option Kind) → is_some p ≡ true → is_some (option_or o p) ≡ true
second_error (Some k) p h = refl
second_error None p h = h

error_cases : (o p : Option Kind) → is_some (option_or o p) ≡ true → (is_some o ≡ true) ⊎ (is_some p ≡ true)
error_cases (Some k) p h = inl refl
error_cases None p h = inr h

module _ (last new answer : Answer) (joined : IsJoined last new answer) where
  -- ---- where it is from

  decision_cases : (d : Decision) → answer.decision ≡ Some d → (last.decision ≡ Some d) ⊎ (new.decision ≡ Some d)
  decision_cases d h = kept_cases last.decision new.decision d (sym joined.decision ∙ h)

  must_last : (id : Text) → IsTrue (has_id answer.must id) → IsTrue (has_id last.may id)
  must_last id h = (and_parts (has_id last.may id) (has_id last.must id || has_id new.must id) (sym (joined.must id) ∙ h)).0

  pub must_cases : (id : Text) → IsTrue (has_id answer.must id) → IsTrue (has_id last.must id) ⊎ IsTrue (has_id new.must id)
  must_cases id h = or_cases (has_id last.must id) (has_id new.must id) (and_parts (has_id last.may id) (has_id last.must id || has_id new.must id) (sym (joined.must id) ∙ h)).1

  may_last : (id : Text) → IsTrue (has_id answer.may id) → IsTrue (has_id last.may id)
  may_last id h = (and_parts (has_id last.may id) (has_id new.may id || (has_id last.must id || has_id new.must id)) (sym (joined.may id) ∙ h)).0

  pub may_cases : (id : Text) → IsTrue (has_id answer.may id) → IsTrue (has_id new.may id) ⊎ (IsTrue (has_id last.must id) ⊎ IsTrue (has_id new.must id))
  may_cases id h =
      elim (or_cases (has_id new.may id) (has_id last.must id || has_id new.must id) (and_parts (has_id last.may id) (has_id new.may id || (has_id last.must id || has_id new.must id)) (sym (joined.may id) ∙ h)).1) [
        | inl e ↦ inl e
        | inr e ↦ inr (or_cases (has_id last.must id) (has_id new.must id) e)
      ]

  errors : (id : Text) → IsSome (finite.get answer.erring id) → IsSome (finite.get last.erring id) ⊎ IsSome (finite.get new.erring id)
  errors id h = error_cases (finite.get last.erring id) (finite.get new.erring id) (ap is_some (sym (joined.erring id)) ∙ h)

  -- ---- what is in it

  pub some_decision : (d : Decision) → new.decision ≡ Some d → (e : Decision) × (answer.decision ≡ Some e)
  some_decision d h = let (e, is) = kept_some last.decision new.decision d h in (e, joined.decision ∙ is)

  pub denied : (last.decision ≡ Some Allow → ⊥) → new.decision ≡ Some Deny → answer.decision ≡ Some Deny
  denied n h = joined.decision ∙ kept_denied last.decision new.decision n h

  pub allowed : (last.decision ≡ Some Deny → ⊥) → new.decision ≡ Some Allow → answer.decision ≡ Some Allow
  allowed n h = joined.decision ∙ kept_allowed last.decision new.decision n h

  must_by : (id : Text) → IsTrue (has_id last.may id) → (has_id last.must id || has_id new.must id) ≡ true → IsTrue (has_id answer.must id)
  must_by id m h = joined.must id ∙ and_from (has_id last.may id) (has_id last.must id || has_id new.must id) m h

  pub new_must : (id : Text) → IsTrue (has_id last.may id) → IsTrue (has_id new.must id) → IsTrue (has_id answer.must id)
  new_must id m h = must_by id m (or_right (has_id last.must id) (has_id new.must id) h)

  last_must : (id : Text) → IsTrue (has_id last.may id) → IsTrue (has_id last.must id) → IsTrue (has_id answer.must id)
  last_must id m h = must_by id m (or_left (has_id last.must id) (has_id new.must id) h)

  new_may : (id : Text) → IsTrue (has_id last.may id) → IsTrue (has_id new.may id) → IsTrue (has_id answer.may id)
  new_may id m h =
      joined.may id
      ∙ and_from (has_id last.may id) (has_id new.may id || (has_id last.must id || has_id new.must id)) m (or_left (has_id new.may id) (has_id last.must id || has_id new.must id) h)

  must_may : (id : Text) → IsTrue (has_id answer.must id) → IsTrue (has_id answer.may id)
  must_may id h =
      let must : (has_id last.must id || has_id new.must id) ≡ true = (and_parts (has_id last.may id) (has_id last.must id || has_id new.must id) (sym (joined.must id) ∙ h)).1 in
      joined.may id
      ∙ and_from (has_id last.may id) (has_id new.may id || (has_id last.must id || has_id new.must id)) (must_last id h) (or_right (has_id new.may id) (has_id last.must id || has_id new.must id) must)

  pub last_error : (id : Text) → IsSome (finite.get last.erring id) → IsSome (finite.get answer.erring id)
  last_error id h = ap is_some (joined.erring id) ∙ first_error (finite.get last.erring id) (finite.get new.erring id) h

  pub new_error : (id : Text) → IsSome (finite.get new.erring id) → IsSome (finite.get answer.erring id)
  new_error id h = ap is_some (joined.erring id) ∙ second_error (finite.get last.erring id) (finite.get new.erring id) h

  -- ---- whole clauses

  pub joined_follows : ((id : Text) → IsTrue (has_id last.must id) → IsTrue (has_id last.may id)) → Follows last answer
  joined_follows within = record {
    decision = λ d h. joined.decision ∙ kept_first last.decision new.decision d h;
    must = λ id h. last_must id (within id h) h;
    may = may_last;
    erring = λ id k h. joined.erring id ∙ ap (λ o. option_or o (finite.get new.erring id)) h;
  }

  pub joined_holds : (whole : Answer) → HoldsOf last whole → HoldsOf new whole → HoldsOf answer whole
  joined_holds whole old now = record {
    decision = λ d h. elim (decision_cases d h) [ inl e ↦ old.decision d e | inr e ↦ now.decision d e ];
    must = λ id h. elim (must_cases id h) [ inl e ↦ old.must id e | inr e ↦ now.must id e ];
    may = λ id h. new_may id (old.may id h) (now.may id h);
    erring = λ id h. elim (errors id h) [ inl e ↦ old.erring id e | inr e ↦ now.erring id e ];
  }

  pub joined_names : (by : Setting) (world : World) → NamesNoGhosts by world last → NamesNoGhosts by world new → NamesNoGhosts by world answer
  joined_names by world old now = record {
    must = must_may;
    may = λ id h. old.may id (may_last id h);
    erring = λ id h. elim (errors id h) [ inl e ↦ old.erring id e | inr e ↦ now.erring id e ];
  }

  pub joined_allows : (by : Setting) (world : World) (facts : Facts) (q : Question) (told : Told) → Allows by world facts q told last → Allows by world facts q told new → Allows by world facts q told answer
  joined_allows by world facts q told old now = record {
    denies = λ s h. elim (decision_cases Allow h) [ inl e ↦ old.denies s e | inr e ↦ now.denies s e ];
    denies_too = λ out h. elim (decision_cases Allow h) [ inl e ↦ old.denies_too out e | inr e ↦ now.denies_too out e ];
    allows = λ out s h. elim (decision_cases Deny h) [ inl e ↦ old.allows out s e | inr e ↦ now.allows out s e ];
    forbids_may = λ id d. new_may id (old.forbids_may id d) (now.forbids_may id d);
    permits_may = λ out id d. new_may id (old.permits_may out id d) (now.permits_may out id d);
    must_not = λ id effect o h. elim (must_cases id h) [ inl e ↦ old.must_not id effect o e | inr e ↦ now.must_not id effect o e ];
    forbids_must = λ some id s force e h. elim (must_cases id h) [ inl m ↦ old.forbids_must some id s force e m | inr m ↦ now.forbids_must some id s force e m ];
  }
