-- Entities that are added in turn.
use Rattle.std.proofs.Common.{◌≡◌, inl, inr, Bool, true, false, cond, List, ◌∷◌, Option, None, Some, refl, sym, ap, subst, ◌∙◌}
use Rattle.std.specs.Option.{IsSomeAnd}
use Rattle.cedar_language.specs.Uid.{Uid}
use Rattle.cedar_language.specs.Order.{same_uid}
use Rattle.cedar_literals.specs.Laws.{same_uid_equiv}
use Rattle.cedar_entities.specs.Data.{EntityData, IsSameEntity}
use Rattle.cedar_entities.proofs.UidLemmas.{uid_is}
use Rattle.cedar_entities.specs.Edits.{first_by, or_first, IsListed}
use Rattle.cedar_entities.specs.Kept.{Lookup, same, added_to, AreVersions, IsOtherVersion}
use Rattle.cedar_entities.specs.Refusals.{IsAddRefusal, IsOneRefusal}
use Rattle.cedar_entities.specs.declared.errors.EntitiesError.{EntitiesError}
use Rattle.cedar_entities.specs.declared.errors.EntitiesError.TheVariants.{Duplicate, TransitiveClosureError, Memory}

-- the rest of the entities is added to what now stands there; those before were versions of what stays
pub record IsUnderway (before now : Lookup) (all rest : List EntityData) : Type 0 where
  pub stays : (uid : Uid) → added_to now rest uid ≡ added_to before all uid
  pub versions : AreVersions (added_to before all) rest → AreVersions (added_to before all) all
  pub among : (e : EntityData) → IsListed rest e → IsListed all e

-- one more entity is added
abbrev pub Next : Lookup → EntityData → Lookup → Type 0
Next now e next = (uid : Uid) → next uid ≡ or_first (now uid) (cond (same_uid e.uid uid) (Some e) None)

-- it is the one that stays
abbrev pub Stays : Lookup → EntityData → Type 0
Stays now e = IsSomeAnd (or_first (now e.uid) (Some e)) (λ kept. IsSameEntity kept e)

or_then : (o p : Option EntityData) (b : Bool) (e : EntityData) → or_first (or_first o (cond b (Some e) None)) p ≡ or_first o (cond b (Some e) p)
or_then (Some x) p b e = refl
or_then None p true e = refl
or_then None p false e = refl

-- what stays at the uid of the next one
at_next : (before now : Lookup) (all rest : List EntityData) (e : EntityData) → IsUnderway before now all (e ∷ rest) → added_to before all e.uid ≡ or_first (now e.uid) (Some e)
at_next before now all rest e p = sym (p.stays e.uid) ∙ ap (λ b. or_first (now e.uid) (cond b (Some e) (first_by same rest e.uid))) (same_uid_equiv.refl e.uid)

pub goes_on : (before now next : Lookup) (all rest : List EntityData) (e : EntityData) → IsUnderway before now all (e ∷ rest) → Next now e next → Stays now e → IsUnderway before next all rest
goes_on before now next all rest e p step fits = record {
  stays = λ uid. ap (λ o. or_first o (first_by same rest uid)) (step uid) ∙ or_then (now uid) (first_by same rest uid) (same_uid e.uid uid) e ∙ p.stays uid;
  versions = λ vs. p.versions (subst (λ o. IsSomeAnd o (λ kept. IsSameEntity kept e)) (sym (at_next before now all rest e p)) fits, vs);
  among = λ f h. p.among f (inr h);
}

pub misfit : (before now : Lookup) (all rest : List EntityData) (e : EntityData) → IsUnderway before now all (e ∷ rest) → ¬ (Stays now e) → IsOtherVersion (added_to before all) all e.uid
misfit before now all rest e p differs = (e, p.among e (inl refl), refl, λ v. differs (subst (λ o. IsSomeAnd o (λ kept. IsSameEntity kept e)) (at_next before now all rest e p) v))

-- why the next one is refused is why all are
pub all_refused : (before now : Lookup) (all rest : List EntityData) (e : EntityData) → IsUnderway before now all (e ∷ rest) → (r : EntitiesError) → IsOneRefusal e.uid (¬ (Stays now e)) r → IsAddRefusal before all r
all_refused before now all rest e p (Duplicate d) h = let m = misfit before now all rest e p h.1 in (m.0, m.1, m.2 ∙ sym h.0, m.3)
all_refused before now all rest e p (TransitiveClosureError d) h = h
all_refused before now all rest e p (Memory d) h = h

or_none : (o : Option EntityData) → o ≡ or_first o None
or_none None = refl
or_none (Some e) = refl

some_stays : (o p : Option EntityData) (x : EntityData) → Some x ≡ o → o ≡ or_first o p
some_stays None p x h = let never : ◌≡◌ {A = Option EntityData} (Some x) None = h in cc
some_stays (Some y) p x h = refl

none_takes : (o p : Option EntityData) → None ≡ o → p ≡ or_first o p
none_takes None p h = refl
none_takes (Some x) p h = let never : ◌≡◌ {A = Option EntityData} None (Some x) = h in cc

-- one that is there stays
pub kept_stays : (found : Lookup) (e x : EntityData) → Some x ≡ found e.uid → Next found e found
kept_stays found e x h uid = by_test (same_uid e.uid uid) refl
  where
    by_test : (b : Bool) → same_uid e.uid uid ≡ b → found uid ≡ or_first (found uid) (cond b (Some e) None)
    by_test true t = some_stays (found uid) (Some e) x (h ∙ ap found (uid_is e.uid uid t))
    by_test false t = or_none (found uid)

-- one of a new uid is put there
pub put_new : (found next : Lookup) (e : EntityData) (k : Uid) → k ≡ e.uid → None ≡ found e.uid → ((uid : Uid) → next uid ≡ cond (same_uid k uid) (Some e) (found uid)) → Next found e next
put_new found next e k is absent puts uid = puts uid ∙ ap (λ u. cond (same_uid u uid) (Some e) (found uid)) is ∙ by_test (same_uid e.uid uid) refl
  where
    by_test : (b : Bool) → same_uid e.uid uid ≡ b → cond b (Some e) (found uid) ≡ or_first (found uid) (cond b (Some e) None)
    by_test true t = none_takes (found uid) (Some e) (absent ∙ ap found (uid_is e.uid uid t))
    by_test false t = or_none (found uid)

pub at_first : (found : Lookup) (es : List EntityData) → IsUnderway found found es es
at_first found es = record { stays = λ uid. refl; versions = λ vs. vs; among = λ e h. h }
