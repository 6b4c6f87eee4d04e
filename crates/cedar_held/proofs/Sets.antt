-- Uids that are put into a set one by one.
use Rattle.std.proofs.Common.{◌≡◌, ◌∙◌, ◌+◌, ◌<◌, ℕ, refl, ap, sym, Bool, true, false, ◌||◌, cond, List, [], ◌∷◌, length, get_or, drop, drop-cons, add-one}
use Rattle.std.specs.List.{list_any}
use Rattle.cedar_language.specs.Uid.{Uid}
use Rattle.cedar_language.specs.Order.{same_uid}
use Rattle.cedar_literals.specs.Laws.{same_uid_equiv}
use Rattle.cedar_entities.proofs.UidLemmas.{reordered}
use Rattle.cedar_held.specs.Making.{set_listed}
use Rattle.cedar_lemmas.proofs.Booleans.{or_nothing as or_none}

-- what is in the set, or still to be put there, is all
abbrev pub ArePutInto : List Uid → List Uid → List Uid → Type 0
ArePutInto all made rest = (q : Uid) → list_any (same_uid q) all ≡ (list_any (same_uid q) made || list_any (same_uid q) rest)

moved : (old same rest : Bool) → (old || (same || rest)) ≡ (cond same true old || rest)
moved true true rest = refl
moved true false rest = refl
moved false true rest = refl
moved false false rest = refl

pub put_next : (all made next xs : List Uid) (i : ℕ) (x k : Uid) → i < length xs → x ≡ get_or xs i x → k ≡ x
    → ((q : Uid) → list_any (same_uid q) next ≡ cond (same_uid k q) true (list_any (same_uid q) made)) → ArePutInto all made (drop i xs) → ArePutInto all next (drop (i + 1) xs)
put_next all made next xs i x k lt is copy put h q =
    let cut : drop i xs ≡ x ∷ drop (i + 1) xs = rw (add-one, drop-cons xs i x lt, ← is) refl in
    h q ∙ ap (λ l. list_any (same_uid q) made || list_any (same_uid q) l) cut
    ∙ moved (list_any (same_uid q) made) (same_uid q x) (list_any (same_uid q) (drop (i + 1) xs))
    ∙ ap (λ b. cond b true (list_any (same_uid q) made) || list_any (same_uid q) (drop (i + 1) xs)) (ap (same_uid q) (sym copy) ∙ same_uid_equiv.symm q k)
    ∙ ap (λ b. b || list_any (same_uid q) (drop (i + 1) xs)) (sym (put q))

pub all_put : (all made rest : List Uid) → ArePutInto all made rest → rest ≡ [] → set_listed made ≡ set_listed all
all_put all made rest h none = reordered all made (λ q. sym (h q ∙ ap (λ l. list_any (same_uid q) made || list_any (same_uid q) l) none ∙ or_none (list_any (same_uid q) made)))
