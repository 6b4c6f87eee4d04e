-- The ids of an answer, as maps and as tests on the policies that are judged.
use Rattle.std.proofs.Common.{◌≡◌, inl, inr, Bool, true, false, cond, List, [], ◌∷◌, map, filter, Option, Some, None, is_some, IsSome, refl, sym, ◌∙◌, ap, subst}
use Rattle.std.specs.Cmp.{both_ways}
use Rattle.std.specs.FinMap as finite
use Rattle.std.specs.FinMap.Entries.{find}
use Rattle.cedar_language.specs.Uid.{Text}
use Rattle.cedar_language.specs.Value.{Kind}
use Rattle.cedar_language.specs.OrderLaws.{text_cmp_total, text_cmp_same}
use Rattle.cedar_language.specs.Answering.{Standing, Satisfied, Unsatisfied, Erring, Residual, Judged, in_must, in_may, HasId, HasErred, ids_with}
use Rattle.cedar_world.specs.Orders.{text_cmp, text_eq, TextMap}
use Rattle.cedar_world.specs.Answer.{Ids, ids_of, has_id}
use Rattle.cedar_world.specs.Answers.{erring_as, errors_of}
use Rattle.cedar_world.specs.Standing.{answer_by, AnswersAreMade}
use Rattle.cedar_world.proofs.Lists.{same_option, IsAmong, contained, contains, mapped, unmapped}
use Rattle.cedar_world.proofs.InForce.{entry_found}
use Rattle.cedar_world.proofs.Maps.{itself}

pub the_value : {A : Type 0} (o : Option A) → is_some o ≡ true → (x : A) × (o ≡ Some x)
the_value (Some x) h = (x, refl)
the_value None h = cc

pub is_there : {A : Type 0} (o : Option A) (x : A) → o ≡ Some x → is_some o ≡ true
is_there o x h = ap is_some h

-- ---- maps

found_step : {X : Type 0} (b : Bool) (v : X) (o : Option X) → is_some o ≡ true → is_some (cond b (Some v) o) ≡ true
found_step true v o h = refl
found_step false v o h = h

found_here : {X : Type 0} (b : Bool) (v : X) (o : Option X) → b ≡ true → is_some (cond b (Some v) o) ≡ true
found_here b v o h = rw h refl

is_found : {X : Type 0} (es : List (Text × X)) (id : Text) (x : X) → IsAmong (id, x) es → is_some (find text_cmp id es) ≡ true
is_found [] id x a = absurd a
is_found {X} (e ∷ es) id x (inl is) =
    found_here (text_eq id e.0) e.1 (find text_cmp id es) (subst (λ (y : Text × X). text_eq y.0 e.0 ≡ true) is (itself e.0))
is_found (e ∷ es) id x (inr a) = found_step (text_eq id e.0) e.1 (find text_cmp id es) (is_found es id x a)

pub got : {X : Type 0} (es : List (Text × X)) (id : Text) (x : X) → finite.get (finite.from_entries {R = text_cmp} es) id ≡ Some x → IsAmong (id, x) es
got es id x h = entry_found es id x (sym (finite.get-from_entries text_cmp_total es id) ∙ h)

pub is_got : {X : Type 0} (es : List (Text × X)) (id : Text) (x : X) → IsAmong (id, x) es → is_some (finite.get (finite.from_entries {R = text_cmp} es) id) ≡ true
is_got es id x a = ap is_some (finite.get-from_entries text_cmp_total es id) ∙ is_found es id x a

unit_same : (a b : Option (Unit {0})) → is_some a ≡ is_some b → a ≡ b
unit_same None (Some u) h = cc
unit_same (Some u) None h = cc
unit_same _ _ h = refl

pub same_ids : (a b : Ids) → ((id : Text) → has_id a id ≡ true → has_id b id ≡ true) → ((id : Text) → has_id b id ≡ true → has_id a id ≡ true) → a ≡ b
same_ids a b f g =
    finite.same_map text_cmp_total text_cmp_same a b
    (λ id. unit_same (finite.get a id) (finite.get b id) (both_ways (has_id a id) (has_id b id) (f id) (g id)))

pub same_kinds : (a b : TextMap Kind) → ((id : Text) (k : Kind) → finite.get a id ≡ Some k → finite.get b id ≡ Some k) → ((id : Text) (k : Kind) → finite.get b id ≡ Some k → finite.get a id ≡ Some k) → a ≡ b
same_kinds a b f g = finite.same_map text_cmp_total text_cmp_same a b (λ id. same_option (finite.get a id) (finite.get b id) (f id) (g id))

-- ---- policies that pass a test

-- a policy of the list has the id and passes the test
pub record HasPassed (js : List Judged) (f : Judged → Bool) (id : Text) : Type 0 where
  pub policy : Judged
  pub among : IsAmong policy js
  pub id_is : policy.id ≡ id
  pub passes : f policy ≡ true

pub passed : (js : List Judged) (f : Judged → Bool) (id : Text) → HasId js f id → HasPassed js f id
passed js f id h = record { policy = h.0; among = contained js h.0 h.1; id_is = h.2; passes = h.3 }

pub has_passed : (js : List Judged) (f : Judged → Bool) (id : Text) → HasPassed js f id → HasId js f id
has_passed js f id h = (h.policy, contains js h.policy h.among, h.id_is, h.passes)

kept_step : (j k : Judged) (b : Bool) (rest : List Judged) → IsAmong j rest → IsAmong j (cond b (k ∷ rest) rest)
kept_step j k true rest a = inr a
kept_step j k false rest a = a

kept_here : (j k : Judged) (b : Bool) (rest : List Judged) → k ≡ j → b ≡ true → IsAmong j (cond b (k ∷ rest) rest)
kept_here j k b rest e h = rw h (inl e)

kept : (f : Judged → Bool) (js : List Judged) (j : Judged) → IsAmong j js → f j ≡ true → IsAmong j (filter f js)
kept f [] j a h = absurd a
kept f (k ∷ ks) j (inl e) h = kept_here j k (f k) (filter f ks) e (ap f e ∙ h)
kept f (k ∷ ks) j (inr a) h = kept_step j k (f k) (filter f ks) (kept f ks j a h)

from_step : (f : Judged → Bool) (j k : Judged) (ks rest : List Judged) (b : Bool) → f k ≡ b → (IsAmong j rest → IsAmong j ks × (f j ≡ true)) → IsAmong j (cond b (k ∷ rest) rest) →
    IsAmong j (k ∷ ks) × (f j ≡ true)
from_step f j k ks rest true is g (inl e) = (inl e, sym (ap f e) ∙ is)
from_step f j k ks rest true is g (inr a) = (inr ((g a).0), (g a).1)
from_step f j k ks rest false is g a = (inr ((g a).0), (g a).1)

from_kept : (f : Judged → Bool) (js : List Judged) (j : Judged) → IsAmong j (filter f js) → IsAmong j js × (f j ≡ true)
from_kept f [] j a = absurd a
from_kept f (k ∷ ks) j a = from_step f j k ks (filter f ks) (f k) refl (from_kept f ks j) a

pub with_id : (js : List Judged) (f : Judged → Bool) (id : Text) → HasPassed js f id → has_id (ids_of (ids_with f js)) id ≡ true
with_id js f id h =
    let among : IsAmong (h.policy.id) (ids_with f js) = mapped (λ (j : Judged). j.id) (filter f js) h.policy (kept f js h.policy h.among h.passes) in
    let listed : IsAmong id (ids_with f js) = subst (λ i. IsAmong i (ids_with f js)) h.id_is among in
    is_got (map (λ i. (i, tt)) (ids_with f js)) id tt (mapped (λ (i : Text). (i, tt)) (ids_with f js) id listed)

pub id_with : (js : List Judged) (f : Judged → Bool) (id : Text) → has_id (ids_of (ids_with f js)) id ≡ true → HasPassed js f id
id_with js f id h =
    let value = the_value (finite.get (ids_of (ids_with f js)) id) h in
    let entry = unmapped (λ (i : Text). (i, tt)) (ids_with f js) (id, value.0) (got (map (λ i. (i, tt)) (ids_with f js)) id value.0 value.1) in
    let j = unmapped (λ (j : Judged). j.id) (filter f js) entry.0 entry.1 in
    let from = from_kept f js j.0 j.1 in
    record { policy = j.0; among = from.0; id_is = j.2 ∙ ap (λ (y : Text × Unit {0}). y.0) entry.2; passes = from.1 }

-- ---- policies that err

pub record HasFailed (js : List Judged) (id : Text) (k : Kind) : Type 0 where
  pub policy : Judged
  pub among : IsAmong policy js
  pub id_is : policy.id ≡ id
  pub errs : policy.standing ≡ Erring k

pub failed : (js : List Judged) (id : Text) (k : Kind) → HasErred js id k → HasFailed js id k
failed js id k h = record { policy = h.0; among = contained js h.0 h.1; id_is = h.2; errs = h.3 }

pub has_failed : (js : List Judged) (id : Text) (k : Kind) → HasFailed js id k → HasErred js id k
has_failed js id k h = (h.policy, contains js h.policy h.among, h.id_is, h.errs)

errs_here : (id : Text) (s : Standing) (k : Kind) (rest : List (Text × Kind)) → s ≡ Erring k → IsAmong (id, k) (erring_as id s rest)
errs_here id (Erring l) k rest h = let is : l ≡ k = cc in inl (λ i. (id, is i))
errs_here id _ k rest h = cc

errs_later : (x : Text × Kind) (id : Text) (s : Standing) (rest : List (Text × Kind)) → IsAmong x rest → IsAmong x (erring_as id s rest)
errs_later x id (Erring l) rest a = inr a
errs_later x id _ rest a = a

listed_error : (js : List Judged) (j : Judged) (k : Kind) → IsAmong j js → j.standing ≡ Erring k → IsAmong (j.id, k) (errors_of js)
listed_error [] j k a h = absurd a
listed_error (i ∷ js) j k (inl e) h =
    subst (λ x. IsAmong (x, k) (errors_of (i ∷ js))) (ap (λ (y : Judged). y.id) e) (errs_here i.id i.standing k (errors_of js) (ap (λ (y : Judged). y.standing) e ∙ h))
listed_error (i ∷ js) j k (inr a) h = errs_later (j.id, k) i.id i.standing (errors_of js) (listed_error js j k a h)

error_step : (id : Text) (k : Kind) (j : Judged) (js : List Judged) (s : Standing) (rest : List (Text × Kind)) → j.standing ≡ s → (IsAmong (id, k) rest → HasFailed js id k) →
    IsAmong (id, k) (erring_as j.id s rest) → HasFailed (j ∷ js) id k
error_step id k j js (Erring l) rest is g (inl e) =
    record { policy = j; among = inl refl; id_is = ap (λ (y : Text × Kind). y.0) e; errs = is ∙ ap (λ (y : Text × Kind). Erring y.1) e }
error_step id k j js (Erring l) rest is g (inr a) = let h = g a in record { policy = h.policy; among = inr h.among; id_is = h.id_is; errs = h.errs }
error_step id k j js Satisfied rest is g a = let h = g a in record { policy = h.policy; among = inr h.among; id_is = h.id_is; errs = h.errs }
error_step id k j js Unsatisfied rest is g a = let h = g a in record { policy = h.policy; among = inr h.among; id_is = h.id_is; errs = h.errs }
error_step id k j js Residual rest is g a = let h = g a in record { policy = h.policy; among = inr h.among; id_is = h.id_is; errs = h.errs }

error_listed : (js : List Judged) (id : Text) (k : Kind) → IsAmong (id, k) (errors_of js) → HasFailed js id k
error_listed [] id k a = absurd a
error_listed (j ∷ js) id k a = error_step id k j js j.standing (errors_of js) refl (error_listed js id k) a

pub with_error : (js : List Judged) (id : Text) (k : Kind) → HasFailed js id k → IsSome (finite.get (finite.from_entries {R = text_cmp} (errors_of js)) id)
with_error js id k h =
    is_got (errors_of js) id k (subst (λ i. IsAmong (i, k) (errors_of js)) h.id_is (listed_error js h.policy k h.among h.errs))

pub error_with : (js : List Judged) (id : Text) (k : Kind) → finite.get (finite.from_entries {R = text_cmp} (errors_of js)) id ≡ Some k → HasFailed js id k
error_with js id k h = error_listed js id k (got (errors_of js) id k h)

-- ---- the answer by the rules

pub answers_are_made : AnswersAreMade
answers_are_made js once = record {
  decision = refl;
  must = λ id. (λ h. has_passed js (in_must js) id (id_with js (in_must js) id h), λ h. with_id js (in_must js) id (passed js (in_must js) id h));
  may = λ id. (λ h. has_passed js (in_may js) id (id_with js (in_may js) id h), λ h. with_id js (in_may js) id (passed js (in_may js) id h));
  erring = λ id k. (
    λ h. has_failed js id k (error_with js id k h),
    λ h.
        let (l, is) = the_value (finite.get (answer_by js).erring id) (with_error js id k (failed js id k h)) in
        is ∙ ap Some (once id l k (has_failed js id l (error_with js id l is)) h),
  );
}
