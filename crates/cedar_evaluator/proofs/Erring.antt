-- The errors that are told are those of the policies that are kept.
use Rattle.std.proofs.Common.{◌≡◌, false, true, inl, inr, Some, List, [], ◌∷◌, map, Contains, refl, ◌∙◌, ap, subst}
use Rattle.std.specs.List.{cons_option}
use Rattle.cedar_language.specs.Answering as answering
use Rattle.cedar_language.specs.Answering.{Judged, HasErred}
use Rattle.cedar_language.specs.Uid.{Text}
use Rattle.cedar_language.specs.Value.{Kind}
use Rattle.cedar_partial_evaluation.specs.Partial.{Answer}
use Rattle.cedar_extensions.specs.Failures.{Failure, OfKind, LimitMet, MemoryRanOut}
use Rattle.cedar_evaluator.specs.Evaluations.{Found, Satisfied, Unsatisfied, Erred, Open, Finds, Kept}
use Rattle.cedar_evaluator.specs.Known.{meets_limit}
use Rattle.cedar_evaluator.specs.Responses.{error_id, errors_of}
use Rattle.cedar_evaluator.proofs.Lists.{IsAmong, contained, contains, mapped, unmapped}
use Rattle.cedar_evaluator.proofs.Members.{gathered, ungathered}
use Rattle.cedar_evaluator.proofs.Standings.{standing_found, judged, is_settled}

error_kind : (own id : Text) (f : Found) (k : Kind) → error_id own f ≡ Some (id, OfKind k) → (own ≡ id) × (f ≡ Erred (OfKind k))
error_kind own id Satisfied k h = cc
error_kind own id Unsatisfied k h = cc
error_kind own id (Erred e) k h = let same : (own, e) ≡ (id, OfKind k) = cc in (ap (λ (x : Text × Failure). x.0) same, ap (λ (x : Text × Failure). Erred x.1) same)
error_kind own id (Open t) k h = cc

erring_found : (f : Found) (k : Kind) → standing_found f ≡ answering.Erring k → f ≡ Erred (OfKind k)
erring_found Satisfied k h = cc
erring_found Unsatisfied k h = cc
erring_found (Erred (OfKind j)) k h = let same : j ≡ k = cc in ap (λ (x : Kind). Erred (OfKind x)) same
erring_found (Erred LimitMet) k h = cc
erring_found (Erred MemoryRanOut) k h = cc
erring_found (Open t) k h = cc

module _ (ks : List Kept) (id : Text) (k : Kind) where
  pub errors_seen : Contains (errors_of ks) (id, OfKind k) → HasErred (map judged ks) id k
  errors_seen c =
      let (x, among, is) = ungathered (λ (k : Kept). error_id k.id k.found) (id, OfKind k) ks (contained (errors_of ks) (id, OfKind k) c) in
      let (named, found) = error_kind x.id id x.found k is in
      (judged x, contains (map judged ks) (judged x) (mapped judged ks x among), named, ap standing_found found)

  pub errors_told : HasErred (map judged ks) id k → Contains (errors_of ks) (id, OfKind k)
  errors_told (j, c, named, errs) =
      let (x, among, is) = unmapped judged ks j (contained (map judged ks) j c) in
      let found : x.found ≡ Erred (OfKind k) = erring_found x.found k (ap (λ (j : Judged). j.standing) is ∙ errs) in
      let own : x.id ≡ id = ap (λ (j : Judged). j.id) is ∙ named in
      contains (errors_of ks) (id, OfKind k) (gathered (λ (k : Kept). error_id k.id k.found) x (id, OfKind k) ks among (λ i. error_id (own i) (found i)))

-- where no limit was met, each was settled
pub settled_one : (id : Text) (f : Found) (b : Answer) (rest : List (Text × Failure)) → Finds b f → meets_limit (cons_option (error_id id f) rest) ≡ false → (is_settled f ≡ true) × (meets_limit rest ≡ false)
settled_one id Satisfied b rest found within = (refl, within)
settled_one id Unsatisfied b rest found within = (refl, within)
settled_one id (Erred (OfKind k)) b rest found within = (refl, within)
settled_one id (Erred LimitMet) b rest found within = absurd (cc within)
settled_one id (Erred MemoryRanOut) b rest found within = absurd found
settled_one id (Open t) b rest found within = (refl, within)

more_within : (id : Text) (f : Found) (rest : List (Text × Failure)) → meets_limit (cons_option (error_id id f) rest) ≡ false → meets_limit rest ≡ false
more_within id Satisfied rest within = within
more_within id Unsatisfied rest within = within
more_within id (Erred (OfKind k)) rest within = within
more_within id (Erred LimitMet) rest within = absurd (cc within)
more_within id (Erred MemoryRanOut) rest within = within
more_within id (Open t) rest within = within

pub settled_among : (ks : List Kept) → meets_limit (errors_of ks) ≡ false → (k : Kept) → IsAmong k ks → (b : Answer) → Finds b k.found → is_settled k.found ≡ true
settled_among [] within k a b found = absurd a
settled_among (x ∷ ks) within k (inl e) b found = (settled_one k.id k.found b (errors_of ks) found (subst (λ (y : Kept). meets_limit (cons_option (error_id y.id y.found) (errors_of ks)) ≡ false) e within)).0
settled_among (x ∷ ks) within k (inr a) b found = settled_among ks (more_within x.id x.found (errors_of ks) within) k a b found
