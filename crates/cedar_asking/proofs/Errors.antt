-- The errors that are listed are those of the policies that are kept.
use Rattle.std.proofs.Common.{◌≡◌, inl, inr, Bool, true, ◌&&◌, Some, is_some, List, [], ◌∷◌, map, Contains, refl, sym, ◌∙◌, ap}
use Rattle.std.specs.List.{cons_option, list_all}
use Rattle.cedar_language.specs.Uid.{Text}
use Rattle.cedar_language.specs.Value.{Kind}
use Rattle.cedar_world.specs.Answers as world
use Rattle.cedar_world.specs.Answers.{erring_as}
use Rattle.cedar_extensions.specs.Failures.{Failure, OfKind, LimitMet, MemoryRanOut, kind_in}
use Rattle.cedar_replies.specs.Erring.{have_kinds, and_kind, with_kinds}
use Rattle.cedar_replies.specs.Kinds.{kind_of}
use Rattle.cedar_replies.specs.declared.error_kind.ErrorKind.{ErrorKind}
use Rattle.cedar_replies.specs.declared.error_kind.ErrorKind.TheVariants.{EntityDoesNotExist, EntityAttrDoesNotExist, RecordAttrDoesNotExist, FailedExtensionFunctionLookup, TypeError, WrongNumArguments, IntegerOverflow, UnlinkedSlot, FailedExtensionFunctionExecution, NonValue, RecursionLimit, Memory}
use Rattle.cedar_evaluator.specs.Evaluations.{Found, Satisfied, Unsatisfied, Erred, Open, Kept}
use Rattle.cedar_evaluator.specs.Responses.{error_id, errors_of}
use Rattle.cedar_evaluator.proofs.Standings.{standing_found, judged, is_settled}
use Rattle.cedar_asking.specs.Erring.{failure_named, with_failure}
use Rattle.cedar_evaluator.proofs.Lists.{IsAmong, contained}
use Rattle.cedar_evaluator.proofs.Members.{ungathered}

kind_named : (k : ErrorKind) → kind_of k ≡ kind_in (failure_named k)
kind_named EntityDoesNotExist = refl
kind_named EntityAttrDoesNotExist = refl
kind_named RecordAttrDoesNotExist = refl
kind_named FailedExtensionFunctionLookup = refl
kind_named TypeError = refl
kind_named WrongNumArguments = refl
kind_named IntegerOverflow = refl
kind_named UnlinkedSlot = refl
kind_named FailedExtensionFunctionExecution = refl
kind_named NonValue = refl
kind_named RecursionLimit = refl
kind_named Memory = refl

-- the kinds of failures
abbrev kinds_in : List (Text × Failure) → List (Text × Kind)
kinds_in [] = []
kinds_in (e ∷ es) = and_kind e.0 (kind_in e.1) (kinds_in es)

abbrev have_kind : List (Text × Failure) → Bool
have_kind = list_all (λ (e : Text × Failure). is_some (kind_in e.1))

kinds_listed : (es : List (Text × ErrorKind)) → with_kinds es ≡ kinds_in (map with_failure es)
kinds_listed [] = refl
kinds_listed (e ∷ es) = λ i. and_kind e.0 (kind_named e.1 i) (kinds_listed es i)

have_listed : (es : List (Text × ErrorKind)) → have_kinds es ≡ have_kind (map with_failure es)
have_listed [] = refl
have_listed (e ∷ es) = λ i. is_some (kind_named e.1 i) && have_listed es i

kinds_step : (id : Text) (f : Found) (rest : List (Text × Failure)) → kinds_in (cons_option (error_id id f) rest) ≡ erring_as id (standing_found f) (kinds_in rest)
kinds_step id Satisfied rest = refl
kinds_step id Unsatisfied rest = refl
kinds_step id (Erred (OfKind k)) rest = refl
kinds_step id (Erred LimitMet) rest = refl
kinds_step id (Erred MemoryRanOut) rest = refl
kinds_step id (Open t) rest = refl

kinds_kept : (ks : List Kept) → kinds_in (errors_of ks) ≡ world.errors_of (map judged ks)
kinds_kept [] = refl
kinds_kept (k ∷ ks) = kinds_step k.id k.found (errors_of ks) ∙ ap (erring_as k.id (standing_found k.found)) (kinds_kept ks)

-- the errors listed are those by which the policies stand
pub errors_listed : (es : List (Text × ErrorKind)) (ks : List Kept) → map with_failure es ≡ errors_of ks → with_kinds es ≡ world.errors_of (map judged ks)
errors_listed es ks h = kinds_listed es ∙ ap kinds_in h ∙ kinds_kept ks

settled_step : (id : Text) (f : Found) (rest : List (Text × Failure)) → have_kind (cons_option (error_id id f) rest) ≡ true → (is_settled f ≡ true) × (have_kind rest ≡ true)
settled_step id Satisfied rest h = (refl, h)
settled_step id Unsatisfied rest h = (refl, h)
settled_step id (Erred (OfKind k)) rest h = (refl, h)
settled_step id (Erred LimitMet) rest h = cc
settled_step id (Erred MemoryRanOut) rest h = cc
settled_step id (Open t) rest h = (refl, h)

settled_kept : (ks : List Kept) → have_kind (errors_of ks) ≡ true → (k : Kept) → IsAmong k ks → is_settled k.found ≡ true
settled_kept [] h k a = absurd a
settled_kept (l ∷ ks) h k (inl e) = sym (ap (λ (x : Kept). is_settled x.found) e) ∙ (settled_step l.id l.found (errors_of ks) h).0
settled_kept (l ∷ ks) h k (inr a) = settled_kept ks (settled_step l.id l.found (errors_of ks) h).1 k a

-- where each error has a kind, no bound was met
pub settled_listed : (es : List (Text × ErrorKind)) (ks : List Kept) → have_kinds es ≡ true → map with_failure es ≡ errors_of ks → (k : Kept) → IsAmong k ks → is_settled k.found ≡ true
settled_listed es ks have h = settled_kept ks (sym (have_listed es ∙ ap have_kind h) ∙ have)

limit_found : (id own : Text) (f : Found) → error_id own f ≡ Some (id, LimitMet) → f ≡ Erred LimitMet
limit_found id own Satisfied h = cc
limit_found id own Unsatisfied h = cc
limit_found id own (Erred e) h = let same : (own, e) ≡ (id, LimitMet) = cc in ap (λ (x : Text × Failure). Erred x.1) same
limit_found id own (Open t) h = cc

-- an error at the limit is that of a policy that is kept
pub limit_kept : (ks : List Kept) (id : Text) → Contains (errors_of ks) (id, LimitMet) → (k : Kept) × IsAmong k ks × (k.found ≡ Erred LimitMet)
limit_kept ks id c =
    let (k, among, is) = ungathered (λ (k : Kept). error_id k.id k.found) (id, LimitMet) ks (contained (errors_of ks) (id, LimitMet) c) in
    (k, among, limit_found id k.id k.found is)
