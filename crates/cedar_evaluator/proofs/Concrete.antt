-- What is decided of a response to which nothing more is told, and its reasons and errors.
use Rattle.std.proofs.Common.{◌≡◌, Bool, true, false, cond, List, [], ◌∷◌, ◌++◌, map, length, refl, sym, ◌∙◌, ap, subst, arith}
use Rattle.std.specs.Prelude.{◌↔◌, IsTrue}
use Rattle.std.specs.List.{IsDistinct}
use Rattle.std.proofs.lemmas.List.{append_assoc, map-append}
use Rattle.cedar_language.specs.Answering.{Decision, Allow, Deny, known_decision}
use Rattle.cedar_language.specs.Order.{same_text}
use Rattle.cedar_language.specs.Uid.{Text}
use Rattle.std.specs.declared.alloc.Global.{Global}
use Rattle.std.specs.declared.rc.Rc.{Rc}
use Rattle.cedar_extensions.specs.Causes.{Cause}
use Rattle.cedar_extensions.specs.Failures.{Failure, failure_by}
use Rattle.cedar_policy_set.proofs.Distinct.{distinct_apart}
use Rattle.cedar_trees.specs.Bare.{bare}
use Rattle.cedar_trees.specs.declared.expr.Expr.{Expr}
use Rattle.cedar_evaluator.specs.Concrete.{cause_seen, left_of, all_causes, has_no_value, all_errors}
use Rattle.cedar_evaluator.specs.Deciding.{has_any}
use Rattle.cedar_evaluator.specs.Given.{Noted}
use Rattle.cedar_evaluator.specs.Holding.{error_seen, holding_in}
use Rattle.cedar_evaluator.specs.Reasons.{put_id}
use Rattle.cedar_evaluator.specs.Responses.{judged_held}
use Rattle.cedar_evaluator.specs.declared.errors.AuthorizationError.{AuthorizationError}
use Rattle.cedar_evaluator.specs.declared.errors.AuthorizationError.TheVariants.{PolicyEvaluationError}
use Rattle.cedar_evaluator.specs.declared.partial_response.PartialResponse.{PartialResponse}
use Rattle.cedar_evaluator.proofs.Deciding.{has_satisfied_permit, has_satisfied_forbid}

-- ---- groups

-- a list is empty exactly where this is told
pub any_told : {X : Type 0} (told b : Bool) (xs : List X) → (IsTrue told ↔ (length xs ≡ 0)) → told ≡ b → has_any xs ≡ cond b false true
any_told told true [] so is = refl
any_told told true (x ∷ xs) so is = let none : length (x ∷ xs) ≡ 0 = so.0 is in absurd (omega arith)
any_told told false [] so is = absurd (cc (is, so.1 refl))
any_told told false (x ∷ xs) so is = refl

pub any_seen : {X Y : Type 0} (g : X → Y) (xs : List X) → has_any (map g xs) ≡ has_any xs
any_seen g [] = refl
any_seen g (x ∷ xs) = refl

-- ---- the decision

by_groups : Bool → Bool → Decision
by_groups f p = cond f Deny (cond p Allow Deny)

pub known_in : (r : PartialResponse) (f p : Bool) → has_any r.satisfied_forbids ≡ f → has_any r.satisfied_permits ≡ p
    → cond f Deny (cond p Allow Deny) ≡ known_decision (judged_held (holding_in r))
known_in r f p forbids permits =
    sym (λ i. cond ((has_satisfied_forbid (holding_in r) ∙ any_seen (λ e. e.0) r.satisfied_forbids ∙ forbids) i) Deny
    (cond ((has_satisfied_permit (holding_in r) ∙ any_seen (λ e. e.0) r.satisfied_permits ∙ permits) i) Allow Deny))

-- ---- ids that are put into a set

apart_put : (done rest : List Text) (id : Text) → IsDistinct same_text (done ++ id ∷ rest) → put_id done id ≡ done ++ id ∷ []
apart_put done rest id apart = ap (λ b. cond b done (done ++ id ∷ [])) (distinct_apart done id rest apart)

-- an id of such a list is put behind those before it
pub put_next : (all done rest : List Text) (id : Text) → IsDistinct same_text all → done ++ id ∷ rest ≡ all → put_id done id ++ rest ≡ all
put_next all done rest id apart is =
    ap (λ l. l ++ rest) (apart_put done rest id (subst (IsDistinct same_text) (sym is) apart)) ∙ append_assoc done (id ∷ []) rest ∙ is

-- ---- errors

failed : Text × Cause → Text × Failure
failed e = (e.0, failure_by e.1)

seen_told : (es : List AuthorizationError) → map error_seen es ≡ map failed (map cause_seen es)
unfolding failed
seen_told [] = refl
seen_told (PolicyEvaluationError id error ∷ es) = ap (λ l. error_seen (PolicyEvaluationError id error) ∷ l) (seen_told es)

seen_open : (es : List (Text × (Rc (Expr (Unit {0})) Global × Noted))) → map failed (map left_of es) ≡ map has_no_value (map (λ e. (e.0, bare e.1.0.value)) es)
unfolding failed
seen_open [] = refl
seen_open (e ∷ es) = ap (λ l. has_no_value (e.0, bare e.1.0.value) ∷ l) (seen_open es)

-- what was met tells each error
pub errors_told : (r : PartialResponse) (errors : List AuthorizationError) → map cause_seen errors ≡ all_causes r → map error_seen errors ≡ all_errors (holding_in r)
errors_told r errors is =
    let forbids = map left_of r.residual_forbids in
    let permits = map left_of r.residual_permits in
    let told = map cause_seen r.errors.items in
    seen_told errors
    ∙ ap (map failed) is
    ∙ map-append failed (forbids ++ permits) told
    ∙ ap (λ l. l ++ map failed told) (map-append failed forbids permits)
    ∙ (λ i. seen_open r.residual_forbids i ++ seen_open r.residual_permits i ++ sym (seen_told r.errors.items) i)
