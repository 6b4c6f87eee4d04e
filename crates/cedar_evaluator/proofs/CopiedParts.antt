-- A copy of a response holds the same.
use Rattle.std.proofs.Common.{◌≡◌, ◌++◌, ◌∷◌, [], Bool, List, map, refl, ap, sym, ◌∙◌}
use Rattle.std.specs.declared.alloc.Global.{Global}
use Rattle.std.specs.declared.rc.Rc.{Rc}
use Rattle.cedar_language.specs.Tree.{Tree}
use Rattle.cedar_language.specs.Uid.{Text}
use Rattle.cedar_extensions.specs.Causes.{Cause}
use Rattle.cedar_extensions.specs.Failures.{Failure, failure_by}
use Rattle.cedar_policy_set.proofs.Copies.{AreCopies, same_keys}
use Rattle.cedar_trees.specs.Bare.{bare}
use Rattle.cedar_trees.specs.declared.expr.Expr.{Expr}
use Rattle.cedar_evaluator.specs.Concrete.{cause_seen, without_value, left_of, all_causes}
use Rattle.cedar_evaluator.specs.Given.{Noted}
use Rattle.cedar_evaluator.specs.Holding.{has_erred, error_seen, noted, noted_behind, holding_in}
use Rattle.cedar_evaluator.specs.declared.errors.AuthorizationError.{AuthorizationError}
use Rattle.cedar_evaluator.specs.declared.errors.AuthorizationError.TheVariants.{PolicyEvaluationError}
use Rattle.cedar_evaluator.specs.declared.partial_response.ErrorState.{ErrorState}
use Rattle.cedar_evaluator.specs.declared.partial_response.PartialResponse.{PartialResponse}

-- what is read of entries is read of their copies
same_read : {V B : Type 0} (same : V → V → Type 0) (read : Text × V → B) → ((e f : Text × V) → f.0 ≡ e.0 → same e.1 f.1 → read f ≡ read e) → (es fs : List (Text × V)) → AreCopies same es fs → map read fs ≡ map read es
same_read same read so [] [] h = refl
same_read same read so [] (f ∷ fs) h = absurd h
same_read same read so (e ∷ es) [] h = absurd h
same_read same read so (e ∷ es) (f ∷ fs) h = λ i. so e f h.0.0 h.0.1 i ∷ same_read same read so es fs h.1 i

abbrev SharesNotes : Noted → Noted → Type 0
SharesNotes a b = b.value ≡ a.value

abbrev SharesState : ErrorState × Noted → ErrorState × Noted → Type 0
SharesState a b = (b.0 ≡ a.0) × SharesNotes a.1 b.1

abbrev SharesRest : Rc (Expr (Unit {0})) Global × Noted → Rc (Expr (Unit {0})) Global × Noted → Type 0
SharesRest a b = (b.0.value ≡ a.0.value) × SharesNotes a.1 b.1

pub record IsCopied (r copy : PartialResponse) : Type 0 where
  pub satisfied_permits : AreCopies SharesNotes r.satisfied_permits copy.satisfied_permits
  pub false_permits : AreCopies SharesState r.false_permits copy.false_permits
  pub residual_permits : AreCopies SharesRest r.residual_permits copy.residual_permits
  pub satisfied_forbids : AreCopies SharesNotes r.satisfied_forbids copy.satisfied_forbids
  pub false_forbids : AreCopies SharesState r.false_forbids copy.false_forbids
  pub residual_forbids : AreCopies SharesRest r.residual_forbids copy.residual_forbids
  pub errors : map cause_seen copy.errors.items ≡ map cause_seen r.errors.items

noted_same : (es fs : List (Text × Noted)) → AreCopies SharesNotes es fs → map noted fs ≡ map noted es
noted_same = same_read SharesNotes noted (λ e f k s i. (k i, s i))

state_noted : (es fs : List (Text × (ErrorState × Noted))) → AreCopies SharesState es fs → map noted_behind fs ≡ map noted_behind es
state_noted = same_read SharesState noted_behind (λ e f k s i. (k i, s.1 i))

-- whether it erred, by the id
abbrev state_of : Text × (ErrorState × Noted) → Text × Bool
state_of e = (e.0, has_erred e.1.0)

state_same : (es fs : List (Text × (ErrorState × Noted))) → AreCopies SharesState es fs → map state_of fs ≡ map state_of es
state_same = same_read SharesState state_of (λ e f k s i. (k i, has_erred (s.0 i)))

rest_noted : (es fs : List (Text × (Rc (Expr (Unit {0})) Global × Noted))) → AreCopies SharesRest es fs → map noted_behind fs ≡ map noted_behind es
rest_noted = same_read SharesRest noted_behind (λ e f k s i. (k i, s.1 i))

-- what is left, by the id
abbrev rest_of : Text × (Rc (Expr (Unit {0})) Global × Noted) → Text × Tree
rest_of e = (e.0, bare e.1.0.value)

rest_same : (es fs : List (Text × (Rc (Expr (Unit {0})) Global × Noted))) → AreCopies SharesRest es fs → map rest_of fs ≡ map rest_of es
rest_same = same_read SharesRest rest_of (λ e f k s i. (k i, bare (s.0 i)))

left_same : (es fs : List (Text × (Rc (Expr (Unit {0})) Global × Noted))) → AreCopies SharesRest es fs → map left_of fs ≡ map left_of es
left_same = same_read SharesRest left_of (λ e f k s i. without_value (k i, bare (s.0 i)))

-- an error's kind goes by its cause
abbrev seen : Text × Cause → Text × Failure
seen e = (e.0, failure_by e.1)

errors_seen : (es : List AuthorizationError) → map error_seen es ≡ map seen (map cause_seen es)
errors_seen [] = refl
errors_seen (PolicyEvaluationError id error ∷ es) = ap (λ rest. seen (cause_seen (PolicyEvaluationError id error)) ∷ rest) (errors_seen es)

module _ (r copy : PartialResponse) (is : IsCopied r copy) where
  errors_same : map error_seen copy.errors.items ≡ map error_seen r.errors.items
  errors_same = errors_seen copy.errors.items ∙ ap (map seen) is.errors ∙ sym (errors_seen r.errors.items)

  pub same_held : holding_in copy ≡ holding_in r
  same_held = λ i. record {
    satisfied_permits = same_keys SharesNotes _ _ is.satisfied_permits i;
    false_permits = state_same _ _ is.false_permits i;
    open_permits = rest_same _ _ is.residual_permits i;
    satisfied_forbids = same_keys SharesNotes _ _ is.satisfied_forbids i;
    false_forbids = state_same _ _ is.false_forbids i;
    open_forbids = rest_same _ _ is.residual_forbids i;
    errors = errors_same i;
    annotated = record {
      satisfied_permits = noted_same _ _ is.satisfied_permits i;
      false_permits = state_noted _ _ is.false_permits i;
      open_permits = rest_noted _ _ is.residual_permits i;
      satisfied_forbids = noted_same _ _ is.satisfied_forbids i;
      false_forbids = state_noted _ _ is.false_forbids i;
      open_forbids = rest_noted _ _ is.residual_forbids i;
    };
  }

  pub same_causes : all_causes copy ≡ all_causes r
  same_causes = λ i. left_same _ _ is.residual_forbids i ++ left_same _ _ is.residual_permits i ++ is.errors i
