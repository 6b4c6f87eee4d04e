-- What is decided by the groups of a response, and which ids are its reasons.
use Rattle.std.proofs.Common.{◌≡◌, Bool, ◌||◌, cond, List, [], ◌∷◌, ◌++◌, map, refl, sym, ◌∙◌, ap}
use Rattle.std.specs.Map.{keys_of}
use Rattle.cedar_language.specs.Uid.{Text}
use Rattle.cedar_language.specs.Answering.{decision, decision_by, in_must, in_may, ids_with}
use Rattle.cedar_trees.specs.Bare.{bare}
use Rattle.cedar_evaluator.specs.Deciding.{has_any}
use Rattle.cedar_evaluator.specs.Holding.{holding_in}
use Rattle.cedar_evaluator.specs.Responses.{judged_held}
use Rattle.cedar_evaluator.specs.declared.partial_response.PartialResponse.{PartialResponse}
use Rattle.cedar_evaluator.proofs.Deciding.{decided_held, must_held, may_held}

-- a group that is seen with other values has the same policies
any_seen : {X Y : Type 0} (g : X → Y) (xs : List X) → has_any (map g xs) ≡ has_any xs
any_seen g [] = refl
any_seen g (x ∷ xs) = refl

keys_seen : {X Y : Type 0} (g : X → Y) (es : List (Text × X)) → map (λ (e : Text × Y). e.0) (map (λ (e : Text × X). (e.0, g e.1)) es) ≡ keys_of es
keys_seen g [] = refl
keys_seen g (e ∷ es) = ap (λ l. e.0 ∷ l) (keys_seen g es)

module _ (r : PartialResponse) where
  any_permit : has_any (holding_in r).satisfied_permits ≡ has_any r.satisfied_permits
  any_permit = any_seen (λ e. e.0) r.satisfied_permits

  any_forbid : has_any (holding_in r).satisfied_forbids ≡ has_any r.satisfied_forbids
  any_forbid = any_seen (λ e. e.0) r.satisfied_forbids

  any_open_permit : has_any (holding_in r).open_permits ≡ has_any r.residual_permits
  any_open_permit = any_seen (λ e. (e.0, bare e.1.0.value)) r.residual_permits

  any_open_forbid : has_any (holding_in r).open_forbids ≡ has_any r.residual_forbids
  any_open_forbid = any_seen (λ e. (e.0, bare e.1.0.value)) r.residual_forbids

  open_permit_ids : map (λ e. e.0) (holding_in r).open_permits ≡ keys_of r.residual_permits
  open_permit_ids = keys_seen (λ v. bare v.0.value) r.residual_permits

  open_forbid_ids : map (λ e. e.0) (holding_in r).open_forbids ≡ keys_of r.residual_forbids
  open_forbid_ids = keys_seen (λ v. bare v.0.value) r.residual_forbids

  pub decided_in : decision (judged_held (holding_in r))
      ≡ decision_by (has_any r.satisfied_forbids) (has_any r.satisfied_permits) (has_any r.residual_permits) (has_any r.residual_forbids)
  decided_in = decided_held (holding_in r) ∙ (λ i. decision_by (any_forbid i) (any_permit i) (any_open_permit i) (any_open_forbid i))

  pub must_in : (b : Bool) → b ≡ (has_any r.satisfied_forbids || has_any r.residual_forbids)
      → ids_with (in_must (judged_held (holding_in r))) (judged_held (holding_in r)) ≡ cond b (keys_of r.satisfied_forbids) (keys_of r.satisfied_permits)
  must_in b is =
      must_held (holding_in r)
      ∙ (λ i. cond (any_forbid i || any_open_forbid i) (keys_of r.satisfied_forbids) (keys_of r.satisfied_permits))
      ∙ ap (λ t. cond t (keys_of r.satisfied_forbids) (keys_of r.satisfied_permits)) (sym is)

  pub may_in : (b : Bool) → b ≡ has_any r.satisfied_forbids
      → ids_with (in_may (judged_held (holding_in r))) (judged_held (holding_in r))
      ≡ cond b (keys_of r.satisfied_forbids ++ keys_of r.residual_forbids) (keys_of r.satisfied_permits ++ keys_of r.residual_permits ++ keys_of r.residual_forbids)
  may_in b is =
      may_held (holding_in r)
      ∙ (λ i. cond ((any_forbid ∙ sym is) i) (keys_of r.satisfied_forbids ++ open_forbid_ids i) (keys_of r.satisfied_permits ++ open_permit_ids i ++ open_forbid_ids i))
