-- Where no policy is open, those that may be reasons are those that must be.
use Rattle.std.proofs.Common.{◌≡◌, ◌∙◌, Bool, true, false, ◌||◌, cond, List, [], ◌∷◌, ◌++◌, length, map, arith, refl, sym, ap, append-nil}
use Rattle.cedar_language.specs.Answering.{in_must, in_may, ids_with}
use Rattle.cedar_language.specs.Uid.{Text}
use Rattle.cedar_evaluator.specs.Deciding.{has_any}
use Rattle.cedar_evaluator.specs.Responses.{Holding, judged_held}
use Rattle.cedar_evaluator.proofs.Deciding.{must_held, may_held}

none_there : {X : Type 0} (xs : List X) → length xs ≡ 0 → xs ≡ []
none_there [] none = refl
none_there (x ∷ xs) none = absurd (omega (arith, none))

-- a group that is seen in another way has as few policies
pub none_seen : {X Y : Type 0} (g : X → Y) (xs : List X) → length xs ≡ 0 → map g xs ≡ []
none_seen g xs none = ap (map g) (none_there xs none)

settled : (b : Bool) (forbids permits : List Text) → cond b (forbids ++ []) (permits ++ [] ++ []) ≡ cond (b || false) forbids permits
settled true forbids permits = append-nil forbids
settled false forbids permits = append-nil (permits ++ []) ∙ append-nil permits

pub same_reasons : (h : Holding) → h.open_permits ≡ [] → h.open_forbids ≡ [] → ids_with (in_may (judged_held h)) (judged_held h) ≡ ids_with (in_must (judged_held h)) (judged_held h)
same_reasons h no_permit no_forbid =
    let by = has_any h.satisfied_forbids in
    may_held h
    ∙ (λ i. cond by (h.satisfied_forbids ++ map (λ e. e.0) (no_forbid i)) (h.satisfied_permits ++ map (λ e. e.0) (no_permit i) ++ map (λ e. e.0) (no_forbid i)))
    ∙ settled by h.satisfied_forbids h.satisfied_permits
    ∙ (λ i. cond (by || has_any (sym no_forbid i)) h.satisfied_forbids h.satisfied_permits)
    ∙ sym (must_held h)
