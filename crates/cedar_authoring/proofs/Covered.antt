-- One answer more.
use Rattle.std.proofs.Common.{◌≡◌, Bool, true, false, not, ◌||◌, List, [], ◌∷◌, ◌++◌, refl, ap, ◌∙◌}
use Rattle.std.specs.List.{list_any}
use Rattle.cedar_language.specs.Uid.{Text}
use Rattle.cedar_evaluator.specs.declared.partial_response.PartialResponse.{PartialResponse}
use Rattle.cedar_authoring.specs.Covering.{never_satisfied}
use Rattle.cedar_authoring.specs.Standing.{is_satisfied}

or_assoc : (a b c : Bool) → a || (b || c) ≡ (a || b) || c
or_assoc true b c = refl
or_assoc false b c = refl

or_none : (a b : Bool) → a || (b || false) ≡ a || b
or_none true b = refl
or_none false true = refl
or_none false false = refl

any_push : {A : Type 0} (p : A → Bool) (xs : List A) (x : A) → list_any p (xs ++ x ∷ []) ≡ list_any p xs || p x
any_push p [] x = or_none false (p x)
any_push p (y ∷ ys) x = ap (λ b. p y || b) (any_push p ys x) ∙ or_assoc (p y) (list_any p ys) (p x)

either_not : (a s x : Bool) → not a ≡ not s → not (a || x) ≡ not (s || x)
either_not true true x is = refl
either_not false false x is = refl
either_not true false x is = cc
either_not false true x is = cc

pub never_more : (responses : List PartialResponse) (response : PartialResponse) (id : Text) (satisfied : Bool) → never_satisfied responses id ≡ not satisfied
    → never_satisfied (responses ++ response ∷ []) id ≡ not (satisfied || is_satisfied response id)
never_more responses response id satisfied is =
    ap not (any_push (λ r. is_satisfied r id) responses response) ∙ either_not (list_any (λ r. is_satisfied r id) responses) satisfied (is_satisfied response id) is
