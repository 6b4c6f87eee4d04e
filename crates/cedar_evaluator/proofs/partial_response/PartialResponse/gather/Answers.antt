-- Where nothing is asked of those that aren't satisfied, the candidates are enough.
use Rattle.std.proofs.Common.{◌≡◌, Bool, List, ℕ, Option, Some, sym, subst}
use Rattle.std.specs.Prelude.{IfSome}
use Rattle.std.specs.List.Sorted.{IsStrictlyIncreasing}
use Rattle.std.proofs.lemmas.Result.{on_ok_weaker}
use Rattle.cedar_policy_set.specs.Entries.{policies_of}
use Rattle.cedar_evaluator.specs.Candidates.{AreCandidatesBy}
use Rattle.cedar_evaluator.specs.Grouping.{Keeps}
use Rattle.cedar_evaluator.proofs.Passed.{candidates_apart, candidates_keep}
use Rattle.cedar_evaluator.proofs.partial_response.PartialResponse.gather.Goals as goal

-- what holds of what is found holds of its items, as they are lent
of_found : {X : Type 0} (P : List ℕ → Type 0) (items : X → List ℕ) {o : Option X} {x : X} {lent : List ℕ}
    → o ≡ Some x → lent ≡ items x → IfSome o (λ y. P (items y)) → P lent
of_found P items is same found = subst P (sym same) (subst (λ o. IfSome o (λ y. P (items y))) is found)

pub gather_at-requires-clause-apart : goal.gather_at-requires-clause-apart
gather_at-requires-clause-apart g c =
    let rising = of_found IsStrictlyIncreasing (λ positions. positions.items) c.in-Some.is c.deref.ensures.value c.in_ok-positions.ensures.rising in
    candidates_apart c.args.policies.now c.deref.result.now rising c.requires.apart

pub returns-in-Some-clause-keeps : goal.returns-in-Some-clause-keeps
returns-in-Some-clause-keeps g c =
    let es = c.args.policies.now in
    let found = c.in_ok-positions.ensures.whole in
    let candidates = of_found (AreCandidatesBy c.args.scopes.now es) (λ positions. positions.items) c.in-Some.is c.deref.ensures.value found in
    on_ok_weaker c.gather_at.result
    (λ keeps i store table depth is scopes.
    subst (λ (b : Bool). Keeps b i store table depth (policies_of es) c.gather_at.new.self) (sym c.if-with_false.false)
    (candidates_keep i store table depth es c.deref.result.now c.gather_at.new.self (candidates i store scopes) (keeps i store table depth is scopes)))
    c.gather_at.ensures.keeps
