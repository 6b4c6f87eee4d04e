-- Once all is told, what the rules say of policies is all.
use Rattle.std.proofs.Common.{◌≡◌, ◌⊎◌, inl, inr, false, List, Some, is_some, IsTrue, IsSome, sym, ◌∙◌, ap}
use Rattle.std.specs.FinMap as finite
use Rattle.cedar_language.specs.Uid.{Text}
use Rattle.cedar_language.specs.Facts.{Facts}
use Rattle.cedar_language.specs.Answering.{Standing, is_residual, Judged, Decision, known_decision, in_must, in_may}
use Rattle.cedar_language.specs.Authorization.{Known}
use Rattle.cedar_partial_evaluation.specs.Filling as early
use Rattle.cedar_grammar.specs.Syntax.{PolicySyntax}
use Rattle.cedar_world.specs.Answer.{Answer, has_id}
use Rattle.cedar_world.specs.World.{World, in_force, in_force_at}
use Rattle.cedar_world.specs.Asking.{Question, Told}
use Rattle.cedar_world.specs.Setting.{Setting, functions_alone}
use Rattle.cedar_world.specs.Answers.{judge, known_answer}
use Rattle.cedar_world.specs.Standing.{Judges, Says}
use Rattle.cedar_world.specs.Sound.{IsSoundLater}
use Rattle.cedar_world.proofs.Lists.{IsAmong, unmapped}
use Rattle.cedar_world.proofs.InForce.{listed_in_force}
use Rattle.cedar_world.proofs.Ids.{the_value, passed, has_passed, HasPassed, has_failed, error_with}
use Rattle.cedar_world.proofs.Closed.{decision_is, must_is, may_is, whole}
use Rattle.cedar_world.proofs.Beside.{judged, there, here}

-- the answer leaves nothing open, and an error of the whole one is told, or the policy erred first
pub record IsAll (world : World) (Erred : PolicySyntax → Type 0) (a known : Answer) : Type 0 where
  pub decision : (d : Decision) × (a.decision ≡ Some d)
  pub may : (id : Text) → IsTrue (has_id a.may id) → IsTrue (has_id a.must id)
  pub erring : (id : Text) → IsSome (finite.get known.erring id) → IsSome (finite.get a.erring id) ⊎ ((s : PolicySyntax) × (in_force_at world.policies id ≡ Some s) × Erred s)

module _ (by : Setting) (world : World) (facts : Facts) (q : Question) (told : Told) (Stands : PolicySyntax → Standing → Type 0) (Erred : PolicySyntax → Type 0)
    (sound : IsSoundLater by world facts q told Stands Erred) (js : List Judged) (judges : Judges world Stands js) (request : Known) (fills : early.IsFilling (functions_alone by.functions) q told request) where
  closed : (j : Judged) → IsAmong j js → is_residual j.standing ≡ false
  closed j a = let h = judged world Stands js judges j a in (sound.exact j.id h.syntax h.in_force j.standing h.standing request fills).0

  may_must : (id : Text) → HasPassed js (in_may js) id → HasPassed js (in_must js) id
  may_must id h = record { policy = h.policy; among = h.among; id_is = h.id_is; passes = must_is js closed h.policy ∙ sym (may_is js closed h.policy h.among) ∙ h.passes }

  module _ (answer : Answer) (says : Says js answer) where
    errs : (id : Text) → IsSome (finite.get (known_answer by world facts request).erring id) → IsSome (finite.get answer.erring id) ⊎ ((s : PolicySyntax) × (in_force_at world.policies id ≡ Some s) × Erred s)
    errs id some_error =
        let (k, got) = the_value (finite.get (known_answer by world facts request).erring id) some_error in
        let f = error_with (whole world facts request) id k got in
        let (p, among, is) = unmapped (judge facts request) (in_force world.policies) f.policy f.among in
        let same : p.0 ≡ id = ap (λ (x : Judged). x.id) is ∙ f.id_is in
        let force : in_force_at world.policies id ≡ Some p.1 = ap (in_force_at world.policies) (sym same) ∙ listed_in_force world.policies p.0 p.1 among in
        let (j, a, j_is) = there world Stands js judges id p.1 force in
        let h = here world Stands js judges j a id j_is p.1 force in
        elim ((sound.exact id p.1 force j.standing h.stands request fills).1 k (ap (λ (x : Judged). x.standing) is ∙ f.errs)) [
          | inl e ↦ inl (ap is_some ((says.erring id e.0).1 (has_failed js id e.0 (record { policy = j; among = a; id_is = j_is; errs = e.1 }))))
          | inr e ↦ inr (p.1, force, e)
        ]

    pub says_all : IsAll world Erred answer (known_answer by world facts request)
    says_all = record {
      decision = (known_decision js, says.decision ∙ decision_is js closed);
      may = λ id h. (says.must id).1 (has_passed js (in_must js) id (may_must id (passed js (in_may js) id ((says.may id).0 h))));
      erring = errs;
    }
