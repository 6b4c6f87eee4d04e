-- A question that states types has sharper leaves, so its policies stand more sharply, and so does the answer.
use Rattle.std.proofs.Common.{◌≡◌, Option, None, is_some, List, [], ◌∷◌, map, inl, inr, refl, sym, ◌∙◌, ap, subst}
use Rattle.std.specs.FinMap as finite
use Rattle.std.specs.Prelude.{codes}
use Rattle.cedar_language.specs.Uid.{Text}
use Rattle.cedar_language.specs.Tree.{ValueType, Variable, Principal, Action, Resource, Context, Unknown}
use Rattle.cedar_language.specs.Value.{Value, Kind, Gives}
use Rattle.cedar_language.specs.Facts.{Facts}
use Rattle.cedar_language.specs.Answering.{Standing, Erring, Judged, StillErrs, Come, none_come, one_comes, satisfied_forbid, residual_forbid, satisfied_permit, residual_permit, decision, in_must, in_may, IsAsSharp, RulesAreSharp}
use Rattle.cedar_partial_evaluation.specs.Early.{standing_of_answer}
use Rattle.cedar_partial_evaluation.specs.Linking.{no_slots}
use Rattle.cedar_partial_evaluation.specs.Partial.{Answer, Evaluated, ResidualTree, Failed, LeafAnswers, partial_in}
use Rattle.cedar_partial_evaluation.specs.Question.{Part, Given, Missing, Question, entity_type, name_held, part_held, held_of}
use Rattle.cedar_world.specs.Answer.{Answer as Answered}
use Rattle.cedar_world.specs.Answers.{HoldsOf}
use Rattle.cedar_world.specs.Orders.{text_cmp}
use Rattle.cedar_world.specs.Standing.{StandsEarly, Judges, Says}
use Rattle.cedar_grammar.specs.Syntax.{PolicySyntax, condition}
use Rattle.cedar_world.specs.World.{World, in_force_at}
use Rattle.cedar_world.specs.Sound.{Becomes}
use Rattle.cedar_world.specs.Typed.{untyped_part, untyped, TypedQuestionsAreSharper}
use Rattle.cedar_world.proofs.Standings.{comes_itself}
use Rattle.cedar_world.proofs.LaterStandings.{value_standing}
use Rattle.cedar_world.proofs.Beside.{beside, standing_at, stands_as, judged, there, alike_as}
use Rattle.cedar_world.proofs.Lists.{IsAmong, mapped, unmapped, AreAlike, some_alike}
use Rattle.cedar_world.proofs.Ids.{the_value, HasPassed, passed, has_passed, HasFailed, failed, has_failed}
use Rattle.cedar_world.proofs.Sharper.{IsSharper, sharp_itself, sharper}

-- ---- standings

becomes : (facts : Facts) (now : LeafAnswers) (x y : Answer) → IsSharper facts now x y → Becomes (standing_of_answer x) (standing_of_answer y)
becomes facts now (Evaluated v) y h = rw h (subst (λ s. Becomes s s) (value_standing v) (comes_itself (Gives v)))
becomes facts now (ResidualTree r) y h = (tt, tt)
becomes facts now (Failed k) y (l, e) = rw e (tt, (l, refl))

of_standing : (x y : Standing) (k : Kind) → x ≡ Erring k → StillErrs x y → (l : Kind) × (y ≡ Erring l)
of_standing (Erring j) y k e h = h
of_standing _ y k e h = cc

-- ---- leaves

module _ (facts : Facts) (q : Question) where
  abbrev before : LeafAnswers
  before = held_of facts (untyped q) no_slots finite.empty

  abbrev now : LeafAnswers
  now = held_of facts q no_slots finite.empty

  -- an unknown, with a type that is stated of it
  left_typed : (n : Text) (ty : Option ValueType) → IsSharper facts now (ResidualTree (Unknown n None)) (ResidualTree (Unknown n ty))
  left_typed n ty = record { stays = λ h. (Unknown n ty, refl, (ty, refl)); lacks = tt }

  name_typed : (n : Text) (o : Option Value) → o ≡ None → (ty : Option ValueType) → IsSharper facts now (name_held o n None) (name_held o n ty)
  name_typed n o none ty = rw none (left_typed n ty)

  part_typed : (p : Part) (n : Text) (o : Option Value) → o ≡ None → IsSharper facts now (part_held (untyped_part p) o n) (part_held p o n)
  part_typed (Given u) n o none = refl
  part_typed (Missing ty) n o none = name_typed n o none (entity_type ty)

  untold : (n : Text) (ty : Option ValueType) → IsSharper facts now (before.unknown n None) (now.unknown n ty)
  untold n ty = name_typed n _ (finite.get-empty text_cmp n) ty

  variable_typed : (v : Variable) → IsSharper facts now (before.variable v) (now.variable v)
  variable_typed Principal = part_typed q.principal (codes "principal") _ (finite.get-empty text_cmp (codes "principal"))
  variable_typed Action = part_typed q.action (codes "action") _ (finite.get-empty text_cmp (codes "action"))
  variable_typed Resource = part_typed q.resource (codes "resource") _ (finite.get-empty text_cmp (codes "resource"))
  variable_typed Context = sharp_itself facts now (now.variable Context)

  pub policy_stands : (s : PolicySyntax) (x y : Standing) → StandsEarly facts (untyped q) finite.empty s x → StandsEarly facts q finite.empty s y → Becomes x y
  policy_stands s x y h k =
      rw (h, k) (becomes facts now (partial_in facts before (condition s)) (partial_in facts now (condition s))
      (sharper facts now before variable_typed (λ n ty. sharp_itself facts now (now.unknown n ty)) untold (λ s. sharp_itself facts now (now.slot s)) (condition s)))

-- ---- answers

module _ (sharp_rules : RulesAreSharp) (world : World) (facts : Facts) (q : Question) (js ks : List Judged)
    (judges : Judges world (StandsEarly facts (untyped q) finite.empty) js) (judges_now : Judges world (StandsEarly facts q finite.empty) ks) where
  abbrev Before : PolicySyntax → Standing → Type 0
  Before = StandsEarly facts (untyped q) finite.empty

  abbrev Now : PolicySyntax → Standing → Type 0
  Now = StandsEarly facts q finite.empty

  abbrev standing_now : PolicySyntax → Standing
  standing_now s = standing_of_answer (partial_in facts (held_of facts q no_slots finite.empty) (condition s))

  -- how the policy stands to the question with types
  abbrev now_as : Judged → Judged
  now_as = stands_as world standing_now

  abbrev all : List Judged
  all = map now_as js

  stands_now : (j : Judged) → IsAmong j js → Becomes j.standing (standing_at standing_now (in_force_at world.policies j.id))
  stands_now j a =
      let h = judged world Before js judges j a in
      subst (λ o. Becomes j.standing (standing_at standing_now o)) (sym h.in_force) (policy_stands facts q h.syntax j.standing (standing_now h.syntax) h.standing refl)

  come : (is : List Judged) → ((j : Judged) → IsAmong j is → IsAmong j js) → Come is (map now_as is)
  come [] h = none_come
  come (j ∷ is) h = one_comes (record { id = refl; effect = refl; standing = (stands_now j (h j (inl refl))).0 }) (come is (λ k a. h k (inr a)))

  sharp : IsAsSharp js all
  sharp = sharp_rules js all (come js (λ j a. a))

  alike : AreAlike all ks
  alike = alike_as world Before js judges standing_now ks (judged world Now ks judges_now) (there world Now ks judges_now)

  same_decision : decision all ≡ decision ks
  same_decision = rw (some_alike all ks alike satisfied_forbid, some_alike all ks alike satisfied_permit, some_alike all ks alike residual_permit, some_alike all ks alike residual_forbid) refl

  same_must : (x : Judged) → in_must all x ≡ in_must ks x
  same_must x = rw (some_alike all ks alike satisfied_forbid, some_alike all ks alike residual_forbid) refl

  same_may : (x : Judged) → in_may all x ≡ in_may ks x
  same_may x = rw (some_alike all ks alike satisfied_forbid) refl

  must_still : (id : Text) → HasPassed js (in_must js) id → HasPassed ks (in_must ks) id
  must_still id h = record {
    policy = now_as h.policy;
    among = alike.there (now_as h.policy) (mapped now_as js h.policy h.among);
    id_is = h.id_is;
    passes = sym (same_must (now_as h.policy)) ∙ sharp.must h.policy (now_as h.policy) (beside now_as js h.policy h.among) h.passes;
  }

  may_before : (id : Text) → HasPassed ks (in_may ks) id → HasPassed js (in_may js) id
  may_before id h =
      let (j, a, is) = unmapped now_as js h.policy (alike.back h.policy h.among) in
      record {
        policy = j;
        among = a;
        id_is = ap (λ (x : Judged). x.id) is ∙ h.id_is;
        passes = sharp.may j (now_as j) (beside now_as js j a) (ap (in_may all) is ∙ same_may h.policy ∙ h.passes);
      }

  errs_still : (id : Text) (k : Kind) → HasFailed js id k → (l : Kind) × HasFailed ks id l
  errs_still id k h =
      let (l, is) = of_standing h.policy.standing (standing_at standing_now (in_force_at world.policies h.policy.id)) k h.errs (stands_now h.policy h.among).1 in
      (l, record { policy = now_as h.policy; among = alike.there (now_as h.policy) (mapped now_as js h.policy h.among); id_is = h.id_is; errs = is })

  pub holds : (early late : Answered) → Says js early → Says ks late → HoldsOf early late
  holds early late says says_now = record {
    decision = λ d e. says_now.decision ∙ sym same_decision ∙ sharp.decides d (sym says.decision ∙ e);
    must = λ id h. (says_now.must id).1 (has_passed ks (in_must ks) id (must_still id (passed js (in_must js) id ((says.must id).0 h))));
    may = λ id h. (says.may id).1 (has_passed js (in_may js) id (may_before id (passed ks (in_may ks) id ((says_now.may id).0 h))));
    erring = λ id h.
        let (k, is) = the_value (finite.get early.erring id) h in
        let (l, errs) = errs_still id k (failed js id k ((says.erring id k).0 is)) in
        ap is_some ((says_now.erring id l).1 (has_failed ks id l errs));
  }

pub typed_questions_are_sharper : RulesAreSharp → TypedQuestionsAreSharper
typed_questions_are_sharper rules = record {
  stands = policy_stands;
  answers = λ world facts q js ks early late judges says judges_now says_now. holds rules world facts q js ks judges judges_now early late says says_now;
}
