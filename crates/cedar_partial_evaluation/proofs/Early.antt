-- Early answers are fair and prompt.
use Rattle.std.proofs.Common.{◌≡◌, true, false, Option, Some, List, [], ◌∷◌, refl, sym, ◌∙◌, ap}
use Rattle.std.specs.FinMap as finite
use Rattle.std.specs.Prelude.{map, codes}
use Rattle.std.proofs.lemmas.List.Elements.{All-head, All-tail}
use Rattle.cedar_language.specs.Uid.{Text, Uid}
use Rattle.cedar_language.specs.Tree.{Boolean, Entity, ValueType, Variable, Principal, Action, Resource, Context, MakeRecord, Tree, Apply}
use Rattle.cedar_language.specs.Value.{Value, Plain, Kind, TypeError, Outcome, Gives, Fails}
use Rattle.cedar_language.specs.Facts.{Facts}
use Rattle.cedar_language.specs.Meaning.{Slots, meaning}
use Rattle.cedar_language.specs.Answering.{Erring, is_residual, ComesTo, Comes, Come, none_come, one_comes, Fills, Filled, nothing, a_policy, Standing, Satisfied, Unsatisfied, Residual, Judged, StillErrs, At, at_first, at_later}
use Rattle.cedar_language.specs.Authorization as authorization
use Rattle.cedar_language.specs.Authorization.{Policy, standing_of, request_at}
use Rattle.cedar_partial_evaluation.specs.Unknowns.{fits, of_unknowns}
use Rattle.cedar_partial_evaluation.specs.Settling.{Settling, Open, Errs, Is, kindless, Below, LeafSettlings, settled_in}
use Rattle.cedar_partial_evaluation.specs.MadeAgain.{HoldsMade}
use Rattle.cedar_partial_evaluation.specs.Partial.{Answer, Evaluated, ResidualTree, Failed, answer_of, partial_in}
use Rattle.cedar_partial_evaluation.specs.Fair.{read}
use Rattle.cedar_partial_evaluation.specs.Prompt.{Meets, without_kind}
use Rattle.cedar_partial_evaluation.specs.Question.{Part, Given, Missing, Entries, NoContext, WithEntries, Question, Told, name_held, settled_names, held_names, part_held, context_held, variable_held, settled_of, held_of, Extends, AreMadeTold, IsAccepted}
use Rattle.cedar_partial_evaluation.specs.Filling.{GivesEach, TellsEach, FillsPart, FillsContext, IsFilling, name_outcome, request_filled, filled}
use Rattle.cedar_partial_evaluation.specs.Early.{judged_filled, standing_of_answer, judged_early, standing_settled, judged_settled, GivesPolicies, EarlyAnswersAreFair, EarlyAnswersArePrompt, EarlyKindsAreSettled, AllToldIsKnown, LastAnswersAreExact, FilledIsKnown}
use Rattle.cedar_partial_evaluation.proofs.Known.{answered_at}
use Rattle.cedar_partial_evaluation.proofs.DataErrors.{value_answer}
use Rattle.cedar_partial_evaluation.proofs.Carried.{below_refl, below_trans}
use Rattle.cedar_partial_evaluation.proofs.Prompt.{is_prompt}
use Rattle.cedar_partial_evaluation.proofs.Question.{meets_below, settled_mono, names_made, names_shown}
use Rattle.cedar_partial_evaluation.proofs.Filling.{below_closed, means_filled, context_not, answers_are_fair, answers_prompt, context_filled}
use Rattle.cedar_partial_evaluation.proofs.Leaves.{names_dont_matter}
use Rattle.cedar_language.proofs.Answering.{rules_are_fair, rules_are_sharp}

-- what an outcome is, from what is settled
pub left_comes : (facts : Facts) (around : LeafSettlings) (p : Answer) (o : Outcome) → read facts around p ≡ kindless o → ComesTo (standing_of_answer p) (standing_of o) × StillErrs (standing_of_answer p) (standing_of o)
left_comes facts around (Evaluated (Plain (Boolean true))) (Gives w) h = let e : Plain (Boolean true) ≡ w = cc in rw (← e) (refl, tt)
left_comes facts around (Evaluated (Plain (Boolean false))) (Gives w) h = let e : Plain (Boolean false) ≡ w = cc in rw (← e) (tt, tt)
left_comes facts around (Evaluated v) (Gives w) h = let e : v ≡ w = cc in rw (← e) (tt, (TypeError, refl))
left_comes facts around (Evaluated v) (Fails k) h = cc
left_comes facts around (ResidualTree r) o h = (tt, tt)
left_comes facts around (Failed k) (Gives w) h = cc
left_comes facts around (Failed k) (Fails l) h = (tt, (l, refl))

pub never_residual : (o : Outcome) → is_residual (standing_of o) ≡ false
never_residual (Gives (Plain (Boolean true))) = refl
never_residual (Gives (Plain (Boolean false))) = refl
never_residual (Gives _) = refl
never_residual (Fails k) = refl

module _ (facts : Facts) (good : HoldsMade facts) (q : Question) (told filling : Told) (known : authorization.Known) (extends : Extends told filling) (are_made : AreMadeTold facts told) (fills : IsFilling facts q filling known) where
  policy_becomes : (p : Policy) → GivesEach filling p.condition →
      ComesTo (judged_early facts q told p).standing (judged_filled facts known filling p).standing × StillErrs (judged_early facts q told p).standing (judged_filled facts known filling p).standing
  policy_becomes p given =
      left_comes facts (filled facts q p.slots filling) (partial_in facts (held_of facts q p.slots told) p.condition) (meaning facts (request_filled known p.slots filling) p.condition)
      (sym (answers_are_fair facts good q p.slots told filling known extends are_made fills p.condition given) ∙ means_filled facts q filling known fills p.slots p.condition given)

  policy_fills : (p : Policy) → GivesEach filling p.condition → Fills (judged_early facts q told p) (judged_filled facts known filling p)
  policy_fills p given = record {
    id = refl;
    effect = refl;
    standing = (policy_becomes p given).0;
    erring = (policy_becomes p given).1;
    known = never_residual (meaning facts (request_filled known p.slots filling) p.condition);
  }

  all_fill : (ps : List Policy) → GivesPolicies filling ps → Filled (map (judged_early facts q told) ps) (map (judged_filled facts known filling) ps)
  all_fill [] given = nothing
  all_fill (p ∷ ps) given =
      a_policy (policy_fills p (All-head (λ (r : Policy). GivesEach filling r.condition) p ps given)) (all_fill ps (All-tail (λ (r : Policy). GivesEach filling r.condition) p ps given))

pub early_answers_are_fair : EarlyAnswersAreFair
early_answers_are_fair facts good q told filling known extends are_made fills ps given = rules_are_fair _ _ (all_fill facts good q told filling known extends are_made fills ps given)

settled_comes : (errs_as : Kind → Type 0) (x : Settling) (p : Answer) → Meets errs_as x p → ComesTo (standing_settled x) (standing_of_answer p) × StillErrs (standing_settled x) (standing_of_answer p)
settled_comes errs_as Open p m = (tt, tt)
settled_comes errs_as Errs p (k, e, is) = rw e (tt, (k, refl))
settled_comes errs_as (Is (Plain (Boolean true))) p m = rw m (refl, tt)
settled_comes errs_as (Is (Plain (Boolean false))) p m = rw m (tt, tt)
settled_comes errs_as (Is _) p m = rw m (tt, (TypeError, refl))

-- what stands so in each pair of two lists
errs_so : (s t : Standing) (k : Kind) → StillErrs s t → s ≡ Erring k → (l : Kind) × (t ≡ Erring l)
errs_so (Erring j) t k e h = e
errs_so Satisfied t k e h = cc
errs_so Unsatisfied t k e h = cc
errs_so Residual t k e h = cc

erring_stay : (f g : Policy → Judged) → ((p : Policy) → StillErrs (f p).standing (g p).standing) → (ps : List Policy) {x y : Judged} → At (map f ps) (map g ps) x y → (k : Kind) → x.standing ≡ Erring k → (l : Kind) × (y.standing ≡ Erring l)
erring_stay f g each [] a k e = elim a [ ]
erring_stay f g each (p ∷ ps) at_first k e = errs_so (f p).standing (g p).standing k (each p) e
erring_stay f g each (p ∷ ps) (at_later a) k e = erring_stay f g each ps a k e

module _ (facts : Facts) (good : HoldsMade facts) (q : Question) (told : Told) (are_made : AreMadeTold facts told) (ok : IsAccepted facts told q.context) where
  policy_settles : (p : Policy) → ComesTo (judged_settled facts q told p).standing (judged_early facts q told p).standing × StillErrs (judged_settled facts q told p).standing (judged_early facts q told p).standing
  policy_settles p =
      settled_comes _ (settled_in facts (settled_of facts q p.slots told) p.condition) (partial_in facts (held_of facts q p.slots told) p.condition) (answers_prompt facts good q p.slots told are_made ok p.condition)

  policy_comes : (p : Policy) → Comes (judged_settled facts q told p) (judged_early facts q told p)
  policy_comes p = record { id = refl; effect = refl; standing = (policy_settles p).0 }

  all_come : (ps : List Policy) → Come (map (judged_settled facts q told) ps) (map (judged_early facts q told) ps)
  all_come [] = none_come
  all_come (p ∷ ps) = one_comes (policy_comes p) (all_come ps)

pub early_answers_are_prompt : EarlyAnswersArePrompt
early_answers_are_prompt facts good q told are_made ok ps = (
  rules_are_sharp _ _ (all_come facts good q told are_made ok ps),
  λ x y a k e. erring_stay (judged_settled facts q told) (judged_early facts q told) (λ p. (policy_settles facts good q told are_made ok p).1) ps a k e,
)

errs_early : (errs_as : Kind → Type 0) (x : Settling) (p : Answer) → Meets errs_as x p → x ≡ Errs → (k : Kind) × (standing_of_answer p ≡ Erring k) × errs_as k
errs_early errs_as Errs p (k, e, is) h = (k, rw e refl, is)
errs_early errs_as Open p m h = cc
errs_early errs_as (Is v) p m h = cc

pub early_kinds_are_settled : EarlyKindsAreSettled
early_kinds_are_settled facts good q told are_made ok p h =
    errs_early _ (settled_in facts (settled_of facts q p.slots told) p.condition) (partial_in facts (held_of facts q p.slots told) p.condition) (answers_prompt facts good q p.slots told are_made ok p.condition) h

-- ---- once all is told

part_known : (p : Part) (o : Option Value) (n : Text) (w : Uid) → FillsPart p o w → part_held p o n ≡ Evaluated (Plain (Entity w))
part_known (Given u) o n w h = rw h refl
part_known (Missing ty) o n w (e, fit) = rw (e, fit) refl

module _ (facts : Facts) (good : HoldsMade facts) (q : Question) (slots : Slots) (filling : Told) (known : authorization.Known) (all_made : AreMadeTold facts filling) (fills : IsFilling facts q filling known) where
  context_known : (c : Entries) → FillsContext facts c filling known.context → context_held facts filling c ≡ Evaluated known.context
  context_known NoContext (e, fit) = rw e refl
  context_known (WithEntries ks ts) h =
      let e : settled_in facts (settled_names filling) (Apply (MakeRecord ks) ts) ≡ Is known.context = context_filled facts (WithEntries ks ts) filling known.context h in
      rw e at (is_prompt facts good (settled_names filling) (held_names filling) (names_shown facts filling) (names_made facts filling all_made) (Apply (MakeRecord ks) ts))

  variable_known : (v : Variable) → variable_held facts q filling v ≡ Evaluated ((request_filled known slots filling).variable v)
  variable_known Principal = part_known q.principal (finite.get filling (codes "principal")) (codes "principal") known.principal fills.principal
  variable_known Action = part_known q.action (finite.get filling (codes "action")) (codes "action") known.action fills.action
  variable_known Resource = part_known q.resource (finite.get filling (codes "resource")) (codes "resource") known.resource fills.resource
  variable_known Context = context_known q.context fills.context

  abbrev IsTold : Text → Option ValueType → Type 0
  IsTold n ty = (v : Value) × (finite.get filling n ≡ Some v)

  name_known : (n : Text) (ty : Option ValueType) → IsTold n ty → name_held (finite.get filling n) n ty ≡ answer_of (name_outcome (finite.get filling n) ty)
  name_known n ty (v, e) = rw e (value_answer (fits ty v) v)

  all_known : (t : Tree) → TellsEach filling t → partial_in facts (held_of facts q slots filling) t ≡ answer_of (meaning facts (request_filled known slots filling) t)
  all_known t told = answered_at facts (request_filled known slots filling) (held_of facts q slots filling) (of_unknowns IsTold) (λ v h. variable_known v) name_known (λ s h. refl) t told

  accepted : IsAccepted facts filling q.context
  accepted = record {
    settled = context_not facts q filling known fills;
    held = λ k h. (let e : ◌≡◌ {A = Answer} (Evaluated known.context) (Failed k) = sym (context_known q.context fills.context) ∙ h in cc);
  }

  -- where a residual settles under the filling, its answer is seen to be the same
  pub seen_last : (r : Tree) → Below (settled_in facts (filled facts q slots filling) r) (without_kind (partial_in facts (held_of facts q slots filling) r))
  seen_last r =
      below_trans _ (settled_in facts (settled_of facts q slots filling) r) _
      (settled_mono facts (filled facts q slots filling) (settled_of facts q slots filling) (λ v. below_refl _) (λ n ty. below_refl _) (λ s. below_refl _) (λ n. refl) (λ n. refl) (λ v. refl) (λ n. refl) r)
      (meets_below _ _ _ (answers_prompt facts good q slots filling all_made accepted r))

pub all_told_is_known : AllToldIsKnown
all_told_is_known facts good q slots filling known all_made fills t told = all_known facts good q slots filling known all_made fills t told

pub last_answers_are_exact : LastAnswersAreExact
last_answers_are_exact facts good q slots told filling known extends are_made all_made fills t r given h =
    let means : settled_in facts (filled facts q slots filling) t ≡ kindless (meaning facts (request_filled known slots filling) t) = means_filled facts q filling known fills slots t given in
    let first : settled_in facts (filled facts q slots filling) t ≡ settled_in facts (filled facts q slots filling) r =
    rw h at (answers_are_fair facts good q slots told filling known extends are_made fills t given) in
    sym (below_closed _ _ (meaning facts (request_filled known slots filling) t) (sym first ∙ means) (seen_last facts good q slots filling known all_made fills r)) ∙ sym first ∙ means

pub filled_is_known : FilledIsKnown
filled_is_known facts known filling p h =
    ap (λ (o : Outcome). record { id = p.id; effect = p.effect; standing = standing_of o })
    (sym (names_dont_matter facts (request_at known p.slots) (λ n ty. name_outcome (finite.get filling n) ty) p.condition h))
