-- A policy of which the scope doesn't hold has no part in any answer.
use Rattle.std.proofs.Common.{◌≡◌, ◌⊎◌, inl, inr, false, List, Option, Some, None, IsSome, IsTrue, is_some, option_map, map, refl, sym, ◌∙◌, ap, subst}
use Rattle.std.specs.FinMap as finite
use Rattle.cedar_language.specs.Uid.{Text, Uid}
use Rattle.cedar_language.specs.Tree.{Boolean, Entity}
use Rattle.cedar_language.specs.Value.{Plain, Kind, Gives}
use Rattle.cedar_language.specs.Facts.{Facts}
use Rattle.cedar_language.specs.Answering.{Effect, Unsatisfied, Erring, Judged}
use Rattle.cedar_language.specs.Authorization.{Known, request_at, standing_of}
use Rattle.cedar_partial_evaluation.specs.Settling.{Is, MeaningIsSettled, leaf_settlings_of}
use Rattle.cedar_partial_evaluation.specs.Question.{part_settled, settled_of}
use Rattle.cedar_partial_evaluation.specs.Filling as early
use Rattle.cedar_world.specs.Answer.{has_id, Answer}
use Rattle.cedar_grammar.specs.Bindings.{Bindings, linked}
use Rattle.cedar_grammar.specs.Syntax.{PolicySyntax, condition, is_template}
use Rattle.cedar_world.specs.World.{World, Policy, Link, only_template, template_of, template_at, in_force, in_force_as, in_force_at}
use Rattle.cedar_world.specs.Asking.{Part, Given, Missing, Question, Told}
use Rattle.cedar_world.specs.Setting.{Setting, means}
use Rattle.cedar_world.specs.Answers.{judge, answer_of, known_answer, IsKnownAnswer, IsFair, IsPromptButKinds, NamesKinds, NamesNoGhosts, IsDecided, IsOut, AllOut, SaysDecided, SaysKinds}
use Rattle.cedar_world.specs.Fillings.{IsFilling}
use Rattle.cedar_world.specs.InForce.{AreAlike}
use Rattle.cedar_world.specs.LinkLaws.{LinkLaws}
use Rattle.cedar_world.specs.Standing.{Says, answer_by}
use Rattle.cedar_world.specs.WorldFacts.{AreFactsOf, facts_of, WorldsHaveFacts}
use Rattle.cedar_world.specs.UnmetScopes.{with_policy, with_link, parts_of, IsUnmet, IsUnmetIn, CanBeFilled, SaysNothing, UnmetScopesSayNothing, UnmetLinksSayNothing}
use Rattle.cedar_world.proofs.Alike as alike
use Rattle.cedar_world.proofs.Alike.{swapped, same_known as known_alike}
use Rattle.cedar_world.proofs.Links.{templates_stay, others_stay}
use Rattle.cedar_world.proofs.Parts.{not_none}
use Rattle.cedar_world.proofs.Lists.{IsAmong, mapped, unmapped}
use Rattle.cedar_world.proofs.Maps.{same_or_not, put_there}
use Rattle.cedar_world.proofs.InForce.{listed_in_force, in_force_listed}
use Rattle.cedar_world.proofs.Ids.{the_value, error_with, answers_are_made}
use Rattle.cedar_world.proofs.Agreeing.{gives_is}
use Rattle.cedar_world.proofs.Closed.{whole, whole_closed, err_once, is_theirs}
use Rattle.cedar_world.proofs.Unsatisfied.{said_with_them}
use Rattle.cedar_world.proofs.Scope.{AreGiven, condition_is_unmet}

-- ---- the two worlds

module _ (world : World) (id : Text) (s : PolicySyntax) (free : finite.get world.policies id ≡ None) (static : is_template s ≡ false) where
  abbrev other : World
  other = with_policy world id s

  no_template : only_template (Policy s) ≡ None
  no_template = rw static refl

  elsewhere : (x : Text) → (x ≡ id → ⊥) → in_force_at other.policies x ≡ in_force_at world.policies x
  elsewhere x differs = others_stay world.policies id (Policy s) (ap template_of free) no_template x differs

  here : in_force_at other.policies id ≡ Some s
  here = ap (in_force_as other.policies) (put_there world.policies id (Policy s)) ∙ rw static refl

  not_here : in_force_at world.policies id ≡ None
  not_here = ap (in_force_as world.policies) free

  differs_from : (x : Text) (p : PolicySyntax) → in_force_at world.policies x ≡ Some p → x ≡ id → ⊥
  differs_from x p e is = not_none p (sym not_here ∙ ap (in_force_at world.policies) (sym is) ∙ e)

  in_other : (x : Text) (p : PolicySyntax) → in_force_at world.policies x ≡ Some p → in_force_at other.policies x ≡ Some p
  in_other x p e = elsewhere x (differs_from x p e) ∙ e

  -- what is in force there is in force here, or it is the policy that was added
  from_other : (x : Text) (p : PolicySyntax) → in_force_at other.policies x ≡ Some p → (in_force_at world.policies x ≡ Some p) ⊎ ((x ≡ id) × (p ≡ s))
  from_other x p e = elim (same_or_not x id) [
    | inl is ↦
        let one : ◌≡◌ {A = Option PolicySyntax} (Some p) (Some s) = sym e ∙ ap (in_force_at other.policies) is ∙ here in
        inr (is, cc)
    | inr differs ↦ inl (sym (elsewhere x differs) ∙ e)
  ]

  -- ---- a known question

  module _ (facts : Facts) (request : Known) (unsatisfied : means facts request (condition s) ≡ Gives (Plain (Boolean false))) where
    abbrev judged_here : List Judged
    judged_here = whole world facts request

    abbrev judged_there : List Judged
    judged_there = whole other facts request

    there : (j : Judged) → IsAmong j judged_here → IsAmong j judged_there
    there j a =
        let (p, among, is) = unmapped (judge facts request) (in_force world.policies) j a in
        let force = in_other p.0 p.1 (listed_in_force world.policies p.0 p.1 among) in
        subst (λ x. IsAmong x judged_there) is (mapped (judge facts request) (in_force other.policies) p (in_force_listed other.policies p.0 p.1 force))

    back : (j : Judged) → IsAmong j judged_there → IsAmong j judged_here ⊎ (j.standing ≡ Unsatisfied)
    back j a =
        let (p, among, is) = unmapped (judge facts request) (in_force other.policies) j a in
        elim (from_other p.0 p.1 (listed_in_force other.policies p.0 p.1 among)) [
          | inl force ↦ inl (subst (λ x. IsAmong x judged_here) is (mapped (judge facts request) (in_force world.policies) p (in_force_listed world.policies p.0 p.1 force)))
          | inr added ↦ inr (sym (ap (λ (x : Judged). x.standing) is) ∙ ap (λ x. standing_of (means facts request (condition x))) added.1 ∙ ap standing_of unsatisfied)
        ]

    -- what the rules give here says so there
    same_known : answer_of judged_there ≡ answer_of judged_here
    same_known =
        let says : Says judged_here (answer_by judged_here) = answers_are_made judged_here (err_once world facts request) in
        sym (is_theirs judged_there (whole_closed other facts request) (answer_by judged_here) (said_with_them judged_here judged_there there back (answer_by judged_here) says))
        ∙ is_theirs judged_here (whole_closed world facts request) (answer_by judged_here) says

  -- ---- a question with unknowns

  module _ (by : Setting) (facts : Facts) (q : Question) (told : Told) (unmet : IsUnmet facts q s) where
    given_part : (p : Part) (o : _) (u : Uid) → p ≡ Given u → part_settled p o ≡ Is (Plain (Entity u))
    given_part p o u e = ap (λ x. part_settled x o) e

    given : AreGiven facts (settled_of facts q (λ x. None) told) q
    given = record { principal = given_part q.principal _; action = given_part q.action _; resource = given_part q.resource _ }

    added_is_out : (effect : Effect) → s.effect ≡ effect → IsOut by other facts q told id effect
    added_is_out effect e = (
      Unsatisfied,
      (λ h. cc),
      record {
        syntax = s;
        in_force = here;
        effect_is = e;
        result = Gives (Plain (Boolean false));
        settles = condition_is_unmet facts (settled_of facts q (λ x. None) told) q given s static unmet;
        standing_is = refl;
      },
    )

    decided_back : (x : Text) (effect : Effect) (k : Kind) → (x ≡ id → ⊥) → IsDecided by other facts q told x effect (Erring k) → IsDecided by world facts q told x effect (Erring k)
    decided_back x effect k differs d = record {
      syntax = d.syntax;
      in_force = sym (elsewhere x differs) ∙ d.in_force;
      effect_is = d.effect_is;
      result = d.result;
      settles = d.settles;
      standing_is = d.standing_is;
    }

    all_out_there : (effect : Effect) → AllOut by world facts q told effect → AllOut by other facts q told effect
    all_out_there effect out x p force e = elim (from_other x p force) [
      | inl at ↦ alike.out_into by world other in_other facts q told x effect (out x p at e)
      | inr added ↦ subst (λ y. IsOut by other facts q told y effect) (sym added.0) (added_is_out effect (sym (ap (λ (y : PolicySyntax). y.effect) added.1) ∙ e))
    ]

    decided_said : (answer : Answer) → SaysDecided by other facts q told answer → SaysDecided by world facts q told answer
    decided_said = alike.decided_said by world other in_other facts q told all_out_there

    kinds_said : (answer : Answer) → SaysKinds by other facts q told answer → SaysKinds by world facts q told answer
    kinds_said answer says x effect k d =
        let (l, named, still) = says x effect k (alike.decided_into by world other in_other facts q told x effect _ d) in
        (l, named, decided_back x effect l (differs_from x d.syntax d.in_force) still)

-- ---- the law

module _ (settled : MeaningIsSettled) (by : Setting) (world : World) (id : Text) (s : PolicySyntax) (free : finite.get world.policies id ≡ None) (static : is_template s ≡ false) where
  unsatisfied_at : (facts : Facts) (request : Known) (q : Question) → AreGiven facts (leaf_settlings_of (request_at request (λ x. None))) q → IsUnmet facts q s → means facts request (condition s) ≡ Gives (Plain (Boolean false))
  unsatisfied_at facts request q given unmet =
      gives_is (means facts request (condition s)) (Plain (Boolean false))
      (sym (settled facts (request_at request (λ x. None)) (condition s)) ∙ condition_is_unmet facts (leaf_settlings_of (request_at request (λ x. None))) q given s static unmet)

  own_parts : (facts : Facts) (request : Known) → AreGiven facts (leaf_settlings_of (request_at request (λ x. None))) (parts_of request)
  own_parts facts request = record {
    principal = λ u e. let is : request.principal ≡ u = cc in ap (λ x. Is (Plain (Entity x))) is;
    action = λ u e. let is : request.action ≡ u = cc in ap (λ x. Is (Plain (Entity x))) is;
    resource = λ u e. let is : request.resource ≡ u = cc in ap (λ x. Is (Plain (Entity x))) is;
  }

  filled_part : (p : Part) (o : _) (w u : Uid) → early.FillsPart p o w → p ≡ Given u → w ≡ u
  filled_part (Given v) o w u fills e = let is : v ≡ u = cc in fills ∙ is
  filled_part (Missing type) o w u fills e = cc

  known_there : (facts : Facts) (request : Known) → means facts request (condition s) ≡ Gives (Plain (Boolean false)) → known_answer by (with_policy world id s) facts request ≡ known_answer by world facts request
  known_there facts request = same_known world id s free static facts request

  -- a known question, by values that fill one, has the same answer in both worlds
  filled_known : (q : Question) (filling : Told) (request : Known) → IsFilling by q filling request → IsUnmetIn by world q s
      → (facts : Facts) → AreFactsOf by world facts → known_answer by (with_policy world id s) facts request ≡ known_answer by world facts request
  filled_known q filling request filled unmet facts are =
      let given : AreGiven facts (leaf_settlings_of (request_at request (λ x. None))) q = record {
        principal = λ u e. ap (λ x. Is (Plain (Entity x))) (filled_part q.principal _ request.principal u filled.fills.principal e);
        action = λ u e. ap (λ x. Is (Plain (Entity x))) (filled_part q.action _ request.action u filled.fills.action e);
        resource = λ u e. ap (λ x. Is (Plain (Entity x))) (filled_part q.resource _ request.resource u filled.fills.resource e);
      } in
      known_there facts request (unsatisfied_at facts request q given (unmet facts are))

  known_with : (q : Question) (filling : Told) (request : Known) (answer : Answer) → IsFilling by q filling request → IsUnmetIn by world q s
      → IsKnownAnswer by world request answer → IsKnownAnswer by (with_policy world id s) request answer
  known_with q filling request answer filled unmet known =
      record { facts = known.facts; facts_are = known.facts_are; is = known.is ∙ sym (filled_known q filling request filled unmet known.facts known.facts_are) }

  known_without : (q : Question) (filling : Told) (request : Known) (answer : Answer) → IsFilling by q filling request → IsUnmetIn by world q s
      → IsKnownAnswer by (with_policy world id s) request answer → IsKnownAnswer by world request answer
  known_without q filling request answer filled unmet known =
      record { facts = known.facts; facts_are = known.facts_are; is = known.is ∙ filled_known q filling request filled unmet known.facts known.facts_are }

  fair_there : (q : Question) (told : Told) (answer : Answer) → IsUnmetIn by world q s → IsFair by (with_policy world id s) q told answer → IsFair by world q told answer
  fair_there q told answer unmet fair filling request whole agrees known =
      fair filling request whole agrees (known_with q filling request whole agrees.filling_is unmet known)

  prompt_there : (q : Question) (told : Told) (answer : Answer) → IsUnmetIn by world q s
      → IsPromptButKinds by (with_policy world id s) q told answer → IsPromptButKinds by world q told answer
  prompt_there q told answer unmet prompt facts are = decided_said world id s free static by facts q told (unmet facts are) answer (prompt facts are)

  kinds_there : (q : Question) (told : Told) (answer : Answer) → IsUnmetIn by world q s
      → NamesKinds by (with_policy world id s) q told answer → NamesKinds by world q told answer
  kinds_there q told answer unmet kinds facts are = kinds_said world id s free static by facts q told (unmet facts are) answer (kinds facts are)

  -- no error of a known answer is that of an id under which nothing is in force
  error_in_force : (facts : Facts) (request : Known) (x : Text)
      → IsSome (finite.get (known_answer by world facts request).erring x) → IsSome (in_force_at world.policies x)
  error_in_force facts request x h =
      let (k, is) = the_value (finite.get (known_answer by world facts request).erring x) h in
      let failed = error_with (map (judge facts request) (in_force world.policies)) x k is in
      let (p, among, judged) = unmapped (judge facts request) (in_force world.policies) failed.policy failed.among in
      let one : p.0 ≡ x = ap (λ (j : Judged). j.id) judged ∙ failed.id_is in
      ap is_some (ap (in_force_at world.policies) (sym one) ∙ listed_in_force world.policies p.0 p.1 among)

  module _ (exist : AreFactsOf by world (facts_of by world)) (q : Question) (told : Told) (answer : Answer)
      (unmet : IsUnmetIn by world q s) (can : CanBeFilled by q told) (fair : IsFair by (with_policy world id s) q told answer)
      (prompt : IsPromptButKinds by (with_policy world id s) q told answer) (names : NamesNoGhosts by (with_policy world id s) answer) where
    may_at : (x : Text) → IsTrue (has_id answer.may x) → (x ≡ id) ⊎ (x ≡ id → ⊥) → IsSome (in_force_at world.policies x)
    may_at x h (inl is) =
        let out = added_is_out world id s free static by (facts_of by world) q told (unmet (facts_of by world) exist) s.effect refl in
        absurd ((prompt (facts_of by world) exist).may_not id s.effect out (ap (has_id answer.may) (sym is) ∙ h))
    may_at x h (inr differs) = ap is_some (sym (elsewhere world id s free static x differs)) ∙ names.may x h

    erring_at : (x : Text) → IsSome (finite.get answer.erring x) → IsSome (in_force_at world.policies x)
    erring_at x h =
        let whole = known_answer by world (facts_of by world) can.1 in
        let known : IsKnownAnswer by world can.1 whole = record { facts = facts_of by world; facts_are = exist; is = refl } in
        let holds = fair_there q told answer unmet fair can.0 can.1 whole can.2 known in
        error_in_force (facts_of by world) can.1 x (holds.erring x h)

    ghosts_there : NamesNoGhosts by world answer
    ghosts_there = record { must = names.must; may = λ x h. may_at x h (same_or_not x id); erring = λ x h. erring_at x h }

  says_nothing : AreFactsOf by world (facts_of by world) → SaysNothing by world (with_policy world id s) s
  says_nothing exist = record {
    known = λ facts request unmet. known_there facts request (unsatisfied_at facts request (parts_of request) (own_parts facts request) unmet);
    fair = fair_there;
    prompt = prompt_there;
    kinds = kinds_there;
    first = λ q answer unmet can first. record {
      known = λ is. let (request, filled, known) = first.known is in (request, filled, known_without q finite.empty request answer filled unmet known);
      fair = fair_there q finite.empty answer unmet first.fair;
      prompt = prompt_there q finite.empty answer unmet first.prompt;
      kinds = kinds_there q finite.empty answer unmet first.kinds;
      in_force = ghosts_there exist q finite.empty answer unmet can first.fair first.prompt first.in_force;
    };
    later = λ asked told answer unmet can later. record {
      follows = later.follows;
      fair = fair_there asked.question told answer unmet later.fair;
      prompt = prompt_there asked.question told answer unmet later.prompt;
      whole = λ request whole filled known. later.whole request whole filled (known_with asked.question told request whole filled unmet known);
      in_force = ghosts_there exist asked.question told answer unmet can later.fair later.prompt later.in_force;
    };
  }

pub unmet_scopes_say_nothing : MeaningIsSettled → WorldsHaveFacts → UnmetScopesSayNothing
unmet_scopes_say_nothing settled have by world id s free static = says_nothing settled by world id s free static (have.exist by world)

-- ---- links

module _ (world : World) (id template : Text) (b : Bindings) (s : PolicySyntax) (free : finite.get world.policies id ≡ None)
    (template_is : template_at world.policies template ≡ Some s) (static : is_template (linked b s) ≡ false) where
  link_here : in_force_at (with_link world id template b).policies id ≡ Some (linked b s)
  link_here =
      ap (in_force_as (with_link world id template b).policies) (put_there world.policies id (Link template b))
      ∙ ap (option_map (linked b)) (templates_stay world.policies id (Link template b) (ap template_of free) refl template ∙ template_is)

  link_at : (x : Text) → (x ≡ id) ⊎ (x ≡ id → ⊥)
      → in_force_at (with_policy world id (linked b s)).policies x ≡ in_force_at (with_link world id template b).policies x
  link_at x (inl is) =
      ap (in_force_at (with_policy world id (linked b s)).policies) is ∙ here world id (linked b s) free static
      ∙ sym link_here ∙ sym (ap (in_force_at (with_link world id template b).policies) is)
  link_at x (inr differs) = elsewhere world id (linked b s) free static x differs ∙ sym (others_stay world.policies id (Link template b) (ap template_of free) refl x differs)

  link_alike : AreAlike (with_policy world id (linked b s)) (with_link world id template b)
  link_alike = record { entities = refl; policies = λ x. link_at x (same_or_not x id) }

  -- what is said of the policy that the link writes is said of the link
  link_says_nothing : (by : Setting) → SaysNothing by world (with_policy world id (linked b s)) (linked b s)
      → SaysNothing by world (with_link world id template b) (linked b s)
  link_says_nothing by says =
      let back = swapped (with_policy world id (linked b s)) (with_link world id template b) link_alike in
      let more = with_policy world id (linked b s) in
      let link = with_link world id template b in
      record {
        known = λ facts request unmet. known_alike by link more facts request back ∙ says.known facts request unmet;
        fair = λ q told answer unmet fair. says.fair q told answer unmet (alike.fair_there by link more back q told answer fair);
        prompt = λ q told answer unmet prompt. says.prompt q told answer unmet (alike.prompt_there by link more back q told answer prompt);
        kinds = λ q told answer unmet kinds. says.kinds q told answer unmet (alike.kinds_there by link more back q told answer kinds);
        first = λ q answer unmet can first. says.first q answer unmet can (alike.first_there by link more back q answer first);
        later = λ asked told answer unmet can later. says.later asked told answer unmet can (alike.later_there by link more back asked told answer later);
      }

pub unmet_links_say_nothing : LinkLaws → UnmetScopesSayNothing → UnmetLinksSayNothing
unmet_links_say_nothing laws say by world id template b s free template_is exact =
    let static = laws.static b s exact in
    link_says_nothing world id template b s free template_is static by (say by world id (linked b s) free static)
