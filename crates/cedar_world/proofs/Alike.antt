-- Worlds that are alike have the same answers.
use Rattle.std.proofs.Common.{◌≡◌, Some, map, refl, sym, ◌∙◌, ap, subst, is_some}
use Rattle.std.specs.FinMap as finite
use Rattle.cedar_language.specs.Uid.{Text}
use Rattle.cedar_language.specs.Facts.{Facts}
use Rattle.cedar_language.specs.Answering.{Effect, Standing}
use Rattle.cedar_language.specs.Authorization.{Known}
use Rattle.cedar_world.specs.Answer.{Answer}
use Rattle.cedar_world.specs.World.{World, Asked, Policy, Entities, AreFacts, in_force_at}
use Rattle.cedar_world.specs.Asking.{Question, Told}
use Rattle.cedar_world.specs.Setting.{Setting}
use Rattle.cedar_world.specs.Answers.{judge, answer_of, known_answer, IsKnownAnswer, IsDecided, IsOut, AllOut, SomeHolds, SaysDecided, SaysKinds, IsFair, NamesNoGhosts, IsPromptButKinds, NamesKinds}
use Rattle.cedar_world.specs.LinkLaws.{LinkingIsWriting}
use Rattle.cedar_grammar.specs.Bindings.{linked}
use Rattle.cedar_grammar.specs.Syntax.{PolicySyntax}
use Rattle.cedar_world.specs.Step.{IsFirstAnswer, IsLaterAnswer}
use Rattle.cedar_world.specs.InForce.{AreAlike, AnswerAlike, AnswersReadWhatIsInForce, LinksAreAnsweredAsWritten}
use Rattle.cedar_world.proofs.InForce.{listed, found_in_force, one_list}

pub swapped : (world other : World) → AreAlike world other → AreAlike other world
swapped world other alike = record { entities = sym alike.entities; policies = λ id. sym (alike.policies id) }

pub same_known : (by : Setting) (world other : World) (facts : Facts) (request : Known) → AreAlike world other → known_answer by world facts request ≡ known_answer by other facts request
same_known by world other facts request alike = ap (λ ps. answer_of (map (judge facts request) ps)) (one_list world.policies other.policies alike.policies)

module _ (by : Setting) (world other : World) (alike : AreAlike world other) where
  facts_there : (facts : Facts) → AreFacts by.functions world.entities facts → AreFacts by.functions other.entities facts
  facts_there facts are = subst (λ (es : Entities). AreFacts by.functions es facts) alike.entities are

  known_there : (request : Known) (answer : Answer) → IsKnownAnswer by world request answer → IsKnownAnswer by other request answer
  known_there request answer known = record {
    facts = known.facts;
    facts_are = facts_there known.facts known.facts_are;
    is = known.is ∙ same_known by world other known.facts request alike;
  }

-- what is in force in one world is in force in the other
module _ (by : Setting) (world other : World) (into : (id : Text) (s : PolicySyntax) → in_force_at world.policies id ≡ Some s → in_force_at other.policies id ≡ Some s) (facts : Facts) (q : Question) (told : Told) where
  pub decided_into : (id : Text) (effect : Effect) (standing : Standing) → IsDecided by world facts q told id effect standing → IsDecided by other facts q told id effect standing
  decided_into id effect standing d = record {
    syntax = d.syntax;
    in_force = into id d.syntax d.in_force;
    effect_is = d.effect_is;
    result = d.result;
    settles = d.settles;
    standing_is = d.standing_is;
  }

  pub out_into : (id : Text) (effect : Effect) → IsOut by world facts q told id effect → IsOut by other facts q told id effect
  out_into id effect (standing, not, d) = (standing, not, decided_into id effect standing d)

  some_into : (effect : Effect) → SomeHolds by world facts q told effect → SomeHolds by other facts q told effect
  some_into effect (id, d) = (id, decided_into id effect _ d)

  -- what is said there is said here
  pub decided_said : ((effect : Effect) → AllOut by world facts q told effect → AllOut by other facts q told effect) → (answer : Answer) → SaysDecided by other facts q told answer → SaysDecided by world facts q told answer
  decided_said all_out answer says = record {
    denies = λ h. says.denies (some_into _ h);
    denies_too = λ h. says.denies_too (all_out _ h);
    allows = λ h k. says.allows (all_out _ h) (some_into _ k);
    must_forbids = λ id d. says.must_forbids id (decided_into id _ _ d);
    must_permits = λ h id d. says.must_permits (all_out _ h) id (decided_into id _ _ d);
    may_not = λ id effect o. says.may_not id effect (out_into id effect o);
    may_forbids = λ h id s k. says.may_forbids (some_into _ h) id s (into id s k);
    erring = λ id effect k d. says.erring id effect k (decided_into id effect _ d);
  }

module _ (by : Setting) (world other : World) (alike : AreAlike world other) (facts : Facts) (q : Question) (told : Told) where
  here : (id : Text) (s : PolicySyntax) → in_force_at other.policies id ≡ Some s → in_force_at world.policies id ≡ Some s
  here id s h = alike.policies id ∙ h

  there : (id : Text) (s : PolicySyntax) → in_force_at world.policies id ≡ Some s → in_force_at other.policies id ≡ Some s
  there id s h = sym (alike.policies id) ∙ h

  said_there : (answer : Answer) → SaysDecided by world facts q told answer → SaysDecided by other facts q told answer
  said_there = decided_said by other world here facts q told (λ effect out id s h e. out_into by other world here facts q told id effect (out id s (there id s h) e))

  kinds_said : (answer : Answer) → SaysKinds by world facts q told answer → SaysKinds by other facts q told answer
  kinds_said answer says id effect k d =
      let (l, named, still) = says id effect k (decided_into by other world here facts q told id effect _ d) in
      (l, named, decided_into by world other there facts q told id effect _ still)

module _ (by : Setting) (world other : World) (alike : AreAlike world other) where
  back : AreAlike other world
  back = swapped world other alike

  pub fair_there : (q : Question) (told : Told) (answer : Answer) → IsFair by world q told answer → IsFair by other q told answer
  fair_there q told answer fair filling request whole agrees known = fair filling request whole agrees (known_there by other world back request whole known)

  pub prompt_there : (q : Question) (told : Told) (answer : Answer) → IsPromptButKinds by world q told answer → IsPromptButKinds by other q told answer
  prompt_there q told answer prompt facts are = said_there by world other alike facts q told answer (prompt facts (facts_there by other world back facts are))

  pub kinds_there : (q : Question) (told : Told) (answer : Answer) → NamesKinds by world q told answer → NamesKinds by other q told answer
  kinds_there q told answer kinds facts are = kinds_said by world other alike facts q told answer (kinds facts (facts_there by other world back facts are))

  ghosts_there : (answer : Answer) → NamesNoGhosts by world answer → NamesNoGhosts by other answer
  ghosts_there answer names = record {
    must = names.must;
    may = λ id h. ap is_some (sym (alike.policies id)) ∙ names.may id h;
    erring = λ id h. ap is_some (sym (alike.policies id)) ∙ names.erring id h;
  }

  pub first_there : (q : Question) (answer : Answer) → IsFirstAnswer by world q answer → IsFirstAnswer by other q answer
  first_there q answer first = record {
    known = λ is. let (request, filling, known) = first.known is in (request, filling, known_there by world other alike request answer known);
    fair = fair_there q finite.empty answer first.fair;
    prompt = prompt_there q finite.empty answer first.prompt;
    kinds = kinds_there q finite.empty answer first.kinds;
    in_force = ghosts_there answer first.in_force;
  }

  pub later_there : (asked : Asked) (told : Told) (answer : Answer) → IsLaterAnswer by world asked told answer → IsLaterAnswer by other asked told answer
  later_there asked told answer later = record {
    follows = later.follows;
    fair = fair_there asked.question told answer later.fair;
    prompt = prompt_there asked.question told answer later.prompt;
    whole = λ request whole filling known. later.whole request whole filling (known_there by other world back request whole known);
    in_force = ghosts_there answer later.in_force;
  }

answer_alike : (by : Setting) (world other : World) → AreAlike world other → AnswerAlike by world other
answer_alike by world other alike =
    let back : AreAlike other world = swapped world other alike in
    record {
      first = λ q answer. (first_there by world other alike q answer, first_there by other world back q answer);
      later = λ asked told answer. (later_there by world other alike asked told answer, later_there by other world back asked told answer);
    }

pub answers_read_what_is_in_force : AnswersReadWhatIsInForce
answers_read_what_is_in_force = record { listed = listed; found = found_in_force; known = same_known; alike = answer_alike }

pub links_are_answered_as_written : LinkingIsWriting → LinksAreAnsweredAsWritten
links_are_answered_as_written writing by world id template b s bound template_is exact =
    let other : World = record world { policies = finite.insert world.policies id (Policy (linked b s)) } in
    answer_alike by world other (record { entities = refl; policies = λ i. sym (writing world.policies id template b s bound template_is exact i) })
