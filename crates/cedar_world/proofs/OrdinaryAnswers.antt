-- An answer lists the errors with which policies stand, and these are ordinary.
use Rattle.std.proofs.Common.{◌≡◌, ◌⊎◌, inl, inr, Option, Some, None, List, sym, ◌∙◌, ap, subst}
use Rattle.std.specs.FinMap as finite
use Rattle.std.specs.Option.{option_or}
use Rattle.std.proofs.lemmas.List.Elements.{All-contains}
use Rattle.cedar_language.specs.Value.{Kind, FailedExtensionFunctionLookup}
use Rattle.cedar_language.specs.Answering.{Standing, Judged}
use Rattle.cedar_world.specs.Answer.{Answer}
use Rattle.cedar_world.specs.KnownKinds.{IsOrdinary, IsFound}
use Rattle.cedar_world.specs.Standing.{IsJudged, Judges, Says}
use Rattle.cedar_grammar.specs.Syntax.{PolicySyntax}
use Rattle.cedar_world.specs.World.{World, in_force_at}
use Rattle.cedar_world.specs.WorldFacts.{facts_of, WorldsHaveFacts}
use Rattle.cedar_world.specs.Joined.{IsJoined}
use Rattle.cedar_world.specs.Lookups.{ListsStanding, NamesErrors, PoliciesInForceErrOrdinarily, AnswersErrOrdinarily}

-- what the rules say of policies that stand so lists no other errors
pub rules_list : (world : World) (Stands : PolicySyntax → Standing → Type 0) (js : List Judged) (answer : Answer) → Judges world Stands js → Says js answer → ListsStanding world Stands answer
rules_list world Stands js answer judges says id k e =
    let (j, among, named, errs) = (says.erring id k).0 e in
    let judged = All-contains (IsJudged world Stands) js j judges.each among in
    (judged.syntax, ap (in_force_at world.policies) (sym named) ∙ judged.in_force, subst (Stands judged.syntax) errs judged.standing)

either : (o p : Option Kind) (k : Kind) → option_or o p ≡ Some k → (o ≡ Some k) ⊎ (p ≡ Some k)
either (Some l) p k e = inl e
either None p k e = inr e

all_fine : (IsFine : Kind → Type 0) (last new answer : Answer) → IsJoined last new answer → NamesErrors IsFine last → NamesErrors IsFine new → NamesErrors IsFine answer
all_fine IsFine last new answer joined old now id k e = of_either (either (finite.get last.erring id) (finite.get new.erring id) k (sym (joined.erring id) ∙ e))
  where
    of_either : (finite.get last.erring id ≡ Some k) ⊎ (finite.get new.erring id ≡ Some k) → IsFine k
    of_either (inl h) = old id k h
    of_either (inr h) = now id k h

pub ordinary_found : (k : Kind) → IsOrdinary k → IsFound k
ordinary_found FailedExtensionFunctionLookup h = h
ordinary_found _ h = tt

pub answers_err_ordinarily : PoliciesInForceErrOrdinarily → WorldsHaveFacts → AnswersErrOrdinarily
answers_err_ordinarily ordinary exist = record {
  first = λ by commands replies world reached q (body, tree, is, asks) answer lists id k e.
      let (s, force, stands) = lists id k e in
      (ordinary by commands replies world reached (facts_of by world) (exist.exist by world) id s force body tree q is asks finite.empty).early k stands;
  later = λ by commands replies world reached q (body, tree, is, asks) told last new answer lists joined old.
      all_fine IsFound last new answer joined old (λ id k e.
      let (s, force, stands) = lists id k e in
      (ordinary by commands replies world reached (facts_of by world) (exist.exist by world) id s force body tree q is asks told).again k stands);
  later_without_slots = λ by commands replies world reached free q (body, tree, is, asks) told last new answer lists joined old.
      all_fine IsOrdinary last new answer joined old (λ id k e.
      let (s, force, stands) = lists id k e in
      (ordinary by commands replies world reached (facts_of by world) (exist.exist by world) id s force body tree q is asks told).again_without_slots free k stands);
  weaker = λ answer ordinary id k e. ordinary_found k (ordinary id k e);
}
