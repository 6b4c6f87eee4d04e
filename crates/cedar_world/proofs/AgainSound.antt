-- Policies that are taken up again stand as their conditions do.
use Rattle.std.proofs.Common.{◌≡◌, ◌⊎◌, inl, inr, true, false, Some, List, [], ◌∷◌, refl, sym, ◌∙◌, ap, subst}
use Rattle.std.specs.FinMap as finite
use Rattle.std.proofs.lemmas.List.Elements.{All-nil, All-cons}
use Rattle.cedar_language.specs.Uid.{Text}
use Rattle.cedar_language.specs.Tree.{Tree}
use Rattle.cedar_language.specs.Value.{Kind, Outcome}
use Rattle.cedar_language.specs.Facts.{Facts}
use Rattle.cedar_language.specs.Meaning.{Slots, meaning}
use Rattle.cedar_language.specs.Answering.{Permit, Decision, Allow, Deny, Standing, Satisfied, Erring, Residual, Judged, is_residual, decision}
use Rattle.cedar_language.specs.Authorization.{Policy, Known, standing_of}
use Rattle.cedar_partial_evaluation.specs.Settling.{kindless, Below, settled_in}
use Rattle.cedar_partial_evaluation.specs.MadeAgain.{HoldsMade}
use Rattle.cedar_partial_evaluation.specs.Partial.{Answer, ResidualTree, partial_in}
use Rattle.cedar_partial_evaluation.specs.Linking.{no_slots, bound_tree, LinkingIsWriting}
use Rattle.cedar_partial_evaluation.specs.LinkingEarly.{LinkingIsWritingEarly}
use Rattle.cedar_partial_evaluation.specs.Question.{Question, Told, settled_of, held_of, Extends, AreMadeTold, IsAccepted, TellingCarries}
use Rattle.cedar_partial_evaluation.specs.Filling.{GivesEach, IsFilling, request_filled, filled, AnswersAreFair, FilledIsMeant}
use Rattle.cedar_partial_evaluation.specs.Mentions.{NamesDontMatter, WithoutUnknowns}
use Rattle.cedar_partial_evaluation.specs.Early.{standing_of_answer}
use Rattle.cedar_partial_evaluation.specs.Seam.{ResidualsSettle}
use Rattle.cedar_partial_evaluation.specs.Errors.{SettlingIsOne}
use Rattle.cedar_partial_evaluation.specs.Unbound.{UnboundAnswersAreFair}
use Rattle.cedar_partial_evaluation.specs.UnboundSeam.{UnboundResidualsSettle}
use Rattle.cedar_partial_evaluation.specs.Reauthorizing.{IsErring, ReauthorizingIsSharp, ErrorsAreNamed, ReauthorizingEnds, ReauthorizingIsExact}
use Rattle.cedar_grammar.specs.Laws.{LinkConditions}
use Rattle.cedar_grammar.specs.Syntax.{PolicySyntax, condition}
use Rattle.cedar_world.specs.World.{World, in_force_at}
use Rattle.cedar_world.specs.Setting.{Setting, functions_alone, means, Settles}
use Rattle.cedar_world.specs.WorldFacts.{AreFactsOf}
use Rattle.cedar_world.specs.First.{IsData, NamesNoUnknown}
use Rattle.cedar_world.specs.Sound.{Becomes, ErrsOrErred}
use Rattle.cedar_world.specs.Again.{standing_again, StandsAgain, ErredFirst, AgainIsSound}
use Rattle.cedar_world.proofs.Carrying.{carries_unbound}
use Rattle.cedar_world.proofs.EarlySound.{reads_filled, reads_later, means_known}
use Rattle.cedar_world.proofs.Fillings.{filling_there, made_at_first, extends_nothing}
use Rattle.cedar_partial_evaluation.proofs.Question.{held_made}
use Rattle.cedar_world.proofs.Standings.{settled_as}
use Rattle.cedar_world.proofs.LaterStandings.{below_closed, answer_becomes, again_becomes, alike_standing, settled_stands, settled_closed}

-- ---- the decision on one permit alone says whether it is open

-- one permit that stands so
abbrev one_permit : Standing → List Judged
one_permit s = record { id = []; effect = Permit; standing = s } ∷ []

closed_where_decided : (s : Standing) (d : Decision) → decision (one_permit s) ≡ Some d → is_residual s ≡ false
closed_where_decided Residual d h = cc
closed_where_decided _ d h = refl

decided_where_closed : (s : Standing) → is_residual s ≡ false → (d : Decision) × (decision (one_permit s) ≡ Some d)
decided_where_closed Satisfied h = (Allow, refl)
decided_where_closed Residual h = cc
decided_where_closed _ h = (Deny, refl)

-- ---- one tree with its slots bound

module _ (facts : Facts) (made : HoldsMade facts) (q : Question) (accepted : IsAccepted facts finite.empty q.context)
    (told : Told) (are_made : AreMadeTold facts told) (now : IsAccepted facts told q.context) (slots : Slots) (t : Tree) where
  abbrev first : Answer
  first = partial_in facts (held_of facts q slots finite.empty) t

  abbrev again : Standing
  again = standing_again facts q told slots t

  abbrev policy : Policy
  policy = record { id = []; effect = Permit; condition = t; slots = slots }

  becomes_filled : AnswersAreFair → FilledIsMeant → UnboundAnswersAreFair → (filling : Told) (request : Known) → Extends told filling → IsFilling facts q filling request → GivesEach filling t →
      Becomes again (standing_of (meaning facts (request_filled request slots filling) t))
  becomes_filled fairly meant unbound_fairly filling request extends fills gives =
      let o : Outcome = meaning facts (request_filled request slots filling) t in
      again_becomes facts (held_of facts q no_slots told) first (standing_of o)
      (answer_becomes facts (filled facts q slots filling) first o (reads_filled fairly meant facts made q slots filling request fills t gives))
      (λ r left. answer_becomes facts (filled facts q no_slots filling) (partial_in facts (held_of facts q no_slots told) r) o
      (sym (meant facts q slots filling request fills t gives)
      ∙ unbound_fairly facts made q slots finite.empty told filling request (extends_nothing told) extends (made_at_first facts) are_made fills t r gives left))

  becomes_settled : TellingCarries → ResidualsSettle → UnboundResidualsSettle → (later : Told) → Extends told later → IsAccepted facts later q.context → (o : Outcome) →
      settled_in facts (settled_of facts q slots later) t ≡ kindless o → Becomes again (standing_of o)
  becomes_settled carries settle unbound_settle later extends then o is =
      again_becomes facts (held_of facts q no_slots told) first (standing_of o)
      (answer_becomes facts (settled_of facts q slots later) first o (reads_later carries settle facts made q slots finite.empty later (extends_nothing later) (made_at_first facts) accepted then t o is))
      (λ r left. answer_becomes facts (settled_of facts q no_slots later) (partial_in facts (held_of facts q no_slots told) r) o
      (reads_later carries settle facts made q no_slots told later extends are_made now then r o (left_settles r left)))
    where
      left_settles : (r : Tree) → first ≡ ResidualTree r → settled_in facts (settled_of facts q no_slots later) r ≡ kindless o
      left_settles r left =
          let carried : Below (settled_in facts (settled_of facts q slots later) t) (settled_in facts (settled_of facts q no_slots later) r) =
          rw left at
          (unbound_settle facts made (settled_of facts q slots later) (held_of facts q slots finite.empty)
          (carries_unbound carries facts made q slots finite.empty later (extends_nothing later) (made_at_first facts) accepted then) (held_made facts made q slots finite.empty (made_at_first facts)) t) in
          sym (below_closed (settled_in facts (settled_of facts q slots later) t) (settled_in facts (settled_of facts q no_slots later) r) o is carried)

  closed_again : ReauthorizingIsSharp → (o : Outcome) → settled_in facts (settled_of facts q slots told) t ≡ kindless o → is_residual again ≡ false
  closed_again sharper o is =
      let (d, decides) = decided_where_closed _ (settled_closed _ o is) in
      closed_where_decided again d ((sharper facts made q finite.empty told (extends_nothing told) (made_at_first facts) are_made accepted now (policy ∷ [])).decides d decides)

  errs_again : ErrorsAreNamed → (o : Outcome) → settled_in facts (settled_of facts q slots told) t ≡ kindless o → (k : Kind) → standing_of o ≡ Erring k → IsErring (standing_of_answer first) ⊎ IsErring again
  errs_again named o is k errs =
      named facts made q finite.empty told (extends_nothing told) (made_at_first facts) are_made accepted now policy (settled_stands _ o is k errs)

  module _ (ends : ReauthorizingIsExact) (request : Known) (fills : IsFilling facts q told request) (gives : GivesEach told t) where
    at_last : ReauthorizingEnds facts q finite.empty told request
    at_last = ends facts made q finite.empty told request (extends_nothing told) (made_at_first facts) are_made fills

    closed_at_last : is_residual again ≡ false
    closed_at_last = closed_where_decided again _ (at_last.exact (policy ∷ []) (All-cons (λ (p : Policy). GivesEach told p.condition) policy [] gives (All-nil _))).decides

    errs_at_last : (k : Kind) → standing_of (meaning facts (request_filled request slots told) t) ≡ Erring k → IsErring (standing_of_answer first) ⊎ IsErring again
    errs_at_last k errs = at_last.erring policy gives (k, errs)

-- ---- the law

module _ (links : LinkConditions) (fairly : AnswersAreFair) (meant : FilledIsMeant) (unbound_fairly : UnboundAnswersAreFair) (carries : TellingCarries) (settle : ResidualsSettle) (unbound_settle : UnboundResidualsSettle)
    (linking : LinkingIsWriting) (linking_early : LinkingIsWritingEarly) (one : SettlingIsOne) (nameless : NamesDontMatter) (given : WithoutUnknowns) (sharper : ReauthorizingIsSharp) (named : ErrorsAreNamed) (ends : ReauthorizingIsExact) where
  module _ (by : Setting) (world : World) (facts : Facts) (q : Question) (told : Told) (are : AreFactsOf by world facts) (made : HoldsMade facts) (closed : NamesNoUnknown world) (of_data : IsData q.context)
      (accepted : IsAccepted facts finite.empty q.context) (are_made : AreMadeTold facts told) (now : IsAccepted facts told q.context) where
    there : (filling : Told) (known : Known) → IsFilling (functions_alone by.functions) q filling known → IsFilling facts q filling known
    there filling known fills = filling_there facts (functions_alone by.functions) are.function q filling known fills

    module _ (s : PolicySyntax) (standing : Standing) (stands : StandsAgain world.policies facts q told s standing) where
      -- what the world holds, with its slots not bound
      abbrev unbound : Tree
      unbound = condition stands.unbound

      binds : condition s ≡ bound_tree stands.slots unbound
      binds = ap condition stands.binds ∙ links stands.slots stands.unbound

      means_so : (id : Text) → in_force_at world.policies id ≡ Some s → (filling : Told) (request : Known) → meaning facts (request_filled request stands.slots filling) unbound ≡ means facts request (condition s)
      means_so id force filling request =
          linking.means facts (request_filled request stands.slots filling) unbound
          ∙ ap (meaning facts (request_filled request no_slots filling)) (sym binds)
          ∙ means_known nameless facts request filling (condition s) (closed id s force)

      settles_so : (later : Told) (result : Outcome) → Settles facts q later (condition s) result → settled_in facts (settled_of facts q stands.slots later) unbound ≡ kindless result
      settles_so later result settles =
          linking.settles facts q stands.slots later unbound
          ∙ ap (settled_in facts (settled_of facts q no_slots later)) (sym binds)
          ∙ settled_as one facts q later (condition s) result settles

      gives : (filling : Told) → GivesEach filling unbound
      gives filling = given filling (λ v. true) true unbound stands.names_nothing

      -- what erred or errs with slots bound did so as it is written
      erred_so : IsErring (standing_of_answer (first facts made q accepted told are_made now stands.slots unbound)) ⊎ IsErring (standing_again facts q told stands.slots unbound) →
          ErrsOrErred standing (ErredFirst facts q s)
      erred_so (inl (k, e)) =
          inr (
            k,
            sym e
                ∙ alike_standing (partial_in facts (held_of facts q stands.slots finite.empty) unbound) (partial_in facts (held_of facts q no_slots finite.empty) (bound_tree stands.slots unbound))
                (linking_early.answers facts q stands.slots finite.empty unbound)
                ∙ ap (λ x. standing_of_answer (partial_in facts (held_of facts q no_slots finite.empty) x)) (sym binds),
          )
      erred_so (inr (k, e)) = inl (k, stands.stands ∙ e)

      fair_so : (id : Text) → in_force_at world.policies id ≡ Some s → (filling : Told) (request : Known) → Extends told filling → IsFilling facts q filling request → Becomes standing (standing_of (means facts request (condition s)))
      fair_so id force filling request extends fills =
          subst (λ x. Becomes x (standing_of (means facts request (condition s)))) (sym stands.stands)
          (subst (λ x. Becomes (standing_again facts q told stands.slots unbound) (standing_of x)) (means_so id force filling request)
          (becomes_filled facts made q accepted told are_made now stands.slots unbound fairly meant unbound_fairly filling request extends fills (gives filling)))

      carried_so : (later : Told) → Extends told later → IsAccepted facts later q.context → (result : Outcome) → Settles facts q later (condition s) result → Becomes standing (standing_of result)
      carried_so later extends then result settles =
          subst (λ x. Becomes x (standing_of result)) (sym stands.stands)
          (becomes_settled facts made q accepted told are_made now stands.slots unbound carries settle unbound_settle later extends then result (settles_so later result settles))

      sharp_so : (result : Outcome) → Settles facts q told (condition s) result → (is_residual standing ≡ false) × ((k : Kind) → standing_of result ≡ Erring k → ErrsOrErred standing (ErredFirst facts q s))
      sharp_so result settles =
          let is = settles_so told result settles in (
            ap is_residual stands.stands ∙ closed_again facts made q accepted told are_made now stands.slots unbound sharper result is,
            λ k errs. erred_so (errs_again facts made q accepted told are_made now stands.slots unbound named result is k errs),
          )

      exact_so : (id : Text) → in_force_at world.policies id ≡ Some s → (request : Known) → IsFilling facts q told request →
          (is_residual standing ≡ false) × ((k : Kind) → standing_of (means facts request (condition s)) ≡ Erring k → ErrsOrErred standing (ErredFirst facts q s))
      exact_so id force request fills = (
        ap is_residual stands.stands ∙ closed_at_last facts made q accepted told are_made now stands.slots unbound ends request fills (gives told),
        λ k errs. erred_so (errs_at_last facts made q accepted told are_made now stands.slots unbound ends request fills (gives told) k (ap standing_of (means_so id force told request) ∙ errs)),
      )

  pub again_is_sound : AgainIsSound
  again_is_sound by world facts q told are made closed of_data accepted are_made now = record {
    fair = λ id s force standing stands filling request extends fills.
        fair_so by world facts q told are made closed of_data accepted are_made now s standing stands id force filling request extends (there by world facts q told are made closed of_data accepted are_made now filling request fills);
    carried = λ later extends then_made then id s force result settles standing stands.
        carried_so by world facts q told are made closed of_data accepted are_made now s standing stands later extends then result settles;
    sharp = λ id s force result settles standing stands. sharp_so by world facts q told are made closed of_data accepted are_made now s standing stands result settles;
    exact = λ id s force standing stands request fills.
        exact_so by world facts q told are made closed of_data accepted are_made now s standing stands id force request (there by world facts q told are made closed of_data accepted are_made now told request fills);
  }
