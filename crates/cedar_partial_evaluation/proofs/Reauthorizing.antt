-- Policies taken up again are fair and sharp.
use Rattle.std.proofs.Common.{◌≡◌, Bool, true, false, ◌&&◌, not, ◌⊎◌, inl, inr, List, [], ◌∷◌, refl, sym, ◌∙◌, ap, subst}
use Rattle.std.specs.Prelude.{map}
use Rattle.std.proofs.lemmas.List.Elements.{All-head, All-tail}
use Rattle.cedar_language.specs.Tree.{Boolean, Tree}
use Rattle.cedar_language.specs.Value.{Value, Plain, Kind, Outcome, Gives, Fails}
use Rattle.cedar_language.specs.Facts.{Facts}
use Rattle.cedar_language.specs.Meaning.{meaning}
use Rattle.cedar_language.specs.Answering.{Effect, Standing, Satisfied, Unsatisfied, Erring, Residual, Judged, is_permit, is_residual, some, ComesTo, StillErrs, Comes, Come, none_come, one_comes, Fills, Filled, nothing, a_policy}
use Rattle.cedar_language.specs.Authorization as authorization
use Rattle.cedar_language.specs.Authorization.{Policy, standing_of}
use Rattle.cedar_partial_evaluation.specs.Settling.{Settling, Open, Errs, Is, kindless, Below, LeafSettlings, settled_in}
use Rattle.cedar_partial_evaluation.specs.MadeAgain.{HoldsMade}
use Rattle.cedar_partial_evaluation.specs.Partial.{Answer, Evaluated, ResidualTree, Failed, LeafAnswers, partial_in}
use Rattle.cedar_partial_evaluation.specs.Fair.{read}
use Rattle.cedar_partial_evaluation.specs.Prompt.{without_kind}
use Rattle.cedar_partial_evaluation.specs.Linking.{no_slots}
use Rattle.cedar_partial_evaluation.specs.Question.{Question, Told, settled_of, held_of, Extends, AreMadeTold, IsAccepted}
use Rattle.cedar_partial_evaluation.specs.Filling.{GivesEach, IsFilling, request_filled, filled}
use Rattle.cedar_partial_evaluation.specs.Early.{judged_filled, standing_of_answer, judged_early, standing_settled, judged_settled, GivesPolicies}
use Rattle.cedar_partial_evaluation.specs.Reauthorizing.{IsErring, condition_again, judged_again, ReauthorizingIsFair, ReauthorizingIsSharp, ErrorsAreNamed, ReauthorizingIsExact}
use Rattle.cedar_partial_evaluation.proofs.Sound.{never_open}
use Rattle.cedar_partial_evaluation.proofs.Seam.{residuals_settle}
use Rattle.cedar_partial_evaluation.proofs.Question.{telling_carries, held_made}
use Rattle.cedar_partial_evaluation.proofs.Filling.{below_closed, means_filled, answers_are_fair}
use Rattle.cedar_partial_evaluation.proofs.UnboundSeam.{residual_means, unbound_answers_are_fair, unbound_answers_are_prompt}
use Rattle.cedar_partial_evaluation.proofs.Early.{left_comes, never_residual, seen_last}
use Rattle.cedar_language.proofs.Answering.{rules_are_fair, rules_are_sharp, rules_are_exact}

-- ---- one policy: its first answer, and the answer to it once it is taken up again

module _ (facts : Facts) (holds : LeafAnswers) where
  abbrev later : Answer → Answer
  later p = partial_in facts holds (condition_again p)

  becomes_again : (around other : LeafSettlings) (p : Answer) (o : Outcome) → read facts around p ≡ kindless o → ((r : Tree) → p ≡ ResidualTree r → read facts other (partial_in facts holds r) ≡ kindless o) →
      ComesTo (standing_of_answer (later p)) (standing_of o) × StillErrs (standing_of_answer (later p)) (standing_of o)
  becomes_again around other (ResidualTree r) o h f = left_comes facts other (partial_in facts holds r) o (f r refl)
  becomes_again around other (Evaluated (Plain (Boolean true))) o h f = ((left_comes facts around (Evaluated (Plain (Boolean true))) o h).0, tt)
  becomes_again around other p o h f = ((left_comes facts around p o h).0, tt)

  -- what is settled
  known_again : (w : Value) → ComesTo (standing_settled (Is w)) (standing_of_answer (later (Evaluated w)))
  known_again (Plain (Boolean true)) = refl
  known_again (Plain (Boolean false)) = tt
  known_again _ = tt

  same_standing : (w : Value) → standing_settled (Is w) ≡ standing_of_answer (Evaluated w)
  same_standing (Plain (Boolean true)) = refl
  same_standing (Plain (Boolean false)) = refl
  same_standing _ = refl

  comes_itself : (s : Standing) → ComesTo s s
  comes_itself Satisfied = refl
  comes_itself Unsatisfied = tt
  comes_itself (Erring k) = tt
  comes_itself Residual = tt

  seen_known : (v : Value) (p : Answer) → Is v ≡ without_kind p → standing_settled (Is v) ≡ standing_of_answer p
  seen_known v (Evaluated w) h = let e : v ≡ w = cc in ap (λ (x : Value). standing_settled (Is x)) e ∙ same_standing w
  seen_known v (ResidualTree r) h = cc
  seen_known v (Failed k) h = cc

  seen_refused : (p : Answer) → Errs ≡ without_kind p → (k : Kind) × (p ≡ Failed k)
  seen_refused (Evaluated w) h = cc
  seen_refused (ResidualTree r) h = cc
  seen_refused (Failed k) h = (k, refl)

  settles_again : (around : LeafSettlings) (x : Settling) (p : Answer) → Below x (read facts around p) → ((r : Tree) → p ≡ ResidualTree r → Below x (without_kind (partial_in facts holds r))) →
      ComesTo (standing_settled x) (standing_of_answer (later p))
  settles_again around Open p h f = tt
  settles_again around Errs (Evaluated v) h f = cc
  settles_again around Errs (Failed k) h f = tt
  settles_again around Errs (ResidualTree r) h f = let (k, e) = seen_refused (partial_in facts holds r) (f r refl) in rw e tt
  settles_again around (Is v) (Evaluated w) h f = let e : w ≡ v = cc in subst (λ (y : Value). ComesTo (standing_settled (Is y)) (standing_of_answer (later (Evaluated w)))) e (known_again w)
  settles_again around (Is v) (Failed k) h f = cc
  settles_again around (Is v) (ResidualTree r) h f =
      subst (λ (s : Standing). ComesTo (standing_settled (Is v)) s) (seen_known v (partial_in facts holds r) (f r refl)) (comes_itself (standing_settled (Is v)))

  named_again : (around : LeafSettlings) (x : Settling) (p : Answer) → Below x (read facts around p) → ((r : Tree) → p ≡ ResidualTree r → Below x (without_kind (partial_in facts holds r))) →
      IsErring (standing_settled x) → IsErring (standing_of_answer p) ⊎ IsErring (standing_of_answer (later p))
  named_again around Open p h f (k, e) = cc
  named_again around Errs (Evaluated v) h f (k, e) = cc
  named_again around Errs (Failed l) h f (k, e) = inl (l, refl)
  named_again around Errs (ResidualTree r) h f (k, e) = let (l, is) = seen_refused (partial_in facts holds r) (f r refl) in inr (l, ap standing_of_answer is)
  named_again around (Is v) (Evaluated w) h f (k, e) = inl (k, sym (seen_known v (Evaluated w) h) ∙ e)
  named_again around (Is v) (Failed l) h f (k, e) = cc
  named_again around (Is v) (ResidualTree r) h f (k, e) = inr (k, sym (seen_known v (partial_in facts holds r) (f r refl)) ∙ e)

  -- once all is told
  seen_closed : (p : Answer) (o : Outcome) → without_kind p ≡ kindless o → is_residual (standing_of_answer p) ≡ false
  seen_closed (Evaluated (Plain (Boolean true))) o h = refl
  seen_closed (Evaluated (Plain (Boolean false))) o h = refl
  seen_closed (Evaluated _) o h = refl
  seen_closed (Failed k) o h = refl
  seen_closed (ResidualTree r) o h = absurd (never_open o (sym h))

  closed_again : (p : Answer) (o : Outcome) → ((r : Tree) → p ≡ ResidualTree r → without_kind (partial_in facts holds r) ≡ kindless o) → is_residual (standing_of_answer (later p)) ≡ false
  closed_again (Evaluated (Plain (Boolean true))) o f = refl
  closed_again (Evaluated (Plain (Boolean false))) o f = refl
  closed_again (Evaluated _) o f = refl
  closed_again (Failed k) o f = refl
  closed_again (ResidualTree r) o f = seen_closed (partial_in facts holds r) o (f r refl)

  seen_errs : (p : Answer) (o : Outcome) → without_kind p ≡ kindless o → IsErring (standing_of o) → IsErring (standing_of_answer p)
  seen_errs (Evaluated v) (Gives w) h (k, e) = let is : v ≡ w = cc in (k, ap (λ (x : Value). standing_of_answer (Evaluated x)) is ∙ sym (same_standing w) ∙ outcome_standing w ∙ e)
    where
      outcome_standing : (w : Value) → standing_settled (Is w) ≡ standing_of (Gives w)
      outcome_standing (Plain (Boolean true)) = refl
      outcome_standing (Plain (Boolean false)) = refl
      outcome_standing _ = refl
  seen_errs (Evaluated v) (Fails l) h e = cc
  seen_errs (ResidualTree r) o h e = absurd (never_open o (sym h))
  seen_errs (Failed l) o h e = (l, refl)

  errs_again : (around : LeafSettlings) (p : Answer) (o : Outcome) → read facts around p ≡ kindless o → ((r : Tree) → p ≡ ResidualTree r → without_kind (partial_in facts holds r) ≡ kindless o) →
      IsErring (standing_of o) → IsErring (standing_of_answer p) ⊎ IsErring (standing_of_answer (later p))
  errs_again around (Evaluated v) o h f e = inl (seen_errs (Evaluated v) o h e)
  errs_again around (Failed k) o h f e = inl (k, refl)
  errs_again around (ResidualTree r) o h f e = inr (seen_errs (partial_in facts holds r) o (f r refl) e)

-- ---- all policies

module _ (facts : Facts) (good : HoldsMade facts) (q : Question) (told later filling : Told) (known : authorization.Known) (extends : Extends told later) (further : Extends later filling)
    (are_made : AreMadeTold facts told) (then_made : AreMadeTold facts later) (fills : IsFilling facts q filling known) where
  told_filling : Extends told filling
  told_filling n v e = further n v (extends n v e)

  reads_first : (p : Policy) → GivesEach filling p.condition →
      read facts (filled facts q p.slots filling) (partial_in facts (held_of facts q p.slots told) p.condition) ≡ kindless (meaning facts (request_filled known p.slots filling) p.condition)
  reads_first p given = sym (answers_are_fair facts good q p.slots told filling known told_filling are_made fills p.condition given) ∙ means_filled facts q filling known fills p.slots p.condition given

  becomes : (p : Policy) → GivesEach filling p.condition →
      ComesTo (judged_again facts q told later p).standing (judged_filled facts known filling p).standing × StillErrs (judged_again facts q told later p).standing (judged_filled facts known filling p).standing
  becomes p given =
      becomes_again facts (held_of facts q no_slots later) (filled facts q p.slots filling) (filled facts q no_slots filling)
      (partial_in facts (held_of facts q p.slots told) p.condition) (meaning facts (request_filled known p.slots filling) p.condition) (reads_first p given)
      (λ r is. sym (unbound_answers_are_fair facts good q p.slots told later filling known extends further are_made then_made fills p.condition r given is) ∙ means_filled facts q filling known fills p.slots p.condition given)

  fill : (p : Policy) → GivesEach filling p.condition → Fills (judged_again facts q told later p) (judged_filled facts known filling p)
  fill p given = record {
    id = refl;
    effect = refl;
    standing = (becomes p given).0;
    erring = (becomes p given).1;
    known = never_residual (meaning facts (request_filled known p.slots filling) p.condition);
  }

  all_fill : (ps : List Policy) → GivesPolicies filling ps → Filled (map (judged_again facts q told later) ps) (map (judged_filled facts known filling) ps)
  all_fill [] given = nothing
  all_fill (p ∷ ps) given =
      a_policy (fill p (All-head (λ (r : Policy). GivesEach filling r.condition) p ps given)) (all_fill ps (All-tail (λ (r : Policy). GivesEach filling r.condition) p ps given))

pub reauthorizing_is_fair : ReauthorizingIsFair
reauthorizing_is_fair facts good q told later filling known extends further are_made then_made fills ps given =
    rules_are_fair _ _ (all_fill facts good q told later filling known extends further are_made then_made fills ps given)

module _ (facts : Facts) (good : HoldsMade facts) (q : Question) (told later : Told) (extends : Extends told later) (are_made : AreMadeTold facts told) (then_made : AreMadeTold facts later)
    (now : IsAccepted facts told q.context) (then : IsAccepted facts later q.context) where
  carried : (p : Policy) →
      Below (settled_in facts (settled_of facts q p.slots later) p.condition) (read facts (settled_of facts q p.slots later) (partial_in facts (held_of facts q p.slots told) p.condition))
  carried p =
      residuals_settle facts good (settled_of facts q p.slots later) (held_of facts q p.slots told) (telling_carries facts good q p.slots told later extends are_made now then)
      (held_made facts good q p.slots told are_made) p.condition

  shown : (p : Policy) (r : Tree) → partial_in facts (held_of facts q p.slots told) p.condition ≡ ResidualTree r →
      Below (settled_in facts (settled_of facts q p.slots later) p.condition) (without_kind (partial_in facts (held_of facts q no_slots later) r))
  shown p r is = unbound_answers_are_prompt facts good q p.slots told later extends are_made then_made now then p.condition r is

  comes : (p : Policy) → Comes (judged_settled facts q later p) (judged_again facts q told later p)
  comes p = record {
    id = refl;
    effect = refl;
    standing = settles_again facts (held_of facts q no_slots later) (settled_of facts q p.slots later) (settled_in facts (settled_of facts q p.slots later) p.condition)
        (partial_in facts (held_of facts q p.slots told) p.condition) (carried p) (shown p);
  }

  all_come : (ps : List Policy) → Come (map (judged_settled facts q later) ps) (map (judged_again facts q told later) ps)
  all_come [] = none_come
  all_come (p ∷ ps) = one_comes (comes p) (all_come ps)

  named : (p : Policy) → IsErring (judged_settled facts q later p).standing → IsErring (judged_early facts q told p).standing ⊎ IsErring (judged_again facts q told later p).standing
  named p errs =
      named_again facts (held_of facts q no_slots later) (settled_of facts q p.slots later) (settled_in facts (settled_of facts q p.slots later) p.condition)
      (partial_in facts (held_of facts q p.slots told) p.condition) (carried p) (shown p) errs

pub reauthorizing_is_sharp : ReauthorizingIsSharp
reauthorizing_is_sharp facts good q told later extends are_made then_made now then ps = rules_are_sharp _ _ (all_come facts good q told later extends are_made then_made now then ps)

pub errors_are_named : ErrorsAreNamed
errors_are_named facts good q told later extends are_made then_made now then p errs = named facts good q told later extends are_made then_made now then p errs

-- ---- once all is told

not_open : (b : Bool) (s : Standing) → is_residual s ≡ false → (b && is_residual s) ≡ false
not_open true s h = h
not_open false s h = refl

module _ (facts : Facts) (good : HoldsMade facts) (q : Question) (told filling : Told) (known : authorization.Known) (extends : Extends told filling)
    (are_made : AreMadeTold facts told) (then_made : AreMadeTold facts filling) (fills : IsFilling facts q filling known) where
  seen_again : (p : Policy) → GivesEach filling p.condition → (r : Tree) → partial_in facts (held_of facts q p.slots told) p.condition ≡ ResidualTree r →
      without_kind (partial_in facts (held_of facts q no_slots filling) r) ≡ kindless (meaning facts (request_filled known p.slots filling) p.condition)
  seen_again p given r is =
      let means = means_filled facts q filling known fills p.slots p.condition given in
      let first : settled_in facts (filled facts q p.slots filling) p.condition ≡ settled_in facts (filled facts q no_slots filling) r =
      residual_means facts good q p.slots told filling known extends are_made fills p.condition r given is in
      sym (below_closed _ _ (meaning facts (request_filled known p.slots filling) p.condition) (sym first ∙ means) (seen_last facts good q no_slots filling known then_made fills r)) ∙ sym first ∙ means

  closed : (p : Policy) → GivesEach filling p.condition → is_residual (judged_again facts q told filling p).standing ≡ false
  closed p given =
      closed_again facts (held_of facts q no_slots filling) (partial_in facts (held_of facts q p.slots told) p.condition) (meaning facts (request_filled known p.slots filling) p.condition) (seen_again p given)

  none_open : (effect : Effect → Bool) (ps : List Policy) → GivesPolicies filling ps → some (λ (j : Judged). effect j.effect && is_residual j.standing) (map (judged_again facts q told filling) ps) ≡ false
  none_open effect [] given = refl
  none_open effect (p ∷ ps) given =
      let here : (effect p.effect && is_residual (judged_again facts q told filling p).standing) ≡ false =
      not_open (effect p.effect) (judged_again facts q told filling p).standing (closed p (All-head (λ (r : Policy). GivesEach filling r.condition) p ps given)) in
      rw here (none_open effect ps (All-tail (λ (r : Policy). GivesEach filling r.condition) p ps given))

pub reauthorizing_is_exact : ReauthorizingIsExact
reauthorizing_is_exact facts good q told filling known extends are_made then_made fills = record {
  exact = λ ps given.
      rules_are_exact _ _ (all_fill facts good q told filling filling known extends (λ n v e. e) are_made then_made fills ps given)
      (none_open facts good q told filling known extends are_made then_made fills is_permit ps given)
      (none_open facts good q told filling known extends are_made then_made fills (λ e. not (is_permit e)) ps given);
  erring = λ p given errs.
      errs_again facts (held_of facts q no_slots filling) (filled facts q p.slots filling) (partial_in facts (held_of facts q p.slots told) p.condition) (meaning facts (request_filled known p.slots filling) p.condition)
      (reads_first facts good q told filling filling known extends (λ n v e. e) are_made then_made fills p given)
      (seen_again facts good q told filling known extends are_made then_made fills p given) errs;
}
