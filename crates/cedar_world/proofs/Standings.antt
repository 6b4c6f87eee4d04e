-- How a policy stands when a question is asked, beside how it stands once the question is filled.
use Rattle.std.proofs.Common.{◌≡◌, true, false, refl, sym, ◌∙◌, ap, subst}
use Rattle.std.specs.FinMap as map
use Rattle.cedar_language.specs.Tree.{Boolean, Tree}
use Rattle.cedar_language.specs.Value.{Plain, Kind, TypeError, Outcome, Gives, Fails}
use Rattle.cedar_language.specs.Facts.{Facts}
use Rattle.cedar_language.specs.Answering.{Standing, Erring, is_residual, ComesTo, StillErrs}
use Rattle.cedar_language.specs.Authorization.{Known, standing_of}
use Rattle.cedar_partial_evaluation.specs.Settling.{Settling, kindless, Below}
use Rattle.cedar_partial_evaluation.specs.Mentions.{mentions_only, is_known}
use Rattle.cedar_partial_evaluation.specs.Errors.{SettlingIsOne}
use Rattle.cedar_partial_evaluation.specs.Leaves.{HasGiven, MentionedIsMeant}
use Rattle.cedar_partial_evaluation.specs.Linking.{no_slots}
use Rattle.cedar_partial_evaluation.specs.Filling as early
use Rattle.cedar_grammar.specs.Syntax.{PolicySyntax, condition}
use Rattle.cedar_world.specs.Asking.{Question, Told}
use Rattle.cedar_world.specs.Setting.{means, Settles}
use Rattle.cedar_world.specs.Standing.{settled_so_far, StandsSoFar, still_open, decided}
use Rattle.cedar_world.specs.Sound.{Becomes}
use Rattle.cedar_partial_evaluation.proofs.Sound.{never_open}
use Rattle.cedar_world.proofs.Agreeing.{gives_is}
use Rattle.cedar_world.proofs.Leaves.{condition_agrees}

-- ---- standings of results

pub not_residual : (o : Outcome) → is_residual (standing_of o) ≡ false
not_residual (Gives (Plain (Boolean true))) = refl
not_residual _ = refl

pub comes_itself : (o : Outcome) → Becomes (standing_of o) (standing_of o)
comes_itself (Gives (Plain (Boolean true))) = (refl, tt)
comes_itself (Gives (Plain (Boolean false))) = (tt, tt)
comes_itself (Fails k) = (tt, (k, refl))
comes_itself _ = (tt, (TypeError, refl))

-- results that are one but for the kinds of errors
pub results_come : (a b : Outcome) → kindless a ≡ kindless b → Becomes (standing_of a) (standing_of b)
results_come (Gives v) (Gives w) h = let is : v ≡ w = cc in subst (λ x. Becomes (standing_of (Gives v)) (standing_of (Gives x))) is (comes_itself (Gives v))
results_come (Fails k) (Fails l) h = (tt, (l, refl))
results_come _ _ h = cc

-- ---- results to which a condition settles

module _ (one : SettlingIsOne) (facts : Facts) (q : Question) (told : Told) where
  pub settled_as : (t : Tree) (result : Outcome) → Settles facts q told t result → settled_so_far facts q told t ≡ kindless result
  settled_as t (Gives v) h = h
  settled_as t (Fails k) h = one.errs facts q no_slots told t k h

  -- two ways in which a policy stands, of which one is settled: so is the other, which comes to it and errs where it does
  pub one_standing : (s : PolicySyntax) (result : Outcome) → Settles facts q told (condition s) result → (standing : Standing) → StandsSoFar facts q told s standing
      → ComesTo standing (standing_of result) × (is_residual standing ≡ false) × ((k : Kind) → standing_of result ≡ Erring k → (l : Kind) × (standing ≡ Erring l))
  one_standing s result h _ (still_open e) = absurd (never_open result (sym (settled_as (condition s) result h) ∙ e))
  one_standing s result h standing (decided other k is) =
      let same : kindless result ≡ kindless other = sym (settled_as (condition s) result h) ∙ settled_as (condition s) other k in
      let becomes : Becomes (standing_of result) standing = subst (Becomes (standing_of result)) is (results_come result other same) in (
        subst (λ x. ComesTo x (standing_of result)) is (results_come other result (sym same)).0,
        ap is_residual (sym is) ∙ not_residual other,
        λ k e. subst (λ x. StillErrs x standing) e becomes.1,
      )

-- ---- once the question is filled

module _ (facts : Facts) (q : Question) (filling : Told) (request : Known) (fills : early.IsFilling facts q filling request) where
  means_comes : (x : Settling) (a o : Outcome) → Below x (kindless o) → x ≡ kindless a → Becomes (standing_of a) (standing_of o)
  means_comes x (Gives v) o h e = results_come (Gives v) o (rw e at h)
  means_comes x (Fails k) o h e = results_come (Fails k) o (rw e at h)

  pub standing_comes : SettlingIsOne → (s : PolicySyntax) (standing : Standing) → mentions_only (λ v. true) true (condition s) ≡ true → StandsSoFar facts q map.empty s standing → Becomes standing (standing_of (means facts request (condition s)))
  standing_comes one s _ c (still_open e) = (tt, tt)
  standing_comes one s standing c (decided result h is) =
      subst (λ x. Becomes x (standing_of (means facts request (condition s)))) is
      (means_comes (settled_so_far facts q map.empty (condition s)) result (means facts request (condition s)) (condition_agrees facts q map.empty (λ n. map.get-empty _ n) filling request fills (condition s) c)
      (settled_as one facts q map.empty (condition s) result h))

-- ---- a known question

module _ (one : SettlingIsOne) (mentioned : MentionedIsMeant) (facts : Facts) (q : Question) (request : Known) (given : HasGiven facts q request) where
  known_result : (t : Tree) (result : Outcome) → mentions_only (is_known q) true t ≡ true → Settles facts q map.empty t result → means facts request t ≡ result
  known_result t (Gives v) c h = gives_is (means facts request t) v (sym (mentioned.settles facts q no_slots map.empty request given t c) ∙ h)
  known_result t (Fails k) c h = one.meant facts q no_slots map.empty request given t c k h

  pub standing_known : (s : PolicySyntax) (standing : Standing) → mentions_only (is_known q) true (condition s) ≡ true → StandsSoFar facts q map.empty s standing → standing_of (means facts request (condition s)) ≡ standing
  standing_known s _ c (still_open e) = absurd (never_open (means facts request (condition s)) (sym (mentioned.settles facts q no_slots map.empty request given (condition s) c) ∙ e))
  standing_known s standing c (decided result h is) = ap standing_of (known_result (condition s) result c h) ∙ is
