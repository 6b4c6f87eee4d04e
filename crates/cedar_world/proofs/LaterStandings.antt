-- How policies stand by answers, beside how they stand by results.
use Rattle.std.proofs.Common.{◌≡◌, true, false, refl, sym, ◌∙◌, ap, subst}
use Rattle.cedar_language.specs.Tree.{Boolean, Tree}
use Rattle.cedar_language.specs.Value.{Value, Plain, Kind, TypeError, Outcome, Gives, Fails}
use Rattle.cedar_language.specs.Facts.{Facts}
use Rattle.cedar_language.specs.Answering.{Standing, Erring, is_residual}
use Rattle.cedar_language.specs.Authorization.{standing_of}
use Rattle.cedar_partial_evaluation.specs.Settling.{Settling, Open, Errs, Is, kindless, Below, LeafSettlings}
use Rattle.cedar_partial_evaluation.specs.Partial.{Answer, Evaluated, ResidualTree, Failed, LeafAnswers, answer_of, partial_in}
use Rattle.cedar_partial_evaluation.specs.Fair.{read}
use Rattle.cedar_partial_evaluation.specs.Prompt.{Meets}
use Rattle.cedar_partial_evaluation.specs.Early.{standing_of_answer, standing_settled}
use Rattle.cedar_partial_evaluation.specs.LinkingEarly.{StandAlike}
use Rattle.cedar_partial_evaluation.specs.Reauthorizing.{condition_again}
use Rattle.cedar_world.specs.Sound.{Becomes}
use Rattle.cedar_world.proofs.Standings.{not_residual, comes_itself}

-- ---- results

pub value_standing : (v : Value) → standing_of (Gives v) ≡ standing_of_answer (Evaluated v)
value_standing (Plain (Boolean true)) = refl
value_standing _ = refl

pub result_standing : (o : Outcome) → standing_of_answer (answer_of o) ≡ standing_of o
result_standing (Gives v) = sym (value_standing v)
result_standing (Fails k) = refl

-- ---- what is settled

-- what is known is still known
pub below_closed : (x y : Settling) (o : Outcome) → x ≡ kindless o → Below x y → kindless o ≡ y
below_closed Open y (Gives v) e h = cc
below_closed Open y (Fails k) e h = cc
below_closed Errs y o e h = sym e ∙ h
below_closed (Is v) y o e h = sym e ∙ h

-- an answer becomes what it is read as
pub answer_becomes : (facts : Facts) (around : LeafSettlings) (p : Answer) (o : Outcome) → kindless o ≡ read facts around p → Becomes (standing_of_answer p) (standing_of o)
answer_becomes facts around (Evaluated v) (Gives w) h = let is : v ≡ w = cc in subst (λ (b : Standing × Standing). Becomes b.0 b.1) (λ i. (value_standing v i, standing_of (Gives (is i)))) (comes_itself (Gives v))
answer_becomes facts around (ResidualTree r) o h = (tt, tt)
answer_becomes facts around (Failed k) (Fails l) h = (tt, (l, refl))
answer_becomes facts around _ _ h = cc

-- an answer that is taken up again becomes what it was to become
module _ (facts : Facts) (holds : LeafAnswers) where
  pub again_becomes : (p : Answer) (standing : Standing) → Becomes (standing_of_answer p) standing → ((r : Tree) → p ≡ ResidualTree r → Becomes (standing_of_answer (partial_in facts holds r)) standing) →
      Becomes (standing_of_answer (partial_in facts holds (condition_again p))) standing
  again_becomes (Evaluated (Plain (Boolean true))) standing h f = h
  again_becomes (Evaluated (Plain (Boolean false))) standing h f = h
  again_becomes (ResidualTree r) standing h f = f r refl
  again_becomes _ standing h f = (h.0, tt)

-- a prompt answer stands as the result to which its tree settles, but for the kind of an error
pub prompt_stands : (errs_as : Kind → Type 0) (x : Settling) (p : Answer) → Meets errs_as x p → (result : Outcome) → x ≡ kindless result →
    (is_residual (standing_of_answer p) ≡ false) × ((k : Kind) → standing_of result ≡ Erring k → (l : Kind) × (standing_of_answer p ≡ Erring l))
prompt_stands errs_as Open p m (Gives v) e = cc
prompt_stands errs_as Open p m (Fails k) e = cc
prompt_stands errs_as Errs p m (Gives v) e = cc
prompt_stands errs_as Errs p m (Fails j) e = (ap (λ x. is_residual (standing_of_answer x)) m.1, λ k h. (m.0, ap standing_of_answer m.1))
prompt_stands errs_as (Is w) p m (Gives v) e =
    let is : w ≡ v = cc in
    let stands : standing_of_answer p ≡ standing_of (Gives v) = ap standing_of_answer (m ∙ ap (λ x. Evaluated x) is) ∙ sym (value_standing v) in
    (ap is_residual stands ∙ not_residual (Gives v), λ k h. (k, stands ∙ h))
prompt_stands errs_as (Is w) p m (Fails k) e = cc

-- answers that differ in what is left alone stand alike
pub alike_standing : (p o : Answer) → StandAlike p o → standing_of_answer p ≡ standing_of_answer o
alike_standing (ResidualTree r) o h = ap standing_of_answer (sym h.1)
alike_standing _ o h = ap standing_of_answer (sym h)

-- ---- how a policy stands by what is settled to be this

value_settled : (v : Value) → standing_settled (Is v) ≡ standing_of (Gives v)
value_settled (Plain (Boolean true)) = refl
value_settled _ = refl

pub settled_closed : (x : Settling) (o : Outcome) → x ≡ kindless o → is_residual (standing_settled x) ≡ false
settled_closed x (Gives v) e = ap (λ y. is_residual (standing_settled y)) e ∙ ap is_residual (value_settled v) ∙ not_residual (Gives v)
settled_closed x (Fails k) e = ap (λ y. is_residual (standing_settled y)) e

pub settled_stands : (x : Settling) (o : Outcome) → x ≡ kindless o → (k : Kind) → standing_of o ≡ Erring k → (l : Kind) × (standing_settled x ≡ Erring l)
settled_stands x (Gives v) e k h = (k, ap standing_settled e ∙ value_settled v ∙ h)
settled_stands x (Fails j) e k h = (TypeError, ap standing_settled e)
