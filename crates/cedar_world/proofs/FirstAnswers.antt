-- The answers where no policy is in force, and where one permits all.
use Rattle.std.proofs.Common.{◌≡◌, ◌⊎◌, inl, inr, true, Some, is_some, IsTrue, IsSome, [], ◌∷◌, map, refl, sym, ◌∙◌, ap, subst, true≢false, codes}
use Rattle.std.specs.FinMap as finite
use Rattle.cedar_language.specs.Uid.{Text}
use Rattle.cedar_language.specs.Tree.{Boolean}
use Rattle.cedar_language.specs.Value.{Plain, Kind, Outcome, Gives, Fails}
use Rattle.cedar_language.specs.Facts.{Facts}
use Rattle.cedar_language.specs.Answering.{Effect, Permit, Forbid, is_permit, Standing, Satisfied, Erring, is_satisfied}
use Rattle.cedar_language.specs.Authorization.{standing_of}
use Rattle.cedar_grammar.specs.Build.{truth}
use Rattle.cedar_world.specs.Orders.{text_cmp}
use Rattle.cedar_world.specs.Answer.{Answer, ids_of, has_id}
use Rattle.cedar_grammar.specs.Syntax.{PolicySyntax, condition}
use Rattle.cedar_world.specs.World.{Bound, Policy, standing, in_force_as, in_force_at, new_world}
use Rattle.cedar_world.specs.Asking.{Question, Told}
use Rattle.cedar_world.specs.Question.{IsKnown}
use Rattle.cedar_world.specs.Setting.{Setting, Settles}
use Rattle.cedar_world.specs.Answers.{HoldsOf, judge, answer_of, IsFair, IsDecided, IsOut, SaysDecided}
use Rattle.cedar_world.specs.Step.{IsFirstAnswer}
use Rattle.cedar_world.specs.Rows.{for_all, allowed}
use Rattle.cedar_world.specs.StepRows.{all_missing, denied, one_policy}
use Rattle.cedar_world.proofs.Parts.{not_none, same_some}
use Rattle.cedar_world.proofs.Maps.{same_or_not, put_there, put_elsewhere}
use Rattle.cedar_world.proofs.PolicyRows.{no_entries, one_entry}

holds_itself : (a : Answer) → HoldsOf a a
holds_itself a = record { decision = λ d e. e; must = λ id h. h; may = λ id h. h; erring = λ id h. h }

not_known : IsKnown all_missing → ⊥
not_known known = true≢false (known (codes "principal"))

-- ---- no policy is in force

nothing_in_force : (id : Text) (s : PolicySyntax) → in_force_at finite.empty id ≡ Some s → ⊥
nothing_in_force id s e = not_none s (sym (ap (in_force_as finite.empty) (finite.get-empty text_cmp id)) ∙ e)

no_id : (id : Text) → IsTrue (has_id finite.empty id) → ⊥
no_id id h = true≢false (sym h ∙ ap is_some (finite.get-empty text_cmp id))

no_error : (id : Text) → IsSome (finite.get {X = Kind} {R = text_cmp} finite.empty id) → ⊥
no_error id h = true≢false (sym h ∙ ap is_some (finite.get-empty text_cmp id))

module _ (by : Setting) where
  denied_is_fair : (q : Question) (told : Told) → IsFair by new_world q told denied
  denied_is_fair q told filling request whole agrees known =
      let is : whole ≡ denied = known.is ∙ ap (λ es. answer_of (map (judge known.facts request) (standing finite.empty es))) (no_entries Bound) in
      subst (HoldsOf denied) (sym is) (holds_itself denied)

  denied_says : (facts : Facts) (q : Question) (told : Told) → SaysDecided by new_world facts q told denied
  denied_says facts q told = record {
    denies = λ h. refl;
    denies_too = λ h. refl;
    allows = λ out h. absurd (nothing_in_force h.0 h.1.syntax h.1.in_force);
    must_forbids = λ id d. absurd (nothing_in_force id d.syntax d.in_force);
    must_permits = λ out id d. absurd (nothing_in_force id d.syntax d.in_force);
    may_not = λ id effect out h. no_id id h;
    may_forbids = λ some id s e f h. no_id id h;
    erring = λ id effect k d. absurd (nothing_in_force id d.syntax d.in_force);
  }

  pub nothing_denies : IsFirstAnswer by new_world all_missing denied
  nothing_denies = record {
    known = λ known. absurd (not_known known);
    fair = denied_is_fair all_missing finite.empty;
    prompt = λ facts are. denied_says facts all_missing finite.empty;
    kinds = λ facts are id effect k d. absurd (nothing_in_force id d.syntax d.in_force);
    in_force = record { must = λ id h. h; may = λ id h. absurd (no_id id h); erring = λ id h. absurd (no_error id h) };
  }

-- ---- one policy permits all

abbrev zero_id : Text
zero_id = codes "policy0"

zero_in_force : in_force_at one_policy.policies zero_id ≡ Some for_all
zero_in_force = ap (in_force_as one_policy.policies) (put_there finite.empty zero_id (Policy for_all))

only_zero : (id : Text) (s : PolicySyntax) → in_force_at one_policy.policies id ≡ Some s → (id ≡ zero_id) × (s ≡ for_all)
only_zero id s e = at (same_or_not id zero_id)
  where
    at : (id ≡ zero_id) ⊎ (id ≡ zero_id → ⊥) → (id ≡ zero_id) × (s ≡ for_all)
    at (inl same) = (same, same_some s for_all (sym e ∙ ap (in_force_at one_policy.policies) same ∙ zero_in_force))
    at (inr other) = absurd (not_none s (sym (ap (in_force_as one_policy.policies) (put_elsewhere finite.empty zero_id (Policy for_all) id other ∙ finite.get-empty text_cmp id)) ∙ e))

the_id : (id : Text) → IsTrue (has_id (ids_of (zero_id ∷ [])) id) → id ≡ zero_id
the_id id h = at (same_or_not id zero_id)
  where
    at : (id ≡ zero_id) ⊎ (id ≡ zero_id → ⊥) → id ≡ zero_id
    at (inl same) = same
    at (inr other) = absurd (true≢false (sym h ∙ ap is_some (put_elsewhere finite.empty zero_id tt id other ∙ finite.get-empty text_cmp id)))

is_the_id : (id : Text) → id ≡ zero_id → IsTrue (has_id (ids_of (zero_id ∷ [])) id)
is_the_id id same = ap (has_id (ids_of (zero_id ∷ []))) same ∙ ap is_some (put_there finite.empty zero_id tt)

-- the condition `true` settles to true whatever is unknown
settles_true : (facts : Facts) (q : Question) (told : Told) (result : Outcome) → Settles facts q told (truth true) result → standing_of result ≡ Satisfied
settles_true facts q told (Gives v) e = let same : Plain (Boolean true) ≡ v = cc e in ap (λ w. standing_of (Gives w)) (sym same)
settles_true facts q told (Fails k) h = elim h [ ]

unlike : Permit ≡ Forbid → ⊥
unlike e = true≢false (ap is_permit e)

module _ (by : Setting) where
  module _ (facts : Facts) (q : Question) (told : Told) where
    decided : (id : Text) (effect : Effect) (s : Standing) → IsDecided by one_policy facts q told id effect s → (id ≡ zero_id) × (effect ≡ Permit) × (s ≡ Satisfied)
    decided id effect s d =
        let only = only_zero id d.syntax d.in_force in
        let settles : Settles facts q told (condition for_all) d.result = subst (λ p. Settles facts q told (condition p) d.result) only.1 d.settles in
        (only.0, sym d.effect_is ∙ ap (λ (p : PolicySyntax). p.effect) only.1, sym d.standing_is ∙ settles_true facts q told d.result settles)

    no_forbid : (id : Text) (s : Standing) → IsDecided by one_policy facts q told id Forbid s → ⊥
    no_forbid id s d = unlike (sym (decided id Forbid s d).1)

    none_out : (id : Text) (effect : Effect) → IsOut by one_policy facts q told id effect → ⊥
    none_out id effect out = out.1 (decided id effect out.0 out.2).2

    none_errs : (id : Text) (effect : Effect) (k : Kind) → IsDecided by one_policy facts q told id effect (Erring k) → ⊥
    none_errs id effect k d = true≢false (sym (ap is_satisfied (decided id effect (Erring k) d).2))

    allowed_says : SaysDecided by one_policy facts q told allowed
    allowed_says = record {
      denies = λ h. absurd (no_forbid h.0 Satisfied h.1);
      denies_too = λ out. absurd (none_out zero_id Permit (out zero_id for_all zero_in_force refl));
      allows = λ out h. refl;
      must_forbids = λ id d. absurd (no_forbid id Satisfied d);
      must_permits = λ out id d. is_the_id id (decided id Permit Satisfied d).0;
      may_not = λ id effect out h. none_out id effect out;
      may_forbids = λ some id s e f h. no_forbid some.0 Satisfied some.1;
      erring = λ id effect k d. absurd (none_errs id effect k d);
    }

  allowed_is_fair : (q : Question) (told : Told) → IsFair by one_policy q told allowed
  allowed_is_fair q told filling request whole agrees known =
      let is : whole ≡ allowed = known.is ∙ ap (λ es. answer_of (map (judge known.facts request) (standing one_policy.policies es))) (one_entry zero_id (Policy for_all)) in
      subst (HoldsOf allowed) (sym is) (holds_itself allowed)

  pub all_are_allowed : IsFirstAnswer by one_policy all_missing allowed
  all_are_allowed = record {
    known = λ known. absurd (not_known known);
    fair = allowed_is_fair all_missing finite.empty;
    prompt = λ facts are. allowed_says facts all_missing finite.empty;
    kinds = λ facts are id effect k d. absurd (none_errs facts all_missing finite.empty id effect k d);
    in_force = record {
      must = λ id h. h;
      may = λ id h. ap is_some (ap (in_force_at one_policy.policies) (the_id id h) ∙ zero_in_force);
      erring = λ id h. absurd (no_error id h);
    };
  }
