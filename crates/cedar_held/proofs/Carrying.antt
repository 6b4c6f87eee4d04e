-- Loops over what may err, may hold an unknown, and else has a value: what is said of all, by what is said of the rest.
use Rattle.std.proofs.Common.{◌≡◌, ◌∙◌, refl, ap, sym, Bool, true, false, ◌||◌, Option, Some, None, option_map, List, [], ◌∷◌, ◌++◌, append_assoc}
use Rattle.std.proofs.lemmas.List.{append-nil}
use Rattle.cedar_world.specs.Bodies.{read_with}
pub use Rattle.cedar_lemmas.proofs.Booleans.{or_first as or_left, or_second as or_right}
pub use Rattle.std.proofs.lemmas.Bool.{or_from as or_false, or_right as or_true}

abbrev pub after : {A : Type 0} → List A → Option (List A) → Option (List A)
after done rest = option_map (λ xs. done ++ xs) rest

pub false_back : (a b : Bool) → (a ≡ true → b ≡ true) → b ≡ false → a ≡ false
false_back true b h k = let both : b ≡ true = h refl in cc
false_back false b h k = refl

last_open : (flag u : Bool) → (flag || (true || u)) ≡ ((flag || true) || u)
last_open true u = refl
last_open false u = refl

module _ {A : Type 0} where
  -- of all it is so as of the rest; and where none of those done holds an unknown, P holds of their values
  pub record Carries (P : List A → Type 0) (errs unknown : Bool) (values : Option (List A)) (flag errs_left unknown_left : Bool) (values_left : Option (List A)) : Type 0 where
    pub same_errs : errs ≡ errs_left
    pub same_unknowns : unknown ≡ (flag || unknown_left)
    pub given : flag ≡ false → (done : List A) × P done × (values ≡ after done values_left)

  nothing_done : (o : Option (List A)) → o ≡ after [] o
  nothing_done None = refl
  nothing_done (Some xs) = refl

  after_one : (done : List A) (x : A) (o : Option (List A)) → after done (read_with (Some x) o) ≡ after (done ++ x ∷ []) o
  after_one done x None = refl
  after_one done x (Some xs) = ap Some (sym (append_assoc done (x ∷ []) xs))

  pub at_first : (P : List A → Type 0) (errs unknown : Bool) (values : Option (List A)) → P [] → Carries P errs unknown values false errs unknown values
  at_first P errs unknown values h = record { same_errs = refl; same_unknowns = refl; given = λ unset. ([], h, nothing_done values) }

  module _ (P Q : List A → Type 0) (errs unknown : Bool) (values : Option (List A)) (flag next : Bool) (e1 e2 u1 u2 : Bool) (o : Option A) (values_left : Option (List A))
      (carries : Carries P errs unknown values flag (e1 || e2) (u1 || u2) (read_with o values_left)) (fine : e1 ≡ false) where
    left_errs : errs ≡ e2
    left_errs = carries.same_errs ∙ ap (λ b. b || e2) fine

    -- the first of the rest has a value
    pub next_value : (a : A) → u1 ≡ false → o ≡ Some a → ((done : List A) → P done → Q (done ++ a ∷ [])) → next ≡ flag → Carries Q errs unknown values next e2 u2 values_left
    next_value a known is holds same = record {
      same_errs = left_errs;
      same_unknowns = carries.same_unknowns ∙ ap (λ b. flag || (b || u2)) known ∙ ap (λ b. b || u2) (sym same);
      given = λ unset.
          let before = carries.given (sym same ∙ unset) in
          (before.0 ++ a ∷ [], holds before.0 before.1, before.2 ∙ ap (λ x. after before.0 (read_with x values_left)) is ∙ after_one before.0 a values_left);
    }

    -- it holds an unknown
    pub next_open : u1 ≡ true → next ≡ (flag || true) → Carries Q errs unknown values next e2 u2 values_left
    next_open opens same = record {
      same_errs = left_errs;
      same_unknowns = carries.same_unknowns ∙ ap (λ b. flag || (b || u2)) opens ∙ last_open flag u2 ∙ ap (λ b. b || u2) (sym same);
      given = λ unset. absurd (never flag (sym same ∙ unset));
    }
      where
        never : (b : Bool) → (b || true) ≡ false → ⊥
        never true h = cc
        never false h = cc

  -- nothing is left
  module _ (P : List A → Type 0) (errs unknown : Bool) (values : Option (List A)) (flag : Bool) (carries : Carries P errs unknown values flag false false (Some [])) where
    pub all_fine : errs ≡ false
    all_fine = carries.same_errs

    or_none : (b : Bool) → (b || false) ≡ b
    or_none true = refl
    or_none false = refl

    pub all_unknowns : unknown ≡ flag
    all_unknowns = carries.same_unknowns ∙ or_none flag

    pub all_given : flag ≡ false → (done : List A) × P done × (values ≡ Some done)
    all_given unset = let end = carries.given unset in (end.0, end.1, end.2 ∙ ap Some (append-nil end.0))
