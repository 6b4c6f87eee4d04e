-- Whether what is evaluated once more is told is too deep is read off the policies in force and the question.
use Rattle.std.proofs.Common.{◌≡◌, ◌⊎◌, inl, inr, ◌<◌, ◌≤◌, ℕ, suc, Bool, true, false, true≢false, Some, List, [], ◌∷◌, All, arith, refl, sym, ◌∙◌, subst}
use Rattle.std.proofs.lemmas.Bool.{cases_lt, cases_order}
use Rattle.cedar_language.specs.Uid.{Text}
use Rattle.cedar_grammar.specs.Syntax.{PolicySyntax, condition}
use Rattle.cedar_world.specs.Asking.{Question}
use Rattle.cedar_world.specs.Heights.{Heights, grown, context_height, SomeGrowsTooHigh, ContextIsTooHigh}
use Rattle.cedar_world.specs.InForce.{AreInForce}
use Rattle.cedar_world.specs.Question.{names_some}
use Rattle.cedar_world.specs.Setting.{Setting}
use Rattle.cedar_world.specs.World.{World, in_force_at}
use Rattle.cedar_evaluator.proofs.Lists.{IsAmong, contained}

is_below : (a b : ℕ) → (a < b) ⊎ ((a < b) → ⊥)
is_below a b = pick (cases_order a b)
  where
    pick : (a ≡ b) ⊎ ((a < b) ⊎ (b < a)) → (a < b) ⊎ ((a < b) → ⊥)
    pick (inl e) = inr (λ l. omega arith)
    pick (inr (inl l)) = inl l
    pick (inr (inr m)) = inr (λ l. omega arith)

is_at_most : (a b : ℕ) → (a ≤ b) ⊎ ((a ≤ b) → ⊥)
is_at_most a b = pick (cases_lt b a)
  where
    pick : (b < a) ⊎ (a ≤ b) → (a ≤ b) ⊎ ((a ≤ b) → ⊥)
    pick (inl l) = inr (λ m. omega arith)
    pick (inr m) = inl m

module _ (by : Setting) (world : World) (q : Question) (h : Heights) where
  abbrev IsInForce : Text × PolicySyntax → Type 0
  IsInForce p = in_force_at world.policies p.0 ≡ Some p.1

  abbrev Grows : Text × PolicySyntax → Type 0
  Grows p = by.depth ≤ grown h (condition p.1)

  abbrev NoneGrows : List (Text × PolicySyntax) → Type 0
  NoneGrows ps = (p : Text × PolicySyntax) → IsAmong p ps → Grows p → ⊥

  first_or_rest : (p : Text × PolicySyntax) (ps : List (Text × PolicySyntax)) → IsInForce p → Grows p ⊎ (Grows p → ⊥) → SomeGrowsTooHigh by world h ⊎ NoneGrows ps → SomeGrowsTooHigh by world h ⊎ NoneGrows (p ∷ ps)
  first_or_rest p ps force (inl high) rest = inl (p.0, p.1, force, high)
  first_or_rest p ps force (inr low) (inl some) = inl some
  first_or_rest p ps force (inr low) (inr none) = inr none_of
    where
      none_of : NoneGrows (p ∷ ps)
      none_of r (inl is) high = low (subst Grows (sym is) high)
      none_of r (inr a) high = none r a high

  some_or_none : (ps : List (Text × PolicySyntax)) → All IsInForce ps → SomeGrowsTooHigh by world h ⊎ NoneGrows ps
  some_or_none [] each = inr (λ p a high. absurd a)
  some_or_none (p ∷ ps) each = first_or_rest p ps (each 0 p (omega arith)) (is_at_most by.depth (grown h (condition p.1))) (some_or_none ps (λ k d lt. each (suc k) d (omega arith)))

  some_grows : (ps : List (Text × PolicySyntax)) → AreInForce world ps → ((SomeGrowsTooHigh by world h → ⊥) → ⊥) → SomeGrowsTooHigh by world h
  some_grows ps listed some = pick (some_or_none ps listed.each)
    where
      pick : SomeGrowsTooHigh by world h ⊎ NoneGrows ps → SomeGrowsTooHigh by world h
      pick (inl high) = high
      pick (inr none) = absurd (some (λ g. none (g.0, g.1) (contained ps (g.0, g.1) (listed.every g.0 g.1 g.2)) g.3))

  context_or_not : (b : Bool) → names_some q.context ≡ b → (by.depth < context_height h q.context) ⊎ ((by.depth < context_height h q.context) → ⊥) → ContextIsTooHigh by q h ⊎ (ContextIsTooHigh by q h → ⊥)
  context_or_not true is (inl high) = inl (is, high)
  context_or_not true is (inr low) = inr (λ c. low c.1)
  context_or_not false is order = inr (λ c. true≢false (sym c.0 ∙ is))

  neither : (SomeGrowsTooHigh by world h → ⊥) → (ContextIsTooHigh by q h → ⊥) → SomeGrowsTooHigh by world h ⊎ ContextIsTooHigh by q h → ⊥
  neither none low (inl g) = none g
  neither none low (inr c) = low c

  -- some condition in force grows too high, or the context does
  pub grows_too_high : (ps : List (Text × PolicySyntax)) → AreInForce world ps → ((SomeGrowsTooHigh by world h ⊎ ContextIsTooHigh by q h → ⊥) → ⊥) → SomeGrowsTooHigh by world h ⊎ ContextIsTooHigh by q h
  grows_too_high ps listed some = pick (context_or_not (names_some q.context) refl (is_below by.depth (context_height h q.context)))
    where
      pick : ContextIsTooHigh by q h ⊎ (ContextIsTooHigh by q h → ⊥) → SomeGrowsTooHigh by world h ⊎ ContextIsTooHigh by q h
      pick (inl high) = inr high
      pick (inr low) = inl (some_grows ps listed (λ none. some (neither none low)))
