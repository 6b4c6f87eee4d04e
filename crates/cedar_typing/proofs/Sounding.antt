-- Typings that are sound of an outcome, and capabilities that hold.
use Rattle.std.proofs.Common.{◌≡◌, Bool, true, false, cond, [], ◌∷◌, ◌++◌, refl, inl, inr}
use Rattle.cedar_language.proofs.Booleans.{and_left, and_right, or_cases}
use Rattle.cedar_language.specs.Value.{Kind, Outcome, Fails}
use Rattle.cedar_language.specs.Facts.{Facts}
use Rattle.cedar_language.specs.Meaning.{Request}
use Rattle.cedar_language.specs.Operators.{truth}
use Rattle.cedar_language.specs.Order.{same_text}
use Rattle.cedar_typing.specs.Types.{BoolType, AlwaysTrue, AlwaysFalse, Unsure}
use Rattle.cedar_typing.specs.Sameness.{same_tree}
use Rattle.cedar_typing.specs.Capabilities.{Capability, an_attribute, a_tag, Capabilities, same_capability, is_among, in_both, Holds, AllHold}
use Rattle.cedar_typing.specs.Results.{Typing, HasType, Faulty, known, unsure}
use Rattle.cedar_typing.specs.Lazies.{gives_where}
use Rattle.cedar_typing.specs.Validated.{TypesAllow, IsSound}
use Rattle.cedar_typing.proofs.Sameness.{never, text_is, tree_is}

capability_is : (c d : Capability) → same_capability c d ≡ true → c ≡ d
capability_is (an_attribute t a) (an_attribute u b) h =
    rw (tree_is t u (and_left (same_tree t u) (same_text a b) h), text_is a b (and_right (same_tree t u) (same_text a b) h)) refl
capability_is (a_tag t k) (a_tag u l) h =
    rw (tree_is t u (and_left (same_tree t u) (same_tree k l) h), tree_is k l (and_right (same_tree t u) (same_tree k l) h)) refl
capability_is c d h = never h

module _ (facts : Facts) (request : Request) where
  abbrev pub Sounds : Typing → Outcome → Type 0
  Sounds (HasType t c) o = IsSound facts request t c o
  Sounds (Faulty k) o = Unit {0}

  pub fails_soundly : (x : Typing) (k : Kind) → TypesAllow k → Sounds x (Fails k)
  fails_soundly (HasType t c) k h = h
  fails_soundly (Faulty f) k h = tt

  pub unsure_sound : (b : Bool) → Sounds unsure (truth b)
  unsure_sound b = ((b, refl, tt), λ _. tt)

  pub known_sound : (b c : Bool) → c ≡ b → Sounds (known b) (truth c)
  known_sound true c h = ((c, refl, h), λ _. tt)
  known_sound false c h = ((c, refl, h), λ _. tt)

  -- ---- capabilities

  pub hold_all : (cs ds : Capabilities) → AllHold facts request cs → AllHold facts request ds → AllHold facts request (cs ++ ds)
  hold_all [] ds h k = k
  hold_all (c ∷ cs) ds h k = (h.0, hold_all cs ds h.1 k)

  pub given_holds : (c : Capability) (ds : Capabilities) → AllHold facts request ds → is_among c ds ≡ true → Holds facts request c
  given_holds c [] h e = never e
  given_holds c (d ∷ ds) h e = elim (or_cases (same_capability d c) (is_among c ds) e) [
    | inl s ↦ rw (← capability_is d c s) h.0
    | inr k ↦ given_holds c ds h.1 k
  ]

  both_more : (b : Bool) (c : Capability) (cs : Capabilities) → (b ≡ true → Holds facts request c) → AllHold facts request cs →
      AllHold facts request (cond b (c ∷ cs) cs)
  both_more true c cs h k = (h refl, k)
  both_more false c cs h k = k

  pub both_left : (cs ds : Capabilities) → AllHold facts request cs → AllHold facts request (in_both cs ds)
  both_left [] ds h = tt
  both_left (c ∷ cs) ds h = both_more (is_among c ds) c (in_both cs ds) (λ _. h.0) (both_left cs ds h.1)

  pub both_right : (cs ds : Capabilities) → AllHold facts request ds → AllHold facts request (in_both cs ds)
  both_right [] ds h = tt
  both_right (c ∷ cs) ds h = both_more (is_among c ds) c (in_both cs ds) (given_holds c ds h) (both_right cs ds h)

  pub gives_hold : (t : BoolType) (c : Capabilities) → AllHold facts request c → AllHold facts request (gives_where t c)
  gives_hold AlwaysTrue c h = h
  gives_hold AlwaysFalse c h = tt
  gives_hold Unsure c h = h
