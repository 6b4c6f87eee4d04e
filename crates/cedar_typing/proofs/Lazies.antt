-- `&&`, `||` and `if` of sound parts are sound.
use Rattle.std.proofs.Common.{◌≡◌, Bool, true, false, ◌++◌, Option, Some, None, refl, sym, ap, ◌∙◌}
use Rattle.cedar_language.specs.Tree.{Boolean}
use Rattle.cedar_language.specs.Value.{Value, Plain, Kind, Outcome, Gives, Fails}
use Rattle.cedar_language.specs.Facts.{Facts}
use Rattle.cedar_language.specs.Meaning.{Request, boolean_of, and_of, or_of, if_of}
use Rattle.cedar_typing.specs.Types.{BoolType, AlwaysTrue, AlwaysFalse, Unsure, CedarType, Booleans, lub}
use Rattle.cedar_typing.specs.Capabilities.{Capabilities, in_both, AllHold}
use Rattle.cedar_typing.specs.Results.{Typing, HasType, Faulty}
use Rattle.cedar_typing.specs.Lazies.{and_bool, and_with, and_typing, or_with, boolean_alone, or_typing, with_more, if_lub, if_both, if_typing}
use Rattle.cedar_typing.specs.Conforming.{IsBoolOf}
use Rattle.cedar_typing.proofs.Sameness.{never}
use Rattle.cedar_typing.proofs.Sounding.{Sounds, fails_soundly, hold_all, both_left, both_right, gives_hold}
use Rattle.cedar_typing.proofs.Lub.{IsAbove, lub_above}

abbrev pub boolean : Bool → Value
boolean b = Plain (Boolean b)

boolean_in : Value → Bool
boolean_in (Plain (Boolean b)) = b
boolean_in v = false

-- a Boolean that is another
pub boolean_is : (b c : Bool) → boolean b ≡ boolean c → b ≡ c
unfolding boolean_in
boolean_is b c e = ap boolean_in e

not_true : {A : Type 0} → boolean false ≡ boolean true → A
not_true e = never (boolean_is false true e)

truth_and_true : (u : BoolType) (b : Bool) → IsBoolOf u b → IsBoolOf (and_bool AlwaysTrue u) b
truth_and_true u b h = h

truth_and_unsure : (u : BoolType) (b : Bool) → IsBoolOf u b → IsBoolOf (and_bool Unsure u) b
truth_and_unsure AlwaysTrue b h = tt
truth_and_unsure AlwaysFalse b h = h
truth_and_unsure Unsure b h = tt

truth_and_false : (u : BoolType) → IsBoolOf (and_bool Unsure u) false
truth_and_false AlwaysTrue = tt
truth_and_false AlwaysFalse = refl
truth_and_false Unsure = tt

module _ (facts : Facts) (request : Request) where
  abbrev S : Typing → Outcome → Type 0
  S x o = Sounds facts request x o

  -- ---- `&&`

  and_with_value : (t : BoolType) (c d : Capabilities) (u : BoolType) (v : Value) → ((b : Bool) → IsBoolOf u b → IsBoolOf (and_bool t u) b) →
      AllHold facts request c → S (HasType (Booleans u) d) (Gives v) → S (and_with t c (HasType (Booleans u) d)) (boolean_of (Gives v))
  and_with_value t c d u v f h s =
      let e : v ≡ boolean s.0.0 = s.0.1 in
      rw e ((s.0.0, refl, f s.0.0 s.0.2), λ k. gives_hold facts request (and_bool t u) (d ++ c) (hold_all facts request d c (s.1 (e ∙ k)) h))

  and_with_sound : (t : BoolType) (c : Capabilities) (y : Typing) (p : Outcome) → ((u : BoolType) (b : Bool) → IsBoolOf u b → IsBoolOf (and_bool t u) b) →
      AllHold facts request c → S y p → S (and_with t c y) (boolean_of p)
  and_with_sound t c (HasType (Booleans u) d) (Gives v) f h s = and_with_value t c d u v (f u) h s
  and_with_sound t c y (Fails k) f h s = allowed t c y k s
    where
      allowed : (t : BoolType) (c : Capabilities) (y : Typing) (k : Kind) → S y (Fails k) → S (and_with t c y) (Fails k)
      allowed t c (HasType (Booleans u) d) k s = s
      allowed t c (HasType ty d) k s = tt
      allowed t c (Faulty f) k s = tt
  and_with_sound t c (HasType ty d) (Gives v) f h s = tt
  and_with_sound t c (Faulty k) (Gives v) f h s = tt

  and_false_sound : (c : Capabilities) (y : Typing) → S (and_with Unsure c y) (Gives (boolean false))
  and_false_sound c (HasType (Booleans u) d) = ((false, refl, truth_and_false u), λ e. not_true e)
  and_false_sound c (HasType ty d) = tt
  and_false_sound c (Faulty k) = tt

  and_at : (t : BoolType) (c : Capabilities) (b : Bool) → IsBoolOf t b → (b ≡ true → AllHold facts request c) → (f : Capabilities → Typing) (p : Outcome) →
      (b ≡ true → S (f c) p) → S (and_typing (HasType (Booleans t) c) f) (and_of (Gives (boolean b)) p)
  and_at AlwaysFalse c true h k f p r = never (sym h)
  and_at AlwaysFalse c false h k f p r = ((false, refl, refl), λ _. tt)
  and_at AlwaysTrue c true h k f p r = and_with_sound AlwaysTrue c (f c) p truth_and_true (k refl) (r refl)
  and_at AlwaysTrue c false h k f p r = never h
  and_at Unsure c true h k f p r = and_with_sound Unsure c (f c) p truth_and_unsure (k refl) (r refl)
  and_at Unsure c false h k f p r = and_false_sound c (f c)

  -- the right operand may count on what the left one's truth gives, and on that truth
  pub and_sound : (x : Typing) (o : Outcome) (f : Capabilities → Typing) (p : Outcome) → S x o →
      ((t : BoolType) (c : Capabilities) → x ≡ HasType (Booleans t) c → AllHold facts request c → o ≡ Gives (boolean true) → S (f c) p) → S (and_typing x f)
      (and_of o p)
  and_sound (HasType (Booleans t) c) (Gives v) f p s r =
      let e : v ≡ boolean s.0.0 = s.0.1 in
      rw e (and_at t c s.0.0 s.0.2 (λ i. s.1 (e ∙ ap boolean i)) f p (λ i. r t c refl (s.1 (e ∙ ap boolean i)) (ap Gives (e ∙ ap boolean i))))
  and_sound (HasType (Booleans t) c) (Fails k) f p s r = fails_soundly facts request (and_typing (HasType (Booleans t) c) f) k s
  and_sound (HasType ty c) o f p s r = tt
  and_sound (Faulty k) o f p s r = tt

  -- ---- `||`

  or_with_value : (c d : Capabilities) (u : BoolType) (b : Bool) → IsBoolOf u b → (b ≡ true → AllHold facts request d) →
      S (or_with c (HasType (Booleans u) d)) (Gives (boolean b))
  or_with_value c d AlwaysTrue b h k = ((b, refl, h), λ _. tt)
  or_with_value c d AlwaysFalse true h k = never (sym h)
  or_with_value c d AlwaysFalse false h k = ((false, refl, tt), λ e. not_true e)
  or_with_value c d Unsure b h k = ((b, refl, tt), λ e. both_right facts request c d (k (boolean_is b true e)))

  or_with_sound : (c : Capabilities) (y : Typing) (p : Outcome) → S y p → S (or_with c y) (boolean_of p)
  or_with_sound c (HasType (Booleans u) d) (Gives v) s =
      let e : v ≡ boolean s.0.0 = s.0.1 in rw e (or_with_value c d u s.0.0 s.0.2 (λ i. s.1 (e ∙ ap boolean i)))
  or_with_sound c (HasType (Booleans u) d) (Fails k) s = fails_soundly facts request (or_with c (HasType (Booleans u) d)) k s
  or_with_sound c (HasType ty d) p s = tt
  or_with_sound c (Faulty k) p s = tt

  -- where the left operand is true
  or_true_sound : (c : Capabilities) (y : Typing) → AllHold facts request c → S (or_with c y) (Gives (boolean true))
  or_true_sound c (HasType (Booleans AlwaysTrue) d) h = ((true, refl, refl), λ _. tt)
  or_true_sound c (HasType (Booleans AlwaysFalse) d) h = ((true, refl, tt), λ _. h)
  or_true_sound c (HasType (Booleans Unsure) d) h = ((true, refl, tt), λ _. both_left facts request c d h)
  or_true_sound c (HasType ty d) h = tt
  or_true_sound c (Faulty k) h = tt

  alone_sound : (y : Typing) (p : Outcome) → S y p → S (boolean_alone y) (boolean_of p)
  alone_sound (HasType (Booleans u) d) (Gives v) s = let e : v ≡ boolean s.0.0 = s.0.1 in rw e ((s.0.0, refl, s.0.2), λ k. s.1 (e ∙ k))
  alone_sound (HasType (Booleans u) d) (Fails k) s = s
  alone_sound (HasType ty d) p s = tt
  alone_sound (Faulty k) p s = tt

  or_at : (t : BoolType) (c : Capabilities) (b : Bool) → IsBoolOf t b → (b ≡ true → AllHold facts request c) → (y : Typing) (p : Outcome) → S y p →
      S (or_typing (HasType (Booleans t) c) y) (or_of (Gives (boolean b)) p)
  or_at AlwaysTrue c true h k y p s = ((true, refl, refl), λ _. tt)
  or_at AlwaysTrue c false h k y p s = never h
  or_at AlwaysFalse c true h k y p s = never (sym h)
  or_at AlwaysFalse c false h k y p s = alone_sound y p s
  or_at Unsure c true h k y p s = or_true_sound c y (k refl)
  or_at Unsure c false h k y p s = or_with_sound c y p s

  pub or_sound : (x : Typing) (o : Outcome) (y : Typing) (p : Outcome) → S x o → S y p → S (or_typing x y) (or_of o p)
  or_sound (HasType (Booleans t) c) (Gives v) y p s r =
      let e : v ≡ boolean s.0.0 = s.0.1 in rw e (or_at t c s.0.0 s.0.2 (λ i. s.1 (e ∙ ap boolean i)) y p r)
  or_sound (HasType (Booleans t) c) (Fails k) y p s r = fails_soundly facts request (or_typing (HasType (Booleans t) c) y) k s
  or_sound (HasType ty c) o y p s r = tt
  or_sound (Faulty k) o y p s r = tt

  -- ---- `if`

  more_sound : (c : Capabilities) (y : Typing) (p : Outcome) → AllHold facts request c → S y p → S (with_more c y) p
  more_sound c (HasType t d) (Gives v) h s = (s.0, λ k. hold_all facts request d c (s.1 k) h)
  more_sound c (HasType t d) (Fails k) h s = s
  more_sound c (Faulty k) p h s = tt

  lub_left : (o : Option CedarType) (t u : CedarType) (c d e : Capabilities) → IsAbove o t u → (p : Outcome) → AllHold facts request c → S (HasType t d) p →
      S (if_lub o (in_both (d ++ c) e)) p
  lub_left (Some w) t u c d e a (Gives v) h s = ((a v).0 s.0, λ k. both_left facts request (d ++ c) e (hold_all facts request d c (s.1 k) h))
  lub_left (Some w) t u c d e a (Fails k) h s = s
  lub_left None t u c d e a p h s = tt

  lub_right : (o : Option CedarType) (t u : CedarType) (c e : Capabilities) → IsAbove o t u → (q : Outcome) → S (HasType u e) q → S (if_lub o (in_both c e)) q
  lub_right (Some w) t u c e a (Gives v) s = ((a v).1 s.0, λ k. both_right facts request c e (s.1 k))
  lub_right (Some w) t u c e a (Fails k) s = s
  lub_right None t u c e a q s = tt

  both_true : (c : Capabilities) (y z : Typing) (p : Outcome) → AllHold facts request c → S y p → S (if_both c y z) p
  both_true c (HasType t d) (HasType u e) p h s = lub_left (lub t u) t u c d e (lub_above t u) p h s
  both_true c (HasType t d) (Faulty k) p h s = tt
  both_true c (Faulty k) z p h s = tt

  both_false : (c : Capabilities) (y z : Typing) (q : Outcome) → S z q → S (if_both c y z) q
  both_false c (HasType t d) (HasType u e) q s = lub_right (lub t u) t u (d ++ c) e (lub_above t u) q s
  both_false c (HasType t d) (Faulty k) q s = tt
  both_false c (Faulty k) z q s = tt

  if_at : (t : BoolType) (c : Capabilities) (b : Bool) → IsBoolOf t b → (b ≡ true → AllHold facts request c) → (f : Capabilities → Typing) (p : Outcome) →
      (b ≡ true → S (f c) p) → (z : Typing) (q : Outcome) → S z q → S (if_typing (HasType (Booleans t) c) f z) (if_of (Gives (boolean b)) p q)
  if_at AlwaysTrue c true h k f p r z q s = more_sound c (f c) p (k refl) (r refl)
  if_at AlwaysTrue c false h k f p r z q s = never h
  if_at AlwaysFalse c true h k f p r z q s = never (sym h)
  if_at AlwaysFalse c false h k f p r z q s = s
  if_at Unsure c true h k f p r z q s = both_true c (f c) z p (k refl) (r refl)
  if_at Unsure c false h k f p r z q s = both_false c (f c) z q s

  pub if_sound : (x : Typing) (o : Outcome) (f : Capabilities → Typing) (p : Outcome) (z : Typing) (q : Outcome) → S x o →
      ((c : Capabilities) → AllHold facts request c → S (f c) p) → S z q → S (if_typing x f z) (if_of o p q)
  if_sound (HasType (Booleans t) c) (Gives v) f p z q s r i =
      let e : v ≡ boolean s.0.0 = s.0.1 in
      rw e (if_at t c s.0.0 s.0.2 (λ j. s.1 (e ∙ ap boolean j)) f p (λ j. r c (s.1 (e ∙ ap boolean j))) z q i)
  if_sound (HasType (Booleans t) c) (Fails k) f p z q s r i = fails_soundly facts request (if_typing (HasType (Booleans t) c) f z) k s
  if_sound (HasType ty c) o f p z q s r i = tt
  if_sound (Faulty k) o f p z q s r i = tt
