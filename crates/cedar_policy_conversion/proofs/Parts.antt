-- A scope by its parts.
use Rattle.std.proofs.Common.{◌≡◌, ◌<◌, ℕ, List, [], ◌∷◌, ◌++◌, Option, Some, None, Result, Ok, Err, Bor, length, map, refl, sym, ap, ◌∙◌, subst, arith}
use Rattle.std.specs.Prelude.{slice_get, cond}
use Rattle.std.specs.Option.{option_map}
use Rattle.std.specs.Slice.{IsItemAt}
use Rattle.std.proofs.lemmas.Bool.{lt-leb}
use Rattle.std.proofs.lemmas.Option.{slice_get_past, slice_get_read, slice_get-map}
use Rattle.cedar_grammar.specs.Token as token
use Rattle.cedar_grammar.specs.Policy as policy
use Rattle.cedar_grammar.specs.Policy.{Constraint}
use Rattle.cedar_grammar.specs.Steps.{◌>>=◌}
use Rattle.cedar_grammar.specs.Loose as loose
use Rattle.cedar_grammar.specs.Converting.{constraint, action_constraint, scope_syntax}
use Rattle.cedar_policy_parts.specs.Actions.{action_of}
use Rattle.cedar_policy_parts.specs.declared.actions.ActionConstraint.{ActionConstraint}
use Rattle.cedar_faults.specs.declared.errors.ConversionError.{ConversionError}
use Rattle.cedar_faults.specs.Flat.{Flat4, failing}
use Rattle.cedar_faults.specs.Reasons.{reason}
use Rattle.cedar_faults.specs.Converts.{Finds, Lacks}
use Rattle.cedar_policy_conversion.specs.Scopes.{no_more, scope_of}
use Rattle.cedar_policy_conversion.proofs.Finding.{found, one_lacks, more_lack, together_lack}

-- all four, and the first three together
abbrev pub whole : {A B C D : Type 0} → Option A → Option B → Option C → Option D → Option (A × B × C)
whole a b c d = a >>= λ x. b >>= λ y. c >>= λ z. d >>= λ u. Some ((x, y, z))

pub lacks_first : {A B C D : Type 0} (a : Option A) (b : Option B) (c : Option C) (d : Option D) → a ≡ None → whole a b c d ≡ None
lacks_first a b c d h = ap (λ o. whole o b c d) h

pub lacks_second : {A B C D : Type 0} (a : Option A) (b : Option B) (c : Option C) (d : Option D) → b ≡ None → whole a b c d ≡ None
lacks_second None b c d h = refl
lacks_second (Some x) b c d h = ap (λ o. whole (Some x) o c d) h

pub lacks_third : {A B C D : Type 0} (a : Option A) (b : Option B) (c : Option C) (d : Option D) → c ≡ None → whole a b c d ≡ None
lacks_third None b c d h = refl
lacks_third (Some x) None c d h = refl
lacks_third (Some x) (Some y) c d h = ap (λ o. whole (Some x) (Some y) o d) h

pub lacks_fourth : {A B C D : Type 0} (a : Option A) (b : Option B) (c : Option C) (d : Option D) → d ≡ None → whole a b c d ≡ None
lacks_fourth None b c d h = refl
lacks_fourth (Some x) None c d h = refl
lacks_fourth (Some x) (Some y) None d h = refl
lacks_fourth (Some x) (Some y) (Some z) d h = ap (λ o. whole (Some x) (Some y) (Some z) o) h

abbrev pub parts : List loose.VariableDef → Option (Constraint × policy.ActionConstraint × Constraint)
parts ds = whole (slice_get ds 0 >>= constraint token.Principal) (slice_get ds 1 >>= action_constraint) (slice_get ds 2 >>= constraint token.Resource) (no_more ds)

too_many : {A : Type 0} (xs : List A) → 3 < length xs → no_more xs ≡ None
too_many xs h = ap (λ b. cond b (Some tt) None) (lt-leb (length xs) 3 h)

pub scope_is : (ds : List loose.VariableDef) → scope_syntax ds ≡ parts ds
scope_is [] = refl
scope_is (p ∷ []) = sym (lacks_second (constraint token.Principal p) None None (no_more (p ∷ [])) refl)
scope_is (p ∷ a ∷ []) = sym (lacks_third (constraint token.Principal p) (action_constraint a) None (no_more (p ∷ a ∷ [])) refl)
scope_is (p ∷ a ∷ r ∷ []) = refl
scope_is (p ∷ a ∷ r ∷ x ∷ xs) = sym (lacks_fourth (constraint token.Principal p) (action_constraint a) (constraint token.Resource r) (no_more (p ∷ a ∷ r ∷ x ∷ xs)) (too_many (p ∷ a ∷ r ∷ x ∷ xs) (omega arith)))

-- what is seen of an element, where it is there
pub got : {X Y : Type 0} (seen : X → Y) (xs : List X) (i : ℕ) (r : Option (Bor X)) → IsItemAt xs i r → option_map (λ n. seen n.now) r ≡ slice_get (map seen xs) i
got seen xs i None h = sym (slice_get-map seen xs i ∙ ap (option_map seen) (slice_get_past xs i h.3))
got seen xs i (Some x) h = sym (slice_get-map seen xs i ∙ ap (option_map seen) (slice_get_read xs (length xs) i x.now refl h.3.0 h.1))

-- ---- the parts together

module _ {E : Type 0} (ds : List loose.VariableDef) (p : Result Constraint (ConversionError E)) (a : Result ActionConstraint (ConversionError E)) (r : Result Constraint (ConversionError E)) (o : Result Unit (ConversionError E)) where
  abbrev principal : Option Constraint
  principal = slice_get ds 0 >>= constraint token.Principal

  abbrev action : Option policy.ActionConstraint
  action = slice_get ds 1 >>= action_constraint

  abbrev resource : Option Constraint
  resource = slice_get ds 2 >>= constraint token.Resource

  pub scope_lacks : (e : ConversionError E) → Finds (λ c. c) p principal → Finds action_of a action → Finds (λ c. c) r resource → Finds (λ u. u) o (no_more ds) → Flat4 p a r o (Err e) → Lacks (reason e) (scope_syntax ds)
  scope_lacks e hp ha hr ho flat =
      let first = one_lacks (λ c. c) p principal (parts ds) hp (lacks_first principal action resource (no_more ds)) in
      let second = one_lacks action_of a action (parts ds) ha (lacks_second principal action resource (no_more ds)) in
      let third = one_lacks (λ c. c) r resource (parts ds) hr (lacks_third principal action resource (no_more ds)) in
      let fourth = one_lacks (λ u. u) o (no_more ds) (parts ds) ho (lacks_fourth principal action resource (no_more ds)) in
      let two = more_lack (failing p) (failing a) (parts ds) first second in
      let three = more_lack (failing p ++ failing a) (failing r) (parts ds) two third in
      let four = more_lack (failing p ++ failing a ++ failing r) (failing o) (parts ds) three fourth in
      subst (λ w. Lacks (reason e) w) (sym (scope_is ds)) (together_lack (failing p ++ failing a ++ failing r ++ failing o) e (parts ds) four flat)

  pub scope_found : (q : Constraint × ActionConstraint × Constraint × Unit) → Finds (λ c. c) p principal → Finds action_of a action → Finds (λ c. c) r resource → Finds (λ u. u) o (no_more ds) → Flat4 p a r o (Ok q) → scope_syntax ds ≡ Some (scope_of (q.0, q.1, q.2))
  scope_found q hp ha hr ho flat =
      scope_is ds
      ∙ ap (λ x. whole x action resource (no_more ds)) (found (λ c. c) p principal q.0 hp flat.0)
      ∙ ap (λ y. whole (Some q.0) y resource (no_more ds)) (found action_of a action q.1 ha flat.1)
      ∙ ap (λ z. whole (Some q.0) (Some (action_of q.1)) z (no_more ds)) (found (λ c. c) r resource q.2 hr flat.2)
      ∙ ap (λ u. whole (Some q.0) (Some (action_of q.1)) (Some q.2) u) (found (λ u. u) o (no_more ds) q.3 ho flat.3)
