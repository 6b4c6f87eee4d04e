-- The ids of each group are some of those that are kept, so that one that isn't among these stands in no group.
use Rattle.std.proofs.Common.{◌≡◌, Bool, true, false, ◌||◌, Option, Some, None, List, [], ◌∷◌, map, refl, sym, ◌∙◌, ap}
use Rattle.std.specs.List.{filter_map, cons_option}
use Rattle.std.specs.Map.{lookup, keys_of}
use Rattle.std.specs.Set.{is_member}
use Rattle.std.proofs.lemmas.List.{map-id}
use Rattle.std.proofs.lemmas.Map.Made.{is_some-lookup, keys_of-map_values}
use Rattle.cedar_language.specs.Answering.{Effect, Permit, Forbid}
use Rattle.cedar_language.specs.Order.{same_text}
use Rattle.cedar_language.specs.Tree.{Tree}
use Rattle.cedar_language.specs.Uid.{Text}
use Rattle.cedar_policies.specs.Policies.{policy_id}
use Rattle.cedar_policies.specs.declared.policies.Policy.{Policy}
use Rattle.cedar_policy_set.proofs.Finding.{none_from}
use Rattle.cedar_trees.specs.Bare.{bare}
use Rattle.cedar_evaluator.specs.Evaluations.{Found, Satisfied, Unsatisfied, Erred, Open, Kept}
use Rattle.cedar_evaluator.specs.Grouping.{held_with, ids_of, IsNew}
use Rattle.cedar_evaluator.specs.Holding.{has_erred, holding_in}
use Rattle.cedar_evaluator.specs.Responses.{Holding, if_effect, satisfied_id, false_id, open_id, satisfied_of, false_of, open_of, holding_of, without_false}
use Rattle.cedar_evaluator.specs.declared.partial_response.PartialResponse.{PartialResponse}
use Rattle.std.proofs.lemmas.Bool.{or_parts as either_false}

-- ---- any group

-- entries have nothing at an id that isn't among theirs
nothing_at : {V : Type 0} (es : List (Text × V)) (ids : List Text) (id : Text) → keys_of es ≡ ids → is_member same_text ids id ≡ false → lookup (same_text id) es ≡ None
nothing_at es ids id are free = none_from (lookup (same_text id) es) (is_some-lookup (same_text id) es ∙ ap (λ l. is_member same_text l id) are ∙ free)

module _ (id : Text) {X : Type 0} (part : Kept → Option X) (name : X → Text) (named : (k : Kept) (x : X) → part k ≡ Some x → name x ≡ k.id) where
  one_free : (k : Kept) (rest : List X) (o : Option X) → part k ≡ o → same_text id k.id ≡ false → is_member same_text (map name rest) id ≡ false → is_member same_text (map name (cons_option o rest)) id ≡ false
  one_free k rest None is here others = others
  one_free k rest (Some x) is here others = λ i. (ap (same_text id) (named k x is) ∙ here) i || others i

  part_free : (ks : List Kept) → is_member same_text (ids_of ks) id ≡ false → is_member same_text (map name (filter_map part ks)) id ≡ false
  part_free [] free = refl
  part_free (k ∷ ks) free =
      let (here, others) = either_false (same_text id k.id) (is_member same_text (ids_of ks) id) free in
      one_free k (filter_map part ks) (part k) refl here (part_free ks others)

-- ---- each group

of_effect : {X : Type 0} (e d : Effect) (o : Option X) (x : X) → if_effect e d o ≡ Some x → o ≡ Some x
of_effect Permit Permit o x h = h
of_effect Permit Forbid o x h = absurd (cc h)
of_effect Forbid Permit o x h = absurd (cc h)
of_effect Forbid Forbid o x h = h

pub some_same : {A : Type 0} (x y : A) → Some x ≡ Some y → y ≡ x
some_same x y e = cc

satisfied_named : (id : Text) (f : Found) (x : Text) → satisfied_id id f ≡ Some x → x ≡ id
satisfied_named id Satisfied x h = some_same id x h
satisfied_named id Unsatisfied x h = absurd (cc h)
satisfied_named id (Erred e) x h = absurd (cc h)
satisfied_named id (Open t) x h = absurd (cc h)

false_named : (id : Text) (f : Found) (x : Text × Bool) → false_id id f ≡ Some x → x.0 ≡ id
false_named id Satisfied x h = absurd (cc h)
false_named id Unsatisfied x h = ap (λ (y : Text × Bool). y.0) (some_same (id, false) x h)
false_named id (Erred e) x h = ap (λ (y : Text × Bool). y.0) (some_same (id, true) x h)
false_named id (Open t) x h = absurd (cc h)

open_named : (id : Text) (f : Found) (x : Text × Tree) → open_id id f ≡ Some x → x.0 ≡ id
open_named id Satisfied x h = absurd (cc h)
open_named id Unsatisfied x h = absurd (cc h)
open_named id (Erred e) x h = absurd (cc h)
open_named id (Open t) x h = ap (λ (y : Text × Tree). y.0) (some_same (id, t) x h)

module _ (e : Effect) (ks : List Kept) (id : Text) (free : is_member same_text (ids_of ks) id ≡ false) where
  satisfied_free : is_member same_text (satisfied_of e ks) id ≡ false
  satisfied_free =
      ap (λ l. is_member same_text l id) (sym (map-id (satisfied_of e ks)))
      ∙ part_free id (λ (k : Kept). if_effect e k.effect (satisfied_id k.id k.found)) (λ t. t) (λ k x h. satisfied_named k.id k.found x (of_effect e k.effect (satisfied_id k.id k.found) x h)) ks free

  false_free : is_member same_text (keys_of (false_of e ks)) id ≡ false
  false_free =
      part_free id (λ (k : Kept). if_effect e k.effect (false_id k.id k.found)) (λ x. x.0) (λ k x h. false_named k.id k.found x (of_effect e k.effect (false_id k.id k.found) x h)) ks free

  open_free : is_member same_text (keys_of (open_of e ks)) id ≡ false
  open_free =
      part_free id (λ (k : Kept). if_effect e k.effect (open_id k.id k.found)) (λ x. x.0) (λ k x h. open_named k.id k.found x (of_effect e k.effect (open_id k.id k.found) x h)) ks free

-- ---- all groups

module _ (p : Policy) (r : PartialResponse) where
  -- none of these is the policy's id
  abbrev IsOther : List Text → Type 0
  IsOther ids = is_member same_text ids (policy_id p) ≡ false

  new_by : (h : Holding) → holding_in r ≡ h → IsOther h.satisfied_permits → IsOther (keys_of h.false_permits) → IsOther (keys_of h.open_permits) → IsOther h.satisfied_forbids → IsOther (keys_of h.false_forbids) → IsOther (keys_of h.open_forbids) → IsNew p r
  new_by h is satisfied_permits false_permits open_permits satisfied_forbids false_forbids open_forbids =
      let id = policy_id p in
      record {
        satisfied_permits = nothing_at r.satisfied_permits h.satisfied_permits id (ap (λ (k : Holding). k.satisfied_permits) is) satisfied_permits;
        false_permits = nothing_at r.false_permits (keys_of h.false_permits) id (sym (keys_of-map_values (λ v. has_erred v.0) r.false_permits) ∙ ap (λ (k : Holding). keys_of k.false_permits) is) false_permits;
        open_permits = nothing_at r.residual_permits (keys_of h.open_permits) id (sym (keys_of-map_values (λ v. bare v.0.value) r.residual_permits) ∙ ap (λ (k : Holding). keys_of k.open_permits) is) open_permits;
        satisfied_forbids = nothing_at r.satisfied_forbids h.satisfied_forbids id (ap (λ (k : Holding). k.satisfied_forbids) is) satisfied_forbids;
        false_forbids = nothing_at r.false_forbids (keys_of h.false_forbids) id (sym (keys_of-map_values (λ v. has_erred v.0) r.false_forbids) ∙ ap (λ (k : Holding). keys_of k.false_forbids) is) false_forbids;
        open_forbids = nothing_at r.residual_forbids (keys_of h.open_forbids) id (sym (keys_of-map_values (λ v. bare v.0.value) r.residual_forbids) ∙ ap (λ (k : Holding). keys_of k.open_forbids) is) open_forbids;
      }

  -- a policy whose id isn't among those that are kept is new
  pub is_new : (with_false : Bool) (ks : List Kept) → holding_in r ≡ held_with with_false (holding_of ks) → is_member same_text (ids_of ks) (policy_id p) ≡ false → IsNew p r
  is_new true ks holds free =
      let id = policy_id p in
      new_by (holding_of ks) holds (satisfied_free Permit ks id free) (false_free Permit ks id free) (open_free Permit ks id free) (satisfied_free Forbid ks id free) (false_free Forbid ks id free) (open_free Forbid ks id free)
  is_new false ks holds free =
      let id = policy_id p in
      new_by (without_false (holding_of ks)) holds (satisfied_free Permit ks id free) refl (open_free Permit ks id free) (satisfied_free Forbid ks id free) refl (open_free Forbid ks id free)
