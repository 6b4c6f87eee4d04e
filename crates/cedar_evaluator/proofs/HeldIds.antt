-- The ids of the six groups of what a response holds are those that are kept, each once, in another order.
use Rattle.std.proofs.Common.{◌≡◌, Bool, true, false, List, [], ◌∷◌, ◌++◌, map, sym, ◌∙◌, ap, subst}
use Rattle.std.specs.List.{IsDistinct, cons_option}
use Rattle.std.specs.List.Sorted.{IsPermutation}
use Rattle.std.specs.Map.{keys_of}
use Rattle.std.specs.Cmp.Lexicographic.{nat_list_eq_equiv}
use Rattle.std.proofs.lemmas.List.{append-nil, append_assoc, map-append}
use Rattle.std.proofs.lemmas.List.Sorted.{IsPermutation-refl, IsPermutation-trans, IsPermutation-cons, IsPermutation-sym, IsPermutation-middle, IsPermutation-append_left, IsPermutation-append_comm}
use Rattle.std.proofs.lemmas.Map.Keys.{IsDistinct-tail, IsDistinct-IsPermutation}
use Rattle.std.proofs.lemmas.Map.Made.{keys_of-map_values}
use Rattle.cedar_language.specs.Answering.{Effect, Permit, Forbid}
use Rattle.cedar_language.specs.Order.{same_text}
use Rattle.cedar_language.specs.Uid.{Text}
use Rattle.cedar_policy_set.specs.Entries.{Entries}
use Rattle.cedar_trees.specs.Bare.{bare}
use Rattle.cedar_evaluator.specs.Evaluations.{Found, Satisfied, Unsatisfied, Erred, Open, Kept}
use Rattle.cedar_evaluator.specs.Grouping.{held_with, ids_of}
use Rattle.cedar_evaluator.specs.Holding.{has_erred, holding_in}
use Rattle.cedar_evaluator.specs.Residuals.{left_satisfied, left_false, left_open, residuals_with, is_any}
use Rattle.cedar_evaluator.specs.Responses.{Holding, if_effect, satisfied_id, false_id, open_id, holding_of}
use Rattle.cedar_evaluator.specs.declared.partial_response.PartialResponse.{PartialResponse}
use Rattle.cedar_evaluator.proofs.Residuals.{satisfied_permits_left, false_permits_left, open_permits_left, satisfied_forbids_left, false_forbids_left, open_forbids_left, left_all}

abbrev held_ids : Holding → List Text
held_ids h = h.satisfied_permits ++ keys_of h.false_permits ++ keys_of h.open_permits ++ h.satisfied_forbids ++ keys_of h.false_forbids ++ keys_of h.open_forbids

-- ---- what is left stands under these ids

keys_six : (a b c d e f : Entries) → keys_of (a ++ b ++ c ++ d ++ e ++ f) ≡ keys_of a ++ keys_of b ++ keys_of c ++ keys_of d ++ keys_of e ++ keys_of f
keys_six a b c d e f =
    map-append (λ x. x.0) (a ++ b ++ c ++ d ++ e) f
    ∙ ap (λ l. l ++ keys_of f) (map-append (λ x. x.0) (a ++ b ++ c ++ d) e)
    ∙ ap (λ l. l ++ keys_of e ++ keys_of f) (map-append (λ x. x.0) (a ++ b ++ c) d)
    ∙ ap (λ l. l ++ keys_of d ++ keys_of e ++ keys_of f) (map-append (λ x. x.0) (a ++ b) c)
    ∙ ap (λ l. l ++ keys_of c ++ keys_of d ++ keys_of e ++ keys_of f) (map-append (λ x. x.0) a b)

-- a group has the same ids, whichever way it is seen
same_keys : {U V W : Type 0} (f : U → V) (g : U → W) (es : List (Text × U)) → keys_of (map (λ (e : Text × U). (e.0, f e.1)) es) ≡ keys_of (map (λ (e : Text × U). (e.0, g e.1)) es)
same_keys f g es = keys_of-map_values f es ∙ sym (keys_of-map_values g es)

module _ (r : PartialResponse) where
  ids_left : keys_of (residuals_with is_any r) ≡ held_ids (holding_in r)
  ids_left =
      ap keys_of (left_all r)
      ∙ keys_six (satisfied_permits_left r) (false_permits_left r) (open_permits_left r) (satisfied_forbids_left r) (false_forbids_left r) (open_forbids_left r)
      ∙ (λ i.
      keys_of-map_values (λ v. (left_satisfied Permit ([], v)).1) r.satisfied_permits i
      ++ same_keys (λ v. (left_false Permit ([], v)).1) (λ v. has_erred v.0) r.false_permits i
      ++ same_keys (λ v. (left_open Permit ([], v)).1) (λ v. bare v.0.value) r.residual_permits i
      ++ keys_of-map_values (λ v. (left_satisfied Forbid ([], v)).1) r.satisfied_forbids i
      ++ same_keys (λ v. (left_false Forbid ([], v)).1) (λ v. has_erred v.0) r.false_forbids i
      ++ same_keys (λ v. (left_open Forbid ([], v)).1) (λ v. bare v.0.value) r.residual_forbids i)

-- ---- they are those that are kept

moved : (x : Text) (xs ys : List Text) → IsPermutation (x ∷ (xs ++ ys)) (xs ++ x ∷ ys)
moved x xs ys = IsPermutation-sym _ _ (IsPermutation-middle xs x ys)

module _ (x : Text) (a b c d e f : List Text) where
  to_second : IsPermutation (x ∷ (a ++ b ++ c ++ d ++ e ++ f)) (a ++ (x ∷ b) ++ c ++ d ++ e ++ f)
  to_second = IsPermutation-append_left f _ _ (IsPermutation-append_left e _ _ (IsPermutation-append_left d _ _ (IsPermutation-append_left c _ _ (moved x a b))))

  to_third : IsPermutation (x ∷ (a ++ b ++ c ++ d ++ e ++ f)) (a ++ b ++ (x ∷ c) ++ d ++ e ++ f)
  to_third = IsPermutation-append_left f _ _ (IsPermutation-append_left e _ _ (IsPermutation-append_left d _ _ (moved x (a ++ b) c)))

  to_fourth : IsPermutation (x ∷ (a ++ b ++ c ++ d ++ e ++ f)) (a ++ b ++ c ++ (x ∷ d) ++ e ++ f)
  to_fourth = IsPermutation-append_left f _ _ (IsPermutation-append_left e _ _ (moved x (a ++ b ++ c) d))

  to_fifth : IsPermutation (x ∷ (a ++ b ++ c ++ d ++ e ++ f)) (a ++ b ++ c ++ d ++ (x ∷ e) ++ f)
  to_fifth = IsPermutation-append_left f _ _ (moved x (a ++ b ++ c ++ d) e)

  to_sixth : IsPermutation (x ∷ (a ++ b ++ c ++ d ++ e ++ f)) (a ++ b ++ c ++ d ++ e ++ (x ∷ f))
  to_sixth = moved x (a ++ b ++ c ++ d ++ e) f

-- one more policy, in front of the group of what was found of it
abbrev in_front : Text → Effect → Found → Holding → Holding
in_front id e f h = record h {
  satisfied_permits = cons_option (if_effect Permit e (satisfied_id id f)) h.satisfied_permits;
  false_permits = cons_option (if_effect Permit e (false_id id f)) h.false_permits;
  open_permits = cons_option (if_effect Permit e (open_id id f)) h.open_permits;
  satisfied_forbids = cons_option (if_effect Forbid e (satisfied_id id f)) h.satisfied_forbids;
  false_forbids = cons_option (if_effect Forbid e (false_id id f)) h.false_forbids;
  open_forbids = cons_option (if_effect Forbid e (open_id id f)) h.open_forbids;
}

one_more : (id : Text) (e : Effect) (f : Found) (h : Holding) → IsPermutation (id ∷ held_ids h) (held_ids (in_front id e f h))
one_more id Permit Satisfied h = IsPermutation-refl (id ∷ held_ids h)
one_more id Permit Unsatisfied h = to_second id h.satisfied_permits (keys_of h.false_permits) (keys_of h.open_permits) h.satisfied_forbids (keys_of h.false_forbids) (keys_of h.open_forbids)
one_more id Permit (Erred t) h = to_second id h.satisfied_permits (keys_of h.false_permits) (keys_of h.open_permits) h.satisfied_forbids (keys_of h.false_forbids) (keys_of h.open_forbids)
one_more id Permit (Open t) h = to_third id h.satisfied_permits (keys_of h.false_permits) (keys_of h.open_permits) h.satisfied_forbids (keys_of h.false_forbids) (keys_of h.open_forbids)
one_more id Forbid Satisfied h = to_fourth id h.satisfied_permits (keys_of h.false_permits) (keys_of h.open_permits) h.satisfied_forbids (keys_of h.false_forbids) (keys_of h.open_forbids)
one_more id Forbid Unsatisfied h = to_fifth id h.satisfied_permits (keys_of h.false_permits) (keys_of h.open_permits) h.satisfied_forbids (keys_of h.false_forbids) (keys_of h.open_forbids)
one_more id Forbid (Erred t) h = to_fifth id h.satisfied_permits (keys_of h.false_permits) (keys_of h.open_permits) h.satisfied_forbids (keys_of h.false_forbids) (keys_of h.open_forbids)
one_more id Forbid (Open t) h = to_sixth id h.satisfied_permits (keys_of h.false_permits) (keys_of h.open_permits) h.satisfied_forbids (keys_of h.false_forbids) (keys_of h.open_forbids)

all_held : (ks : List Kept) → IsPermutation (ids_of ks) (held_ids (holding_of ks))
all_held [] = IsPermutation-refl []
all_held (k ∷ ks) =
    IsPermutation-trans (k.id ∷ ids_of ks) (k.id ∷ held_ids (holding_of ks)) _
    (IsPermutation-cons k.id (ids_of ks) (held_ids (holding_of ks)) (all_held ks))
    (one_more k.id k.effect k.found (holding_of ks))

-- ---- some of them, without those that aren't satisfied

drop_front : (xs ys : List Text) → IsDistinct same_text (xs ++ ys) → IsDistinct same_text ys
drop_front [] ys apart = apart
drop_front (x ∷ xs) ys apart = drop_front xs ys (IsDistinct-tail same_text x (xs ++ ys) apart)

-- of what is apart a first part is
pub front_apart : (xs ys : List Text) → IsDistinct same_text (xs ++ ys) → IsDistinct same_text xs
front_apart xs ys apart = drop_front ys xs (IsDistinct-IsPermutation same_text nat_list_eq_equiv.symm _ _ (IsPermutation-append_comm xs ys) apart)

drop_middle : (xs ys zs : List Text) → IsDistinct same_text (xs ++ ys ++ zs) → IsDistinct same_text (xs ++ zs)
drop_middle xs ys zs apart =
    drop_front ys (xs ++ zs)
    (subst (IsDistinct same_text) (append_assoc ys xs zs) (IsDistinct-IsPermutation same_text nat_list_eq_equiv.symm _ _ (IsPermutation-append_left zs _ _ (IsPermutation-append_comm xs ys)) apart))

regrouped : (a b c d : List Text) → a ++ b ++ c ++ d ≡ a ++ (b ++ c ++ d)
regrouped a b c d = ap (λ l. l ++ d) (append_assoc a b c) ∙ append_assoc a (b ++ c) d

without_two : (a b c d e f : List Text) → IsDistinct same_text (a ++ b ++ c ++ d ++ e ++ f) → IsDistinct same_text (a ++ [] ++ c ++ d ++ [] ++ f)
without_two a b c d e f apart =
    let fewer = drop_middle a b (c ++ d ++ f) (subst (IsDistinct same_text) (regrouped (a ++ b) c d f) (drop_middle (a ++ b ++ c ++ d) e f apart)) in
    let four : a ++ [] ++ c ++ d ++ [] ++ f ≡ a ++ c ++ d ++ f = λ i. append-nil (append-nil a i ++ c ++ d) i ++ f in
    subst (IsDistinct same_text) (sym (four ∙ regrouped a c d f)) fewer

held_apart : (with_false : Bool) (h : Holding) → IsDistinct same_text (held_ids h) → IsDistinct same_text (held_ids (held_with with_false h))
held_apart true h apart = apart
held_apart false h apart = without_two h.satisfied_permits (keys_of h.false_permits) (keys_of h.open_permits) h.satisfied_forbids (keys_of h.false_forbids) (keys_of h.open_forbids) apart

-- no id stands twice in a response of policies of which none does
pub left_apart : (with_false : Bool) (r : PartialResponse) (ks : List Kept) → holding_in r ≡ held_with with_false (holding_of ks) → IsDistinct same_text (ids_of ks) → IsDistinct same_text (keys_of (residuals_with is_any r))
left_apart with_false r ks holds apart =
    subst (IsDistinct same_text) (sym (ids_left r ∙ ap held_ids holds))
    (held_apart with_false (holding_of ks) (IsDistinct-IsPermutation same_text nat_list_eq_equiv.symm (ids_of ks) (held_ids (holding_of ks)) (all_held ks) apart))
