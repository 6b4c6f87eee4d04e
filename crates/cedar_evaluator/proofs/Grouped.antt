-- In what a response holds the same policies count as among those that it keeps.
use Rattle.std.proofs.Common.{◌≡◌, Bool, true, false, inl, inr, Option, Some, List, [], ◌++◌, map, refl, sym, ◌∙◌, ap, subst}
use Rattle.cedar_language.specs.Uid.{Text}
use Rattle.cedar_language.specs.Tree.{Tree}
use Rattle.cedar_language.specs.Answering as answering
use Rattle.cedar_language.specs.Answering.{Effect, Permit, Forbid, Standing, Judged}
use Rattle.cedar_extensions.specs.Failures.{OfKind, LimitMet, MemoryRanOut}
use Rattle.cedar_evaluator.specs.Evaluations.{Found, Satisfied, Unsatisfied, Erred, Open, Kept}
use Rattle.cedar_evaluator.specs.Responses.{Holding, if_effect, satisfied_id, open_id, satisfied_of, false_of, open_of, holding_of, without_false, stands, judged_held}
use Rattle.cedar_evaluator.proofs.Counted.{counts, CountAlike}
use Rattle.cedar_evaluator.proofs.Lists.{IsAmong, mapped, unmapped}
use Rattle.cedar_evaluator.proofs.Members.{among_left, among_right, among_either, gathered, ungathered}
use Rattle.cedar_evaluator.proofs.Standings.{standing_found, judged}

-- ---- the groups of a response

pub itself : {X : Type 0} (e : Effect) (o : Option X) → if_effect e e o ≡ o
itself Permit o = refl
itself Forbid o = refl

pub of_effect : {X : Type 0} (e d : Effect) (o : Option X) (x : X) → if_effect e d o ≡ Some x → (d ≡ e) × (o ≡ Some x)
of_effect Permit Permit o x h = (refl, h)
of_effect Forbid Forbid o x h = (refl, h)
of_effect Permit Forbid o x h = cc
of_effect Forbid Permit o x h = cc

pub is_satisfied_id : (id x : Text) (f : Found) → satisfied_id id f ≡ Some x → (f ≡ Satisfied) × (id ≡ x)
is_satisfied_id id x Satisfied h = (refl, cc)
is_satisfied_id id x Unsatisfied h = cc
is_satisfied_id id x (Erred e) h = cc
is_satisfied_id id x (Open t) h = cc

pub is_open_id : (id : Text) (x : Text × Tree) (f : Found) → open_id id f ≡ Some x → (f ≡ Open x.1) × (id ≡ x.0)
is_open_id id x Satisfied h = cc
is_open_id id x Unsatisfied h = cc
is_open_id id x (Erred e) h = cc
is_open_id id x (Open t) h = let same : (id, t) ≡ x = cc in (ap (λ (y : Text × Tree). Open y.1) same, ap (λ (y : Text × Tree). y.0) same)

module _ (ks : List Kept) (e : Effect) where
  pub satisfied_there : (k : Kept) → IsAmong k ks → k.effect ≡ e → k.found ≡ Satisfied → IsAmong k.id (satisfied_of e ks)
  satisfied_there k a effect found =
      gathered (λ (k : Kept). if_effect e k.effect (satisfied_id k.id k.found)) k k.id ks a ((λ i. if_effect e (effect i) (satisfied_id k.id (found i))) ∙ itself e (Some k.id))

  pub open_there : (k : Kept) (t : Tree) → IsAmong k ks → k.effect ≡ e → k.found ≡ Open t → IsAmong (k.id, t) (open_of e ks)
  open_there k t a effect found =
      gathered (λ (k : Kept). if_effect e k.effect (open_id k.id k.found)) k (k.id, t) ks a ((λ i. if_effect e (effect i) (open_id k.id (found i))) ∙ itself e (Some (k.id, t)))

  satisfied_back : (id : Text) → IsAmong id (satisfied_of e ks) → IsAmong (stands e answering.Satisfied id) (map judged ks)
  satisfied_back id a =
      let (k, among, is) = ungathered (λ (k : Kept). if_effect e k.effect (satisfied_id k.id k.found)) id ks a in
      let (effect, found_id) = of_effect e k.effect (satisfied_id k.id k.found) id is in
      let (found, id_is) = is_satisfied_id k.id id k.found found_id in
      let same : judged k ≡ stands e answering.Satisfied id = λ i. record { id = id_is i; effect = effect i; standing = standing_found (found i) } in
      subst (λ j. IsAmong j (map judged ks)) same (mapped judged ks k among)

  open_back : (x : Text × Tree) → IsAmong x (open_of e ks) → IsAmong (stands e answering.Residual x.0) (map judged ks)
  open_back x a =
      let (k, among, is) = ungathered (λ (k : Kept). if_effect e k.effect (open_id k.id k.found)) x ks a in
      let (effect, found_id) = of_effect e k.effect (open_id k.id k.found) x is in
      let (found, id_is) = is_open_id k.id x k.found found_id in
      let same : judged k ≡ stands e answering.Residual x.0 = λ i. record { id = id_is i; effect = effect i; standing = standing_found (found i) } in
      subst (λ j. IsAmong j (map judged ks)) same (mapped judged ks k among)

-- ---- the policies of a response and those that it keeps, whichever of those that aren't satisfied it holds

module _ (ks : List Kept) (false_permits false_forbids : List (Text × Bool)) where
  abbrev js : List Judged
  js = map judged ks

  abbrev sp : List Judged
  sp = map (stands Permit answering.Satisfied) (satisfied_of Permit ks)

  abbrev fp : List Judged
  fp = map (λ e. stands Permit answering.Unsatisfied e.0) false_permits

  abbrev op : List Judged
  op = map (λ e. stands Permit answering.Residual e.0) (open_of Permit ks)

  abbrev sf : List Judged
  sf = map (stands Forbid answering.Satisfied) (satisfied_of Forbid ks)

  abbrev ff : List Judged
  ff = map (λ e. stands Forbid answering.Unsatisfied e.0) false_forbids

  abbrev of : List Judged
  of = map (λ e. stands Forbid answering.Residual e.0) (open_of Forbid ks)

  abbrev held : List Judged
  held = sp ++ fp ++ op ++ sf ++ ff ++ of

  abbrev two : List Judged
  two = sp ++ fp

  abbrev three : List Judged
  three = two ++ op

  abbrev four : List Judged
  four = three ++ sf

  abbrev five : List Judged
  five = four ++ ff

  there_by : (k : Kept) (e : Effect) (f : Found) → IsAmong k ks → k.effect ≡ e → k.found ≡ f → counts (record { id = k.id; effect = e; standing = standing_found f }) ≡ true → IsAmong (record { id = k.id; effect = e; standing = standing_found f }) held
  there_by k Permit Satisfied a effect found c =
      among_left _ five of (among_left _ four ff (among_left _ three sf (among_left _ two op (among_left _ sp fp (mapped (stands Permit answering.Satisfied) (satisfied_of Permit ks) k.id (satisfied_there ks Permit k a effect found))))))
  there_by k Forbid Satisfied a effect found c =
      among_left _ five of (among_left _ four ff (among_right _ three sf (mapped (stands Forbid answering.Satisfied) (satisfied_of Forbid ks) k.id (satisfied_there ks Forbid k a effect found))))
  there_by k Permit (Open t) a effect found c =
      among_left _ five of (among_left _ four ff (among_left _ three sf (among_right _ two op (mapped (λ (e : Text × Tree). stands Permit answering.Residual e.0) (open_of Permit ks) (k.id, t) (open_there ks Permit k t a effect found)))))
  there_by k Forbid (Open t) a effect found c =
      among_right _ five of (mapped (λ (e : Text × Tree). stands Forbid answering.Residual e.0) (open_of Forbid ks) (k.id, t) (open_there ks Forbid k t a effect found))
  there_by k e Unsatisfied a effect found c = cc
  there_by k e (Erred (OfKind x)) a effect found c = cc
  there_by k e (Erred LimitMet) a effect found c = cc
  there_by k e (Erred MemoryRanOut) a effect found c = cc

  there : (j : Judged) → IsAmong j js → counts j ≡ true → IsAmong j held
  there j a c =
      let (k, among, is) = unmapped judged ks j a in
      subst (λ x. IsAmong x held) is (there_by k k.effect k.found among refl refl (ap counts is ∙ c))

  no_part : (e : Effect) (xs : List (Text × Bool)) (j : Judged) → IsAmong j (map (λ x. stands e answering.Unsatisfied x.0) xs) → counts j ≡ true → IsAmong j js
  no_part e xs j a c =
      let (x, among, is) = unmapped (λ (x : Text × Bool). stands e answering.Unsatisfied x.0) xs j a in
      let no : false ≡ true = ap counts is ∙ c in cc

  back_satisfied : (e : Effect) (j : Judged) → IsAmong j (map (stands e answering.Satisfied) (satisfied_of e ks)) → IsAmong j js
  back_satisfied e j a =
      let (id, among, is) = unmapped (stands e answering.Satisfied) (satisfied_of e ks) j a in
      subst (λ x. IsAmong x js) is (satisfied_back ks e id among)

  back_open : (e : Effect) (j : Judged) → IsAmong j (map (λ (x : Text × Tree). stands e answering.Residual x.0) (open_of e ks)) → IsAmong j js
  back_open e j a =
      let (x, among, is) = unmapped (λ (x : Text × Tree). stands e answering.Residual x.0) (open_of e ks) j a in
      subst (λ y. IsAmong y js) is (open_back ks e x among)

  back : (j : Judged) → IsAmong j held → counts j ≡ true → IsAmong j js
  back j a c =
      elim (among_either j five of a) [
        | inr h ↦ back_open Forbid j h
        | inl h ↦ elim (among_either j four ff h) [
          | inr h ↦ no_part Forbid false_forbids j h c
          | inl h ↦ elim (among_either j three sf h) [
            | inr h ↦ back_satisfied Forbid j h
            | inl h ↦ elim (among_either j two op h) [
              | inr h ↦ back_open Permit j h
              | inl h ↦ elim (among_either j sp fp h) [
                | inr h ↦ no_part Permit false_permits j h c
                | inl h ↦ back_satisfied Permit j h
              ]
            ]
          ]
        ]
      ]

  count_alike : CountAlike held js
  count_alike = record { there = there; back = back }

pub all_count_alike : (ks : List Kept) → CountAlike (judged_held (holding_of ks)) (map judged ks)
all_count_alike ks = count_alike ks (false_of Permit ks) (false_of Forbid ks)

pub true_count_alike : (ks : List Kept) → CountAlike (judged_held (without_false (holding_of ks))) (map judged ks)
true_count_alike ks = count_alike ks [] []

-- ---- none errs among those that a response holds

abbrev pub errs : Standing → Bool
errs (answering.Erring k) = true
errs s = false

none_errs_in : {X : Type 0} (f : X → Judged) → ((x : X) → errs (f x).standing ≡ false) → (xs : List X) (j : Judged) → IsAmong j (map f xs) → errs j.standing ≡ false
none_errs_in f none xs j a = let (x, among, is) = unmapped f xs j a in sym (ap (λ (y : Judged). errs y.standing) is) ∙ none x

either_errs : (xs ys : List Judged) (j : Judged) → (IsAmong j xs → errs j.standing ≡ false) → (IsAmong j ys → errs j.standing ≡ false) → IsAmong j (xs ++ ys) → errs j.standing ≡ false
either_errs xs ys j f g a = elim (among_either j xs ys a) [ inl x ↦ f x | inr y ↦ g y ]

pub none_errs : (h : Holding) (j : Judged) → IsAmong j (judged_held h) → errs j.standing ≡ false
none_errs h j =
    either_errs _ (map (λ (e : Text × Tree). stands Forbid answering.Residual e.0) h.open_forbids) j
    (either_errs _ (map (λ (e : Text × Bool). stands Forbid answering.Unsatisfied e.0) h.false_forbids) j
    (either_errs _ (map (stands Forbid answering.Satisfied) h.satisfied_forbids) j
    (either_errs _ (map (λ (e : Text × Tree). stands Permit answering.Residual e.0) h.open_permits) j
    (either_errs _ (map (λ (e : Text × Bool). stands Permit answering.Unsatisfied e.0) h.false_permits) j
    (none_errs_in (stands Permit answering.Satisfied) (λ x. refl) h.satisfied_permits j)
    (none_errs_in (λ (e : Text × Bool). stands Permit answering.Unsatisfied e.0) (λ x. refl) h.false_permits j))
    (none_errs_in (λ (e : Text × Tree). stands Permit answering.Residual e.0) (λ x. refl) h.open_permits j))
    (none_errs_in (stands Forbid answering.Satisfied) (λ x. refl) h.satisfied_forbids j))
    (none_errs_in (λ (e : Text × Bool). stands Forbid answering.Unsatisfied e.0) (λ x. refl) h.false_forbids j))
    (none_errs_in (λ (e : Text × Tree). stands Forbid answering.Residual e.0) (λ x. refl) h.open_forbids j)
