-- What is left of the policies of a response that pass a test, group by group.
use Rattle.std.proofs.Common.{◌≡◌, Bool, true, false, ◌||◌, cond, List, [], ◌∷◌, ◌++◌, map, filter, refl, ◌∙◌, ap}
use Rattle.std.specs.Map.{keys_of}
use Rattle.std.proofs.lemmas.List.{append-nil, map-append}
use Rattle.std.proofs.lemmas.List.Elements.{filter-append}
use Rattle.cedar_language.specs.Answering.{Effect, Permit, Forbid, Satisfied, Unsatisfied, Residual, Judged, satisfied_permit, satisfied_forbid, residual_permit, residual_forbid, in_must, in_may, ids_with}
use Rattle.cedar_language.specs.Tree.{Tree}
use Rattle.cedar_language.specs.Uid.{Text}
use Rattle.cedar_policy_set.specs.Entries.{Entry, Entries}
use Rattle.cedar_trees.specs.Bare.{bare}
use Rattle.cedar_evaluator.specs.Deciding.{has_any}
use Rattle.cedar_evaluator.specs.Holding.{holding_in}
use Rattle.cedar_evaluator.specs.Residuals.{left_satisfied, left_false, left_open, judged_satisfied, judged_false, judged_open, residuals_with, is_any, is_satisfied, is_residual}
use Rattle.cedar_evaluator.specs.Responses.{stands, judged_held}
use Rattle.cedar_evaluator.specs.declared.partial_response.PartialResponse.{PartialResponse}
use Rattle.cedar_evaluator.proofs.Concrete.{any_seen}
use Rattle.cedar_evaluator.proofs.Deciding.{has_satisfied_forbid, has_residual_forbid}

-- ---- what a test picks of lists

module _ {X Y : Type 0} (f : X → Bool) (g : X → Y) where
  abbrev picked : List X → List Y
  picked xs = map g (filter f xs)

  picked_append : (xs ys : List X) → picked (xs ++ ys) ≡ picked xs ++ picked ys
  picked_append xs ys = ap (map g) (filter-append f xs ys) ∙ map-append g (filter f xs) (filter f ys)

  picked_six : (a b c d e h : List X) → picked (a ++ b ++ c ++ d ++ e ++ h) ≡ picked a ++ picked b ++ picked c ++ picked d ++ picked e ++ picked h
  picked_six a b c d e h =
      picked_append (a ++ b ++ c ++ d ++ e) h
      ∙ ap (λ l. l ++ picked h) (picked_append (a ++ b ++ c ++ d) e)
      ∙ ap (λ l. l ++ picked e ++ picked h) (picked_append (a ++ b ++ c) d)
      ∙ ap (λ l. l ++ picked d ++ picked e ++ picked h) (picked_append (a ++ b) c)
      ∙ ap (λ l. l ++ picked c ++ picked d ++ picked e ++ picked h) (picked_append a b)

  -- the test answers b of each of a group
  module _ {Z : Type 0} (seen : Z → X) where
    picked_group : (b : Bool) → ((z : Z) → f (seen z) ≡ b) → (zs : List Z) → picked (map seen zs) ≡ cond b (map (λ z. g (seen z)) zs) []
    picked_group true is [] = refl
    picked_group false is [] = refl
    picked_group b is (z ∷ zs) =
        ap (λ t. map g (cond t (seen z ∷ filter f (map seen zs)) (filter f (map seen zs)))) (is z) ∙ rest b (picked_group b is zs)
      where
        rest : (t : Bool) → picked (map seen zs) ≡ cond t (map (λ z. g (seen z)) zs) [] → map g (cond t (seen z ∷ filter f (map seen zs)) (filter f (map seen zs))) ≡ cond t (g (seen z) ∷ map (λ z. g (seen z)) zs) []
        rest true more = ap (λ l. g (seen z) ∷ l) more
        rest false more = more

-- ---- of all groups, by what the test answers of each

record Goes (f : Judged → Bool) (sp fp op sf ff of : Bool) : Type 0 where
  satisfied_permits : (id : Text) → f (stands Permit Satisfied id) ≡ sp
  false_permits : (id : Text) → f (stands Permit Unsatisfied id) ≡ fp
  open_permits : (id : Text) → f (stands Permit Residual id) ≡ op
  satisfied_forbids : (id : Text) → f (stands Forbid Satisfied id) ≡ sf
  false_forbids : (id : Text) → f (stands Forbid Unsatisfied id) ≡ ff
  open_forbids : (id : Text) → f (stands Forbid Residual id) ≡ of

module _ (r : PartialResponse) where
  abbrev pub satisfied_permits_left : Entries
  satisfied_permits_left = map (left_satisfied Permit) r.satisfied_permits

  abbrev pub false_permits_left : Entries
  false_permits_left = map (left_false Permit) r.false_permits

  abbrev pub open_permits_left : Entries
  open_permits_left = map (left_open Permit) r.residual_permits

  abbrev pub satisfied_forbids_left : Entries
  satisfied_forbids_left = map (left_satisfied Forbid) r.satisfied_forbids

  abbrev pub false_forbids_left : Entries
  false_forbids_left = map (left_false Forbid) r.false_forbids

  abbrev pub open_forbids_left : Entries
  open_forbids_left = map (left_open Forbid) r.residual_forbids

  module _ (f : Judged → Bool) (sp fp op sf ff of : Bool) (goes : Goes f sp fp op sf ff of) where
    left_groups : residuals_with f r
        ≡ cond sp satisfied_permits_left [] ++ cond fp false_permits_left [] ++ cond op open_permits_left [] ++ cond sf satisfied_forbids_left [] ++ cond ff false_forbids_left [] ++ cond of open_forbids_left []
    left_groups =
        let passes = λ (p : Judged × (Text × Entry)). f p.0 in
        let left = λ (p : Judged × (Text × Entry)). p.1 in
        picked_six passes left
        (map (judged_satisfied Permit) r.satisfied_permits) (map (judged_false Permit) r.false_permits) (map (judged_open Permit) r.residual_permits)
        (map (judged_satisfied Forbid) r.satisfied_forbids) (map (judged_false Forbid) r.false_forbids) (map (judged_open Forbid) r.residual_forbids)
        ∙ (λ i.
        picked_group passes left (judged_satisfied Permit) sp (λ e. goes.satisfied_permits e.0) r.satisfied_permits i
        ++ picked_group passes left (judged_false Permit) fp (λ e. goes.false_permits e.0) r.false_permits i
        ++ picked_group passes left (judged_open Permit) op (λ e. goes.open_permits e.0) r.residual_permits i
        ++ picked_group passes left (judged_satisfied Forbid) sf (λ e. goes.satisfied_forbids e.0) r.satisfied_forbids i
        ++ picked_group passes left (judged_false Forbid) ff (λ e. goes.false_forbids e.0) r.false_forbids i
        ++ picked_group passes left (judged_open Forbid) of (λ e. goes.open_forbids e.0) r.residual_forbids i)

  pub left_all : residuals_with is_any r ≡ satisfied_permits_left ++ false_permits_left ++ open_permits_left ++ satisfied_forbids_left ++ false_forbids_left ++ open_forbids_left
  left_all = left_groups is_any true true true true true true (record { satisfied_permits = λ id. refl; false_permits = λ id. refl; open_permits = λ id. refl; satisfied_forbids = λ id. refl; false_forbids = λ id. refl; open_forbids = λ id. refl })

  pub left_when_satisfied : residuals_with is_satisfied r ≡ satisfied_permits_left ++ satisfied_forbids_left
  left_when_satisfied =
      left_groups is_satisfied true false false true false false (record { satisfied_permits = λ id. refl; false_permits = λ id. refl; open_permits = λ id. refl; satisfied_forbids = λ id. refl; false_forbids = λ id. refl; open_forbids = λ id. refl })
      ∙ append-nil _ ∙ append-nil _ ∙ ap (λ l. l ++ satisfied_forbids_left) (append-nil _ ∙ append-nil satisfied_permits_left)

  pub left_when_open : residuals_with is_residual r ≡ open_permits_left ++ open_forbids_left
  left_when_open =
      left_groups is_residual false false true false false true (record { satisfied_permits = λ id. refl; false_permits = λ id. refl; open_permits = λ id. refl; satisfied_forbids = λ id. refl; false_forbids = λ id. refl; open_forbids = λ id. refl })
      ∙ ap (λ l. l ++ open_forbids_left) (append-nil _ ∙ append-nil open_permits_left)

  pub left_when_open_forbid : residuals_with residual_forbid r ≡ open_forbids_left
  left_when_open_forbid =
      left_groups residual_forbid false false false false false true (record { satisfied_permits = λ id. refl; false_permits = λ id. refl; open_permits = λ id. refl; satisfied_forbids = λ id. refl; false_forbids = λ id. refl; open_forbids = λ id. refl })

  -- ---- the reasons

  any_forbid : has_any (holding_in r).satisfied_forbids ≡ has_any r.satisfied_forbids
  any_forbid = any_seen (λ e. e.0) r.satisfied_forbids

  any_open_forbid : has_any (holding_in r).open_forbids ≡ has_any r.residual_forbids
  any_open_forbid = any_seen (λ e. (e.0, bare e.1.0.value)) r.residual_forbids

  pub left_must : (f o : Bool) → has_any r.satisfied_forbids ≡ f → has_any r.residual_forbids ≡ o
      → residuals_with (in_must (judged_held (holding_in r))) r ≡ cond (f || o) satisfied_forbids_left satisfied_permits_left
  left_must f o forbids opens =
      (λ i. residuals_with (λ j. cond ((has_satisfied_forbid (holding_in r) ∙ any_forbid ∙ forbids) i || (has_residual_forbid (holding_in r) ∙ any_open_forbid ∙ opens) i) (satisfied_forbid j) (satisfied_permit j)) r)
      ∙ by (f || o)
    where
      by : (b : Bool) → residuals_with (λ j. cond b (satisfied_forbid j) (satisfied_permit j)) r ≡ cond b satisfied_forbids_left satisfied_permits_left
      by true = left_groups satisfied_forbid false false false true false false (record { satisfied_permits = λ id. refl; false_permits = λ id. refl; open_permits = λ id. refl; satisfied_forbids = λ id. refl; false_forbids = λ id. refl; open_forbids = λ id. refl }) ∙ append-nil _ ∙ append-nil satisfied_forbids_left
      by false =
          left_groups satisfied_permit true false false false false false (record { satisfied_permits = λ id. refl; false_permits = λ id. refl; open_permits = λ id. refl; satisfied_forbids = λ id. refl; false_forbids = λ id. refl; open_forbids = λ id. refl })
          ∙ append-nil _ ∙ append-nil _ ∙ append-nil _ ∙ append-nil _ ∙ append-nil satisfied_permits_left

  pub left_may : (f : Bool) → has_any r.satisfied_forbids ≡ f
      → residuals_with (in_may (judged_held (holding_in r))) r ≡ cond f satisfied_forbids_left (satisfied_permits_left ++ open_permits_left) ++ open_forbids_left
  left_may f forbids =
      (λ i. residuals_with (λ j. cond ((has_satisfied_forbid (holding_in r) ∙ any_forbid ∙ forbids) i) (satisfied_forbid j || residual_forbid j) (satisfied_permit j || residual_permit j || residual_forbid j)) r)
      ∙ by f
    where
      by : (b : Bool) → residuals_with (λ j. cond b (satisfied_forbid j || residual_forbid j) (satisfied_permit j || residual_permit j || residual_forbid j)) r
          ≡ cond b satisfied_forbids_left (satisfied_permits_left ++ open_permits_left) ++ open_forbids_left
      by true =
          left_groups (λ j. satisfied_forbid j || residual_forbid j) false false false true false true (record { satisfied_permits = λ id. refl; false_permits = λ id. refl; open_permits = λ id. refl; satisfied_forbids = λ id. refl; false_forbids = λ id. refl; open_forbids = λ id. refl })
          ∙ ap (λ l. l ++ open_forbids_left) (append-nil satisfied_forbids_left)
      by false =
          left_groups (λ j. satisfied_permit j || residual_permit j || residual_forbid j) true false true false false true (record { satisfied_permits = λ id. refl; false_permits = λ id. refl; open_permits = λ id. refl; satisfied_forbids = λ id. refl; false_forbids = λ id. refl; open_forbids = λ id. refl })
          ∙ ap (λ l. l ++ open_forbids_left) (append-nil _ ∙ append-nil _ ∙ ap (λ l. l ++ open_permits_left) (append-nil satisfied_permits_left))

  -- ---- ids

  keys_seen : {V W : Type 0} (g : V → W) (es : List (Text × V)) → map (λ (e : Text × W). e.0) (map (λ (e : Text × V). (e.0, g e.1)) es) ≡ keys_of es
  keys_seen g [] = refl
  keys_seen g (e ∷ es) = ap (λ l. e.0 ∷ l) (keys_seen g es)

  pub open_ids : ids_with is_residual (judged_held (holding_in r)) ≡ keys_of r.residual_permits ++ keys_of r.residual_forbids
  open_ids =
      let h = holding_in r in
      let false_seen = λ (e : Effect) (x : Text × Bool). stands e Unsatisfied x.0 in
      let open_seen = λ (e : Effect) (x : Text × Tree). stands e Residual x.0 in
      let id_of = λ (j : Judged). j.id in
      picked_six is_residual id_of
      (map (stands Permit Satisfied) h.satisfied_permits) (map (false_seen Permit) h.false_permits) (map (open_seen Permit) h.open_permits)
      (map (stands Forbid Satisfied) h.satisfied_forbids) (map (false_seen Forbid) h.false_forbids) (map (open_seen Forbid) h.open_forbids)
      ∙ (λ i.
      picked_group is_residual id_of (stands Permit Satisfied) false (λ id. refl) h.satisfied_permits i
      ++ picked_group is_residual id_of (false_seen Permit) false (λ e. refl) h.false_permits i
      ++ (picked_group is_residual id_of (open_seen Permit) true (λ e. refl) h.open_permits ∙ keys_seen (λ v. bare v.0.value) r.residual_permits) i
      ++ picked_group is_residual id_of (stands Forbid Satisfied) false (λ id. refl) h.satisfied_forbids i
      ++ picked_group is_residual id_of (false_seen Forbid) false (λ e. refl) h.false_forbids i
      ++ (picked_group is_residual id_of (open_seen Forbid) true (λ e. refl) h.open_forbids ∙ keys_seen (λ v. bare v.0.value) r.residual_forbids) i)
      ∙ ap (λ l. l ++ keys_of r.residual_forbids) (append-nil _ ∙ append-nil (keys_of r.residual_permits))
