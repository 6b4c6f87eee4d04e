-- What is decided by the groups of a response that have a policy, and which groups are its reasons.
use Rattle.std.proofs.Common.{◌≡◌, Bool, true, false, ◌&&◌, ◌||◌, cond, List, [], ◌∷◌, ◌++◌, map, filter, refl, ◌∙◌, ap}
use Rattle.std.proofs.lemmas.List.{append-nil}
use Rattle.cedar_language.specs.Uid.{Text}
use Rattle.cedar_language.specs.Answering.{Effect, Permit, Forbid, Standing, Satisfied, Unsatisfied, Residual, Judged, some, satisfied_permit, satisfied_forbid, residual_permit, residual_forbid, decision, decision_by, in_must, in_may, ids_with}
use Rattle.cedar_evaluator.specs.Responses.{Holding, judged_held, stands}
use Rattle.cedar_evaluator.specs.Deciding.{has_any}
use Rattle.cedar_lemmas.proofs.Booleans.{or_nothing as or_false, or_grouped as or_assoc}

-- ---- of two lists, and of one group

some_append : (f : Judged → Bool) (js ks : List Judged) → some f (js ++ ks) ≡ (some f js || some f ks)
some_append f [] ks = refl
some_append f (j ∷ js) ks = ap (λ b. f j || b) (some_append f js ks) ∙ or_assoc (f j) (some f js) (some f ks)

ids_append : (f : Judged → Bool) (js ks : List Judged) → ids_with f (js ++ ks) ≡ ids_with f js ++ ids_with f ks
ids_append f [] ks = refl
ids_append f (j ∷ js) ks =
    elim (f j) as (λ b. map (λ (k : Judged). k.id) (cond b (j ∷ filter f (js ++ ks)) (filter f (js ++ ks))) ≡ map (λ (k : Judged). k.id) (cond b (j ∷ filter f js) (filter f js)) ++ ids_with f ks) [
      | true ↦ ap (λ l. j.id ∷ l) (ids_append f js ks)
      | false ↦ ids_append f js ks
    ]

-- of six
some_groups : (f : Judged → Bool) (a b c d e g : List Judged) → some f (a ++ b ++ c ++ d ++ e ++ g) ≡ (some f a || some f b || some f c || some f d || some f e || some f g)
some_groups f a b c d e g =
    some_append f (a ++ b ++ c ++ d ++ e) g
    ∙ ap (λ x. x || some f g) (some_append f (a ++ b ++ c ++ d) e)
    ∙ ap (λ x. x || some f e || some f g) (some_append f (a ++ b ++ c) d)
    ∙ ap (λ x. x || some f d || some f e || some f g) (some_append f (a ++ b) c)
    ∙ ap (λ x. x || some f c || some f d || some f e || some f g) (some_append f a b)

ids_groups : (f : Judged → Bool) (a b c d e g : List Judged) → ids_with f (a ++ b ++ c ++ d ++ e ++ g) ≡ ids_with f a ++ ids_with f b ++ ids_with f c ++ ids_with f d ++ ids_with f e ++ ids_with f g
ids_groups f a b c d e g =
    ids_append f (a ++ b ++ c ++ d ++ e) g
    ∙ ap (λ x. x ++ ids_with f g) (ids_append f (a ++ b ++ c ++ d) e)
    ∙ ap (λ x. x ++ ids_with f e ++ ids_with f g) (ids_append f (a ++ b ++ c) d)
    ∙ ap (λ x. x ++ ids_with f d ++ ids_with f e ++ ids_with f g) (ids_append f (a ++ b) c)
    ∙ ap (λ x. x ++ ids_with f c ++ ids_with f d ++ ids_with f e ++ ids_with f g) (ids_append f a b)

-- the test answers b of each policy of a group
module _ (f : Judged → Bool) (e : Effect) (s : Standing) {X : Type 0} (id_of : X → Text) where
  some_group : (b : Bool) → ((id : Text) → f (stands e s id) ≡ b) → (xs : List X) → some f (map (λ x. stands e s (id_of x)) xs) ≡ (b && has_any xs)
  some_group true is [] = refl
  some_group false is [] = refl
  some_group true is (x ∷ xs) = ap (λ b. b || some f (map (λ x. stands e s (id_of x)) xs)) (is (id_of x))
  some_group false is (x ∷ xs) = ap (λ b. b || some f (map (λ x. stands e s (id_of x)) xs)) (is (id_of x)) ∙ some_group false is xs ∙ refl

  ids_group : (b : Bool) → ((id : Text) → f (stands e s id) ≡ b) → (xs : List X) → ids_with f (map (λ x. stands e s (id_of x)) xs) ≡ cond b (map id_of xs) []
  ids_group true is [] = refl
  ids_group false is [] = refl
  ids_group b is (x ∷ xs) =
      ap (λ t. map (λ (k : Judged). k.id) (cond t (stands e s (id_of x) ∷ filter f (map (λ x. stands e s (id_of x)) xs)) (filter f (map (λ x. stands e s (id_of x)) xs)))) (is (id_of x))
      ∙ rest b (ids_group b is xs)
    where
      rest : (t : Bool) → ids_with f (map (λ x. stands e s (id_of x)) xs) ≡ cond t (map id_of xs) []
          → map (λ (k : Judged). k.id) (cond t (stands e s (id_of x) ∷ filter f (map (λ x. stands e s (id_of x)) xs)) (filter f (map (λ x. stands e s (id_of x)) xs))) ≡ cond t (id_of x ∷ map id_of xs) []
      rest true more = ap (λ l. id_of x ∷ l) more
      rest false more = more

map_same : (xs : List Text) → map (λ x. x) xs ≡ xs
map_same [] = refl
map_same (x ∷ xs) = ap (λ l. x ∷ l) (map_same xs)

-- ---- of all groups, by what a test answers of each

-- a test that goes by effect and standing, and is false of unsatisfied policies
record Goes (f : Judged → Bool) (sp op sf of : Bool) : Type 0 where
  satisfied_permits : (id : Text) → f (stands Permit Satisfied id) ≡ sp
  false_permits : (id : Text) → f (stands Permit Unsatisfied id) ≡ false
  open_permits : (id : Text) → f (stands Permit Residual id) ≡ op
  satisfied_forbids : (id : Text) → f (stands Forbid Satisfied id) ≡ sf
  false_forbids : (id : Text) → f (stands Forbid Unsatisfied id) ≡ false
  open_forbids : (id : Text) → f (stands Forbid Residual id) ≡ of

module _ (h : Holding) (f : Judged → Bool) (sp op sf of : Bool) (goes : Goes f sp op sf of) where
  some_held : some f (judged_held h) ≡ ((sp && has_any h.satisfied_permits) || (op && has_any h.open_permits) || (sf && has_any h.satisfied_forbids) || (of && has_any h.open_forbids))
  some_held =
      some_groups f _ _ _ _ _ _
      ∙ (λ i.
      some_group f Permit Satisfied (λ x. x) sp goes.satisfied_permits h.satisfied_permits i
      || some_group f Permit Unsatisfied (λ e. e.0) false goes.false_permits h.false_permits i
      || some_group f Permit Residual (λ e. e.0) op goes.open_permits h.open_permits i
      || some_group f Forbid Satisfied (λ x. x) sf goes.satisfied_forbids h.satisfied_forbids i
      || some_group f Forbid Unsatisfied (λ e. e.0) false goes.false_forbids h.false_forbids i
      || some_group f Forbid Residual (λ e. e.0) of goes.open_forbids h.open_forbids i)
      ∙ (λ i. or_false (or_false (sp && has_any h.satisfied_permits) i || (op && has_any h.open_permits) || (sf && has_any h.satisfied_forbids)) i || (of && has_any h.open_forbids))

  ids_held : ids_with f (judged_held h) ≡ cond sp h.satisfied_permits [] ++ cond op (map (λ e. e.0) h.open_permits) [] ++ cond sf h.satisfied_forbids [] ++ cond of (map (λ e. e.0) h.open_forbids) []
  ids_held =
      ids_groups f _ _ _ _ _ _
      ∙ (λ i.
      (ids_group f Permit Satisfied (λ x. x) sp goes.satisfied_permits h.satisfied_permits ∙ ap (λ l. cond sp l []) (map_same h.satisfied_permits)) i
      ++ ids_group f Permit Unsatisfied (λ e. e.0) false goes.false_permits h.false_permits i
      ++ ids_group f Permit Residual (λ e. e.0) op goes.open_permits h.open_permits i
      ++ (ids_group f Forbid Satisfied (λ x. x) sf goes.satisfied_forbids h.satisfied_forbids ∙ ap (λ l. cond sf l []) (map_same h.satisfied_forbids)) i
      ++ ids_group f Forbid Unsatisfied (λ e. e.0) false goes.false_forbids h.false_forbids i
      ++ ids_group f Forbid Residual (λ e. e.0) of goes.open_forbids h.open_forbids i)
      ∙ (λ i. append-nil (append-nil (cond sp h.satisfied_permits []) i ++ cond op (map (λ e. e.0) h.open_permits) [] ++ cond sf h.satisfied_forbids []) i ++ cond of (map (λ e. e.0) h.open_forbids) [])

-- ---- the four groups

module _ (h : Holding) where
  pub has_satisfied_permit : some satisfied_permit (judged_held h) ≡ has_any h.satisfied_permits
  has_satisfied_permit = some_held h satisfied_permit true false false false (record { satisfied_permits = λ id. refl; false_permits = λ id. refl; open_permits = λ id. refl; satisfied_forbids = λ id. refl; false_forbids = λ id. refl; open_forbids = λ id. refl }) ∙ or_false _ ∙ or_false _ ∙ or_false (has_any h.satisfied_permits)

  pub has_residual_permit : some residual_permit (judged_held h) ≡ has_any h.open_permits
  has_residual_permit = some_held h residual_permit false true false false (record { satisfied_permits = λ id. refl; false_permits = λ id. refl; open_permits = λ id. refl; satisfied_forbids = λ id. refl; false_forbids = λ id. refl; open_forbids = λ id. refl }) ∙ or_false _ ∙ or_false (has_any h.open_permits)

  pub has_satisfied_forbid : some satisfied_forbid (judged_held h) ≡ has_any h.satisfied_forbids
  has_satisfied_forbid = some_held h satisfied_forbid false false true false (record { satisfied_permits = λ id. refl; false_permits = λ id. refl; open_permits = λ id. refl; satisfied_forbids = λ id. refl; false_forbids = λ id. refl; open_forbids = λ id. refl }) ∙ or_false (has_any h.satisfied_forbids)

  pub has_residual_forbid : some residual_forbid (judged_held h) ≡ has_any h.open_forbids
  has_residual_forbid = some_held h residual_forbid false false false true (record { satisfied_permits = λ id. refl; false_permits = λ id. refl; open_permits = λ id. refl; satisfied_forbids = λ id. refl; false_forbids = λ id. refl; open_forbids = λ id. refl })

  -- ---- what follows of them

  pub decided_held : decision (judged_held h) ≡ decision_by (has_any h.satisfied_forbids) (has_any h.satisfied_permits) (has_any h.open_permits) (has_any h.open_forbids)
  decided_held = λ i. decision_by (has_satisfied_forbid i) (has_satisfied_permit i) (has_residual_permit i) (has_residual_forbid i)

  pub must_held : ids_with (in_must (judged_held h)) (judged_held h) ≡ cond (has_any h.satisfied_forbids || has_any h.open_forbids) h.satisfied_forbids h.satisfied_permits
  must_held =
      (λ i. ids_with (λ j. cond (has_satisfied_forbid i || has_residual_forbid i) (satisfied_forbid j) (satisfied_permit j)) (judged_held h))
      ∙ by (has_any h.satisfied_forbids || has_any h.open_forbids)
    where
      by : (b : Bool) → ids_with (λ j. cond b (satisfied_forbid j) (satisfied_permit j)) (judged_held h) ≡ cond b h.satisfied_forbids h.satisfied_permits
      by true = ids_held h satisfied_forbid false false true false (record { satisfied_permits = λ id. refl; false_permits = λ id. refl; open_permits = λ id. refl; satisfied_forbids = λ id. refl; false_forbids = λ id. refl; open_forbids = λ id. refl }) ∙ append-nil h.satisfied_forbids
      by false = ids_held h satisfied_permit true false false false (record { satisfied_permits = λ id. refl; false_permits = λ id. refl; open_permits = λ id. refl; satisfied_forbids = λ id. refl; false_forbids = λ id. refl; open_forbids = λ id. refl }) ∙ append-nil _ ∙ append-nil _ ∙ append-nil h.satisfied_permits

  pub may_held : ids_with (in_may (judged_held h)) (judged_held h) ≡ cond (has_any h.satisfied_forbids) (h.satisfied_forbids ++ map (λ e. e.0) h.open_forbids) (h.satisfied_permits ++ map (λ e. e.0) h.open_permits ++ map (λ e. e.0) h.open_forbids)
  may_held =
      (λ i. ids_with (λ j. cond (has_satisfied_forbid i) (satisfied_forbid j || residual_forbid j) (satisfied_permit j || residual_permit j || residual_forbid j)) (judged_held h))
      ∙ by (has_any h.satisfied_forbids)
    where
      by : (b : Bool) → ids_with (λ j. cond b (satisfied_forbid j || residual_forbid j) (satisfied_permit j || residual_permit j || residual_forbid j)) (judged_held h)
          ≡ cond b (h.satisfied_forbids ++ map (λ e. e.0) h.open_forbids) (h.satisfied_permits ++ map (λ e. e.0) h.open_permits ++ map (λ e. e.0) h.open_forbids)
      by true = ids_held h (λ j. satisfied_forbid j || residual_forbid j) false false true true (record { satisfied_permits = λ id. refl; false_permits = λ id. refl; open_permits = λ id. refl; satisfied_forbids = λ id. refl; false_forbids = λ id. refl; open_forbids = λ id. refl })
      by false = ids_held h (λ j. satisfied_permit j || residual_permit j || residual_forbid j) true true false true (record { satisfied_permits = λ id. refl; false_permits = λ id. refl; open_permits = λ id. refl; satisfied_forbids = λ id. refl; false_forbids = λ id. refl; open_forbids = λ id. refl }) ∙ ap (λ l. l ++ map (λ e. e.0) h.open_forbids) (append-nil (h.satisfied_permits ++ map (λ e. e.0) h.open_permits))
