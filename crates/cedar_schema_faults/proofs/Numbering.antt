-- The numbers of actions that are put by their uids.
use Rattle.std.proofs.Common.{◌≡◌, ◌⊎◌, inl, inr, ℕ, suc, ◌+◌, ◌-◌, ◌<◌, ◌≤◌, Bool, true, false, cond, List, [], ◌∷◌, ◌++◌, length, drop, take, get_or, append_assoc, Option, Some, None, refl, sym, ap, ◌∙◌, subst, arith}
use Rattle.std.proofs.Math.Nat.{add-zero, zero-add}
use Rattle.std.specs.Prelude.{map, option_map, option_to_list}
use Rattle.std.specs.List.{find, slice_get, cons_option}
use Rattle.std.specs.BTreeMap.{is_at}
use Rattle.std.proofs.lemmas.List.{append-nil, map-append, drop_more, drop_all, take_more}
use Rattle.cedar_language.specs.Uid.{Name, Uid}
use Rattle.cedar_language.specs.Order.{same_uid, uid_cmp}
use Rattle.cedar_literals.specs.Laws.{uid_cmp_ties}
use Rattle.cedar_typing.proofs.Sameness.{uid_is}
use Rattle.cedar_schema_grammar.specs.Syntax.{ActionRef}
use Rattle.cedar_schema_grammar.specs.Declared.{Action, Declared, or_else, first_of, places, action_uid, action_at, action_named, type_of_ref}
use Rattle.cedar_schema_grammar.specs.Faults.{found_groups}
use Rattle.cedar_schema_resolution.specs.Declarations.{action_view}
use Rattle.cedar_schema_resolution.specs.declared.declarations.DeclaredAction.{DeclaredAction}
use Rattle.cedar_schema_faults.specs.Actions.{number_at, number_from, HaveNumbersFrom, HaveNumbers, number_by_path, named_number, number_for, group_numbers, groups_in}
use Rattle.cedar_schema_faults.specs.declared.actions.ActionNumbers.{ActionNumbers}

-- ---- one before others

number_before : (a : Action) (all : List Action) (i : ℕ) (uid : Uid) (old new : ActionNumbers) → uid ≡ action_uid a → HaveNumbersFrom (i + 1) all old
    → ((u : Uid) → number_at new u ≡ cond (is_at (uid_cmp uid) u) (Some i) (number_at old u)) → HaveNumbersFrom i (a ∷ all) new
number_before a all i uid old new is have put u =
    put u ∙ ap (λ b. cond b (Some i) (number_at old u)) (sym (uid_cmp_ties uid u) ∙ ap (λ v. same_uid v u) is)
    ∙ ap (cond (same_uid (action_uid a) u) (Some i)) (have u)

pub number_lower : (all : List DeclaredAction) (k : ℕ) (a : DeclaredAction) (uid : Uid) (old new : ActionNumbers) → 0 < k → k ≤ length all
    → a ≡ get_or all (k - 1) a
    → uid ≡ action_uid (action_view a) → HaveNumbersFrom k (map action_view (drop k all)) old
    → ((u : Uid) → number_at new u ≡ cond (is_at (uid_cmp uid) u) (Some (k - 1)) (number_at old u))
    → HaveNumbersFrom (k - 1) (map action_view (drop (k - 1) all)) new
number_lower all k a uid old new low high here is have put =
    let up : k - 1 + 1 ≡ k = omega arith in
    let cut : drop (k - 1) all ≡ a ∷ drop k all = drop_more all (k - 1) a (omega arith) ∙ ap (λ x. x ∷ drop (k - 1 + 1) all) (sym here)
    ∙ ap (λ j. a ∷ drop j all) up in
    subst (λ xs. HaveNumbersFrom (k - 1) (map action_view xs) new) (sym cut)
    (number_before (action_view a) (map action_view (drop k all)) (k - 1) uid old new is
    (subst (λ j. HaveNumbersFrom j (map action_view (drop k all)) old) (sym up) have) put)

pub none_numbered : (all : List DeclaredAction) (i : ℕ) (c : ActionNumbers) → length all ≤ i → ((u : Uid) → number_at c u ≡ None)
    → HaveNumbersFrom i (map action_view (drop i all)) c
none_numbered all i c h none = subst (λ xs. HaveNumbersFrom i (map action_view xs) c) (sym (drop_all i all h)) none

-- ---- groups, one after another

last_group : (c : ActionNumbers) (namespace : Name) (rs : List ActionRef) (r : ActionRef)
    → group_numbers c namespace (rs ++ r ∷ []) ≡ group_numbers c namespace rs ++ option_to_list (number_for c namespace r)
last_group c namespace [] r = append-nil (option_to_list (number_for c namespace r))
last_group c namespace (q ∷ rs) r =
    ap (λ xs. option_to_list (number_for c namespace q) ++ xs) (last_group c namespace rs r)
    ∙ sym (append_assoc (option_to_list (number_for c namespace q)) (group_numbers c namespace rs) (option_to_list (number_for c namespace r)))

pub one_more_group : {X : Type 0} (view : X → ActionRef) (c : ActionNumbers) (namespace : Name) (xs : List X) (i : ℕ) (x : X) (old new : List ℕ) → i < length xs
    → x ≡ get_or xs i x → old ≡ group_numbers c namespace (map view (take i xs)) → new ≡ old ++ option_to_list (number_for c namespace (view x))
    → new ≡ group_numbers c namespace (map view (take (i + 1) xs))
one_more_group view c namespace xs i x old new low here e f =
    let cut : map view (take (i + 1) xs) ≡ map view (take i xs) ++ view x ∷ []
    = ap (map view) (take_more xs i x low ∙ ap (λ y. take i xs ++ y ∷ []) (sym here)) ∙ map-append view (take i xs) (x ∷ []) in
    f ∙ ap (λ ys. ys ++ option_to_list (number_for c namespace (view x))) e
    ∙ sym (ap (group_numbers c namespace) cut ∙ last_group c namespace (map view (take i xs)) (view x))

-- ---- an action that is found by its uid, and its number

pub record IsNumbered (i : ℕ) (all : List Action) (u : Uid) (a : Action) (j : ℕ) : Type 0 where
  pub found : find (λ b. same_uid (action_uid b) u) all ≡ Some a
  pub number : number_from i all u ≡ Some (i + j)
  pub at : slice_get all j ≡ Some a
  pub is : action_uid a ≡ u

abbrev pub MayBeNumbered : ℕ → List Action → Uid → Type 0
MayBeNumbered i all u = ((find (λ b. same_uid (action_uid b) u) all ≡ None) × (number_from i all u ≡ None)) ⊎ ((a : Action) × (j : ℕ) × IsNumbered i all u a j)

pub numbered : (i : ℕ) (all : List Action) (u : Uid) → MayBeNumbered i all u
numbered i [] u = inl (refl, refl)
numbered i (a ∷ all) u = by (same_uid (action_uid a) u) refl (numbered (i + 1) all u)
  where
    by : (b : Bool) → same_uid (action_uid a) u ≡ b → MayBeNumbered (i + 1) all u → MayBeNumbered i (a ∷ all) u
    by true e r = inr (
      a,
      0,
      record {
        found = ap (λ b. cond b (Some a) (find (λ x. same_uid (action_uid x) u) all)) e;
        number = ap (λ b. cond b (Some i) (number_from (i + 1) all u)) e ∙ ap Some (sym (add-zero i));
        at = refl;
        is = uid_is (action_uid a) u e;
      },
    )
    by false e (inl r) = inl (
      ap (λ b. cond b (Some a) (find (λ x. same_uid (action_uid x) u) all)) e ∙ r.0,
      ap (λ b. cond b (Some i) (number_from (i + 1) all u)) e ∙ r.1,
    )
    by false e (inr r) =
        let more : i + 1 + r.1 ≡ i + suc r.1 = omega arith in
        inr (
          r.0,
          suc r.1,
          record {
            found = ap (λ b. cond b (Some a) (find (λ x. same_uid (action_uid x) u) all)) e ∙ r.2.found;
            number = ap (λ b. cond b (Some i) (number_from (i + 1) all u)) e ∙ r.2.number ∙ ap Some more;
            at = r.2.at;
            is = r.2.is;
          },
        )
