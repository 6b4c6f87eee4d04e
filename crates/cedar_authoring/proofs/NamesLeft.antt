-- What stands in what is left of policies is awaited.
use Rattle.std.proofs.Common.{◌≡◌, ◌∙◌, inl, inr, refl, ap, sym, subst, Bool, true, Option, Some, None, List, [], ◌∷◌, ◌++◌, map, All}
use Rattle.std.proofs.lemmas.List.Folds.{list_any-append}
use Rattle.std.specs.Cmp.{tied_itself}
use Rattle.std.specs.FinMap as finite
use Rattle.std.specs.List.{cons_option, filter_map, flat_map, list_any}
use Rattle.std.specs.Ordering.{is_eq}
use Rattle.std.specs.Prelude.{codes}
use Rattle.std.specs.declared.alloc.Global.{Global}
use Rattle.std.specs.declared.rc.Rc.{Rc}
use Rattle.cedar_language.specs.OrderLaws.{text_cmp_total}
use Rattle.cedar_language.specs.Tree.{Tree, Lit, Var, Slot, Unknown, If, And, Or, Apply, Trees, no_trees, a_tree, ValueType}
use Rattle.cedar_language.specs.Uid.{Text}
use Rattle.cedar_partial_evaluation.specs.Unknowns.{EachUnknown, EachUnknownOf}
use Rattle.cedar_partial_evaluation.specs.Waiting.{IsUntoldIn}
use Rattle.cedar_shapes.specs.Positions.{positions, all_positions}
use Rattle.cedar_trees.specs.Bare.{bare}
use Rattle.cedar_trees.specs.declared.expr.Expr.{Expr}
use Rattle.cedar_world.specs.Asking.{Told}
use Rattle.cedar_world.specs.Orders.{text_eq}
use Rattle.cedar_evaluator.specs.Given.{Noted}
use Rattle.cedar_evaluator.proofs.Lists.{IsAmong, or_left, or_right, mapped, unmapped}
use Rattle.cedar_evaluator.proofs.Members.{among_left, among_right}
use Rattle.cedar_asking.proofs.Firsts.{all_among}
use Rattle.cedar_refusals.specs.Naming.{stands}
use Rattle.cedar_authoring.specs.Awaiting.{awaits, name_standing}
use Rattle.cedar_authoring.specs.Names.{names_of, names_left, AwaitedNamesSuffice}

-- ---- each unknown, by the places where one stands

module _ (Passes : Text → Option ValueType → Type 0) where
  abbrev AllPass : List Tree → Type 0
  AllPass ps = (n : Text) (ty : Option ValueType) → IsAmong (Unknown n ty) ps → Passes n ty

  left_pass : (ps qs : List Tree) → AllPass (ps ++ qs) → AllPass ps
  left_pass ps qs h n ty a = h n ty (among_left (Unknown n ty) ps qs a)

  right_pass : (ps qs : List Tree) → AllPass (ps ++ qs) → AllPass qs
  right_pass ps qs h n ty a = h n ty (among_right (Unknown n ty) ps qs a)

  rest_pass : (p : Tree) (ps : List Tree) → AllPass (p ∷ ps) → AllPass ps
  rest_pass p ps h n ty a = h n ty (inr a)

  mutual
    each_passes : (t : Tree) → AllPass (positions t) → EachUnknown Passes t
    each_passes (Lit l) h = tt
    each_passes (Var v) h = tt
    each_passes (Slot s) h = tt
    each_passes (Unknown n ty) h = h n ty (inl refl)
    each_passes (If t y n) h =
        let parts = rest_pass (If t y n) ((positions n ++ positions y) ++ positions t) h in
        let branches = left_pass (positions n ++ positions y) (positions t) parts in (
          each_passes t (right_pass (positions n ++ positions y) (positions t) parts),
          each_passes y (right_pass (positions n) (positions y) branches),
          each_passes n (left_pass (positions n) (positions y) branches),
        )
    each_passes (And l r) h =
        let parts = rest_pass (And l r) (positions r ++ positions l) h in
        (each_passes l (right_pass (positions r) (positions l) parts), each_passes r (left_pass (positions r) (positions l) parts))
    each_passes (Or l r) h =
        let parts = rest_pass (Or l r) (positions r ++ positions l) h in
        (each_passes l (right_pass (positions r) (positions l) parts), each_passes r (left_pass (positions r) (positions l) parts))
    each_passes (Apply op ts) h = all_pass ts (rest_pass (Apply op ts) (all_positions ts) h)

    all_pass : (ts : Trees) → AllPass (all_positions ts) → EachUnknownOf Passes ts
    all_pass no_trees h = tt
    all_pass (a_tree t ts) h = (each_passes t (right_pass (all_positions ts) (positions t) h), all_pass ts (left_pass (all_positions ts) (positions t) h))

-- ---- the names that stand

itself : (n : Text) → text_eq n n ≡ true
itself n = ap is_eq (tied_itself text_cmp_total n)

module _ (n : Text) where
  -- among the names of two lists
  in_left : (xs ys : List Text) → stands xs n ≡ true → stands (xs ++ ys) n ≡ true
  in_left xs ys h = list_any-append (λ (m : Text). text_eq m n) xs ys ∙ or_left (stands xs n) (stands ys n) h

  in_right : (xs ys : List Text) → stands ys n ≡ true → stands (xs ++ ys) n ≡ true
  in_right xs ys h = list_any-append (λ (m : Text). text_eq m n) xs ys ∙ or_right (stands xs n) (stands ys n) h

  one_more : (o : Option Text) (names : List Text) → stands names n ≡ true → stands (cons_option o names) n ≡ true
  one_more None names h = h
  one_more (Some m) names h = or_right (text_eq m n) (stands names n) h

  named_here : (p : Tree) (ty : Option ValueType) (names : List Text) → p ≡ Unknown n ty → stands (cons_option (name_standing p) names) n ≡ true
  named_here p ty names is = subst (λ t. stands (cons_option (name_standing t) names) n ≡ true) (sym is) (or_left (text_eq n n) (stands names n) (itself n))

  named : (ps : List Tree) (ty : Option ValueType) → IsAmong (Unknown n ty) ps → stands (filter_map name_standing ps) n ≡ true
  named [] ty a = absurd a
  named (p ∷ ps) ty (inl is) = named_here p ty (filter_map name_standing ps) is
  named (p ∷ ps) ty (inr a) = one_more (name_standing p) (filter_map name_standing ps) (named ps ty a)

  named_of : (rests : List Tree) (t : Tree) → IsAmong t rests → stands (filter_map name_standing (positions t)) n ≡ true → stands (names_of rests) n ≡ true
  named_of [] t a h = absurd a
  named_of (r ∷ rests) t (inl is) h =
      in_left (filter_map name_standing (positions r)) (names_of rests) (subst (λ x. stands (filter_map name_standing (positions x)) n ≡ true) (sym is) h)
  named_of (r ∷ rests) t (inr a) h = in_right (filter_map name_standing (positions r)) (names_of rests) (named_of rests t a h)

-- ---- of one group of policies

abbrev Left : Type 0
Left = Text × (Rc (Expr (Unit {0})) Global × Noted)

group_untold : (told : Told) (es : List Left) → ((n : Text) → stands (names_of (map (λ e. bare e.1.0.value) es)) n ≡ true → finite.get told n ≡ None) →
    All (λ (x : Text × Tree). IsUntoldIn told x.1) (map (λ e. (e.0, bare e.1.0.value)) es)
group_untold told es untold =
    all_among (λ (x : Text × Tree). IsUntoldIn told x.1) (map (λ e. (e.0, bare e.1.0.value)) es)
    (λ x a.
    let (e, among, is) = unmapped (λ (e : Left). (e.0, bare e.1.0.value)) es x a in
    subst (λ (y : Text × Tree). IsUntoldIn told y.1) is
    (each_passes (λ n ty. finite.get told n ≡ None) (bare e.1.0.value)
    (λ n ty there. untold n (named_of n (map (λ (e : Left). bare e.1.0.value) es) (bare e.1.0.value)
    (mapped (λ (e : Left). bare e.1.0.value) es e among) (named n (positions (bare e.1.0.value)) ty there)))))

pub awaited_names_suffice : AwaitedNamesSuffice
awaited_names_suffice response told untold =
    let permits = names_of (map (λ (e : Left). bare e.1.0.value) response.residual_permits) in
    let forbids = names_of (map (λ (e : Left). bare e.1.0.value) response.residual_forbids) in
    let awaited : (n : Text) → stands (names_left response) n ≡ true → finite.get told n ≡ None =
    λ n h. untold n (or_left (stands (names_left response) n) _ h) in (
      group_untold told response.residual_permits (λ n h. awaited n (in_left n permits forbids h)),
      group_untold told response.residual_forbids (λ n h. awaited n (in_right n permits forbids h)),
    )
