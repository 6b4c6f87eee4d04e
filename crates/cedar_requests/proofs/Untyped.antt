-- Where no type is stated no value is told of another type.
use Rattle.std.proofs.Common.{◌≡◌, ◌∙◌, ap, refl, List, [], ◌∷◌, ◌++◌}
use Rattle.std.specs.Prelude.{Option, None, Some}
use Rattle.std.specs.Option.{option_or}
use Rattle.std.specs.declared.alloc.Global.{Global}
use Rattle.std.specs.declared.rc.RcStr.{RcStr}
use Rattle.cedar_language.specs.Tree.{ValueType, Tree, Lit, Var, Slot, Unknown, If, And, Or, Apply, Trees, no_trees, a_tree}
use Rattle.cedar_language.specs.Uid.{Text}
use Rattle.cedar_language.specs.Value.{Value}
use Rattle.cedar_partial_evaluation.specs.Unknowns.{EachUnknownOf}
use Rattle.cedar_shapes.specs.Leaves.{unknowns_among}
use Rattle.cedar_shapes.specs.Positions.{positions, all_positions}
use Rattle.cedar_substitution.specs.Told.{told_for}
use Rattle.cedar_substitution.specs.Typed.{mistyped, mistyped_among, mistyped_in}
use Rattle.cedar_requests.specs.ToldContexts.{StatesNoType}

abbrev StateNoType : Trees → Type 0
StateNoType ts = EachUnknownOf (λ n ty. ty ≡ None) ts

module _ (told : List (RcStr Global × Value)) where
  abbrev AreFitting : List Tree → Type 0
  AreFitting ts = mistyped_among told (unknowns_among ts) ≡ None

  first_none : {A : Type 0} (a b : Option A) → option_or a b ≡ None → a ≡ None
  first_none None b h = refl
  first_none (Some x) b h = h

  second_none : {A : Type 0} (a b : Option A) → option_or a b ≡ None → b ≡ None
  second_none None b h = h
  second_none (Some x) b h = cc

  more_fitting : (u : Text × Option ValueType) (us vs : List (Text × Option ValueType)) → mistyped_among told (u ∷ us) ≡ None → mistyped_among told vs ≡ None → mistyped_among told (u ∷ vs) ≡ None
  more_fitting u us vs h k = ap (λ o. option_or o (mistyped u.1 (told_for told u.0))) k ∙ second_none (mistyped_among told us) (mistyped u.1 (told_for told u.0)) h

  both_fitting : (ss ts : List Tree) → AreFitting ss → AreFitting ts → AreFitting (ss ++ ts)
  both_fitting [] ts h k = k
  both_fitting (Unknown n ty ∷ ss) ts h k =
      more_fitting (n, ty) (unknowns_among ss) (unknowns_among (ss ++ ts)) h
      (both_fitting ss ts (first_none (mistyped_among told (unknowns_among ss)) (mistyped ty (told_for told n)) h) k)
  both_fitting (Lit l ∷ ss) ts h k = both_fitting ss ts h k
  both_fitting (Var v ∷ ss) ts h k = both_fitting ss ts h k
  both_fitting (Slot s ∷ ss) ts h k = both_fitting ss ts h k
  both_fitting (If a b c ∷ ss) ts h k = both_fitting ss ts h k
  both_fitting (And a b ∷ ss) ts h k = both_fitting ss ts h k
  both_fitting (Or a b ∷ ss) ts h k = both_fitting ss ts h k
  both_fitting (Apply op us ∷ ss) ts h k = both_fitting ss ts h k

  mutual
    fitting : (t : Tree) → StatesNoType t → AreFitting (positions t)
    fitting (Lit l) h = refl
    fitting (Var v) h = refl
    fitting (Slot s) h = refl
    fitting (Unknown n ty) h = ap (λ o. mistyped o (told_for told n)) h
    fitting (If a b c) h = both_fitting (positions c ++ positions b) (positions a) (both_fitting (positions c) (positions b) (fitting c h.2) (fitting b h.1)) (fitting a h.0)
    fitting (And a b) h = both_fitting (positions b) (positions a) (fitting b h.1) (fitting a h.0)
    fitting (Or a b) h = both_fitting (positions b) (positions a) (fitting b h.1) (fitting a h.0)
    fitting (Apply op ts) h = all_fitting ts h

    all_fitting : (ts : Trees) → StateNoType ts → AreFitting (all_positions ts)
    all_fitting no_trees h = refl
    all_fitting (a_tree t ts) h = both_fitting (all_positions ts) (positions t) (all_fitting ts h.1) (fitting t h.0)

  pub untyped_fits : (t : Tree) → StatesNoType t → mistyped_in told t ≡ None
  untyped_fits t h = fitting t h
