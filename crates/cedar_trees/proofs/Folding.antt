-- `&&` and `||` of two literals, and of others.
use Rattle.std.proofs.Common.{◌≡◌, refl, ap, Bool}
use Rattle.std.specs.Prelude.{◌&&◌, ◌||◌, Option, Some, None, option_map, unwrap_or}
use Rattle.std.specs.Option.{option_zip}
use Rattle.cedar_language.specs.Tree.{Tree, Lit, And, Or, Boolean}
use Rattle.cedar_grammar.specs.Build.{conjunction, disjunction}
use Rattle.cedar_trees.specs.Shapes.{literal_boolean}

pub conjunction_stays : (l r : Tree) → option_zip (literal_boolean l) (literal_boolean r) ≡ None → conjunction l r ≡ And l r
conjunction_stays (Lit (Boolean a)) (Lit (Boolean b)) h = cc
conjunction_stays (Lit (Boolean a)) r h = refl
conjunction_stays l r h = refl

pub conjunction_folds : (l r : Tree) (a b : Bool) → option_zip (literal_boolean l) (literal_boolean r) ≡ Some (a, b) → conjunction l r ≡ Lit (Boolean (a && b))
conjunction_folds (Lit (Boolean a)) (Lit (Boolean b)) x y h = let same_left : a ≡ x = ap (λ o. unwrap_or (option_map (λ p. p.0) o) a) h in let same_right : b ≡ y = ap (λ o. unwrap_or (option_map (λ p. p.1) o) b) h in cc
conjunction_folds (Lit (Boolean a)) r x y h = cc
conjunction_folds l r x y h = cc

pub conjunction_apart : (l r : Tree) (x y : Option Bool) (z : Option (Bool × Bool)) → x ≡ literal_boolean l → y ≡ literal_boolean r → z ≡ option_zip x y → z ≡ None → conjunction l r ≡ And l r
conjunction_apart l r x y z left right zipped none =
    let apart : option_zip (literal_boolean l) (literal_boolean r) ≡ None = cc in
    conjunction_stays l r apart

pub ruleset conjunctions = (conjunction_stays, conjunction_folds)

pub disjunction_stays : (l r : Tree) → option_zip (literal_boolean l) (literal_boolean r) ≡ None → disjunction l r ≡ Or l r
disjunction_stays (Lit (Boolean a)) (Lit (Boolean b)) h = cc
disjunction_stays (Lit (Boolean a)) r h = refl
disjunction_stays l r h = refl

pub disjunction_folds : (l r : Tree) (a b : Bool) → option_zip (literal_boolean l) (literal_boolean r) ≡ Some (a, b) → disjunction l r ≡ Lit (Boolean (a || b))
disjunction_folds (Lit (Boolean a)) (Lit (Boolean b)) x y h = let same_left : a ≡ x = ap (λ o. unwrap_or (option_map (λ p. p.0) o) a) h in let same_right : b ≡ y = ap (λ o. unwrap_or (option_map (λ p. p.1) o) b) h in cc
disjunction_folds (Lit (Boolean a)) r x y h = cc
disjunction_folds l r x y h = cc

pub disjunction_apart : (l r : Tree) (x y : Option Bool) (z : Option (Bool × Bool)) → x ≡ literal_boolean l → y ≡ literal_boolean r → z ≡ option_zip x y → z ≡ None → disjunction l r ≡ Or l r
disjunction_apart l r x y z left right zipped none =
    let apart : option_zip (literal_boolean l) (literal_boolean r) ≡ None = cc in
    disjunction_stays l r apart

pub ruleset disjunctions = (disjunction_stays, disjunction_folds)
