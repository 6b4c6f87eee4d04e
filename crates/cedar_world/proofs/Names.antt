-- Trees by the unknowns that stand in them.
use Rattle.std.proofs.Common.{◌≡◌, Bool, true, false, ◌||◌, Option, refl}
use Rattle.std.proofs.lemmas.Bool.{or_from, or_left, or_right, or_parts}
use Rattle.cedar_language.specs.Uid.{Text}
use Rattle.cedar_language.specs.Tree.{ValueType, Tree, Unknown, If, And, Or, Apply, Trees, no_trees, a_tree}
use Rattle.cedar_partial_evaluation.specs.Unknowns.{EachUnknown, EachUnknownOf}
use Rattle.cedar_world.specs.Bodies.{some_name, some_name_of}
use Rattle.cedar_world.specs.Orders.{text_eq}
use Rattle.cedar_world.proofs.Maps.{itself}

-- no name passes a test just where each fails it
module _ (test : Text → Bool) where
  abbrev pub FailsTest : Text → Option ValueType → Type 0
  FailsTest n ty = test n ≡ false

  mutual
    pub each_fails : (t : Tree) → some_name test t ≡ false → EachUnknown FailsTest t
    each_fails (Unknown n ty) h = h
    each_fails (If t y n) h =
        let (ht, rest) = or_parts (some_name test t) (some_name test y || some_name test n) h in
        let (hy, hn) = or_parts (some_name test y) (some_name test n) rest in
        (each_fails t ht, each_fails y hy, each_fails n hn)
    each_fails (And l r) h = let (hl, hr) = or_parts (some_name test l) (some_name test r) h in (each_fails l hl, each_fails r hr)
    each_fails (Or l r) h = let (hl, hr) = or_parts (some_name test l) (some_name test r) h in (each_fails l hl, each_fails r hr)
    each_fails (Apply op ts) h = all_fail ts h
    each_fails _ h = tt

    all_fail : (ts : Trees) → some_name_of test ts ≡ false → EachUnknownOf FailsTest ts
    all_fail no_trees h = tt
    all_fail (a_tree t ts) h = let (ht, hts) = or_parts (some_name test t) (some_name_of test ts) h in (each_fails t ht, all_fail ts hts)

  mutual
    pub none_passes : (t : Tree) → EachUnknown FailsTest t → some_name test t ≡ false
    none_passes (Unknown n ty) h = h
    none_passes (If t y n) (ht, hy, hn) =
        or_from (some_name test t) (some_name test y || some_name test n) (none_passes t ht) (or_from (some_name test y) (some_name test n) (none_passes y hy) (none_passes n hn))
    none_passes (And l r) (hl, hr) = or_from (some_name test l) (some_name test r) (none_passes l hl) (none_passes r hr)
    none_passes (Or l r) (hl, hr) = or_from (some_name test l) (some_name test r) (none_passes l hl) (none_passes r hr)
    none_passes (Apply op ts) h = none_pass ts h
    none_passes _ h = refl

    pub none_pass : (ts : Trees) → EachUnknownOf FailsTest ts → some_name_of test ts ≡ false
    none_pass no_trees h = refl
    none_pass (a_tree t ts) (h, k) = or_from (some_name test t) (some_name_of test ts) (none_passes t h) (none_pass ts k)

-- each passes, where those do that occur
module _ (Passes : Text → Option ValueType → Type 0) where
  mutual
    pub each_named : (t : Tree) → ((n : Text) (ty : Option ValueType) → some_name (text_eq n) t ≡ true → Passes n ty) → EachUnknown Passes t
    each_named (Unknown n ty) f = f n ty (itself n)
    each_named (If t y n) f = (
      each_named t (λ m ty h. f m ty (or_left (some_name (text_eq m) t) (some_name (text_eq m) y || some_name (text_eq m) n) h)),
      each_named y (λ m ty h. f m ty (or_right (some_name (text_eq m) t) (some_name (text_eq m) y || some_name (text_eq m) n) (or_left (some_name (text_eq m) y) (some_name (text_eq m) n) h))),
      each_named n (λ m ty h. f m ty (or_right (some_name (text_eq m) t) (some_name (text_eq m) y || some_name (text_eq m) n) (or_right (some_name (text_eq m) y) (some_name (text_eq m) n) h))),
    )
    each_named (And l r) f =
        (each_named l (λ m ty h. f m ty (or_left (some_name (text_eq m) l) (some_name (text_eq m) r) h)), each_named r (λ m ty h. f m ty (or_right (some_name (text_eq m) l) (some_name (text_eq m) r) h)))
    each_named (Or l r) f =
        (each_named l (λ m ty h. f m ty (or_left (some_name (text_eq m) l) (some_name (text_eq m) r) h)), each_named r (λ m ty h. f m ty (or_right (some_name (text_eq m) l) (some_name (text_eq m) r) h)))
    each_named (Apply op ts) f = all_named ts f
    each_named _ f = tt

    pub all_named : (ts : Trees) → ((n : Text) (ty : Option ValueType) → some_name_of (text_eq n) ts ≡ true → Passes n ty) → EachUnknownOf Passes ts
    all_named no_trees f = tt
    all_named (a_tree t ts) f =
        (each_named t (λ m ty h. f m ty (or_left (some_name (text_eq m) t) (some_name_of (text_eq m) ts) h)), all_named ts (λ m ty h. f m ty (or_right (some_name (text_eq m) t) (some_name_of (text_eq m) ts) h)))
