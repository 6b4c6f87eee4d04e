-- Values that are written and read back.
use Rattle.std.proofs.Common.{◌≡◌, ◌∙◌, ℕ, List, [], ◌∷◌, refl, ap, Bool, true, false}
use Rattle.std.specs.Prelude.{◌&&◌, ◌||◌, Option, Some, None, option_map}
use Rattle.cedar_language.specs.Tree.{MakeSet, MakeRecord, Call, Tree, Lit, Unknown, Apply, Trees, no_trees, a_tree}
use Rattle.cedar_language.specs.Value.{Value, Plain, SetOf, RecordOf, ExtensionOf, Values, no_values, a_value, Gives}
use Rattle.cedar_language.specs.Order.{set_of}
use Rattle.cedar_language.specs.Constructing.{longs_of}
use Rattle.cedar_language.specs.Facts.{Facts}
use Rattle.cedar_language.specs.Meaning.{Request, GivesAll, more_of, apply_of, meaning, meanings}
use Rattle.cedar_language.specs.Restricted.{is_restricted, are_restricted}
use Rattle.cedar_language.specs.Sets.{SetsAreFinite}
use Rattle.cedar_language.specs.WellFormed.{IsWellFormed, AreWellFormed}
use Rattle.cedar_restricted.specs.Expressing.{is_ground, are_ground, Expresses, ExpressAll}
use Rattle.cedar_restricted.specs.Reading.{both, value_in, values_in}
use Rattle.cedar_restricted.specs.Laws.{holds_extension, hold_extension}
use Rattle.cedar_lemmas.proofs.Booleans.{and_first as and_left, and_second as and_right, or_first as or_left, or_second as or_right}

longs_ground : (bs : List ℕ) → are_ground (longs_of bs) ≡ true
longs_ground [] = refl
longs_ground (b ∷ bs) = longs_ground bs

mutual
  pub ground : (v : Value) (t : Tree) → Expresses v t → is_ground t ≡ true
  ground (Plain l) t h = ap is_ground h
  ground (SetOf vs) t h = ap is_ground h.1 ∙ grounds vs h.0 h.2
  ground (RecordOf ks vs) t h = ap is_ground h.1 ∙ grounds vs h.0 h.2
  ground (ExtensionOf e) t h = ap is_ground h ∙ longs_ground e.key

  grounds : (vs : Values) (ts : Trees) → ExpressAll vs ts → are_ground ts ≡ true
  grounds no_values no_trees h = refl
  grounds no_values (a_tree t ts) h = absurd h
  grounds (a_value v vs) no_trees h = absurd h
  grounds (a_value v vs) (a_tree t ts) h = rw (ground v t h.0) (grounds vs ts h.1)

mutual
  pub restricted : (t : Tree) → is_ground t ≡ true → is_restricted t ≡ true
  restricted (Lit l) h = refl
  restricted (Unknown n ty) h = refl
  restricted (Apply MakeSet ts) h = all_restricted ts h
  restricted (Apply (MakeRecord ks) ts) h = all_restricted ts h
  restricted (Apply (Call f) ts) h = all_restricted ts h
  restricted t h = cc

  all_restricted : (ts : Trees) → are_ground ts ≡ true → are_restricted ts ≡ true
  all_restricted no_trees h = refl
  all_restricted (a_tree t ts) h = rw (restricted t (and_left _ _ h)) (all_restricted ts (and_right _ _ h))

mutual
  pub back : SetsAreFinite → (v : Value) (t : Tree) → IsWellFormed v → Expresses v t → holds_extension v ≡ false → value_in t ≡ Some v
  back law (Plain l) t w h n = ap value_in h
  back law (SetOf vs) t w h n = ap value_in h.1 ∙ ap (option_map set_of) (all_back law vs h.0 w.1 h.2 n) ∙ ap (λ us. Some (SetOf us)) (law.kept vs w.0)
  back law (RecordOf ks vs) t w h n = ap value_in h.1 ∙ ap (option_map (RecordOf ks)) (all_back law vs h.0 w.2 h.2 n)
  back law (ExtensionOf e) t w h n = cc

  all_back : SetsAreFinite → (vs : Values) (ts : Trees) → AreWellFormed vs → ExpressAll vs ts → hold_extension vs ≡ false → values_in ts ≡ Some vs
  all_back law no_values no_trees w h n = refl
  all_back law no_values (a_tree t ts) w h n = absurd h
  all_back law (a_value v vs) no_trees w h n = absurd h
  all_back law (a_value v vs) (a_tree t ts) w h n = rw (back law v t w.0 h.0 (or_left (holds_extension v) (hold_extension vs) n), all_back law vs ts w.1 h.1 (or_right (holds_extension v) (hold_extension vs) n)) refl

no_rest : (o : Option Value) → both o None ≡ None
no_rest (Some v) = refl
no_rest None = refl

one_of_two : (b c : Bool) (x : Option Value) (y : Option Values) → (b || c) ≡ true → (b ≡ true → x ≡ None) → (c ≡ true → y ≡ None) → both x y ≡ None
one_of_two true c x y h f g = ap (λ o. both o y) (f refl)
one_of_two false c x y h f g = ap (both x) (g h) ∙ no_rest x

mutual
  pub not_back : (v : Value) (t : Tree) → Expresses v t → holds_extension v ≡ true → value_in t ≡ None
  not_back (Plain l) t h y = cc
  not_back (SetOf vs) t h y = ap value_in h.1 ∙ ap (option_map set_of) (none_back vs h.0 h.2 y)
  not_back (RecordOf ks vs) t h y = ap value_in h.1 ∙ ap (option_map (RecordOf ks)) (none_back vs h.0 h.2 y)
  not_back (ExtensionOf e) t h y = ap value_in h

  none_back : (vs : Values) (ts : Trees) → ExpressAll vs ts → hold_extension vs ≡ true → values_in ts ≡ None
  none_back no_values no_trees h y = cc
  none_back no_values (a_tree t ts) h y = absurd h
  none_back (a_value v vs) no_trees h y = absurd h
  none_back (a_value v vs) (a_tree t ts) h y = one_of_two (holds_extension v) (hold_extension vs) (value_in t) (values_in ts) y (λ e. not_back v t h.0 e) (λ e. none_back vs ts h.1 e)

-- ---- what a tree means

mapped : (f : Values → Value) (o : Option Values) (v : Value) → option_map f o ≡ Some v → (vs : Values) × (o ≡ Some vs) × (f vs ≡ v)
mapped f (Some vs) v h = (vs, refl, cc)
mapped f None v h = cc

both_parts : (a : Option Value) (b : Option Values) (ws : Values) → both a b ≡ Some ws → (v : Value) × (vs : Values) × (a ≡ Some v) × (b ≡ Some vs) × (a_value v vs ≡ ws)
both_parts (Some v) (Some vs) ws h = (v, vs, refl, refl, cc)
both_parts (Some v) None ws h = cc
both_parts None b ws h = cc

module _ (facts : Facts) (request : Request) where
  mutual
    pub meant : (t : Tree) (v : Value) → value_in t ≡ Some v → meaning facts request t ≡ Gives v
    meant (Lit l) v h = cc
    meant (Apply MakeSet ts) v h =
        let m = mapped set_of (values_in ts) v h in
        ap (apply_of facts MakeSet) (all_meant ts m.0 m.1) ∙ ap Gives m.2
    meant (Apply (MakeRecord ks) ts) v h =
        let m = mapped (RecordOf ks) (values_in ts) v h in
        ap (apply_of facts (MakeRecord ks)) (all_meant ts m.0 m.1) ∙ ap Gives m.2
    meant t v h = cc

    all_meant : (ts : Trees) (vs : Values) → values_in ts ≡ Some vs → meanings facts request ts ≡ GivesAll vs
    all_meant no_trees vs h = cc
    all_meant (a_tree t ts) vs h =
        let p = both_parts (value_in t) (values_in ts) vs h in
        ap (λ o. more_of o (meanings facts request ts)) (meant t p.0 p.2) ∙ ap (more_of (Gives p.0)) (all_meant ts p.1 p.3) ∙ ap GivesAll p.4
