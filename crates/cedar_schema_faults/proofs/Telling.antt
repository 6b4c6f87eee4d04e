-- Faults that are told one behind another.
use Rattle.std.proofs.Common.{◌≡◌, ◌⊎◌, inl, inr, ℕ, ◌+◌, ◌<◌, ◌≤◌, Bool, true, false, cond, List, [], ◌∷◌, ◌++◌, length, take, get_or, append_assoc, refl, sym, ap, ◌∙◌, subst}
use Rattle.std.specs.Prelude.{map}
use Rattle.std.specs.Global.{Vec}
use Rattle.std.proofs.lemmas.List.{append-nil, map-append, take_more, take_all}
use Rattle.cedar_schema_grammar.specs.Declared.{Library, Declared}
use Rattle.cedar_schema_grammar.specs.Faults.{SchemaFault, where_true, faults_of_all}
use Rattle.cedar_schema_faults.specs.Views.{faults_view}
use Rattle.cedar_schema_faults.specs.Names.{HasNames}
use Rattle.cedar_schema_faults.specs.Telling.{is_of_cycles, AreMost, AreTold, IsKnown, Tells}
use Rattle.cedar_schema_faults.specs.declared.kinds.SchemaError.{SchemaError}
use Rattle.cedar_schema_faults.specs.declared.names.SchemaNames.{SchemaNames}

-- ---- most of a list

pub most_same : (fs : List SchemaFault) → AreMost fs fs
most_same [] = refl
most_same (f ∷ fs) = inr (fs, refl, most_same fs)

pub most_both : (xs fs ys gs : List SchemaFault) → AreMost xs fs → AreMost ys gs → AreMost (xs ++ ys) (fs ++ gs)
most_both xs [] ys gs e m = subst (λ zs. AreMost (zs ++ ys) gs) (sym e) m
most_both xs (f ∷ fs) ys gs (inl e) m = inl (e.0, most_both xs fs ys gs e.1 m)
most_both xs (f ∷ fs) ys gs (inr e) m = inr (e.0 ++ ys, ap (λ zs. zs ++ ys) e.1, most_both e.0 fs ys gs e.2 m)

-- ---- one fault, where a test is true

pub where_it_is : (b : Bool) (f : SchemaFault) → b ≡ true → where_true b f ≡ f ∷ []
where_it_is b f e = ap (λ c. where_true c f) e

pub where_it_isnt : (b : Bool) (f : SchemaFault) → b ≡ false → where_true b f ≡ []
where_it_isnt b f e = ap (λ c. where_true c f) e

-- ---- the faults of all in a list

pub of_all_parts : {A : Type 0} (f : A → List SchemaFault) (ys zs : List A) → faults_of_all f (ys ++ zs) ≡ faults_of_all f ys ++ faults_of_all f zs
of_all_parts f [] zs = refl
of_all_parts f (y ∷ ys) zs = ap (λ fs. f y ++ fs) (of_all_parts f ys zs) ∙ sym (append_assoc (f y) (faults_of_all f ys) (faults_of_all f zs))

-- those of one
pub of_one : {A : Type 0} (f : A → List SchemaFault) (y : A) → faults_of_all f (y ∷ []) ≡ f y
of_one f y = append-nil (f y)

-- ---- lists

module _ (known : Type 0) where
  pub exact : (old new all : List SchemaFault) → new ≡ old ++ all → AreTold known old new all
  exact old new all e = record { told = all; behind = e; most = most_same all; whole = λ k. refl }

  pub both : (old mid new fs gs : List SchemaFault) → AreTold known old mid fs → AreTold known mid new gs → AreTold known old new (fs ++ gs)
  both old mid new fs gs a b = record {
    told = a.told ++ b.told;
    behind = b.behind ∙ ap (λ xs. xs ++ b.told) a.behind ∙ append_assoc old a.told b.told;
    most = most_both a.told fs b.told gs a.most b.most;
    whole = λ k. ap (λ xs. xs ++ b.told) (a.whole k) ∙ ap (λ xs. fs ++ xs) (b.whole k);
  }

  -- a fault of cycles isn't told where there is none
  pub left_out : (old : List SchemaFault) (b : Bool) (f : SchemaFault) → is_of_cycles f ≡ true → (known → b ≡ false) → AreTold known old old (where_true b f)
  left_out old b f is none = record {
    told = [];
    behind = sym (append-nil old);
    most = by b;
    whole = λ k. ap (λ c. where_true c f) (sym (none k));
  }
    where
      by : (c : Bool) → AreMost [] (where_true c f)
      by true = inl (is, refl)
      by false = refl

-- ---- under any names

abbrev pub Told : Type 0
Told = Declared → Library → List SchemaFault

module _ (names : SchemaNames) where
  pub tells_exactly : (old new : Vec SchemaError) (f : Told)
      → ((d : Declared) (l : Library) → HasNames d l names → faults_view new ≡ faults_view old ++ f d l) → Tells names old new f
  tells_exactly old new f e = λ d l has. exact (IsKnown d l names) (faults_view old) (faults_view new) (f d l) (e d l has)

  pub tells_nothing : (old : Vec SchemaError) (f : Told) → ((d : Declared) (l : Library) → HasNames d l names → f d l ≡ []) → Tells names old old f
  tells_nothing old f e = tells_exactly old old f (λ d l has. sym (ap (λ fs. faults_view old ++ fs) (e d l has) ∙ append-nil (faults_view old)))

  pub tells_same : (old new : Vec SchemaError) (f g : Told) → ((d : Declared) (l : Library) → f d l ≡ g d l) → Tells names old new f → Tells names old new g
  tells_same old new f g e a = λ d l has. subst (λ fs. AreTold (IsKnown d l names) (faults_view old) (faults_view new) fs) (e d l) (a d l has)

  pub tells_both : (old mid new : Vec SchemaError) (f g : Told) → Tells names old mid f → Tells names mid new g → Tells names old new (λ d l. f d l ++ g d l)
  tells_both old mid new f g a b =
      λ d l has. both (IsKnown d l names) (faults_view old) (faults_view mid) (faults_view new) (f d l) (g d l) (a d l has) (b d l has)

  pub tells_where : (old new : Vec SchemaError) (test : Declared → Library → Bool) (f : SchemaFault)
      → ((d : Declared) (l : Library) → HasNames d l names → test d l ≡ true) → faults_view new ≡ faults_view old ++ f ∷ []
      → Tells names old new (λ d l. where_true (test d l) f)
  tells_where old new test f is e = tells_exactly old new (λ d l. where_true (test d l) f)
      (λ d l has. e ∙ ap (λ fs. faults_view old ++ fs) (sym (where_it_is (test d l) f (is d l has))))

  pub tells_not : (old : Vec SchemaError) (test : Declared → Library → Bool) (f : SchemaFault)
      → ((d : Declared) (l : Library) → HasNames d l names → test d l ≡ false) → Tells names old old (λ d l. where_true (test d l) f)
  tells_not old test f isnt = tells_nothing old (λ d l. where_true (test d l) f) (λ d l has. where_it_isnt (test d l) f (isnt d l has))

  -- a loop over what is viewed, where the faults of a list are those of its front and those of its last
  module _ {A X : Type 0} (view : X → A) (g : Declared → Library → List A → List SchemaFault)
      (parts : (d : Declared) (l : Library) (ys : List A) (y : A) → g d l (ys ++ y ∷ []) ≡ g d l ys ++ g d l (y ∷ [])) where
    pub tells_one_more : (xs : List X) (i : ℕ) (x : X) (old mid new : Vec SchemaError) → i < length xs → x ≡ get_or xs i x
        → Tells names old mid (λ d l. g d l (map view (take i xs))) → Tells names mid new (λ d l. g d l (view x ∷ []))
        → Tells names old new (λ d l. g d l (map view (take (i + 1) xs)))
    tells_one_more xs i x old mid new low here a b = λ d l has.
        let cut : map view (take (i + 1) xs) ≡ map view (take i xs) ++ view x ∷ []
        = ap (map view) (take_more xs i x low ∙ ap (λ y. take i xs ++ y ∷ []) (sym here)) ∙ map-append view (take i xs) (x ∷ []) in
        subst (λ fs. AreTold (IsKnown d l names) (faults_view old) (faults_view new) fs) (sym (ap (g d l) cut ∙ parts d l (map view (take i xs)) (view x)))
        (tells_both old mid new (λ e m. g e m (map view (take i xs))) (λ e m. g e m (view x ∷ [])) a b d l has)

    pub tells_all : (xs : List X) (i : ℕ) (old new : Vec SchemaError) → length xs ≤ i → Tells names old new (λ d l. g d l (map view (take i xs)))
        → Tells names old new (λ d l. g d l (map view xs))
    tells_all xs i old new past a = subst (λ ys. Tells names old new (λ d l. g d l (map view ys))) (take_all i xs past) a

  -- and where they are the faults of each
  module _ {A X : Type 0} (view : X → A) (f : Declared → Library → A → List SchemaFault) where
    pub tells_next : (xs : List X) (i : ℕ) (x : X) (old mid new : Vec SchemaError) → i < length xs → x ≡ get_or xs i x
        → Tells names old mid (λ d l. faults_of_all (f d l) (map view (take i xs))) → Tells names mid new (λ d l. f d l (view x))
        → Tells names old new (λ d l. faults_of_all (f d l) (map view (take (i + 1) xs)))
    tells_next xs i x old mid new low here a b =
        tells_one_more view (λ d l ys. faults_of_all (f d l) ys) (λ d l ys y. of_all_parts (f d l) ys (y ∷ [])) xs i x old mid new low here a
        (tells_same mid new (λ d l. f d l (view x)) (λ d l. faults_of_all (f d l) (view x ∷ [])) (λ d l. sym (of_one (f d l) (view x))) b)

    pub tells_each : (xs : List X) (i : ℕ) (old new : Vec SchemaError) → length xs ≤ i
        → Tells names old new (λ d l. faults_of_all (f d l) (map view (take i xs)))
        → Tells names old new (λ d l. faults_of_all (f d l) (map view xs))
    tells_each xs i old new past a = subst (λ ys. Tells names old new (λ d l. faults_of_all (f d l) (map view ys))) (take_all i xs past) a
