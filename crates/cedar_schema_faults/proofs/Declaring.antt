-- The faults of what is declared are those of its parts.
use Rattle.std.proofs.Common.{◌≡◌, ◌⊎◌, inl, inr, ℕ, suc, arith, ◌+◌, ◌<◌, Bool, true, false, ◌&&◌, ◌||◌, ◌==◌, not, List, [], ◌∷◌, ◌++◌, length, take, get_or, append_assoc, Option, Some, None, refl, sym, ap, ◌∙◌, subst}
use Rattle.std.specs.Prelude.{map, is_some, option_map}
use Rattle.std.specs.Global.{Vec}
use Rattle.std.specs.List.{list_any}
use Rattle.std.proofs.lemmas.Bool.{eqb-true}
use Rattle.std.proofs.lemmas.List.{append-nil, map-append, take_more}
use Rattle.cedar_language.specs.Uid.{Text, Name}
use Rattle.cedar_schema_grammar.specs.Declared.{Library, Declared, entity_at, type_at, EntityType, CommonType, EntityBody, shaped, listed, type_name}
use Rattle.cedar_schema_grammar.specs.Syntax.{TypeSyntax, AttributesSyntax, a_record, EntitySyntax}
use Rattle.cedar_schema_grammar.specs.Written.{type_reaches}
use Rattle.cedar_schema_grammar.specs.Faults.{SchemaFault, TypeShadowing, CycleInCommonTypeReferences, ReservedName, where_true, is_empty, is_type_alone, shadowing, type_faults, maybe_type_faults, entity_name_faults, faults_of_all, body_faults, is_built_in_name, is_cedar, common_type_faults}
use Rattle.cedar_schema.specs.Tables.{entry_at}
use Rattle.cedar_schema_faults.specs.Views.{faults_view}
use Rattle.cedar_schema_faults.specs.Names.{HasNames, HasNoCycle}
use Rattle.cedar_schema_faults.specs.Telling.{IsKnown, Tells}
use Rattle.cedar_schema_faults.specs.declared.kinds.SchemaError.{SchemaError}
use Rattle.cedar_schema_faults.specs.declared.names.SchemaNames.{SchemaNames}
use Rattle.cedar_schema_faults.proofs.Naming.{declared_type}
use Rattle.cedar_schema_faults.proofs.Telling.{where_it_is, where_it_isnt, left_out, tells_exactly, tells_both, tells_where, tells_not}

more : (n : ℕ) → (suc n == 0) ≡ false
more n = by (suc n == 0) refl
  where
    by : (b : Bool) → (suc n == 0) ≡ b → b ≡ false
    by true e = let z : suc n ≡ 0 = eqb-true (suc n) 0 e in absurd (omega arith)
    by false e = refl

pub empty_is : {A : Type 0} (xs : List A) → (length xs == 0) ≡ is_empty xs
empty_is [] = refl
empty_is (x ∷ xs) = more (length xs)

pub empty_mapped : {A B : Type 0} (f : A → B) (xs : List A) → (length xs == 0) ≡ is_empty (map f xs)
empty_mapped f [] = refl
empty_mapped f (x ∷ xs) = more (length xs)

pub exactly_where : (old new : List SchemaFault) (b : Bool) (f : SchemaFault) → b ≡ true → new ≡ old ++ f ∷ [] → new ≡ old ++ where_true b f
exactly_where old new b f e put = put ∙ ap (λ fs. old ++ fs) (sym (where_it_is b f e))

pub exactly_not : (old : List SchemaFault) (b : Bool) (f : SchemaFault) → b ≡ false → old ≡ old ++ where_true b f
exactly_not old b f e = sym (ap (λ fs. old ++ fs) (where_it_isnt b f e) ∙ append-nil old)

-- ---- words

any_last : {A : Type 0} (f : A → Bool) (xs : List A) (x : A) → list_any f (xs ++ x ∷ []) ≡ (list_any f xs || f x)
any_last f [] x = by (f x)
  where
    by : (b : Bool) → (b || false) ≡ b
    by true = refl
    by false = refl
any_last f (y ∷ xs) x = ap (λ b. f y || b) (any_last f xs x) ∙ by (f y)
  where
    by : (b : Bool) → (b || (list_any f xs || f x)) ≡ ((b || list_any f xs) || f x)
    by true = refl
    by false = refl

pub any_more : {A X : Type 0} (view : X → A) (f : A → Bool) (xs : List X) (i : ℕ) (x : X) (old new : Bool) → i < length xs → x ≡ get_or xs i x
    → old ≡ list_any f (map view (take i xs)) → new ≡ (old || f (view x)) → new ≡ list_any f (map view (take (i + 1) xs))
any_more view f xs i x old new low here e g =
    let cut : map view (take (i + 1) xs) ≡ map view (take i xs) ++ view x ∷ []
    = ap (map view) (take_more xs i x low ∙ ap (λ y. take i xs ++ y ∷ []) (sym here)) ∙ map-append view (take i xs) (x ∷ []) in
    g ∙ ap (λ b. b || f (view x)) e ∙ sym (ap (list_any f) cut ∙ any_last f (map view (take i xs)) (view x))

pub or_false : (b : Bool) → b ≡ (b || false)
or_false true = refl
or_false false = refl

-- ---- shadowing

pub both_true : (a b : Bool) → a ≡ false → b ≡ true → (not a && b) ≡ true
both_true false true e f = refl
both_true true b e f = absurd (cc e)
both_true false false e f = absurd (cc f)

pub first_false : (a b : Bool) → a ≡ true → (not a && b) ≡ false
first_false true b e = refl
first_false false b e = absurd (cc e)

pub second_false : (a b : Bool) → b ≡ false → (not a && b) ≡ false
second_false true b e = refl
second_false false false e = refl
second_false false true e = absurd (cc e)

module _ (names : SchemaNames) (namespace : Name) (s : Text) where
  pub outside : (old : Vec SchemaError) → is_empty namespace ≡ true → Tells names old old (λ d l. shadowing d namespace s)
  outside old e = tells_not names old (λ d l. not (is_empty namespace) && is_type_alone d s) (TypeShadowing (namespace ++ s ∷ []))
      (λ d l has. first_false (is_empty namespace) (is_type_alone d s) e)

  pub not_alone : (old : Vec SchemaError) (n : Name) → n ≡ s ∷ [] → is_some (entry_at names.table n) ≡ false
      → Tells names old old (λ d l. shadowing d namespace s)
  not_alone old n is e = tells_not names old (λ d l. not (is_empty namespace) && is_type_alone d s) (TypeShadowing (namespace ++ s ∷ []))
      (λ d l has. second_false (is_empty namespace) (is_type_alone d s)
      (sym (declared_type d l names has (s ∷ [])) ∙ ap (λ m. is_some (entry_at names.table m)) (sym is) ∙ e))

  pub alone : (old new : Vec SchemaError) (n name : Name) → is_empty namespace ≡ false → n ≡ s ∷ [] → is_some (entry_at names.table n) ≡ true
      → name ≡ namespace ++ s ∷ [] → faults_view new ≡ faults_view old ++ TypeShadowing name ∷ [] → Tells names old new (λ d l. shadowing d namespace s)
  alone old new n name inside is e same put =
      tells_where names old new (λ d l. not (is_empty namespace) && is_type_alone d s) (TypeShadowing (namespace ++ s ∷ []))
      (λ d l has. both_true (is_empty namespace) (is_type_alone d s) inside
      (sym (declared_type d l names has (s ∷ [])) ∙ ap (λ m. is_some (entry_at names.table m)) (sym is) ∙ e))
      (put ∙ ap (λ m. faults_view old ++ TypeShadowing m ∷ []) same)

-- ---- what is written of an entity type

module _ (names : SchemaNames) where
  pub told_shape : (old a b new : Vec SchemaError) (e : EntityType) (w : EntitySyntax) (ns : Name) (ps : List Name) (xs : AttributesSyntax)
      → e.body ≡ shaped w → ns ≡ e.namespace → ps ≡ w.parents → xs ≡ w.attributes
      → Tells names old a (λ d l. faults_of_all (entity_name_faults d ns) ps) → Tells names a b (λ d l. type_faults d l ns (a_record xs))
      → Tells names b new (λ d l. maybe_type_faults d l ns w.tags) → Tells names old new (λ d l. body_faults d l e e.body)
  told_shape old a b new e w ns ps xs body is eps exs f g h =
      subst (λ x. Tells names old new (λ d l. body_faults d l e x)) (sym body)
      (tells_both names old a new (λ d l. faults_of_all (entity_name_faults d e.namespace) w.parents)
      (λ d l. type_faults d l e.namespace (a_record w.attributes) ++ maybe_type_faults d l e.namespace w.tags)
      (subst (λ x. Tells names old a (λ d l. faults_of_all (entity_name_faults d e.namespace) x)) eps
      (subst (λ n. Tells names old a (λ d l. faults_of_all (entity_name_faults d n) ps)) is f))
      (tells_both names a b new (λ d l. type_faults d l e.namespace (a_record w.attributes)) (λ d l. maybe_type_faults d l e.namespace w.tags)
      (subst (λ x. Tells names a b (λ d l. type_faults d l e.namespace (a_record x))) exs (subst (λ n. Tells names a b (λ d l. type_faults d l n (a_record
      xs))) is g))
      (subst (λ n. Tells names b new (λ d l. maybe_type_faults d l n w.tags)) is h)))

  -- ---- a common type

  pub told_common : (old a b new : Vec SchemaError) (t : CommonType) (ns : Name) → ns ≡ t.namespace
      → faults_view a ≡ faults_view old ++ where_true (is_built_in_name t.own || is_cedar t.own) (ReservedName (type_name t))
      → Tells names a b (λ d l. shadowing d t.namespace t.own) → Tells names b new (λ d l. type_faults d l ns t.type)
      → Tells names old new (λ d l. common_type_faults d l t)
  told_common old a b new t ns is f g h =
      tells_both names old a new (λ d l. where_true (is_built_in_name t.own || is_cedar t.own) (ReservedName (type_name t)))
      (λ d l. where_true (type_reaches d l (type_name t) (type_name t)) (CycleInCommonTypeReferences (type_name t))
      ++ (shadowing d t.namespace t.own ++ type_faults d l t.namespace t.type))
      (tells_exactly names old a (λ d l. where_true (is_built_in_name t.own || is_cedar t.own) (ReservedName (type_name t))) (λ d l has. f))
      (tells_both names a a new (λ d l. where_true (type_reaches d l (type_name t) (type_name t)) (CycleInCommonTypeReferences (type_name t)))
      (λ d l. shadowing d t.namespace t.own ++ type_faults d l t.namespace t.type)
      (λ d l has. left_out (IsKnown d l names) (faults_view a) (type_reaches d l (type_name t) (type_name t)) (CycleInCommonTypeReferences (type_name t)) refl
      (λ known. known.0.types (type_name t)))
      (tells_both names a b new (λ d l. shadowing d t.namespace t.own) (λ d l. type_faults d l t.namespace t.type) g
      (subst (λ n. Tells names b new (λ d l. type_faults d l n t.type)) is h)))
