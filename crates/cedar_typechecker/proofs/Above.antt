-- The least type above two, and of records field by field.
use Rattle.std.proofs.Common.{◌≡◌, ◌∙◌, refl, sym, ap, ℕ, suc, ◌+◌, ◌<◌, ◌≤◌, Bool, true, false, List, [], ◌∷◌, ◌++◌, map, drop, get_or, length, rules, Option, Some, None, Global, Vec}
use Rattle.std.specs.Prelude.{◌≢◌, cond, ◌&&◌}
use Rattle.std.specs.Option.{option_map}
use Rattle.std.specs.declared.rc.Rc.{Rc}
use Rattle.std.proofs.lemmas.List.{at_drop_more, at_drop_all, map-append}
use Rattle.cedar_language.specs.Uid.{Text}
use Rattle.cedar_language.specs.Order.{same_text}
use Rattle.cedar_typing.specs.Types.{Presence, BoolType, CedarType, Booleans, Longs, Strings, Entities, Sets, Records, Extensions, Field as AField, Fields, no_fields, lub, lub_fields, and_field, same_presence}
use Rattle.cedar_schema.specs.Types.{listed}
use Rattle.cedar_typechecker.specs.Types.{bool_type_view, type_view, field_view, fields_view, element_in}
use Rattle.cedar_typechecker.specs.Lub.{of_least, least_field}
use Rattle.cedar_typechecker.specs.declared.types.BoolType as bool_type
use Rattle.cedar_typechecker.specs.declared.types.ExprType.{ExprType, the_lemmas}
use Rattle.cedar_typechecker.specs.declared.types.ExprType.TheVariants as kind
use Rattle.cedar_typechecker.specs.declared.types.Field.{Field}

pub set_view : (r : Rc ExprType Global) → type_view (kind.Set r) ≡ Sets (type_view r.value)
set_view r = search (rules, the_lemmas)

pub boolean_view : (t : bool_type.BoolType) → type_view (kind.Boolean t) ≡ Booleans (bool_type_view t)
boolean_view t = search (rules, the_lemmas)

pub record_view : (r : Rc (Vec Field Global) Global) → type_view (kind.Record r) ≡ Records (fields_view r.value.items)
record_view r = search (rules, the_lemmas)

-- ---- sets

abbrev set_with : CedarType → Option CedarType → Option CedarType
set_with a None = None
set_with a (Some e) = option_map Sets (lub a e)

reads_set : (a b : CedarType) → lub (Sets a) b ≡ set_with a (element_in b)
reads_set a (Booleans t) = refl
reads_set a Longs = refl
reads_set a Strings = refl
reads_set a (Entities n) = refl
reads_set a (Sets e) = refl
reads_set a (Records fs) = refl
reads_set a (Extensions n o) = refl

pub lub_set : (a b e l : CedarType) → element_in b ≡ Some e → Some l ≡ lub a e → Some (Sets l) ≡ lub (Sets a) b
lub_set a b e l h k = ap (option_map Sets) k ∙ sym (reads_set a b ∙ ap (set_with a) h)

-- ---- fields

abbrev Entry : Type 0
Entry = Text × AField

-- these fields in front of those that are left, if there are any
abbrev pub in_front : List Entry → Option Fields → Option Fields
in_front [] o = o
in_front (e ∷ es) o = and_field e.0 e.1.presence (Some e.1.type) (in_front es o)

front_none : (es : List Entry) → in_front es None ≡ None
front_none [] = refl
front_none (e ∷ es) = ap (and_field e.0 e.1.presence (Some e.1.type)) (front_none es)

front_more : (es : List Entry) (e : Entry) (o : Option Fields) → in_front (es ++ e ∷ []) o ≡ in_front es (in_front (e ∷ []) o)
front_more [] e o = refl
front_more (f ∷ es) e o = ap (and_field f.0 f.1.presence (Some f.1.type)) (front_more es e o)

front_all : (es : List Entry) → in_front es (Some no_fields) ≡ Some (listed es)
front_all [] = refl
front_all (e ∷ es) = ap (and_field e.0 e.1.presence (Some e.1.type)) (front_all es)

abbrev by_least : Option Entry → Option Fields → Option Fields
by_least (Some e) o = in_front (e ∷ []) o
by_least None o = None

by_test : (b : Bool) (k : Text) (p : Presence) (t : Option CedarType) (o : Option Fields) → cond b (and_field k p t o) None ≡ by_least (cond b (of_least k p t) None) o
by_test true k p (Some t) o = refl
by_test true k p None o = refl
by_test false k p t o = refl

fields_step : (e f : Entry) (es fs : List Entry) → lub_fields (listed (e ∷ es)) (listed (f ∷ fs)) ≡ by_least (least_field e f) (lub_fields (listed es) (listed fs))
fields_step e f es fs = by_test (same_text e.0 f.0 && same_presence e.1.presence f.1.presence) e.0 e.1.presence (lub e.1.type f.1.type) (lub_fields (listed es) (listed fs))

nothing_left : (o : Option Entry) → by_least o None ≡ None
nothing_left (Some e) = refl
nothing_left None = refl

pub unequal : (fs gs : List Field) → length fs ≢ length gs → None ≡ lub_fields (fields_view fs) (fields_view gs)
unequal [] [] h = absurd (h refl)
unequal [] (g ∷ gs) h = refl
unequal (f ∷ fs) [] h = refl
unequal (f ∷ fs) (g ∷ gs) h =
    sym (fields_step (field_view f) (field_view g) (map field_view fs) (map field_view gs)
    ∙ ap (by_least (least_field (field_view f) (field_view g))) (sym (unequal fs gs (λ e. h (ap suc e))))
    ∙ nothing_left (least_field (field_view f) (field_view g)))

-- the least fields above what is left of two lists
abbrev pub least_left : List Field → List Field → ℕ → Option Fields
least_left fs gs i = lub_fields (fields_view (drop i fs)) (fields_view (drop i gs))

step_at : (fs gs : List Field) (i : ℕ) (f g : Field) → i < length fs → i < length gs → f ≡ get_or fs i f → g ≡ get_or gs i g
    → least_left fs gs i ≡ by_least (least_field (field_view f) (field_view g)) (least_left fs gs (i + 1))
step_at fs gs i f g lt lu is as_ =
    at_drop_more (λ (l : List Field). lub_fields (fields_view l) (fields_view (drop i gs))) fs i f lt
    ∙ ap (λ (h : Field). lub_fields (fields_view (h ∷ drop (i + 1) fs)) (fields_view (drop i gs))) (sym is)
    ∙ at_drop_more (λ (l : List Field). lub_fields (fields_view (f ∷ drop (i + 1) fs)) (fields_view l)) gs i g lu
    ∙ ap (λ (h : Field). lub_fields (fields_view (f ∷ drop (i + 1) fs)) (fields_view (h ∷ drop (i + 1) gs))) (sym as_)
    ∙ fields_step (field_view f) (field_view g) (map field_view (drop (i + 1) fs)) (map field_view (drop (i + 1) gs))

pub least_more : (fs gs ms : List Field) (i : ℕ) (f g m : Field) → i < length fs → i < length gs → f ≡ get_or fs i f → g ≡ get_or gs i g → Some (field_view m) ≡ least_field (field_view f) (field_view g)
    → in_front (map field_view (ms ++ m ∷ [])) (least_left fs gs (i + 1)) ≡ in_front (map field_view ms) (least_left fs gs i)
least_more fs gs ms i f g m lt lu is as_ h =
    ap (λ es. in_front es (least_left fs gs (i + 1))) (map-append field_view ms (m ∷ []))
    ∙ front_more (map field_view ms) (field_view m) (least_left fs gs (i + 1))
    ∙ ap (λ o. in_front (map field_view ms) (by_least o (least_left fs gs (i + 1)))) h
    ∙ ap (in_front (map field_view ms)) (sym (step_at fs gs i f g lt lu is as_))

pub least_none : (fs gs ms : List Field) (i : ℕ) (f g : Field) → i < length fs → i < length gs → f ≡ get_or fs i f → g ≡ get_or gs i g → None ≡ least_field (field_view f) (field_view g)
    → in_front (map field_view ms) (least_left fs gs i) ≡ None
least_none fs gs ms i f g lt lu is as_ h =
    ap (in_front (map field_view ms)) (step_at fs gs i f g lt lu is as_ ∙ ap (λ o. by_least o (least_left fs gs (i + 1))) (sym h))
    ∙ front_none (map field_view ms)

pub least_end : (fs gs ms : List Field) (n : ℕ) → length fs ≤ n → length gs ≤ n → in_front (map field_view ms) (least_left fs gs n) ≡ Some (fields_view ms)
least_end fs gs ms n h k =
    ap (in_front (map field_view ms))
    (at_drop_all (λ (l : List Field). lub_fields (fields_view l) (fields_view (drop n gs))) fs n h
    ∙ at_drop_all (λ (l : List Field). lub_fields no_fields (fields_view l)) gs n k)
    ∙ front_all (map field_view ms)
