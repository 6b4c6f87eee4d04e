-- Rules of typing, by what their operands' types have.
use Rattle.std.proofs.Common.{◌≡◌, ◌∙◌, refl, sym, ap, Bool, true, false, [], ◌∷◌, Option, Some, None}
use Rattle.std.specs.Prelude.{cond, ◌&&◌, ◌||◌}
use Rattle.cedar_language.specs.Uid.{Name}
use Rattle.cedar_language.specs.Order.{same_name}
use Rattle.cedar_typing.specs.Types.{BoolType, CedarType, Booleans, Longs, Strings, Entities, Sets, Records, Extensions, lub}
use Rattle.cedar_typing.specs.Faults.{UnexpectedType}
use Rattle.cedar_typing.specs.Schema.{Schema}
use Rattle.cedar_typing.specs.Results.{Typing, Faulty, plainly, known, unsure}
use Rattle.cedar_typing.specs.Plain.{not_bool, not_type, neg_type, is_empty_type, less_type, arithmetic_type, where_comparable, contains_type, two_sets_type, like_type, where_declared, is_type}
use Rattle.cedar_typechecker.specs.Types.{bool_type_in, is_long, is_string, entity_in, element_in, ordered_in}
use Rattle.cedar_typechecker.specs.Plain.{are_ordered, are_longs, are_less_comparable}

abbrev with_part : {A : Type 0} → Option A → (A → Typing) → Typing
with_part (Some x) f = f x
with_part None f = Faulty UnexpectedType

abbrev where_true : Bool → Typing → Typing
where_true b x = cond b x (Faulty UnexpectedType)

not_by_part : (t : CedarType) → not_type (t ∷ []) ≡ with_part (bool_type_in t) (λ (b : BoolType). plainly (Booleans (not_bool b)))
not_by_part (Booleans b) = refl
not_by_part Longs = refl
not_by_part Strings = refl
not_by_part (Entities m) = refl
not_by_part (Sets e) = refl
not_by_part (Records fs) = refl
not_by_part (Extensions m o) = refl

pub not_of : (t : CedarType) (x : BoolType) → Some x ≡ bool_type_in t → not_type (t ∷ []) ≡ (λ (b : BoolType). plainly (Booleans (not_bool b))) x
not_of t x h = not_by_part t ∙ ap (λ o. with_part o (λ (b : BoolType). plainly (Booleans (not_bool b)))) (sym h)

pub not_of_none : (t : CedarType) → None ≡ bool_type_in t → not_type (t ∷ []) ≡ Faulty UnexpectedType
not_of_none t h = not_by_part t ∙ ap (λ o. with_part o (λ (b : BoolType). plainly (Booleans (not_bool b)))) (sym h)

is_empty_by_part : (t : CedarType) → is_empty_type (t ∷ []) ≡ with_part (element_in t) (λ (e : CedarType). unsure)
is_empty_by_part (Booleans b) = refl
is_empty_by_part Longs = refl
is_empty_by_part Strings = refl
is_empty_by_part (Entities m) = refl
is_empty_by_part (Sets e) = refl
is_empty_by_part (Records fs) = refl
is_empty_by_part (Extensions m o) = refl

pub is_empty_of : (t : CedarType) (x : CedarType) → Some x ≡ element_in t → is_empty_type (t ∷ []) ≡ (λ (e : CedarType). unsure) x
is_empty_of t x h = is_empty_by_part t ∙ ap (λ o. with_part o (λ (e : CedarType). unsure)) (sym h)

pub is_empty_of_none : (t : CedarType) → None ≡ element_in t → is_empty_type (t ∷ []) ≡ Faulty UnexpectedType
is_empty_of_none t h = is_empty_by_part t ∙ ap (λ o. with_part o (λ (e : CedarType). unsure)) (sym h)

is_by_part : (s : Schema) (n : Name) (t : CedarType) → is_type s n (t ∷ []) ≡ with_part (entity_in t) (λ (m : Name). where_declared (s.entity n) (known (same_name m n)))
is_by_part s n (Booleans b) = refl
is_by_part s n Longs = refl
is_by_part s n Strings = refl
is_by_part s n (Entities m) = refl
is_by_part s n (Sets e) = refl
is_by_part s n (Records fs) = refl
is_by_part s n (Extensions m o) = refl

pub is_of : (s : Schema) (n : Name) (t : CedarType) (x : Name) → Some x ≡ entity_in t → is_type s n (t ∷ []) ≡ (λ (m : Name). where_declared (s.entity n) (known (same_name m n))) x
is_of s n t x h = is_by_part s n t ∙ ap (λ o. with_part o (λ (m : Name). where_declared (s.entity n) (known (same_name m n)))) (sym h)

pub is_of_none : (s : Schema) (n : Name) (t : CedarType) → None ≡ entity_in t → is_type s n (t ∷ []) ≡ Faulty UnexpectedType
is_of_none s n t h = is_by_part s n t ∙ ap (λ o. with_part o (λ (m : Name). where_declared (s.entity n) (known (same_name m n)))) (sym h)

pub neg_by_kind : (t : CedarType) → neg_type (t ∷ []) ≡ where_true (is_long t) (plainly Longs)
neg_by_kind (Booleans b) = refl
neg_by_kind Longs = refl
neg_by_kind Strings = refl
neg_by_kind (Entities m) = refl
neg_by_kind (Sets e) = refl
neg_by_kind (Records fs) = refl
neg_by_kind (Extensions m o) = refl

pub like_by_kind : (t : CedarType) → like_type (t ∷ []) ≡ where_true (is_string t) unsure
like_by_kind (Booleans b) = refl
like_by_kind Longs = refl
like_by_kind Strings = refl
like_by_kind (Entities m) = refl
like_by_kind (Sets e) = refl
like_by_kind (Records fs) = refl
like_by_kind (Extensions m o) = refl

pub arithmetic_by_kind : (t u : CedarType) → arithmetic_type (t ∷ u ∷ []) ≡ where_true (are_longs t u) (plainly Longs)
arithmetic_by_kind (Booleans b) u = refl
arithmetic_by_kind Longs (Booleans b) = refl
arithmetic_by_kind Longs Longs = refl
arithmetic_by_kind Longs Strings = refl
arithmetic_by_kind Longs (Entities m) = refl
arithmetic_by_kind Longs (Sets e) = refl
arithmetic_by_kind Longs (Records fs) = refl
arithmetic_by_kind Longs (Extensions m o) = refl
arithmetic_by_kind Strings u = refl
arithmetic_by_kind (Entities m) u = refl
arithmetic_by_kind (Sets e) u = refl
arithmetic_by_kind (Records fs) u = refl
arithmetic_by_kind (Extensions m o) u = refl

less_ordered : (n : Name) (o : Bool) (u : CedarType) → less_type (Extensions n o ∷ u ∷ []) ≡ where_true (are_less_comparable (Extensions n o) u) unsure
less_ordered n false u = refl
less_ordered n true (Booleans b) = refl
less_ordered n true Longs = refl
less_ordered n true Strings = refl
less_ordered n true (Entities m) = refl
less_ordered n true (Sets e) = refl
less_ordered n true (Records fs) = refl
less_ordered n true (Extensions m true) = refl
less_ordered n true (Extensions m false) = refl

pub less_by_kind : (t u : CedarType) → less_type (t ∷ u ∷ []) ≡ where_true (are_less_comparable t u) unsure
less_by_kind (Booleans b) u = refl
less_by_kind Longs (Booleans b) = refl
less_by_kind Longs Longs = refl
less_by_kind Longs Strings = refl
less_by_kind Longs (Entities m) = refl
less_by_kind Longs (Sets e) = refl
less_by_kind Longs (Records fs) = refl
less_by_kind Longs (Extensions m o) = refl
less_by_kind Strings u = refl
less_by_kind (Entities m) u = refl
less_by_kind (Sets e) u = refl
less_by_kind (Records fs) u = refl
less_by_kind (Extensions n o) u = less_ordered n o u

contains_by_part : (t u : CedarType) → contains_type (t ∷ u ∷ []) ≡ with_part (element_in t) (λ e. where_comparable (lub e u))
contains_by_part (Booleans b) u = refl
contains_by_part Longs u = refl
contains_by_part Strings u = refl
contains_by_part (Entities m) u = refl
contains_by_part (Sets e) u = refl
contains_by_part (Records fs) u = refl
contains_by_part (Extensions m o) u = refl

pub contains_of : (t u e : CedarType) → Some e ≡ element_in t → contains_type (t ∷ u ∷ []) ≡ where_comparable (lub e u)
contains_of t u e h = contains_by_part t u ∙ ap (λ o. with_part o (λ e. where_comparable (lub e u))) (sym h)

pub contains_of_none : (t u : CedarType) → None ≡ element_in t → contains_type (t ∷ u ∷ []) ≡ Faulty UnexpectedType
contains_of_none t u h = contains_by_part t u ∙ ap (λ o. with_part o (λ e. where_comparable (lub e u))) (sym h)

two_sets_in : (e u : CedarType) → two_sets_type (Sets e ∷ u ∷ []) ≡ with_part (element_in u) (λ f. where_comparable (lub e f))
two_sets_in e (Booleans b) = refl
two_sets_in e Longs = refl
two_sets_in e Strings = refl
two_sets_in e (Entities m) = refl
two_sets_in e (Sets f) = refl
two_sets_in e (Records fs) = refl
two_sets_in e (Extensions m o) = refl

two_sets_by_parts : (t u : CedarType) → two_sets_type (t ∷ u ∷ []) ≡ with_part (element_in t) (λ e. with_part (element_in u) (λ f. where_comparable (lub e f)))
two_sets_by_parts (Booleans b) u = refl
two_sets_by_parts Longs u = refl
two_sets_by_parts Strings u = refl
two_sets_by_parts (Entities m) u = refl
two_sets_by_parts (Sets e) u = two_sets_in e u
two_sets_by_parts (Records fs) u = refl
two_sets_by_parts (Extensions m o) u = refl

pub two_sets_of : (t u e f : CedarType) → Some e ≡ element_in t → Some f ≡ element_in u → two_sets_type (t ∷ u ∷ []) ≡ where_comparable (lub e f)
two_sets_of t u e f h k =
    two_sets_by_parts t u
    ∙ ap (λ o. with_part o (λ e. with_part (element_in u) (λ f. where_comparable (lub e f)))) (sym h)
    ∙ ap (λ o. with_part o (λ f. where_comparable (lub e f))) (sym k)

pub two_sets_of_none : (t u : CedarType) → None ≡ element_in t → two_sets_type (t ∷ u ∷ []) ≡ Faulty UnexpectedType
two_sets_of_none t u h = two_sets_by_parts t u ∙ ap (λ o. with_part o (λ e. with_part (element_in u) (λ f. where_comparable (lub e f)))) (sym h)

pub two_sets_of_one : (t u e : CedarType) → Some e ≡ element_in t → None ≡ element_in u → two_sets_type (t ∷ u ∷ []) ≡ Faulty UnexpectedType
two_sets_of_one t u e h k =
    two_sets_by_parts t u
    ∙ ap (λ o. with_part o (λ e. with_part (element_in u) (λ f. where_comparable (lub e f)))) (sym h)
    ∙ ap (λ o. with_part o (λ f. where_comparable (lub e f))) (sym k)
