-- The rules of `&&`, `||` and `if`, by what is known of their parts.
use Rattle.std.proofs.Common.{◌≡◌, ◌∙◌, refl, sym, ap, true, false, List, [], ◌∷◌, ◌++◌, Option, Some, None}
use Rattle.cedar_typing.specs.Types.{BoolType, AlwaysTrue, AlwaysFalse, Unsure, CedarType, Booleans, Longs, Strings, Entities, Sets, Records, Extensions}
use Rattle.cedar_typing.specs.Capabilities.{Capabilities, in_both}
use Rattle.cedar_typing.specs.Faults.{UnexpectedType}
use Rattle.cedar_typing.specs.Lazies.{and_bool, gives_where, and_with, and_typing, or_with, or_typing, boolean_alone, if_typing, with_more, if_both}
use Rattle.cedar_typing.specs.Results.{Typing, HasType, Faulty, known}
use Rattle.cedar_typechecker.specs.Types.{bool_type_in}

abbrev with_boolean : Option BoolType → (BoolType → Typing) → Typing
with_boolean (Some t) f = f t
with_boolean None f = Faulty UnexpectedType

and_by_part : (t : BoolType) (c : Capabilities) (u : CedarType) (d : Capabilities) → and_with t c (HasType u d) ≡ with_boolean (bool_type_in u) (λ (b : BoolType). HasType (Booleans (and_bool t b)) (gives_where (and_bool t b) (d ++ c)))
and_by_part t c (Booleans b) d = refl
and_by_part t c Longs d = refl
and_by_part t c Strings d = refl
and_by_part t c (Entities m) d = refl
and_by_part t c (Sets e) d = refl
and_by_part t c (Records fs) d = refl
and_by_part t c (Extensions m o) d = refl

pub and_of : (t : BoolType) (c : Capabilities) (u : CedarType) (d : Capabilities) (x : BoolType) → Some x ≡ bool_type_in u → and_with t c (HasType u d) ≡ (λ (b : BoolType). HasType (Booleans (and_bool t b)) (gives_where (and_bool t b) (d ++ c))) x
and_of t c u d x h = and_by_part t c u d ∙ ap (λ o. with_boolean o (λ (b : BoolType). HasType (Booleans (and_bool t b)) (gives_where (and_bool t b) (d ++ c)))) (sym h)

pub and_of_none : (t : BoolType) (c : Capabilities) (u : CedarType) (d : Capabilities) → None ≡ bool_type_in u → and_with t c (HasType u d) ≡ Faulty UnexpectedType
and_of_none t c u d h = and_by_part t c u d ∙ ap (λ o. with_boolean o (λ (b : BoolType). HasType (Booleans (and_bool t b)) (gives_where (and_bool t b) (d ++ c)))) (sym h)

abbrev pub or_boolean : Capabilities → Capabilities → BoolType → Typing
or_boolean c d AlwaysTrue = known true
or_boolean c d AlwaysFalse = HasType (Booleans Unsure) c
or_boolean c d Unsure = HasType (Booleans Unsure) (in_both c d)

or_known : (c d : Capabilities) (b : BoolType) → or_with c (HasType (Booleans b) d) ≡ or_boolean c d b
or_known c d AlwaysTrue = refl
or_known c d AlwaysFalse = refl
or_known c d Unsure = refl

or_by_part : (c : Capabilities) (u : CedarType) (d : Capabilities) → or_with c (HasType u d) ≡ with_boolean (bool_type_in u) (or_boolean c d)
or_by_part c (Booleans b) d = or_known c d b
or_by_part c Longs d = refl
or_by_part c Strings d = refl
or_by_part c (Entities m) d = refl
or_by_part c (Sets e) d = refl
or_by_part c (Records fs) d = refl
or_by_part c (Extensions m o) d = refl

pub or_of : (c : Capabilities) (u : CedarType) (d : Capabilities) (x : BoolType) → Some x ≡ bool_type_in u → or_with c (HasType u d) ≡ (or_boolean c d) x
or_of c u d x h = or_by_part c u d ∙ ap (λ o. with_boolean o (or_boolean c d)) (sym h)

pub or_of_none : (c : Capabilities) (u : CedarType) (d : Capabilities) → None ≡ bool_type_in u → or_with c (HasType u d) ≡ Faulty UnexpectedType
or_of_none c u d h = or_by_part c u d ∙ ap (λ o. with_boolean o (or_boolean c d)) (sym h)

alone_by_part : (u : CedarType) (d : Capabilities) → boolean_alone (HasType u d) ≡ with_boolean (bool_type_in u) (λ (b : BoolType). HasType (Booleans b) d)
alone_by_part (Booleans b) d = refl
alone_by_part Longs d = refl
alone_by_part Strings d = refl
alone_by_part (Entities m) d = refl
alone_by_part (Sets e) d = refl
alone_by_part (Records fs) d = refl
alone_by_part (Extensions m o) d = refl

pub alone_of : (u : CedarType) (d : Capabilities) (x : BoolType) → Some x ≡ bool_type_in u → boolean_alone (HasType u d) ≡ (λ (b : BoolType). HasType (Booleans b) d) x
alone_of u d x h = alone_by_part u d ∙ ap (λ o. with_boolean o (λ (b : BoolType). HasType (Booleans b) d)) (sym h)

pub alone_of_none : (u : CedarType) (d : Capabilities) → None ≡ bool_type_in u → boolean_alone (HasType u d) ≡ Faulty UnexpectedType
alone_of_none u d h = alone_by_part u d ∙ ap (λ o. with_boolean o (λ (b : BoolType). HasType (Booleans b) d)) (sym h)

-- ---- by the left operand, or the test

abbrev pub and_boolean : Capabilities → (Capabilities → Typing) → BoolType → Typing
and_boolean c f AlwaysFalse = known false
and_boolean c f AlwaysTrue = and_with AlwaysTrue c (f c)
and_boolean c f Unsure = and_with Unsure c (f c)

and_left : (c : Capabilities) (f : Capabilities → Typing) (b : BoolType) → and_typing (HasType (Booleans b) c) f ≡ and_boolean c f b
and_left c f AlwaysFalse = refl
and_left c f AlwaysTrue = refl
and_left c f Unsure = refl

abbrev pub or_left : Capabilities → Typing → BoolType → Typing
or_left c y AlwaysTrue = known true
or_left c y AlwaysFalse = boolean_alone y
or_left c y Unsure = or_with c y

or_first : (c : Capabilities) (y : Typing) (b : BoolType) → or_typing (HasType (Booleans b) c) y ≡ or_left c y b
or_first c y AlwaysTrue = refl
or_first c y AlwaysFalse = refl
or_first c y Unsure = refl

abbrev pub if_tested : Capabilities → (Capabilities → Typing) → Typing → BoolType → Typing
if_tested c f z AlwaysTrue = with_more c (f c)
if_tested c f z AlwaysFalse = z
if_tested c f z Unsure = if_both c (f c) z

if_test : (c : Capabilities) (f : Capabilities → Typing) (z : Typing) (b : BoolType) → if_typing (HasType (Booleans b) c) f z ≡ if_tested c f z b
if_test c f z AlwaysTrue = refl
if_test c f z AlwaysFalse = refl
if_test c f z Unsure = refl

and_by_boolean : (u : CedarType) (c : Capabilities) (f : Capabilities → Typing) → and_typing (HasType u c) f ≡ with_boolean (bool_type_in u) (and_boolean c f)
and_by_boolean (Booleans b) c f = and_left c f b
and_by_boolean Longs c f = refl
and_by_boolean Strings c f = refl
and_by_boolean (Entities m) c f = refl
and_by_boolean (Sets e) c f = refl
and_by_boolean (Records fs) c f = refl
and_by_boolean (Extensions m o) c f = refl

pub and_at : (u : CedarType) (c : Capabilities) (f : Capabilities → Typing) (x : BoolType) → Some x ≡ bool_type_in u → and_typing (HasType u c) f ≡ (and_boolean c f) x
and_at u c f x h = and_by_boolean u c f ∙ ap (λ o. with_boolean o (and_boolean c f)) (sym h)

pub and_untold : (u : CedarType) (c : Capabilities) (f : Capabilities → Typing) → None ≡ bool_type_in u → and_typing (HasType u c) f ≡ Faulty UnexpectedType
and_untold u c f h = and_by_boolean u c f ∙ ap (λ o. with_boolean o (and_boolean c f)) (sym h)

or_by_boolean : (u : CedarType) (c : Capabilities) (y : Typing) → or_typing (HasType u c) y ≡ with_boolean (bool_type_in u) (or_left c y)
or_by_boolean (Booleans b) c y = or_first c y b
or_by_boolean Longs c y = refl
or_by_boolean Strings c y = refl
or_by_boolean (Entities m) c y = refl
or_by_boolean (Sets e) c y = refl
or_by_boolean (Records fs) c y = refl
or_by_boolean (Extensions m o) c y = refl

pub or_at : (u : CedarType) (c : Capabilities) (y : Typing) (x : BoolType) → Some x ≡ bool_type_in u → or_typing (HasType u c) y ≡ (or_left c y) x
or_at u c y x h = or_by_boolean u c y ∙ ap (λ o. with_boolean o (or_left c y)) (sym h)

pub or_untold : (u : CedarType) (c : Capabilities) (y : Typing) → None ≡ bool_type_in u → or_typing (HasType u c) y ≡ Faulty UnexpectedType
or_untold u c y h = or_by_boolean u c y ∙ ap (λ o. with_boolean o (or_left c y)) (sym h)

if_by_boolean : (u : CedarType) (c : Capabilities) (f : Capabilities → Typing) (z : Typing) → if_typing (HasType u c) f z ≡ with_boolean (bool_type_in u) (if_tested c f z)
if_by_boolean (Booleans b) c f z = if_test c f z b
if_by_boolean Longs c f z = refl
if_by_boolean Strings c f z = refl
if_by_boolean (Entities m) c f z = refl
if_by_boolean (Sets e) c f z = refl
if_by_boolean (Records fs) c f z = refl
if_by_boolean (Extensions m o) c f z = refl

pub if_at : (u : CedarType) (c : Capabilities) (f : Capabilities → Typing) (z : Typing) (x : BoolType) → Some x ≡ bool_type_in u → if_typing (HasType u c) f z ≡ (if_tested c f z) x
if_at u c f z x h = if_by_boolean u c f z ∙ ap (λ o. with_boolean o (if_tested c f z)) (sym h)

pub if_untold : (u : CedarType) (c : Capabilities) (f : Capabilities → Typing) (z : Typing) → None ≡ bool_type_in u → if_typing (HasType u c) f z ≡ Faulty UnexpectedType
if_untold u c f z h = if_by_boolean u c f z ∙ ap (λ o. with_boolean o (if_tested c f z)) (sym h)
