-- A fault is shown exactly where there is no type.
use Rattle.std.proofs.Common.{◌≡◌, ◌++◌, refl}
use Rattle.cedar_language.specs.Tree.{Tree, Trees}
use Rattle.cedar_typing.specs.Types.{BoolType, AlwaysTrue, AlwaysFalse, Unsure, Booleans}
use Rattle.cedar_typing.specs.Capabilities.{Capabilities}
use Rattle.cedar_typing.specs.Schema.{Environment}
use Rattle.cedar_typing.specs.Faults.{TypingFault}
use Rattle.cedar_typing.specs.Results.{Typing, HasType, Faulty, Typings, OneFaulty}
use Rattle.cedar_typing.specs.Lazies.{and_typing, or_typing, if_typing, if_both}
use Rattle.cedar_typing.specs.Typing.{more_types, type_of, types_of}
use Rattle.cedar_typing.specs.Shows.{MayBeTrue, MayBeFalse, Shows, of_whole, in_and_left, in_and_right, in_and_anyway, in_or_left, in_or_right, in_or_anyway, in_test, in_then, in_else, in_then_anyway, in_else_anyway, in_operand, OneShows, first_shows, later_shows, FaultsAreShown, ScopesNarrow}

abbrev Fails : Typing → Type 0
Fails x = (k : TypingFault) × (x ≡ Faulty k)

abbrev AllFail : Typings → Type 0
AllFail xs = (k : TypingFault) × (xs ≡ OneFaulty k)

and_fails_right : (t : BoolType) (d : Capabilities) (f : Capabilities → Typing) → MayBeTrue t → Fails (f d) → Fails (and_typing (HasType (Booleans t) d) f)
and_fails_right AlwaysFalse d f m h = absurd m
and_fails_right AlwaysTrue d f m h = rw h.1 (h.0, refl)
and_fails_right Unsure d f m h = rw h.1 (h.0, refl)

or_fails_right : (t : BoolType) (d : Capabilities) (y : Typing) → MayBeFalse t → Fails y → Fails (or_typing (HasType (Booleans t) d) y)
or_fails_right AlwaysTrue d y m h = absurd m
or_fails_right AlwaysFalse d y m h = rw h.1 (h.0, refl)
or_fails_right Unsure d y m h = rw h.1 (h.0, refl)

both_fail_else : (c : Capabilities) (y z : Typing) → Fails z → Fails (if_both c y z)
both_fail_else c (HasType t d) z h = rw h.1 (h.0, refl)
both_fail_else c (Faulty k) z h = (k, refl)

if_fails_then : (u : BoolType) (d : Capabilities) (f : Capabilities → Typing) (z : Typing) → MayBeTrue u → Fails (f d) →
    Fails (if_typing (HasType (Booleans u) d) f z)
if_fails_then AlwaysFalse d f z m h = absurd m
if_fails_then AlwaysTrue d f z m h = rw h.1 (h.0, refl)
if_fails_then Unsure d f z m h = rw h.1 (h.0, refl)

if_fails_else : (u : BoolType) (d : Capabilities) (f : Capabilities → Typing) (z : Typing) → MayBeFalse u → Fails z →
    Fails (if_typing (HasType (Booleans u) d) f z)
if_fails_else AlwaysTrue d f z m h = absurd m
if_fails_else AlwaysFalse d f z m h = h
if_fails_else Unsure d f z m h = both_fail_else d (f d) z h

more_fail_first : (x : Typing) (xs : Typings) → Fails x → AllFail (more_types x xs)
more_fail_first x xs h = rw h.1 (h.0, refl)

more_fail_later : (x : Typing) (xs : Typings) → AllFail xs → AllFail (more_types x xs)
more_fail_later (HasType t c) xs h = rw h.1 (h.0, refl)
more_fail_later (Faulty k) xs h = (k, refl)

module _ (e : Environment) where
  mutual
    shown_fails : {x : Tree} {c : Capabilities} {k : TypingFault} → Shows e x c k → Fails (type_of e x c)
    shown_fails (of_whole {k = k} h) = (k, h)
    shown_fails (in_and_left s) = let h = shown_fails s in rw h.1 (h.0, refl)
    shown_fails (in_and_right {r = r} {c = c} t d h m s) = rw h (and_fails_right t d (λ g. type_of e r (g ++ c)) m (shown_fails s))
    shown_fails (in_and_anyway j h s) = rw h (j, refl)
    shown_fails (in_or_left s) = let h = shown_fails s in rw h.1 (h.0, refl)
    shown_fails (in_or_right {r = r} {c = c} t d h m s) = rw h (or_fails_right t d (type_of e r c) m (shown_fails s))
    shown_fails (in_or_anyway j h s) = rw h (j, refl)
    shown_fails (in_test s) = let h = shown_fails s in rw h.1 (h.0, refl)
    shown_fails (in_then {y = y} {n = n} {c = c} u d h m s) = rw h (if_fails_then u d (λ g. type_of e y (g ++ c)) (type_of e n c) m (shown_fails s))
    shown_fails (in_else {y = y} {n = n} {c = c} u d h m s) = rw h (if_fails_else u d (λ g. type_of e y (g ++ c)) (type_of e n c) m (shown_fails s))
    shown_fails (in_then_anyway j h s) = rw h (j, refl)
    shown_fails (in_else_anyway j h s) = rw h (j, refl)
    shown_fails (in_operand s) = let h = one_fails s in rw h.1 (h.0, refl)

    one_fails : {ts : Trees} {c : Capabilities} {k : TypingFault} → OneShows e ts c k → AllFail (types_of e ts c)
    one_fails (first_shows {t = t} {ts = ts} {c = c} s) = more_fail_first (type_of e t c) (types_of e ts c) (shown_fails s)
    one_fails (later_shows {t = t} {ts = ts} {c = c} s) = more_fail_later (type_of e t c) (types_of e ts c) (one_fails s)

pub faults_are_shown : FaultsAreShown
faults_are_shown e x c = (λ h. shown_fails e h.1, λ h. (h.0, of_whole h.1))

pub scopes_narrow : ScopesNarrow
scopes_narrow e scope body d h = rw h refl
