-- The types of `&&`, `||` and `if`: a part that is never reached isn't typed.
use Rattle.std.specs.Prelude.{true, false, [], ◌++◌, Option, Some, None}
use Rattle.cedar_typing.specs.Types.{BoolType, AlwaysTrue, AlwaysFalse, Unsure, CedarType, Booleans, lub}
use Rattle.cedar_typing.specs.Capabilities.{Capabilities, in_both}
use Rattle.cedar_typing.specs.Faults.{UnexpectedType, IncompatibleTypes}
use Rattle.cedar_typing.specs.Results.{Typing, HasType, Faulty, known}

-- what is known of both
abbrev pub and_bool : BoolType → BoolType → BoolType
and_bool AlwaysTrue u = u
and_bool t AlwaysFalse = AlwaysFalse
and_bool t u = t

-- what is never true gives nothing
abbrev pub gives_where : BoolType → Capabilities → Capabilities
gives_where AlwaysFalse c = []
gives_where t c = c

-- a right operand that is reached, by what is known of the left one, and the capabilities that this gives
abbrev pub and_with : BoolType → Capabilities → Typing → Typing
and_with t c (HasType (Booleans u) d) = HasType (Booleans (and_bool t u)) (gives_where (and_bool t u) (d ++ c))
and_with t c (HasType ty d) = Faulty UnexpectedType
and_with t c (Faulty k) = Faulty k

-- `&&`: the right operand isn't typed where the left one is never true; else it may read what the left one's truth gives
abbrev pub and_typing : Typing → (Capabilities → Typing) → Typing
and_typing (HasType (Booleans AlwaysFalse) c) f = known false
and_typing (HasType (Booleans t) c) f = and_with t c (f c)
and_typing (HasType ty c) f = Faulty UnexpectedType
and_typing (Faulty k) f = Faulty k

-- a right operand of `||`, where nothing is known of the left one
abbrev pub or_with : Capabilities → Typing → Typing
or_with c (HasType (Booleans AlwaysTrue) d) = known true
or_with c (HasType (Booleans AlwaysFalse) d) = HasType (Booleans Unsure) c
or_with c (HasType (Booleans Unsure) d) = HasType (Booleans Unsure) (in_both c d)
or_with c (HasType ty d) = Faulty UnexpectedType
or_with c (Faulty k) = Faulty k

-- one where the left operand is never true
abbrev pub boolean_alone : Typing → Typing
boolean_alone (HasType (Booleans t) c) = HasType (Booleans t) c
boolean_alone (HasType ty c) = Faulty UnexpectedType
boolean_alone (Faulty k) = Faulty k

-- `||`: the right operand isn't typed where the left one is always true, and may read nothing of it
abbrev pub or_typing : Typing → Typing → Typing
or_typing (HasType (Booleans AlwaysTrue) c) y = known true
or_typing (HasType (Booleans AlwaysFalse) c) y = boolean_alone y
or_typing (HasType (Booleans Unsure) c) y = or_with c y
or_typing (HasType ty c) y = Faulty UnexpectedType
or_typing (Faulty k) y = Faulty k

-- the first part of `if`, where the test is always true
abbrev pub with_more : Capabilities → Typing → Typing
with_more c (HasType t d) = HasType t (d ++ c)
with_more c (Faulty k) = Faulty k

-- both parts: the least type above them, and what both give
abbrev pub if_lub : Option CedarType → Capabilities → Typing
if_lub (Some t) c = HasType t c
if_lub None c = Faulty IncompatibleTypes

abbrev pub if_both : Capabilities → Typing → Typing → Typing
if_both c (HasType t d) (HasType u e) = if_lub (lub t u) (in_both (d ++ c) e)
if_both c (HasType t d) (Faulty k) = Faulty k
if_both c (Faulty k) z = Faulty k

-- `if`: a part that is never taken isn't typed, and the first one may read what the test's truth gives
abbrev pub if_typing : Typing → (Capabilities → Typing) → Typing → Typing
if_typing (HasType (Booleans AlwaysTrue) c) f z = with_more c (f c)
if_typing (HasType (Booleans AlwaysFalse) c) f z = z
if_typing (HasType (Booleans Unsure) c) f z = if_both c (f c) z
if_typing (HasType ty c) f z = Faulty UnexpectedType
if_typing (Faulty k) f z = Faulty k
