-- Calls of extension functions in a tree, against a table. (Cedar language reference, "Extension functions".)
use Rattle.std.specs.Prelude.{◌≡◌, ℕ, List, [], ◌∷◌, length, nat_eq, Bool, true, false, cond, Option, Some, None}
use Rattle.std.specs.List.{filter_map, list_all}
use Rattle.std.specs.Option.{option_or}
use Rattle.cedar_language.specs.Uid.{Name}
use Rattle.cedar_language.specs.Tree.{Tree, Apply, Call}
use Rattle.cedar_language.specs.Facts.{Function}
use Rattle.cedar_language.specs.Operators.{takes}
use Rattle.cedar_shapes.specs.Parts.{listed}
use Rattle.cedar_shapes.specs.Positions.{positions}
use Rattle.cedar_extensions.specs.Causes.{Cause, NoFunction, OtherCount}
use Rattle.cedar_extensions.specs.Table.{Table}

-- a call: the name that it calls, and how many arguments it has
abbrev pub call_in : Tree → Option (Name × ℕ)
call_in (Apply (Call f) ts) = Some (f, length (listed ts))
call_in t = None

-- the calls among these trees
abbrev pub calls_among : List Tree → List (Name × ℕ)
calls_among ts = filter_map call_in ts

-- the calls of a tree, in the order of a walk over it
abbrev pub calls_in : Tree → List (Name × ℕ)
calls_in t = calls_among (positions t)

-- there is a function, and it takes so many arguments
abbrev pub is_taken_by : Option Function → ℕ → Bool
is_taken_by None n = false
is_taken_by (Some f) n = takes f.takes n

abbrev pub call_fits : Table → Name × ℕ → Bool
call_fits table c = is_taken_by (table.function c.0) c.1

-- each call names a function of the table, and has as many arguments as that function takes
abbrev pub CallsFit : Table → Tree → Type 0
CallsFit table t = list_all (call_fits table) (calls_in t) ≡ true

-- what is wrong with a call
abbrev pub fault_of_count : Option ℕ → Name × ℕ → Option Cause
fault_of_count None c = None
fault_of_count (Some m) c = cond (nat_eq m c.1) None (Some (OtherCount c.0 m c.1))

abbrev pub fault_by : Option Function → Name × ℕ → Option Cause
fault_by None c = Some (NoFunction c.0)
fault_by (Some f) c = fault_of_count f.takes c

abbrev pub fault_of : Table → Name × ℕ → Option Cause
fault_of table c = fault_by (table.function c.0) c

-- what is wrong with the first of these calls that doesn't fit
abbrev pub first_fault : Table → List (Name × ℕ) → Option Cause
first_fault table [] = None
first_fault table (c ∷ cs) = option_or (fault_of table c) (first_fault table cs)
