-- The types of sets, records and calls of extension functions.
use Rattle.std.specs.Prelude.{Bool, true, false, ◌&&◌, ◌||◌, cond, List, [], ◌∷◌, Option, Some, None}
use Rattle.cedar_language.specs.Uid.{Text}
use Rattle.cedar_language.specs.Tree.{String, ValueType, BooleanType, LongType, StringType, SetType, RecordType, EntityType, ExtensionType, Lit, Trees, no_trees, a_tree}
use Rattle.cedar_language.specs.Order.{same_text, same_name}
use Rattle.cedar_typing.specs.Types.{Required, CedarType, Booleans, Longs, Strings, Entities, Sets, Records, Extensions, Fields, no_fields, lub_all, and_field}
use Rattle.cedar_typing.specs.Schema.{Signature}
use Rattle.cedar_typing.specs.Faults.{UnexpectedType, IncompatibleTypes, UndefinedFunction, WrongNumberArguments, FunctionArgumentValidation, NonLitExtConstructor, EmptySetForbidden, DuplicateKeys}
use Rattle.cedar_typing.specs.Results.{Typing, Faulty, plainly}

abbrev pub set_by : Option CedarType → Typing
set_by (Some t) = plainly (Sets t)
set_by None = Faulty IncompatibleTypes

-- the empty set has no type of its own
abbrev pub set_type : List CedarType → Typing
set_type [] = Faulty EmptySetForbidden
set_type (t ∷ ts) = set_by (lub_all t ts)

-- no key stands twice in what a text writes
abbrev pub is_key : Text → List Text → Bool
is_key k [] = false
is_key k (l ∷ ls) = same_text k l || is_key k ls

-- the fields of a record that is written
abbrev pub fields_of : List Text → List CedarType → Option Fields
fields_of [] [] = Some no_fields
fields_of (k ∷ ks) (t ∷ ts) = cond (is_key k ks) None (and_field k Required (Some t) (fields_of ks ts))
fields_of ks ts = None

abbrev pub record_by : Option Fields → Typing
record_by (Some fs) = plainly (Records fs)
record_by None = Faulty DuplicateKeys

-- a parameter takes arguments of a type
abbrev pub passes : ValueType → CedarType → Bool
passes BooleanType (Booleans t) = true
passes LongType Longs = true
passes StringType Strings = true
passes SetType (Sets t) = true
passes RecordType (Records fs) = true
passes (EntityType n) (Entities m) = same_name n m
passes (ExtensionType n) (Extensions m o) = same_name n m
passes v t = false

abbrev pub all_pass : List ValueType → List CedarType → Bool
all_pass [] [] = true
all_pass (v ∷ vs) (t ∷ ts) = passes v t && all_pass vs ts
all_pass vs ts = false

abbrev pub same_length : List ValueType → List CedarType → Bool
same_length [] [] = true
same_length (v ∷ vs) (t ∷ ts) = same_length vs ts
same_length vs ts = false

-- what makes a value of one text takes a literal alone, and such a one that it makes a value
abbrev pub constructs_of : (Text → Bool) → Trees → CedarType → Typing
constructs_of accepts (a_tree (Lit (String s)) no_trees) t = cond (accepts s) (plainly t) (Faulty FunctionArgumentValidation)
constructs_of accepts xs t = Faulty NonLitExtConstructor

abbrev pub where_literal : Option (Text → Bool) → Trees → CedarType → Typing
where_literal None xs t = plainly t
where_literal (Some accepts) xs t = constructs_of accepts xs t

-- a call, by the function's signature
abbrev pub call_type : Option Signature → Trees → List CedarType → Typing
call_type None xs ts = Faulty UndefinedFunction
call_type (Some g) xs ts =
    cond (all_pass g.arguments ts) (where_literal g.constructs xs g.result)
    (cond (same_length g.arguments ts) (Faulty UnexpectedType) (Faulty WrongNumberArguments))
