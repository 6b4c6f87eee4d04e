-- Types of values, as a validator has them in strict mode, and the least type above two.
-- (Cedar language reference, "Policy validation".)
use Rattle.std.specs.Prelude.{Bool, true, false, ◌&&◌, cond, List, [], ◌∷◌, Option, Some, None}
use Rattle.std.specs.Option.{option_map}
use Rattle.cedar_language.specs.Uid.{Text, Name}
use Rattle.cedar_language.specs.Order.{same_text, same_name}

-- what is known of a Boolean
pub data BoolType : Type 0 where
  AlwaysTrue : BoolType
  AlwaysFalse : BoolType
  Unsure : BoolType

-- whether a field is there in each record
pub data Presence : Type 0 where
  Required : Presence
  Optional : Presence

-- An entity type by its name; an extension type by its name, and whether it has an order.
mutual
  pub data CedarType : Type 0 where
    Booleans : BoolType → CedarType
    Longs : CedarType
    Strings : CedarType
    Entities : Name → CedarType
    Sets : CedarType → CedarType
    Records : Fields → CedarType
    Extensions : Name → Bool → CedarType

  -- the fields of a record, in rising order of their names; it has no others
  pub data Fields : Type 0 where
    no_fields : Fields
    a_field : Text → Presence → CedarType → Fields → Fields

pub record Field : Type 0 where
  pub presence : Presence
  pub type : CedarType

-- the field of a name
abbrev pub field_at : Fields → Text → Option Field
field_at no_fields a = None
field_at (a_field k p t fs) a = cond (same_text k a) (Some (record { presence = p; type = t })) (field_at fs a)

-- ---- the least type above two: equal, but for what is known of Booleans

abbrev pub lub_bool : BoolType → BoolType → BoolType
lub_bool AlwaysTrue AlwaysTrue = AlwaysTrue
lub_bool AlwaysFalse AlwaysFalse = AlwaysFalse
lub_bool t u = Unsure

abbrev pub same_presence : Presence → Presence → Bool
same_presence Required Required = true
same_presence Optional Optional = true
same_presence p q = false

abbrev pub same_flag : Bool → Bool → Bool
same_flag true true = true
same_flag false false = true
same_flag x y = false

abbrev pub and_field : Text → Presence → Option CedarType → Option Fields → Option Fields
and_field k p (Some t) (Some fs) = Some (a_field k p t fs)
and_field k p t fs = None

abbrev mutual
  pub lub : CedarType → CedarType → Option CedarType
  lub (Booleans t) (Booleans u) = Some (Booleans (lub_bool t u))
  lub Longs Longs = Some Longs
  lub Strings Strings = Some Strings
  lub (Entities n) (Entities m) = cond (same_name n m) (Some (Entities n)) None
  lub (Sets a) (Sets b) = option_map Sets (lub a b)
  lub (Records fs) (Records gs) = option_map Records (lub_fields fs gs)
  lub (Extensions n x) (Extensions m y) = cond (same_name n m && same_flag x y) (Some (Extensions n x)) None
  lub a b = None

  pub lub_fields : Fields → Fields → Option Fields
  lub_fields no_fields no_fields = Some no_fields
  lub_fields (a_field k p a fs) (a_field l q b gs) = cond (same_text k l && same_presence p q) (and_field k p (lub a b) (lub_fields fs gs)) None
  lub_fields fs gs = None

abbrev pub lub_more : CedarType → Option CedarType → Option CedarType
lub_more a (Some b) = lub a b
lub_more a None = None

-- of a list that isn't empty
abbrev pub lub_all : CedarType → List CedarType → Option CedarType
lub_all a [] = Some a
lub_all a (b ∷ bs) = lub_more a (lub_all b bs)
