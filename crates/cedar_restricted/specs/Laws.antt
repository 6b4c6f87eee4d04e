-- Laws of values that are written as expressions.
use Rattle.std.specs.Prelude.{◌≡◌, Bool, true, false, ◌||◌, Some, None}
use Rattle.cedar_language.specs.Tree.{Tree}
use Rattle.cedar_language.specs.Value.{Value, Plain, SetOf, RecordOf, ExtensionOf, Values, no_values, a_value, Gives}
use Rattle.cedar_language.specs.Facts.{Facts}
use Rattle.cedar_language.specs.Meaning.{Request, meaning}
use Rattle.cedar_language.specs.Restricted.{is_restricted}
use Rattle.cedar_language.specs.WellFormed.{IsWellFormed}
use Rattle.cedar_restricted.specs.Expressing.{is_ground, Expresses}
use Rattle.cedar_restricted.specs.Reading.{value_in}

abbrev pub WrittenValuesAreGround : Type 0
WrittenValuesAreGround = (v : Value) (t : Tree) → Expresses v t → is_ground t ≡ true

abbrev pub GroundTreesAreRestricted : Type 0
GroundTreesAreRestricted = (t : Tree) → is_ground t ≡ true → is_restricted t ≡ true

-- an extension value stands in it
abbrev mutual
  pub holds_extension : Value → Bool
  holds_extension (Plain l) = false
  holds_extension (SetOf vs) = hold_extension vs
  holds_extension (RecordOf ks vs) = hold_extension vs
  holds_extension (ExtensionOf e) = true

  pub hold_extension : Values → Bool
  hold_extension no_values = false
  hold_extension (a_value v vs) = holds_extension v || hold_extension vs

-- a value without extension values is read back of what writes it
abbrev pub WrittenValuesAreReadBack : Type 0
WrittenValuesAreReadBack = (v : Value) (t : Tree) → IsWellFormed v → Expresses v t → holds_extension v ≡ false → value_in t ≡ Some v

-- and no other is
abbrev pub ExtensionValuesAreNotReadBack : Type 0
ExtensionValuesAreNotReadBack = (v : Value) (t : Tree) → Expresses v t → holds_extension v ≡ true → value_in t ≡ None

abbrev pub WhatIsReadIsMeant : Type 0
WhatIsReadIsMeant = (facts : Facts) (request : Request) (t : Tree) (v : Value) → value_in t ≡ Some v → meaning facts request t ≡ Gives v
