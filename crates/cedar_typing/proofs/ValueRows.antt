-- Rows of values and the types that they are of, each by computing.
use Rattle.std.proofs.Common.{◌≡◌, pos, Bool, true, false, [], ◌∷◌, refl}
use Rattle.std.specs.Prelude.{codes}
use Rattle.cedar_language.specs.Tree.{Boolean, Long, String, Entity}
use Rattle.cedar_language.specs.Value.{Extension, Value, Plain, SetOf, RecordOf, ExtensionOf, no_values, a_value}
use Rattle.cedar_typing.specs.Types.{AlwaysTrue, Unsure, Booleans, Strings, Entities, Sets, Records, no_fields}
use Rattle.cedar_typing.specs.Deciding.{is_value_of}
use Rattle.cedar_typing.proofs.RowSchemas.{group, user, uid, extension, account_fields}

abbrev boolean : Bool → Value
boolean b = Plain (Boolean b)

abbrev long : Value
long = Plain (Long (pos 3))

abbrev an_ip : Extension
an_ip = record { type_name = codes "ipaddr" ∷ []; ordered = false; key = codes "1.1.1.1" }

known_boolean : is_value_of (Booleans AlwaysTrue) (boolean false) ≡ false
known_boolean = refl

any_boolean : is_value_of (Booleans Unsure) (boolean false) ≡ true
any_boolean = refl

long_for_a_string : is_value_of Strings long ≡ false
long_for_a_string = refl

entity_of_its_type : is_value_of (Entities user) (Plain (Entity (uid user (codes "a")))) ≡ true
entity_of_its_type = refl

entity_of_another_type : is_value_of (Entities group) (Plain (Entity (uid user (codes "a")))) ≡ false
entity_of_another_type = refl

empty_set_of_any_type : is_value_of (Sets Strings) (SetOf no_values) ≡ true
empty_set_of_any_type = refl

set_with_another_member : is_value_of (Sets Strings) (SetOf (a_value long (a_value (Plain (String (codes "a"))) no_values))) ≡ false
set_with_another_member = refl

-- `{ active: Bool, limit?: Long }`: an optional attribute may be missing, a required one not, and no other may stand there
without_an_optional_attribute : is_value_of (Records account_fields) (RecordOf (codes "active" ∷ []) (a_value (boolean true) no_values)) ≡ true
without_an_optional_attribute = refl

without_a_required_attribute : is_value_of (Records account_fields) (RecordOf (codes "limit" ∷ []) (a_value long no_values)) ≡ false
without_a_required_attribute = refl

attribute_of_another_type :
    is_value_of (Records account_fields) (RecordOf (codes "active" ∷ codes "limit" ∷ []) (a_value (boolean true) (a_value (boolean true) no_values))) ≡ false
attribute_of_another_type = refl

undeclared_attribute : is_value_of (Records no_fields) (RecordOf (codes "active" ∷ []) (a_value (boolean true) no_values)) ≡ false
undeclared_attribute = refl

ip_address : is_value_of (extension (codes "ipaddr")) (ExtensionOf an_ip) ≡ true
ip_address = refl

ip_address_for_a_decimal : is_value_of (extension (codes "decimal")) (ExtensionOf an_ip) ≡ false
ip_address_for_a_decimal = refl
