-- By computing.
use Rattle.std.proofs.Common.{refl}
use Rattle.std.specs.Str.{chars}
use Rattle.cedar_json.proofs.rows.Goals as goal

pub returns : goal.returns
unfolding chars
returns c =
    record {
      numbers = record { whole = refl; negative = refl; minus_zero_is_zero = refl; greatest = refl; one_more_is_none = refl; least = refl; one_less_is_none = refl; a_fraction_is_none = refl; an_exponent_is_none = refl };
      values = record { null_is_none = refl; null_in_a_list_is_none = refl; a_list_is_a_set = refl; keys_are_sorted = refl; a_key_twice_is_none = refl; no_key_is_a_record = refl };
      escapes = record { an_entity = refl; its_id_may_stand_first = refl; no_name_is_none = refl; a_reserved_name_is_none = refl; an_escape_stands_alone = refl; a_reference_is_a_record = refl; one_argument = refl; arguments = refl; an_expression_is_none = refl };
      texts = record { quotes_are_escaped = refl; a_record = refl; an_entity = refl; a_call = refl };
      entities = record { none = refl; a_uid_is_enough = refl; parents = refl; no_uid_is_none = refl; another_key_is_none = refl; a_key_twice_is_none = refl; a_string_is_no_uid = refl; attributes_are_an_object = refl };
      questions = record { no_context_is_empty = refl; a_context = refl; a_context_is_an_object = refl; another_key_is_none = refl; a_part_that_is_missing_is_none = refl };
    }
