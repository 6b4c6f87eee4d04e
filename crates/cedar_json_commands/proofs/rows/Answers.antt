-- By computing.
use Rattle.std.proofs.Common.{refl}
use Rattle.std.specs.Str.{chars}
use Rattle.cedar_json_commands.proofs.rows.Goals as goal

pub returns : goal.returns
unfolding chars
returns c =
    record {
      partial_questions = record { what_is_left_out_is_missing = refl; what_stands_is_given = refl; a_type_is_stated = refl; a_context_is_unknown = refl; no_name_is_none = refl; no_type_of_an_action = refl; another_word_is_none = refl; null_is_none = refl; another_key_is_none = refl; a_key_twice_is_none = refl };
      links = record { by_a_file = refl; by_a_call = refl; no_slot = refl; spellings_are_not_mixed = refl; another_slot_is_none = refl; a_slot_is_an_entity = refl; slots_are_an_object = refl; slots_must_stand = refl };
      texts = record { a_type = refl; an_unknown_context = refl; a_link = refl };
    }
