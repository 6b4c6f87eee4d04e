-- The first texts are in the set.
use Rattle.std.proofs.Common.{◌≡◌, take}
use Rattle.std.specs.Prelude.{map}
use Rattle.std.specs.List.{list_any}
use Rattle.std.specs.Rc.{rc_str_bytes}
use Rattle.std.specs.BTreeSet.{contains}
use Rattle.cedar_language.specs.Uid.{Text}
use Rattle.cedar_language.specs.Order.{same_text, text_cmp}
use Rattle.cedar_validator_schema.proofs.entity_types.text_set.Given as goal

abbrev pub invariant-loop-text : goal.invariant-loop-text
invariant-loop-text l = record { all : (s : Text) → contains text_cmp l.all s ≡ list_any (same_text s) (map rc_str_bytes (take l.text-index l.texts)) }
