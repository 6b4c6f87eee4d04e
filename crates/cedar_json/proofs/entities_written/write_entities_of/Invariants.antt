use Rattle.std.proofs.Common.{◌≡◌, ◌++◌, drop}
use Rattle.std.specs.Prelude.{string_bytes, encode_utf8_all}
use Rattle.json.specs.Value.{items_view}
use Rattle.cedar_json.specs.EntitiesWritten.{each_written}
use Rattle.cedar_json.proofs.entities_written.write_entities_of.Given as goal

abbrev pub invariant-loop-item : goal.invariant-loop-item
invariant-loop-item l =
    let rest = encode_utf8_all (each_written (items_view (drop l.item-index l.item-items))) in
    string_bytes l.out ++ rest ≡ string_bytes l.fn.out ++ encode_utf8_all (each_written (items_view l.item-items))
