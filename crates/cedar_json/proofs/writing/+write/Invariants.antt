use Rattle.std.proofs.Common.{◌≡◌, ◌++◌, drop}
use Rattle.std.specs.Prelude.{string_bytes, encode_utf8_all}
use Rattle.json.specs.Value.{items_view, members_view}
use Rattle.cedar_json.specs.Written.{items_written, members_written}
use Rattle.cedar_json.proofs.writing.+write.Given as goal

abbrev pub invariant-write_items-loop-item : goal.invariant-write_items-loop-item
invariant-write_items-loop-item l =
    let rest = encode_utf8_all (items_written l.close (items_view (drop l.item-index l.item-items))) in
    string_bytes l.out ++ rest ≡ string_bytes l.fn.out ++ encode_utf8_all (items_written l.close (items_view l.item-items))

abbrev pub invariant-write_members-loop-member : goal.invariant-write_members-loop-member
invariant-write_members-loop-member l =
    let rest = encode_utf8_all (members_written (members_view (drop l.member-index l.member-items))) in
    string_bytes l.out ++ rest ≡ string_bytes l.fn.out ++ encode_utf8_all (members_written (members_view l.member-items))
