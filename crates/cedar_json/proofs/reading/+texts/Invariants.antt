use Rattle.std.proofs.Common.{drop}
use Rattle.json.specs.Value.{items_view, members_view}
use Rattle.cedar_json.specs.Written.{ItemsAreTexts, MembersAreTexts}
use Rattle.cedar_json.proofs.reading.+texts.Given as goal

abbrev pub invariant-items_hold_texts-loop-item : goal.invariant-items_hold_texts-loop-item
invariant-items_hold_texts-loop-item l = ItemsAreTexts (items_view (drop l.item-index l.item-items)) → ItemsAreTexts (items_view l.item-items)

abbrev pub invariant-members_hold_texts-loop-member : goal.invariant-members_hold_texts-loop-member
invariant-members_hold_texts-loop-member l = MembersAreTexts (members_view (drop l.member-index l.member-items)) → MembersAreTexts (members_view l.member-items)
