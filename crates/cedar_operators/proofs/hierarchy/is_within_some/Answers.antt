-- What was found, or is found among the members that are left, is what is found among all.
use Rattle.std.proofs.Common.{◌≡◌, ◌||◌, ◌+◌, [], drop, sym, ap, ◌∙◌, arith}
use Rattle.std.proofs.lemmas.Grind.{common_steps}
use Rattle.std.specs.Option.{option_copied}
use Rattle.cedar_language.specs.Order.{all_of}
use Rattle.cedar_operators.specs.Hierarchy.{is_within_entity}
use Rattle.cedar_operators.proofs.ByHierarchy.{any_left, or_then, or_else, member_more, member_is_none, all_seen, all_left}
use Rattle.cedar_operators.proofs.Passing.{passed}
use Rattle.cedar_operators.proofs.hierarchy.is_within_some.Goals as goal
use Rattle.cedar_operators.proofs.hierarchy.is_within_some.Goals.{then-is_found, else-is_found}

pub loop-member-preserved : goal.loop-member-preserved
loop-member-preserved c =
    let test = is_within_entity c.args.uid1.now.value (option_copied c.args.entity1) in
    let joined : c.if-is_found.is_found ≡ (c.loop-member.is_found || test c.in_ok-uid2.uid2.now.value) = elim c.if-is_found.branch [
      | then-is_found w ↦ or_then _ _ _ w.if-is_found.true w.is_found-is
      | else-is_found w ↦ or_else _ _ _ w.if-is_found.false (w.is_found-is ∙ w.is_within-is_found.ensures)
    ] in
    let more = member_more test c.loop-member.is_found c.args.members.now c.loop-member.member-index c.member-item.result c.in_ok-uid2.uid2.now.value c.loop-member-test.true c.member-item.is c.in_ok-uid2.ensures in
    ap (λ b. any_left test b (all_of (drop (c.loop-member.member-index + 1) c.args.members.now))) joined ∙ sym more ∙ c.loop-member.invariant

pub returns-in_err-uid2 : goal.returns-in_err-uid2
returns-in_err-uid2 c =
    let test = is_within_entity c.args.uid1.now.value (option_copied c.args.entity1) in
    passed (λ b. _) c.in_err-uid2.field-0.0 c.from_residual.result
    (λ k h. (sym (all_left test (all_of c.args.members.now)) ∙ sym c.loop-member.invariant ∙ member_is_none test c.loop-member.is_found c.args.members.now c.loop-member.member-index c.member-item.result c.loop-member-test.true c.member-item.is h.0, h.1))
    c.from_residual.ensures c.in_err-uid2.ensures

pub returns : goal.returns
returns c =
    let test = is_within_entity c.args.uid1.now.value (option_copied c.args.entity1) in
    let none : drop c.loop-member.member-index c.args.members.now ≡ [] = grind (arith, common_steps) in
    sym (all_left test (all_of c.args.members.now)) ∙ sym c.loop-member.invariant ∙ all_seen test c.loop-member.is_found (drop c.loop-member.member-index c.args.members.now) none
