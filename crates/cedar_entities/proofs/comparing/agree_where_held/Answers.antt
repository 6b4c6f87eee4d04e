-- Each uid that was walked over is the same in both.
use Rattle.std.proofs.Common.{◌≡◌, false, rules, IsTrue, sym, subst, ◌∙◌, true≢false}
use Rattle.cedar_entities.specs.Kept.{in_map, IsSameAt}
use Rattle.cedar_entities.proofs.Sameness.{IsUnderway, begins, first_stands, goes_on}
use Rattle.cedar_entities.proofs.comparing.agree_where_held.Goals as goal

pub loop-uid-init : goal.loop-uid-init
loop-uid-init c =
    let P = IsSameAt (in_map c.args.entities.now) (in_map c.args.others.now) in
    subst (IsUnderway (in_map c.args.entities.now) P) (sym (c.into_iter-uid-iterator.ensures.into_iter_gives ∙ c.keys-uid-items.ensures.rest)) (begins c.args.entities.now P)

pub loop-uid-preserved : goal.loop-uid-preserved
loop-uid-preserved c =
    let same : IsTrue c.is_same_at.result = search rules in
    goes_on (in_map c.args.entities.now) (IsSameAt (in_map c.args.entities.now) (in_map c.args.others.now)) c.loop-uid.uid-iterator c.next.new.self c.in-Some.uid.now c.loop-uid.invariant c.in-Some.ensures.steps (c.is_same_at.ensures.0 same)

pub returns-then-not-is_same_at : goal.returns-then-not-is_same_at
returns-then-not-is_same_at c =
    let differs : c.is_same_at.result ≡ false = search rules in
    let found = in_map c.args.entities.now in
    let here = first_stands found (IsSameAt found (in_map c.args.others.now)) c.loop-uid.uid-iterator c.next.new.self c.in-Some.uid.now c.loop-uid.invariant c.in-Some.ensures.steps in
    (λ t. absurd (true≢false (sym t)), λ all. sym differs ∙ c.is_same_at.ensures.1 (all c.in-Some.uid.now here))
