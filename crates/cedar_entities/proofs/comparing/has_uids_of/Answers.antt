-- Each uid that was walked over is held in the first.
use Rattle.std.proofs.Common.{◌≡◌, false, rules, sym, subst, ◌∙◌, true≢false}
use Rattle.std.specs.Option.{IsSome}
use Rattle.cedar_language.specs.Uid.{Uid}
use Rattle.cedar_entities.specs.Kept.{in_map}
use Rattle.cedar_entities.proofs.Sameness.{IsUnderway, begins, first_stands, goes_on}
use Rattle.cedar_entities.proofs.comparing.has_uids_of.Goals as goal

pub loop-uid-init : goal.loop-uid-init
loop-uid-init c =
    let P = λ (uid : Uid). IsSome (in_map c.args.entities.now uid) in
    subst (IsUnderway (in_map c.args.others.now) P) (sym (c.into_iter-uid-iterator.ensures.into_iter_gives ∙ c.keys-uid-items.ensures.rest)) (begins c.args.others.now P)

pub loop-uid-preserved : goal.loop-uid-preserved
loop-uid-preserved c =
    let here : IsSome (in_map c.args.entities.now c.in-Some.uid.now) = search rules in
    goes_on (in_map c.args.others.now) (λ uid. IsSome (in_map c.args.entities.now uid)) c.loop-uid.uid-iterator c.next.new.self c.in-Some.uid.now c.loop-uid.invariant c.in-Some.ensures.steps here

pub returns-then-not-contains_key : goal.returns-then-not-contains_key
returns-then-not-contains_key c =
    let lacks : c.contains_key.result ≡ false = search rules in
    let here = first_stands (in_map c.args.others.now) (λ uid. IsSome (in_map c.args.entities.now uid)) c.loop-uid.uid-iterator c.next.new.self c.in-Some.uid.now c.loop-uid.invariant c.in-Some.ensures.steps in
    (λ t. absurd (true≢false (sym t)), λ all. sym lacks ∙ c.contains_key.ensures ∙ all c.in-Some.uid.now here)
