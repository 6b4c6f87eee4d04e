-- Nothing is lacking where the one is no ancestor (GainedEdges).
use Rattle.std.proofs.Common.{sym, ◌∙◌}
use Rattle.cedar_entities.specs.Kept.{in_map}
use Rattle.cedar_entities.proofs.GainedEdges.{below_none, below_apart, below_held}
use Rattle.cedar_entities.proofs.Passing.{ok_weaker}
use Rattle.cedar_entities.proofs.gaining.lacking_below.Goals as goal

pub returns-in_default : goal.returns-in_default
returns-in_default c = below_none (in_map c.args.map.now) c.args.at.now c.args.from.now c.args.more.now c.new-none.result c.in_default.ensures.value
    c.new-none.ensures

pub returns-then-is_descendant_of : goal.returns-then-is_descendant_of
returns-then-is_descendant_of c =
    let has = sym c.is_descendant_of.ensures ∙ c.if-is_descendant_of.true in
    ok_weaker c.lacking.result
    (λ us is. below_held (in_map c.args.map.now) c.args.at.now c.args.from.now c.args.more.now us c.in-Some.entity.now c.in-Some.ensures.value has is)
    c.lacking.ensures

pub returns : goal.returns
returns c =
    let apart = sym c.is_descendant_of.ensures ∙ c.if-is_descendant_of.false in
    below_apart (in_map c.args.map.now) c.args.at.now c.args.from.now c.args.more.now c.new-none.result c.in-Some.entity.now c.in-Some.ensures.value apart
    c.new-none.ensures
