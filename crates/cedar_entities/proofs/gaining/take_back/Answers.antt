-- One addition after another is taken back (Gained).
use Rattle.std.proofs.Common.{◌≡◌, ◌∙◌, ◌∷◌, [], rules, sym}
use Rattle.std.proofs.lemmas.List.{nil_from_length}
use Rattle.cedar_entities.specs.Kept.{in_map}
use Rattle.cedar_entities.proofs.Gained.{taken_back, nothing_left}
use Rattle.cedar_entities.proofs.gaining.take_back.Goals as goal

pub loop-at-preserved : goal.loop-at-preserved
loop-at-preserved c = λ before g.
    let step : c.loop-at.at-iterator.rest.items ≡ (c.in-Some.at, c.in-Some.gone) ∷ c.next.new.self.rest.items = search (rules, c.in-Some.ensures.steps) in
    taken_back before (in_map c.loop-at.map) (in_map c.take_at.new.map) c.loop-at.at-iterator.rest.items c.next.new.self.rest.items c.in-Some.at
    c.in-Some.gone step c.take_at.ensures (c.loop-at.invariant before g)

pub returns : goal.returns
returns c = λ before g.
    let none : c.loop-at.at-iterator.rest.items ≡ [] = nil_from_length c.loop-at.at-iterator.rest.items (sym c.loop-at.at-iterator.rest.ok.0
    ∙ c.in-None.ensures.steps.0) in
    nothing_left before (in_map c.loop-at.map) c.loop-at.at-iterator.rest.items none (c.loop-at.invariant before g)
