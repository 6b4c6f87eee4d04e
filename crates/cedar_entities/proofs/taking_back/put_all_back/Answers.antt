-- What is put back stood there before (Beside).
use Rattle.std.proofs.Common.{◌≡◌, ◌∙◌, ◌∷◌, [], rules, sym, subst}
use Rattle.std.proofs.lemmas.List.{nil_from_length}
use Rattle.cedar_entities.specs.Beside.{IsSameBeside, among_saved}
use Rattle.cedar_entities.specs.Kept.{in_map}
use Rattle.cedar_entities.proofs.Beside.{put_back_goes_on}
use Rattle.cedar_entities.proofs.taking_back.put_all_back.Goals as goal

pub loop-uid-preserved : goal.loop-uid-preserved
loop-uid-preserved c = λ before saved beside.
    let step : c.loop-uid.uid-iterator.rest.items ≡ (c.in-Some.uid, c.in-Some.entity) ∷ c.next.new.self.rest.items = search (rules, c.in-Some.ensures.steps) in
    put_back_goes_on before (in_map c.loop-uid.map) (in_map c.put_back.new.map) c.loop-uid.uid-iterator.rest.items c.next.new.self.rest.items c.in-Some.uid c.in-Some.entity step c.put_back.ensures (c.loop-uid.invariant before saved beside)

pub returns : goal.returns
returns c = λ before saved beside.
    let none : c.loop-uid.uid-iterator.rest.items ≡ [] = nil_from_length c.loop-uid.uid-iterator.rest.items (sym c.loop-uid.uid-iterator.rest.ok.0 ∙ c.in-None.ensures.steps.0) in
    subst (λ all. IsSameBeside (among_saved all) before (in_map c.loop-uid.map)) none (c.loop-uid.invariant before saved beside).beside
