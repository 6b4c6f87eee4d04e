-- The first of the list is the one entity (GainedEdges).
use Rattle.std.proofs.Common.{◌≡◌, ◌∷◌, [], length, sym, ap, subst, arith, IfErr}
use Rattle.cedar_entities.specs.Gaining.{KeepsParents, IsGain}
use Rattle.cedar_entities.specs.Kept.{in_map, put_over}
use Rattle.cedar_entities.specs.Modes.{IsClosureRefusal}
use Rattle.cedar_entities.specs.declared.closing.TCComputation.TheVariants.{ComputeNow}
use Rattle.cedar_entities.proofs.GainedEdges.{first_is, first_alone}
use Rattle.cedar_entities.proofs.Passing.{ok_weaker}
use Rattle.cedar_entities.proofs.gaining.gained_by.Goals as goal

pub bounds-entities-0 : goal.bounds-entities-0
bounds-entities-0 c = omega (arith, ap length c.requires.gains.are)

pub gain_of-requires-clause-keeps : goal.gain_of-requires-clause-keeps
gain_of-requires-clause-keeps c =
    let first = first_is c.args.entities.now c.requires.gains.one c.index-entities-0.result c.requires.gains.are c.index-entities-0.is in
    subst (KeepsParents (in_map c.args.map.now)) (sym first) c.requires.gains.keeps

pub returns-clause-gain : goal.returns-clause-gain
returns-clause-gain c =
    let es = c.args.entities.now in
    let x = c.index-entities-0.result in
    ok_weaker c.gain_of.result (λ gain is e are. subst (λ y. IsGain (in_map c.args.map.now) y gain) (first_is es e x are c.index-entities-0.is) is)
    c.gain_of.ensures.gain

pub returns-clause-refused : goal.returns-clause-refused
returns-clause-refused c =
    let es = c.args.entities.now in
    let are = first_alone es c.requires.gains.one c.index-entities-0.result c.requires.gains.are c.index-entities-0.is in
    subst (λ xs. IfErr c.gain_of.result (IsClosureRefusal ComputeNow (put_over (in_map c.args.map.now) xs))) (sym are) c.gain_of.ensures.refused
