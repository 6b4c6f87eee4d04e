-- What is listed under the entity itself comes first, and then what is listed under its ancestors.
use Rattle.std.proofs.Common.{◌≡◌, true, false, Option, Some, None, [], ap, ◌∙◌, sym, subst, true≢false}
use Rattle.std.specs.FinSet as set
use Rattle.std.specs.Option.{option_copied, option_map_or}
use Rattle.cedar_entities.specs.Data.{EntityData, ancestors_of}
use Rattle.cedar_policy_set.specs.ScopeFinding.{positions_at, is_listed}
use Rattle.cedar_evaluator.proofs.Listed.{one_added, all_added}
use Rattle.cedar_evaluator.proofs.Responding.{if_ok_both}
use Rattle.cedar_evaluator.proofs.candidates.add_found.Goals as goal

pub returns-then-is_empty-clause-added : goal.returns-then-is_empty-clause-added
returns-then-is_empty-clause-added c = λ whole u given p h.
    let none : positions_at c.args.listed.now u ≡ [] = c.is_empty.ensures.0 c.if-is_empty.true u in
    absurd (true≢false (sym (subst (λ ps. is_listed ps p ≡ true) none h)))

pub returns-in-Some-clause-added : goal.returns-in-Some-clause-added
returns-in-Some-clause-added c =
    let listed = c.args.listed.now in
    let uid = c.args.given.now.uid.now in
    let own = one_added listed uid c.args.found.now.items c.at.result.now c.extend_from_slice.new.self.items c.in_ok-extend_from_slice.ensures.items c.at.ensures in
    let held : option_copied c.args.given.now.entity ≡ Some c.in-Some.entity.now = ap option_copied c.in-Some.is in
    if_ok_both c.add_of_ancestors.result
    (λ all kept added whole. all_added listed uid (option_copied c.args.given.now.entity) c.add_of_ancestors.new.found.items
    (λ p h. kept p (own p h))
    (λ u h. added whole u (ap (λ (e : Option EntityData). option_map_or (λ d. set.contains (ancestors_of d) u) e false) (sym held) ∙ h)))
    c.add_of_ancestors.ensures.kept c.add_of_ancestors.ensures.added

pub returns-in-None-clause-added : goal.returns-in-None-clause-added
returns-in-None-clause-added c = λ whole.
    let listed = c.args.listed.now in
    let uid = c.args.given.now.uid.now in
    let none : option_copied c.args.given.now.entity ≡ None = ap option_copied c.in-None.is in
    all_added listed uid (option_copied c.args.given.now.entity) c.extend_from_slice.new.self.items
    (one_added listed uid c.args.found.now.items c.at.result.now c.extend_from_slice.new.self.items c.in_ok-extend_from_slice.ensures.items c.at.ensures)
    (λ u h. absurd (true≢false (sym h ∙ ap (λ (e : Option EntityData). option_map_or (λ d. set.contains (ancestors_of d) u) e false) none)))
