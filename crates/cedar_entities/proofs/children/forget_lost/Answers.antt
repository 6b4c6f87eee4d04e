-- What isn't a child is known as none, and all others stay known (Known).
use Rattle.std.proofs.Common.{◌≡◌, false, rules, sym, ◌∙◌}
use Rattle.cedar_entities.specs.Kept.{in_map}
use Rattle.cedar_entities.proofs.Known.{forgotten_kept, forgotten_lost}
use Rattle.cedar_entities.proofs.children.forget_lost.Goals as goal

pub returns-then-not-is_child-clause-lost : goal.returns-then-not-is_child-clause-lost
returns-then-not-is_child-clause-lost c = λ h. absurd (forgotten_lost c.args.child.now c.args.parent.now c.args.index.now c.remove.new.self c.remove.ensures h)

pub returns-then-not-is_child-clause-children : goal.returns-then-not-is_child-clause-children
returns-then-not-is_child-clause-children c =
    let isnt : c.is_child.result ≡ false = search rules in
    forgotten_kept (in_map c.args.map.now) c.args.child.now c.args.parent.now c.args.index.now c.remove.new.self c.remove.ensures (sym c.is_child.ensures ∙ isnt)
