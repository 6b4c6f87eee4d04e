use Rattle.std.proofs.Common.{◌≡◌, ◌∙◌, sym, ap, rules, List, [], ◌∷◌, ◌++◌, map, Some}
use Rattle.cedar_typing.specs.Types.{Sets}
use Rattle.cedar_typing.specs.Containers.{set_type, set_by}
use Rattle.cedar_typing.specs.Results.{plainly}
use Rattle.cedar_typechecker.specs.Types.{type_view}
use Rattle.cedar_typechecker.specs.Containers.{lub_onto}
use Rattle.cedar_typechecker.specs.declared.types.ExprType.{ExprType}
use Rattle.cedar_typechecker.proofs.Above.{set_view}
use Rattle.cedar_typechecker.proofs.Contained.{set_of_last}
use Rattle.cedar_typechecker.proofs.containers.set_type.Goals as goal

pub returns-in_ok-new-in-Some-2 : goal.returns-in_ok-new-in-Some-2
returns-in_ok-new-in-Some-2 c =
    let parts : c.args.types.items ≡ c.pop.new.self.items ++ c.in-Some.last ∷ [] = search rules in
    let least : Some (type_view c.in-Some-2.element) ≡ lub_onto (map type_view c.pop.new.self.items) (type_view c.in-Some.last) = search rules in
    ap (λ (ts : List ExprType). set_type (map type_view ts)) parts
    ∙ set_of_last c.pop.new.self.items c.in-Some.last
    ∙ ap set_by (sym least)
    ∙ ap (λ (v : ExprType). plainly (Sets (type_view v))) (sym c.in_ok-new-in-Some-2.ensures.ok)
    ∙ ap plainly (sym (set_view c.in_ok-new-in-Some-2.field-0))
