-- Edges lead to the types of the first groups.
use Rattle.std.proofs.Common.{◌≡◌, ◌&&◌, ◌||◌, take}
use Rattle.std.specs.List.{list_any}
use Rattle.cedar_language.specs.Uid.{Name}
use Rattle.cedar_language.specs.Order.{same_name, name_cmp}
use Rattle.cedar_validator_schema.specs.Hierarchies.{leads}
use Rattle.cedar_validator_schema.proofs.action_types.add_types_of.Given as goal

abbrev pub invariant-loop-group : goal.invariant-loop-group
invariant-loop-group l = record {
  leads : (n m : Name) → leads same_name name_cmp l.parents n m
      ≡ (leads same_name name_cmp l.fn.parents n m || (same_name l.from n && list_any (λ w. same_name w.type_name m) (take l.group-index l.groups)));
}
