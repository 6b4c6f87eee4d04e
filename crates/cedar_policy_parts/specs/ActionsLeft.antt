-- What is left of the types of the uids that a constraint names.
use Rattle.std.specs.Prelude.{List, map}
use Rattle.std.specs.Slice.Iter.{iter_rest}
use Rattle.cedar_language.specs.Uid.{Name}
use Rattle.cedar_policy_parts.specs.Actions.{held_uids}
use Rattle.cedar_policy_parts.specs.declared.actions.EntityTypeNames.{EntityTypeNames}

abbrev pub types_left : EntityTypeNames → List Name
types_left it = map (λ u. u.type_name) (held_uids (iter_rest it.euids))
