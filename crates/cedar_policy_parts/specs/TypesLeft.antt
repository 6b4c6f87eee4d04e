-- What is left of the types that a constraint names.
use Rattle.std.specs.Prelude.{List, ◌++◌}
use Rattle.std.specs.Option.{option_copied}
use Rattle.cedar_language.specs.Uid.{Name}
use Rattle.cedar_policy_parts.specs.Asked.{listed_type}
use Rattle.cedar_policy_parts.specs.declared.constraints.EntityTypeNames.{EntityTypeNames}

abbrev pub names_left : EntityTypeNames → List Name
names_left it = listed_type (option_copied it.of_entity) ++ listed_type (option_copied it.by_itself)
