-- Unknowns.
use Rattle.std.specs.Prelude.{Option, option_map}
use Rattle.std.specs.Rc.{rc_str_bytes}
use Rattle.cedar_language.specs.Uid.{Text}
use Rattle.cedar_language.specs.Tree.{ValueType}
use Rattle.cedar_literals.specs.Types.{value_type_of}
use Rattle.cedar_trees.specs.declared.unknowns.Unknown.{Unknown}

abbrev pub unknown_name : Unknown → Text
unknown_name u = rc_str_bytes u.name

-- the type of its values, where one is stated
abbrev pub unknown_type : Unknown → Option ValueType
unknown_type u = option_map value_type_of u.type_annotation
