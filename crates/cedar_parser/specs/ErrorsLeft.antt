-- What is left of the errors of a text.
use Rattle.std.specs.Prelude.{List, ◌++◌}
use Rattle.std.specs.Option.{option_copied, option_to_list}
use Rattle.std.specs.Slice.Iter.{iter_rest}
use Rattle.std.specs.Vec.Iter.{into_iter_items}
use Rattle.cedar_faults.specs.Reasons.{listed}
use Rattle.cedar_parser.specs.declared.errors.ParseError.{ParseError}
use Rattle.cedar_parser.specs.declared.errors.ParseErrors.{ParseErrors}
use Rattle.cedar_parser.specs.declared.iteration.IntoIter.{IntoIter}
use Rattle.cedar_parser.specs.declared.iteration.Iter.{Iter}

-- all of them, in order
abbrev pub errors_of : ParseErrors → List ParseError
errors_of errors = listed errors.0

abbrev pub lent_left : Iter → List ParseError
lent_left it = option_to_list (option_copied it.head) ++ iter_rest it.tail

abbrev pub errors_left : IntoIter → List ParseError
errors_left it = option_to_list it.head ++ into_iter_items it.tail
