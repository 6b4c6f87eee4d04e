-- By the law of offences, a tree that the maker finds one in isn't restricted.
use Rattle.cedar_trees.specs.Bare.{bare}
use Rattle.cedar_parser.proofs.Bodies.{unrestricted}
use Rattle.cedar_parser.proofs.restricted.restricted.Goals as goal

pub returns-in-Err : goal.returns-in-Err
returns-in-Err c = unrestricted c.offences_are_what_is_not_restricted.ensures (bare c.args.expr) c.in-Err.error c.in-Err.ensures
