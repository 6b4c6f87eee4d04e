-- The set that a value is has its members, and is empty where there are none.
use Rattle.std.proofs.Common.{◌≡◌, Some, rules}
use Rattle.cedar_language.specs.Order.{all_of}
use Rattle.cedar_language.specs.Tree.{Boolean}
use Rattle.cedar_language.specs.Value.{Plain}
use Rattle.cedar_value_operators.proofs.ByOperand.{empty_gives}
use Rattle.cedar_value_operators.specs.Operands.{members_in}
use Rattle.cedar_value_operators.proofs.unary.is_empty.Goals as goal

pub returns : goal.returns
returns c =
    let found : members_in c.args.arg.now ≡ Some (all_of c.in_ok-set.set.now) = search rules in
    let made : c.from.result ≡ Plain (Boolean c.is_empty.result) = search rules in
    empty_gives c.args.arg.now c.in_ok-set.set.now c.is_empty.result c.from.result found c.is_empty.ensures made
