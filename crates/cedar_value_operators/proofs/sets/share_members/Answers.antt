-- Two sets share a member just where they aren't disjoint.
use Rattle.cedar_language.specs.Operators.{has_some}
use Rattle.cedar_language.specs.Order.{all_of}
use Rattle.cedar_value_operators.proofs.BySets.{undone}
use Rattle.cedar_value_operators.proofs.sets.share_members.Goals as goal

pub returns : goal.returns
returns c = undone (has_some (all_of c.args.set.now) (all_of c.args.other.now)) c.is_disjoint.result c.is_disjoint.ensures.language
