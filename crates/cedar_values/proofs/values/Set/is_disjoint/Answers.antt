-- A member that both have is looked for, which is how the language tests for some of them.
use Rattle.std.proofs.Common.{◌≡◌, ◌∙◌, ap, sym, not}
use Rattle.std.specs.List.{list_any}
use Rattle.cedar_language.specs.Operators.{has_member, has_some}
use Rattle.cedar_language.specs.Order.{all_of}
use Rattle.cedar_values.proofs.Sets.{some_is, disjoint_is}
use Rattle.cedar_values.proofs.values.Set.is_disjoint.Goals as goal

answered : (c : goal.After-is_any_member) → c.is_any_member.result ≡ has_some (all_of c.args.other.now) (all_of c.args.self.now)
answered c =
    c.is_any_member.ensures ∙ ap (list_any (has_member (all_of c.args.other.now))) c.authoritative.ensures.members ∙ sym (some_is (all_of c.args.other.now) c.args.self.now)

pub returns-clause-members : goal.returns-clause-members
returns-clause-members c = rw (answered c) (disjoint_is c.args.self.now c.args.other.now)

pub returns-clause-language : goal.returns-clause-language
returns-clause-language c = ap not (answered c)
