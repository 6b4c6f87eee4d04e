-- Each member is looked up in the other set, which is how the language tests for all of them; where one is no literal, and
-- the other set has only literals, it is no member there.
use Rattle.std.proofs.Common.{◌≡◌, ◌∙◌, ap, sym, false}
use Rattle.std.specs.List.{list_all}
use Rattle.cedar_language.specs.Operators.{has_member, has_all}
use Rattle.cedar_language.specs.Order.{all_of}
use Rattle.cedar_values.proofs.LiteralSets.{no_subset}
use Rattle.cedar_values.proofs.Sets.{all_is, subset_is}
use Rattle.cedar_values.proofs.values.Set.is_subset.Goals as goal

answered : (c : goal.After-are_members) → c.are_members.result ≡ has_all (all_of c.args.other.now) (all_of c.args.self.now)
answered c =
    c.are_members.ensures ∙ ap (list_all (has_member (all_of c.args.other.now))) c.authoritative.ensures.members ∙ sym (all_is (all_of c.args.other.now) c.args.self.now)

pub returns-clause-members : goal.returns-clause-members
returns-clause-members c = rw (answered c) (subset_is c.args.self.now c.args.other.now)

pub returns-clause-language : goal.returns-clause-language
returns-clause-language c = answered c

mixed : (c : goal.Then-not-is_of_literals) → has_all (all_of c.args.other.now) (all_of c.args.self.now) ≡ false
mixed c =
    no_subset c.args.self.now c.args.other.now (sym c.is_of_literals-then-is_of_literals.ensures ∙ c.if-not-is_of_literals.true) (sym c.is_of_literals.ensures ∙ c.if-is_of_literals.true)

pub returns-then-not-is_of_literals-clause-members : goal.returns-then-not-is_of_literals-clause-members
returns-then-not-is_of_literals-clause-members c = rw (← mixed c) (subset_is c.args.self.now c.args.other.now)

pub returns-then-not-is_of_literals-clause-language : goal.returns-then-not-is_of_literals-clause-language
returns-then-not-is_of_literals-clause-language c = sym (mixed c)
