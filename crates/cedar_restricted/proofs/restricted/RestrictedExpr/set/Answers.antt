-- A set is restricted where its items are, and those that are given are.
use Rattle.std.proofs.Common.{◌∙◌, ap}
use Rattle.cedar_language.specs.Tree.{MakeSet, Apply}
use Rattle.cedar_language.specs.Restricted.{is_restricted, are_restricted}
use Rattle.cedar_grammar.specs.Build.{trees}
use Rattle.cedar_restricted.proofs.Making.{all_are}
use Rattle.cedar_restricted.proofs.restricted.RestrictedExpr.set.Goals as goal

pub invariant_of-result : goal.invariant_of-result
invariant_of-result c = record { restricted = ap is_restricted c.in_ok-set.ensures ∙ ap (λ ts. are_restricted (trees ts)) c.in_ok-items.ensures ∙ all_are c.args.items.items }

pub returns : goal.returns
returns c = c.in_ok-set.ensures ∙ ap (λ ts. Apply MakeSet (trees ts)) c.in_ok-items.ensures
