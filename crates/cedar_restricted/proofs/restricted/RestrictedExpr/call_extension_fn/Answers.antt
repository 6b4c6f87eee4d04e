-- A call is restricted where its arguments are, and those that are given are.
use Rattle.std.proofs.Common.{◌∙◌, ap}
use Rattle.cedar_language.specs.Tree.{Call, Apply}
use Rattle.cedar_language.specs.Restricted.{is_restricted, are_restricted}
use Rattle.cedar_grammar.specs.Build.{trees}
use Rattle.cedar_restricted.proofs.Making.{all_are}
use Rattle.cedar_restricted.proofs.restricted.RestrictedExpr.call_extension_fn.Goals as goal

pub invariant_of-result : goal.invariant_of-result
invariant_of-result c = record { restricted = ap is_restricted c.in_ok-call_extension_fn.ensures ∙ ap (λ ts. are_restricted (trees ts)) c.in_ok-args.ensures ∙ all_are c.args.args.items }

pub returns : goal.returns
returns c = c.in_ok-call_extension_fn.ensures ∙ ap (λ ts. Apply (Call c.args.function_name) (trees ts)) c.in_ok-args.ensures
