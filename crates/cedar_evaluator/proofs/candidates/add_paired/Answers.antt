-- Either list will do, by what is known of its entity.
use Rattle.std.proofs.Common.{inl, inr, sym, ap, subst}
use Rattle.std.specs.Option.{option_copied}
use Rattle.cedar_evaluator.specs.Candidates.{HasListed, is_in_given, is_in_known}
use Rattle.cedar_evaluator.proofs.Responding.{if_ok}
use Rattle.cedar_evaluator.proofs.candidates.add_paired.Goals as goal

pub returns-in-Some-clause-added : goal.returns-in-Some-clause-added
returns-in-Some-clause-added c =
    if_ok c.add_found.result
    (λ all added whole.
    let ps = c.add_found.new.found.items in
    let listed = subst (λ l. HasListed l (is_in_given c.in-Some.given.now) ps) c.paired_resources.ensures (added whole) in
    inr (subst (λ known. HasListed c.args.index.now.paired_resources (is_in_known known) ps) (sym (ap option_copied c.in-Some.is)) listed))
    c.add_found.ensures.added

pub returns-in-None-clause-added : goal.returns-in-None-clause-added
returns-in-None-clause-added c =
    if_ok c.add_found-in-None.result
    (λ all added whole. inl (subst (λ l. HasListed l (is_in_given c.args.principal.now) c.add_found-in-None.new.found.items) c.paired_principals.ensures (added whole)))
    c.add_found-in-None.ensures.added
