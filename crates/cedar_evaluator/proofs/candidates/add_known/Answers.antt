-- An entity that isn't known may be any, and all that is listed is added.
use Rattle.std.proofs.Common.{sym, ap, subst}
use Rattle.std.specs.Option.{option_copied}
use Rattle.cedar_evaluator.specs.Candidates.{HasListed, is_in_known}
use Rattle.cedar_evaluator.proofs.Responding.{if_ok}
use Rattle.cedar_evaluator.proofs.candidates.add_known.Goals as goal

pub returns-in_ok-push_all-in-None-clause-added : goal.returns-in_ok-push_all-in-None-clause-added
returns-in_ok-push_all-in-None-clause-added c = λ whole.
    subst (λ known. HasListed c.args.listed.now (is_in_known known) c.push_all.new.found.items) (sym (ap option_copied c.in-None.is)) (λ u may. c.in_ok-push_all-in-None.ensures.added u)

pub returns-in-Some-clause-added : goal.returns-in-Some-clause-added
returns-in-Some-clause-added c =
    if_ok c.add_found.result
    (λ all added whole. subst (λ known. HasListed c.args.listed.now (is_in_known known) c.add_found.new.found.items) (sym (ap option_copied c.in-Some.is)) (added whole))
    c.add_found.ensures.added
