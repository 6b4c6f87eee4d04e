-- The reader begins with no policy given; at the end of the text all were given, and an error that it stops at refuses the text.
use Rattle.std.proofs.Common.{[], Ok, subst}
use Rattle.std.proofs.lemmas.Result.{err_from_is_err_and}
use Rattle.cedar_loose.specs.Readers.{GivesNext}
use Rattle.cedar_parser.proofs.sets.gathered.Goals as goal

pub each-init : goal.each-init
each-init c = ([], c.in_ok-reader.ensures.first, c.new-policies.ensures c.args.styles.now)

pub returns-in_err-policy-clause-refused : goal.returns-in_err-policy-clause-refused
returns-in_err-policy-clause-refused c =
    let so_far = c.each.invariant in
    let told = err_from_is_err_and c.from_residual-in_err-policy.result c.from_residual-in_err-policy.ensures.1 in
    rw (told.1, told.2) (c.in_err-policy.ensures.next c.args.depth c.args.text.now so_far.0 so_far.1)

pub returns-clause-read : goal.returns-clause-read
returns-clause-read c =
    let so_far = c.each.invariant in
    let all = c.in_ok-policy.ensures.next c.args.depth c.args.text.now so_far.0 so_far.1 in
    (so_far.0, subst (λ p. GivesNext c.args.depth c.args.text.now so_far.0 (Ok p) c.next.new.self) c.in_default-2.is all, so_far.2)
