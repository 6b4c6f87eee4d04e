-- One position more is covered, or what was covered stays so (Covering).
use Rattle.std.proofs.Common.{ap, sym, ◌∙◌}
use Rattle.std.specs.List.{slice_get}
use Rattle.cedar_policy_set.specs.Bounds.{entries_of}
use Rattle.cedar_policy_set.proofs.Covering.{covers_entry, covers_still}
use Rattle.cedar_policy_set.proofs.scopes.cover.Goals as goal

pub loop-next-preserved : goal.loop-next-preserved
loop-next-preserved c =
    let es = c.args.bound.now in
    covers_entry es c.loop-next.scopes c.cover_next.new.scopes c.in-Some.field-0-0.now c.in-Some.next.now c.loop-next.invariant c.cover_next.ensures.kept c.in_ok-cover_next.ensures.covered
    (ap (slice_get es) (sym c.len.ensures) ∙ sym c.in-Some.ensures) c.in_ok-cover_next.ensures.found

pub returns-in_err-cover_next-clause-covers : goal.returns-in_err-cover_next-clause-covers
returns-in_err-cover_next-clause-covers c = covers_still (entries_of c.args.bound.now) c.loop-next.scopes c.cover_next.new.scopes c.loop-next.invariant c.cover_next.ensures.kept c.in_err-cover_next.ensures.err
