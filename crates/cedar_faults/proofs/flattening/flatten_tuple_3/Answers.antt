-- Three parts are two and one more, whose faults follow those of the two.
use Rattle.std.proofs.Common.{◌++◌, sym, subst}
use Rattle.cedar_faults.specs.Flat.{FailsByAll, failing}
use Rattle.cedar_faults.proofs.Gathering.{one_more, two_fail}
use Rattle.cedar_faults.proofs.flattening.flatten_tuple_3.Goals as goal

pub returns : goal.returns
returns g c =
    let before = two_fail c.args.first c.args.second c.in-Err.error c.in-Err.ensures in
    subst (λ third. FailsByAll (failing c.args.first ++ failing c.args.second ++ failing third) c.and.result) (sym c.in-Err-third-2.is) (one_more (failing c.args.first ++ failing c.args.second) c.in-Err.error c.in-Err-third-2.other c.and.result before c.and.ensures.reason c.and.ensures.faults)
