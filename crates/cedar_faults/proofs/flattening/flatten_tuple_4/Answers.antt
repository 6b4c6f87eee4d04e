-- Four parts are three and one more, whose faults follow those of the three.
use Rattle.std.proofs.Common.{◌++◌, sym, subst}
use Rattle.cedar_faults.specs.Flat.{FailsByAll, failing}
use Rattle.cedar_faults.proofs.Gathering.{one_more}
use Rattle.cedar_faults.proofs.flattening.flatten_tuple_4.Goals as goal

pub returns : goal.returns
returns g c =
    let three = failing c.args.first ++ failing c.args.second ++ failing c.args.third in
    subst (λ fourth. FailsByAll (three ++ failing fourth) c.and.result) (sym c.in-Err-fourth-2.is) (one_more three c.in-Err.error c.in-Err-fourth-2.other c.and.result c.in-Err.ensures c.and.ensures.reason c.and.ensures.faults)
