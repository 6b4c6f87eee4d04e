-- The record is made of the entries, and the context of the record.
use Rattle.std.proofs.Common.{sym, subst}
use Rattle.cedar_extensions.specs.Table.{as_table}
use Rattle.cedar_requests.specs.Creating.{Creates, CreatesOf}
use Rattle.cedar_requests.proofs.contexts.Context.from_pairs.Goals as goal

pub returns-in-Ok : goal.returns-in-Ok
returns-in-Ok g c =
    let table = as_table g.F.ExtensionFunctionObject.answers c.args.extensions.now in
    subst (λ made. CreatesOf table c.args.depth made c.from_expr.result) (sym c.in-Ok.ensures)
    (subst (λ t. Creates table c.args.depth t c.from_expr.result) c.as_borrowed.ensures c.from_expr.ensures)
