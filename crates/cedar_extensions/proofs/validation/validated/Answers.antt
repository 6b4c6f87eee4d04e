-- A call that fits is passed over, and the first one that doesn't is the first fault of the walk.
use Rattle.std.proofs.Common.{◌≡◌, length, rules}
use Rattle.cedar_trees.specs.Bare.{bare}
use Rattle.cedar_shapes.specs.PositionsLeft.{positions_left}
use Rattle.cedar_extensions.specs.Table.{as_table}
use Rattle.cedar_extensions.specs.Calls.{calls_in}
use Rattle.cedar_extensions.proofs.Fitting.{call_is, passed_over, wrong_there}
use Rattle.cedar_extensions.proofs.validation.validated.Goals as goal

pub loop-part-preserved-in-Continue-branch-2 : goal.loop-part-preserved-in-Continue-branch-2
loop-part-preserved-in-Continue-branch-2 g c =
    let count : c.len.result ≡ length c.in-ExtensionFunctionApp.args.value.items = search (rules, c.deref.ensures, c.len.ensures) in
    let made = call_is g.row.T.Denot c.in-Some.part.now c.in-ExtensionFunctionApp.fn_name c.in-ExtensionFunctionApp.args c.len.result c.in-ExtensionFunctionApp.is count in
    passed_over (as_table g.F.ExtensionFunctionObject.answers c.args.extensions.now) (calls_in (bare c.args.expr.now)) (positions_left c.loop-part.part-iterator) (positions_left c.next.new.self) (bare c.in-Some.part.now) (c.in-ExtensionFunctionApp.fn_name, c.len.result) c.in-Some.ensures.steps made (search rules) c.loop-part.invariant

pub returns-in_err-check_call : goal.returns-in_err-check_call
returns-in_err-check_call g c =
    let count : c.len.result ≡ length c.in-ExtensionFunctionApp.args.value.items = search (rules, c.deref.ensures, c.len.ensures) in
    let made = call_is g.row.T.Denot c.in-Some.part.now c.in-ExtensionFunctionApp.fn_name c.in-ExtensionFunctionApp.args c.len.result c.in-ExtensionFunctionApp.is count in
    let wrong = wrong_there (as_table g.F.ExtensionFunctionObject.answers c.args.extensions.now) (calls_in (bare c.args.expr.now)) (positions_left c.loop-part.part-iterator) (positions_left c.next.new.self) (bare c.in-Some.part.now) (c.in-ExtensionFunctionApp.fn_name, c.len.result) c.in_err-check_call.field-0.0 c.in-Some.ensures.steps made (search rules) c.loop-part.invariant in
    search (rules, wrong)
