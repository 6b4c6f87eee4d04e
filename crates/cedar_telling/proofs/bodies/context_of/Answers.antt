-- What the record is evaluated to, by what partial evaluation says of the trees of bodies.
use Rattle.std.proofs.Common.{sym, ◌∙◌}
use Rattle.cedar_held.proofs.Entries.{has_unknown}
use Rattle.cedar_extensions.specs.Table.{as_table}
use Rattle.cedar_restricted.specs.Views.{borrowed_tree}
use Rattle.cedar_telling.proofs.Stated.{not_given, named_well, named_badly, not_made}
use Rattle.cedar_telling.proofs.bodies.context_of.Goals as goal

pub returns-in_default : goal.returns-in_default
returns-in_default g c = λ by serves. not_given by (as_table g.F.ExtensionFunctionObject.answers c.args.extensions.now) c.args.depth c.args.written c.in_default.is

pub returns-in-Ok : goal.returns-in-Ok
returns-in-Ok g c = λ by serves.
    let table = as_table g.F.ExtensionFunctionObject.answers c.args.extensions.now in
    let unknown_is = has_unknown g.F.ExtensionFunctionObject.answers c.args.extensions.now c.args.extensions.now.named in
    named_badly c.trees_are_read.ensures by table unknown_is c.args.depth c.args.written c.in-Some.record c.in-Some.is c.requires serves
    (borrowed_tree c.new_unchecked-expr.result) c.new_unchecked-expr.ensures c.in-Ok.field-0 c.in-Ok.ensures (sym c.is_badly_named.ensures ∙ c.if-is_badly_named.true)

pub returns-in-Ok-2 : goal.returns-in-Ok-2
returns-in-Ok-2 g c = λ by serves.
    let table = as_table g.F.ExtensionFunctionObject.answers c.args.extensions.now in
    let unknown_is = has_unknown g.F.ExtensionFunctionObject.answers c.args.extensions.now c.args.extensions.now.named in
    named_well c.trees_are_read.ensures by table unknown_is c.args.depth c.args.written c.in-Some.record c.in-Some.is c.requires serves
    (borrowed_tree c.new_unchecked-expr.result) c.new_unchecked-expr.ensures c.in-Ok.field-0 c.in-Ok.ensures (sym c.is_badly_named.ensures ∙ c.if-is_badly_named.false)

pub returns-in-Err : goal.returns-in-Err
returns-in-Err g c = λ by serves.
    let table = as_table g.F.ExtensionFunctionObject.answers c.args.extensions.now in
    let unknown_is = has_unknown g.F.ExtensionFunctionObject.answers c.args.extensions.now c.args.extensions.now.named in
    not_made c.trees_are_read.ensures by table unknown_is c.args.depth c.args.written c.in-Some.record c.in-Some.is c.requires serves
    (borrowed_tree c.new_unchecked-expr.result) c.new_unchecked-expr.ensures c.in-Err.error c.why_none.result c.why_none.ensures c.in-Err.ensures
