use Rattle.std.proofs.Common.{rules}
use Rattle.std.proofs.lemmas.Result.{err_from_is_err_and}
use Rattle.cedar_names.proofs.Splitting.{more_read, all_read, refused_read, refused_last}
use Rattle.cedar_names.proofs.reading.InternalNameFromNormalizedStr.from_normalized_str.Goals as goal

pub returns-in_err-from_normalized_str : goal.returns-in_err-from_normalized_str
returns-in_err-from_normalized_str c =
    let p = err_from_is_err_and c.from_residual.result c.from_residual.ensures.1 in
    rw (p.1, p.2) (refused_read _ _ _ _ _ _ c.loop-component.invariant.1 c.in-Some.ensures.cases c.in_err-from_normalized_str.ensures)

pub loop-component-preserved : goal.loop-component-preserved
loop-component-preserved c =
    let id = c.in_ok-from_normalized_str.ensures in
    let read = more_read _ _ _ _ _ c.loop-component.invariant.1 c.in-Some.ensures.cases id.1 in
    (search rules, rw (c.in_ok-push.ensures.items, id.0) read)

pub returns-in_err-basename : goal.returns-in_err-basename
returns-in_err-basename c =
    let p = err_from_is_err_and c.from_residual-in_err-basename.result c.from_residual-in_err-basename.ensures.1 in
    rw (p.1, p.2) (refused_last _ _ _ _ c.loop-component.invariant.1 c.in_default.ensures.cases c.in_err-basename.ensures)

pub returns : goal.returns
returns c =
    let id = c.in_ok-basename.ensures in
    rw (c.in_ok-new.ensures, id.0) (all_read _ _ _ c.loop-component.invariant.1 id.1)
