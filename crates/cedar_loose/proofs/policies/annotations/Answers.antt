-- The annotations so far and those that follow are all, as long as the mark of one is next.
use Rattle.std.proofs.Common.{map}
use Rattle.std.proofs.lemmas.Result.{err_from_is_err_and}
use Rattle.std.proofs.lemmas.List.{map_push}
use Rattle.cedar_grammar.specs.Steps.{begins_annotation}
use Rattle.cedar_grammar.specs.LooseReading.{each_of, annotation_of}
use Rattle.cedar_cst.specs.View.{shown_annotation}
use Rattle.cedar_loose.proofs.Loops.{each_start, each_done, each_fail, each_more}
use Rattle.cedar_loose.proofs.Fewer.{annotation_fewer}
use Rattle.cedar_loose.proofs.policies.annotations.Goals as goal

pub each-init : goal.each-init
each-init c = rw c.new-parts.ensures.items (each_start begins_annotation annotation_of c.args.cursor.now)

pub returns-in_err-part : goal.returns-in_err-part
returns-in_err-part c =
    let p = err_from_is_err_and c.from_residual.result c.from_residual.ensures.1 in
    rw (p.1, p.2) (each_fail begins_annotation annotation_of (map shown_annotation c.each.parts.items) c.each.cursor (each_of begins_annotation annotation_of c.args.cursor.now) c.each-test.ensures c.in_err-part.field-0.0 c.each.invariant c.in_err-part.ensures)

pub each-preserved : goal.each-preserved
each-preserved c = rw (c.in_ok-push.ensures.items, map_push) (each_more begins_annotation annotation_of (map shown_annotation c.each.parts.items) c.each.cursor (each_of begins_annotation annotation_of c.args.cursor.now) c.each-test.ensures (shown_annotation c.in_ok-part.part) c.annotation.new.cursor c.in_ok-part.ensures (annotation_fewer c.each.cursor (shown_annotation c.in_ok-part.part) c.annotation.new.cursor c.in_ok-part.ensures) c.each.invariant)

pub each-smaller : goal.each-smaller
each-smaller c = (annotation_fewer c.each.cursor (shown_annotation c.in_ok-part.part) c.annotation.new.cursor c.in_ok-part.ensures)

pub returns : goal.returns
returns c = each_done begins_annotation annotation_of (map shown_annotation c.each.parts.items) c.each.cursor (each_of begins_annotation annotation_of c.args.cursor.now) c.each.invariant c.each-test.ensures
