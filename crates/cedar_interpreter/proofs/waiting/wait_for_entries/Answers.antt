-- The record of what is left, at the keys of the entries.
use Rattle.std.proofs.Common.{◌∙◌, ap, sym, BTreeMap, Global}
use Rattle.std.specs.declared.rc.RcStr.{RcStr}
use Rattle.either.specs.declared.Either.TheVariants.{Right}
use Rattle.cedar_trees.specs.Bare.{bare_entries, record_tree}
use Rattle.cedar_trees.specs.declared.expr.Expr.{Expr}
use Rattle.cedar_interpreter.specs.Meeting.{part_answer}
use Rattle.cedar_interpreter.proofs.Left.{keyed_record}
use Rattle.cedar_interpreter.proofs.waiting.wait_for_entries.Goals as goal

pub returns : goal.returns
returns c =
    λ facts holds.
    let same = ap (λ (m : BTreeMap (RcStr Global) (Expr (Unit {0}))). record_tree (bare_entries m.entries)) c.in_ok-new.ensures.ok in
    let made = keyed_record c.args.entries.now.entries c.in_ok-entries.entries.entries c.args.parts.items c.in_ok-entries.ensures.keys c.in_ok-entries.ensures.items in
    sym (ap part_answer (c.from.ensures ∙ ap Right (c.record_arc.ensures ∙ same ∙ made)))
