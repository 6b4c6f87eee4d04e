-- By what stands at the key of a record.
use Rattle.std.proofs.Common.{◌≡◌, ◌∙◌, sym, subst, Some, None, BTreeMap, Global}
use Rattle.std.specs.Map.{lookup}
use Rattle.std.specs.Rc.{rc_str_bytes}
use Rattle.std.specs.declared.rc.RcStr.{RcStr}
use Rattle.cedar_partial_evaluation.specs.Partial.{Failed, attribute_answer}
use Rattle.cedar_trees.specs.Bare.{bare}
use Rattle.cedar_trees.specs.declared.expr.Expr.{Expr}
use Rattle.cedar_extensions.specs.Giving.{FailsBy}
use Rattle.cedar_interpreter.proofs.Left.{record_is}
use Rattle.cedar_interpreter.proofs.Projected.{missing_here, taken_here, waits_here}
use Rattle.cedar_interpreter.proofs.Projecting.{is_name}
use Rattle.cedar_interpreter.proofs.attributes.taken.Goals as goal

pub returns-in_ok-missing-in-None : goal.returns-in_ok-missing-in-None
returns-in_ok-missing-in-None c =
    λ facts holds.
    subst (FailsBy ⊥ (λ k. attribute_answer facts holds (rc_str_bytes c.args.attr.now) (bare c.args.rest.now) ≡ Failed k)) (sym c.in_ok-missing-in-None.ensures)
    (missing_here facts holds (rc_str_bytes c.args.attr.now) c.args.rest.now c.in-Record.entries.value.entries (record_is c.args.rest.now c.in-Record.entries c.in-Record.is) (subst (λ k. lookup (is_name k) c.in-Record.entries.value.entries ≡ None) c.as_str.ensures.value (subst (λ (m : BTreeMap (RcStr Global) (Expr (Unit {0}))). lookup (is_name c.as_str.result.now) m.entries ≡ None) c.deref.ensures (sym c.in-None.ensures.value))))

pub returns-in_ok-clone-in-Some : goal.returns-in_ok-clone-in-Some
returns-in_ok-clone-in-Some c =
    λ facts holds.
    taken_here facts holds (rc_str_bytes c.args.attr.now) c.args.rest.now c.in-Record.entries.value.entries (record_is c.args.rest.now c.in-Record.entries c.in-Record.is) c.in-Some.entry.now (subst (λ k. lookup (is_name k) c.in-Record.entries.value.entries ≡ Some c.in-Some.entry.now) c.as_str.ensures.value (subst (λ (m : BTreeMap (RcStr Global) (Expr (Unit {0}))). lookup (is_name c.as_str.result.now) m.entries ≡ Some c.in-Some.entry.now) c.deref.ensures (sym c.in-Some.ensures.value))) (bare c.in_ok-clone-in-Some.field-0) c.in_ok-clone-in-Some.ensures.tree (sym c.is_projectable.ensures ∙ c.if-is_projectable.true)

pub returns-else-is_projectable : goal.returns-else-is_projectable
returns-else-is_projectable c =
    λ facts holds.
    waits_here facts holds (rc_str_bytes c.args.attr.now) c.args.rest.now c.in-Record.entries.value.entries (record_is c.args.rest.now c.in-Record.entries c.in-Record.is) c.in-Some.entry.now (subst (λ k. lookup (is_name k) c.in-Record.entries.value.entries ≡ Some c.in-Some.entry.now) c.as_str.ensures.value (subst (λ (m : BTreeMap (RcStr Global) (Expr (Unit {0}))). lookup (is_name c.as_str.result.now) m.entries ≡ Some c.in-Some.entry.now) c.deref.ensures (sym c.in-Some.ensures.value))) (sym c.is_projectable.ensures ∙ c.if-is_projectable.false)
