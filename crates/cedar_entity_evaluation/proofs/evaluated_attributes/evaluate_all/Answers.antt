-- The lemmas of Giving and Refusing: each entry passed has its value, and the first without one is refused.
use Rattle.std.proofs.Common.{◌≤◌, refl, subst}
use Rattle.cedar_language.specs.Height.{height}
use Rattle.cedar_extensions.specs.Table.{as_table}
use Rattle.cedar_restricted.specs.Views.{restricted_tree, restricted_entries}
use Rattle.cedar_restricted.specs.PartialValues.{partial_of}
use Rattle.cedar_entity_evaluation.specs.Evaluated.{IsGiven}
use Rattle.cedar_entity_evaluation.specs.Refused.{IsError}
use Rattle.cedar_entity_evaluation.proofs.Giving.{goes_on, stops, within_next}
use Rattle.cedar_entity_evaluation.proofs.Refusing.{refused_at}
use Rattle.cedar_entity_evaluation.proofs.evaluated_attributes.evaluate_all.Goals as goal

pub returns-in-Err-clause-refused : goal.returns-in-Err-clause-refused
returns-in-Err-clause-refused g c =
    let table = as_table g.F.ExtensionFunctionObject.answers c.args.extensions.now in
    let errs : IsError table c.args.depth (restricted_tree c.in-Some.expr) c.in-Err.err =
    subst (λ t. IsError table c.args.depth t c.in-Err.err) c.as_borrowed.ensures (record { meant = c.in-Err.ensures.meaning; answer = c.in-Err.ensures.answer }) in
    refused_at table c.args.depth (restricted_entries c.args.exprs.entries) c.args.uid c.args.uid refl c.args.was_attr c.in-Some.name c.in-Err.err c.refusal.result c.refusal.ensures
    (stops table c.args.exprs.entries c.loop-name.name-iterator c.next.new.self c.loop-name.values.entries c.in-Some.name c.in-Some.expr c.loop-name.invariant.0 c.in-Some.ensures.steps c.args.depth c.in-Err.err errs)

pub loop-name-preserved : goal.loop-name-preserved
loop-name-preserved g c =
    let table = as_table g.F.ExtensionFunctionObject.answers c.args.extensions.now in
    let given : IsGiven table (restricted_tree c.in-Some.expr) (partial_of c.in-Ok.value) =
    subst (λ t. IsGiven table t (partial_of c.in-Ok.value)) c.as_borrowed.ensures (record { meant = c.in-Ok.ensures.meaning; answer = c.in-Ok.ensures.answer; left = c.in-Ok.ensures.left; built = c.in-Ok.ensures.built }) in
    let within : height (restricted_tree c.in-Some.expr) ≤ c.args.depth = subst (λ t. height t ≤ c.args.depth) c.as_borrowed.ensures c.in-Ok.ensures.limit in (
      goes_on table c.args.exprs.entries c.loop-name.name-iterator c.next.new.self c.loop-name.values.entries c.in-Some.name c.in-Some.expr c.loop-name.invariant.0 c.in-Some.ensures.steps
          c.insert.new.self.entries c.in-Ok.value c.into_iter-name-iterator.ensures.into_iter_gives.5 c.in_ok-insert-in-Ok.ensures.entries given,
      within_next c.args.depth c.args.exprs.entries c.loop-name.name-iterator c.next.new.self c.in-Some.name c.in-Some.expr c.in-Some.ensures.steps c.loop-name.invariant.1 within,
    )
