-- By its steps: annotations, effect, scope, clauses and semicolon; it fails as the first of them that fails.
use Rattle.std.proofs.Common.{◌+◌, refl, ◌∙◌}
use Rattle.std.proofs.lemmas.Result.{err_from_is_err_and}
use Rattle.cedar_grammar.specs.Token as token
use Rattle.cedar_grammar.specs.Steps.{eat, begins_annotation}
use Rattle.cedar_grammar.specs.Loose as loose
use Rattle.cedar_grammar.specs.LooseReading.{needed, each_of, items_of, annotation_of, variable_def_of, cond_of, begins_cond, policy_of}
use Rattle.cedar_cst.specs.View.{view_policy}
use Rattle.cedar_cst.proofs.Views.{seen}
use Rattle.cedar_loose.proofs.Loops.{first_fails, made}
use Rattle.cedar_loose.proofs.Cases.{fails_as}
use Rattle.cedar_loose.proofs.Readings.{ident_of, policy_is, policy_steps}
use Rattle.cedar_loose.proofs.policies.policy.Goals as goal

pub returns-in_err-annotations : goal.returns-in_err-annotations
returns-in_err-annotations c =
    let p = err_from_is_err_and c.from_residual.result c.from_residual.ensures.1 in
    rw (p.1, p.2) (fails_as c.in_err-annotations.field-0.0 (policy_of c.args.depth c.args.cursor.now) (policy_steps c.args.depth c.args.cursor.now) (policy_is c.args.depth c.args.cursor.now) (first_fails c.in_err-annotations.field-0.0 (each_of begins_annotation annotation_of c.args.cursor.now) _ c.in_err-annotations.ensures))

pub returns-in_err-effect : goal.returns-in_err-effect
returns-in_err-effect c =
    let p = err_from_is_err_and c.from_residual-in_err-effect.result c.from_residual-in_err-effect.ensures.1 in
    rw (p.1, p.2) (fails_as c.in_err-effect.field-0.0 (policy_of c.args.depth c.args.cursor.now) (policy_steps c.args.depth c.args.cursor.now) (policy_is c.args.depth c.args.cursor.now) (rw (c.in_ok-annotations.ensures) (first_fails c.in_err-effect.field-0.0 (ident_of c.annotations.new.cursor) _ c.in_err-effect.ensures)))

pub returns-in_err-expect : goal.returns-in_err-expect
returns-in_err-expect c =
    let p = err_from_is_err_and c.from_residual-in_err-expect.result c.from_residual-in_err-expect.ensures.1 in
    rw (p.1, p.2) (fails_as c.in_err-expect.field-0.0 (policy_of c.args.depth c.args.cursor.now) (policy_steps c.args.depth c.args.cursor.now) (policy_is c.args.depth c.args.cursor.now) (rw (c.in_ok-annotations.ensures, c.in_ok-effect.ensures) (first_fails c.in_err-expect.field-0.0 (needed (eat token.LeftParen c.ident.new.self)) _ c.in_err-expect.ensures)))

pub returns-in_err-variables : goal.returns-in_err-variables
returns-in_err-variables c =
    let p = err_from_is_err_and c.from_residual-in_err-variables.result c.from_residual-in_err-variables.ensures.1 in
    rw (p.1, p.2) (fails_as c.in_err-variables.field-0.0 (policy_of c.args.depth c.args.cursor.now) (policy_steps c.args.depth c.args.cursor.now) (policy_is c.args.depth c.args.cursor.now) (rw (c.in_ok-annotations.ensures, c.in_ok-effect.ensures, c.in_ok-expect.ensures) (first_fails c.in_err-variables.field-0.0 (items_of token.RightParen (variable_def_of c.args.depth) c.expect.new.self) _ c.in_err-variables.ensures)))

pub returns-in_err-conds : goal.returns-in_err-conds
returns-in_err-conds c =
    let p = err_from_is_err_and c.from_residual-in_err-conds.result c.from_residual-in_err-conds.ensures.1 in
    rw (p.1, p.2) (fails_as c.in_err-conds.field-0.0 (policy_of c.args.depth c.args.cursor.now) (policy_steps c.args.depth c.args.cursor.now) (policy_is c.args.depth c.args.cursor.now) (rw (c.in_ok-annotations.ensures, c.in_ok-effect.ensures, c.in_ok-expect.ensures, c.in_ok-variables.ensures) (first_fails c.in_err-conds.field-0.0 (each_of begins_cond (cond_of (c.args.depth + 1)) c.variable_defs.new.cursor) _ c.in_err-conds.ensures)))

pub returns-in_err-expect-2 : goal.returns-in_err-expect-2
returns-in_err-expect-2 c =
    let p = err_from_is_err_and c.from_residual-in_err-expect-2.result c.from_residual-in_err-expect-2.ensures.1 in
    rw (p.1, p.2) (fails_as c.in_err-expect-2.field-0.0 (policy_of c.args.depth c.args.cursor.now) (policy_steps c.args.depth c.args.cursor.now) (policy_is c.args.depth c.args.cursor.now) (rw (c.in_ok-annotations.ensures, c.in_ok-effect.ensures, c.in_ok-expect.ensures, c.in_ok-variables.ensures, c.in_ok-conds.ensures) (first_fails c.in_err-expect-2.field-0.0 (needed (eat token.Semicolon c.conds.new.cursor)) _ c.in_err-expect-2.ensures)))

pub returns : goal.returns
returns c = made (seen loose.missing_policy view_policy c.in_ok-node.field-0 _ c.in_ok-node.ensures) (policy_is c.args.depth c.args.cursor.now ∙ rw (c.in_ok-annotations.ensures, c.in_ok-effect.ensures, c.in_ok-expect.ensures, c.in_ok-variables.ensures, c.in_ok-conds.ensures, c.in_ok-expect-2.ensures) refl)
