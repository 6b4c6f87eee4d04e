-- By its steps: the variable, and then a type's name, a type and a comparison, each of which may lack.
use Rattle.std.proofs.Common.{◌+◌, refl, ◌∙◌}
use Rattle.std.proofs.lemmas.Result.{err_from_is_err_and}
use Rattle.cedar_grammar.specs.Token as token
use Rattle.cedar_grammar.specs.Steps.{eat}
use Rattle.cedar_grammar.specs.Loose as loose
use Rattle.cedar_grammar.specs.LooseReading.{optional, compared_step, operator_at, rel_op, eat_is, name_of, add_of, expr_at, variable_def_of}
use Rattle.cedar_cst.specs.View.{view_variable_def}
use Rattle.cedar_cst.proofs.Views.{seen}
use Rattle.cedar_loose.proofs.Loops.{first_fails, made}
use Rattle.cedar_loose.proofs.Cases.{fails_as}
use Rattle.cedar_loose.proofs.Readings.{ident_of, variable_def_is, variable_def_steps}
use Rattle.cedar_loose.proofs.policies.variable_def.Goals as goal

pub returns-in_err-variable : goal.returns-in_err-variable
returns-in_err-variable c =
    let p = err_from_is_err_and c.from_residual.result c.from_residual.ensures.1 in
    rw (p.1, p.2) (fails_as c.in_err-variable.field-0.0 (variable_def_of c.args.depth c.args.cursor.now) (variable_def_steps c.args.depth c.args.cursor.now) (variable_def_is c.args.depth c.args.cursor.now) (first_fails c.in_err-variable.field-0.0 (ident_of c.args.cursor.now) _ c.in_err-variable.ensures))

pub returns-in_err-unused_type_name : goal.returns-in_err-unused_type_name
returns-in_err-unused_type_name c =
    let p = err_from_is_err_and c.from_residual-in_err-unused_type_name.result c.from_residual-in_err-unused_type_name.ensures.1 in
    rw (p.1, p.2) (fails_as c.in_err-unused_type_name.field-0.0 (variable_def_of c.args.depth c.args.cursor.now) (variable_def_steps c.args.depth c.args.cursor.now) (variable_def_is c.args.depth c.args.cursor.now) (rw (c.in_ok-variable.ensures) (first_fails c.in_err-unused_type_name.field-0.0 (optional name_of c.ident.new.self (eat token.Colon c.ident.new.self)) _ c.in_err-unused_type_name.ensures)))

pub returns-in_err-entity_type : goal.returns-in_err-entity_type
returns-in_err-entity_type c =
    let p = err_from_is_err_and c.from_residual-in_err-entity_type.result c.from_residual-in_err-entity_type.ensures.1 in
    rw (p.1, p.2) (fails_as c.in_err-entity_type.field-0.0 (variable_def_of c.args.depth c.args.cursor.now) (variable_def_steps c.args.depth c.args.cursor.now) (variable_def_is c.args.depth c.args.cursor.now) (rw (c.in_ok-variable.ensures, c.in_ok-unused_type_name.ensures) (first_fails c.in_err-entity_type.field-0.0 (optional (add_of (expr_at c.args.depth)) c.unused_type_name.new.cursor (eat_is c.unused_type_name.new.cursor)) _ c.in_err-entity_type.ensures)))

pub returns-in_err-ineq : goal.returns-in_err-ineq
returns-in_err-ineq c =
    let p = err_from_is_err_and c.from_residual-in_err-ineq.result c.from_residual-in_err-ineq.ensures.1 in
    rw (p.1, p.2) (fails_as c.in_err-ineq.field-0.0 (variable_def_of c.args.depth c.args.cursor.now) (variable_def_steps c.args.depth c.args.cursor.now) (variable_def_is c.args.depth c.args.cursor.now) (rw (c.in_ok-variable.ensures, c.in_ok-unused_type_name.ensures, c.in_ok-entity_type.ensures) (first_fails c.in_err-ineq.field-0.0 (compared_step (expr_at (c.args.depth + 1)) c.entity_type.new.cursor (operator_at rel_op c.entity_type.new.cursor)) _ c.in_err-ineq.ensures)))

pub returns : goal.returns
returns c = made (seen loose.missing_variable_def view_variable_def c.in_ok-node.field-0 _ c.in_ok-node.ensures) (variable_def_is c.args.depth c.args.cursor.now ∙ rw (c.in_ok-variable.ensures, c.in_ok-unused_type_name.ensures, c.in_ok-entity_type.ensures, c.in_ok-ineq.ensures) refl)
