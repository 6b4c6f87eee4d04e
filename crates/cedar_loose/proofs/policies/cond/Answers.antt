-- By its steps: the word, the opening bracket, and what stands up to the closing one.
use Rattle.std.proofs.Common.{Ok, sym, ap, ◌∙◌}
use Rattle.std.proofs.lemmas.Result.{err_from_is_err_and}
use Rattle.cedar_grammar.specs.Token as token
use Rattle.cedar_grammar.specs.Steps.{eat}
use Rattle.cedar_grammar.specs.Loose as loose
use Rattle.cedar_grammar.specs.LooseReading.{needed, expr_at, cond_of}
use Rattle.cedar_cst.specs.View.{view_cond}
use Rattle.cedar_cst.proofs.Views.{seen}
use Rattle.cedar_loose.specs.Parts.{clause_of}
use Rattle.cedar_loose.proofs.Loops.{first_fails}
use Rattle.cedar_loose.proofs.Cases.{fails_as}
use Rattle.cedar_loose.proofs.Readings.{ident_of, cond_is, cond_steps}
use Rattle.cedar_loose.proofs.policies.cond.Goals as goal

pub returns-in_err-cond : goal.returns-in_err-cond
returns-in_err-cond c =
    let p = err_from_is_err_and c.from_residual.result c.from_residual.ensures.1 in
    rw (p.1, p.2) (fails_as c.in_err-cond.field-0.0 (cond_of c.args.depth c.args.cursor.now) (cond_steps c.args.depth c.args.cursor.now) (cond_is c.args.depth c.args.cursor.now) (first_fails c.in_err-cond.field-0.0 (ident_of c.args.cursor.now) _ c.in_err-cond.ensures))

pub returns-in_err-expect : goal.returns-in_err-expect
returns-in_err-expect c =
    let p = err_from_is_err_and c.from_residual-in_err-expect.result c.from_residual-in_err-expect.ensures.1 in
    rw (p.1, p.2) (fails_as c.in_err-expect.field-0.0 (cond_of c.args.depth c.args.cursor.now) (cond_steps c.args.depth c.args.cursor.now) (cond_is c.args.depth c.args.cursor.now) (rw (c.in_ok-cond.ensures) (first_fails c.in_err-expect.field-0.0 (needed (eat token.LeftBrace c.ident.new.self)) _ c.in_err-expect.ensures)))

pub returns-in_err-expr : goal.returns-in_err-expr
returns-in_err-expr c =
    let p = err_from_is_err_and c.from_residual-in_err-expr.result c.from_residual-in_err-expr.ensures.1 in
    rw (p.1, p.2) (fails_as c.in_err-expr.field-0.0 (cond_of c.args.depth c.args.cursor.now) (cond_steps c.args.depth c.args.cursor.now) (cond_is c.args.depth c.args.cursor.now) (rw (c.in_ok-cond.ensures, c.in_ok-expect.ensures) (first_fails c.in_err-expr.field-0.0 (clause_of (expr_at c.args.depth) c.expect.new.self) _ c.in_err-expr.ensures)))

pub returns : goal.returns
returns c = cond_is c.args.depth c.args.cursor.now ∙ rw (c.in_ok-cond.ensures, c.in_ok-expect.ensures, c.in_ok-expr.ensures) (ap (λ o. Ok (o, c.clause.new.cursor)) (sym (seen loose.missing_cond view_cond c.in_ok-node.field-0 _ c.in_ok-node.ensures)))
