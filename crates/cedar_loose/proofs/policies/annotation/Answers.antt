-- By its steps: the mark, the key and the value; it fails as the first of them that fails.
use Rattle.std.proofs.Common.{Ok, sym, ap, ◌∙◌}
use Rattle.std.proofs.lemmas.Result.{err_from_is_err_and}
use Rattle.cedar_grammar.specs.Token as token
use Rattle.cedar_grammar.specs.Steps.{eat}
use Rattle.cedar_grammar.specs.Loose as loose
use Rattle.cedar_grammar.specs.LooseReading.{needed, annotation_of}
use Rattle.cedar_cst.specs.View.{view_annotation}
use Rattle.cedar_cst.proofs.Views.{seen}
use Rattle.cedar_loose.specs.Parts.{value_of}
use Rattle.cedar_loose.proofs.Loops.{first_fails}
use Rattle.cedar_loose.proofs.Cases.{fails_as}
use Rattle.cedar_loose.proofs.Readings.{ident_of, annotation_is, annotation_steps}
use Rattle.cedar_loose.proofs.policies.annotation.Goals as goal

pub returns-in_err-expect : goal.returns-in_err-expect
returns-in_err-expect c =
    let p = err_from_is_err_and c.from_residual.result c.from_residual.ensures.1 in
    rw (p.1, p.2) (fails_as c.in_err-expect.field-0.0 (annotation_of c.args.cursor.now) (annotation_steps c.args.cursor.now) (annotation_is c.args.cursor.now) (first_fails c.in_err-expect.field-0.0 (needed (eat token.At c.args.cursor.now)) _ c.in_err-expect.ensures))

pub returns-in_err-key : goal.returns-in_err-key
returns-in_err-key c =
    let p = err_from_is_err_and c.from_residual-in_err-key.result c.from_residual-in_err-key.ensures.1 in
    rw (p.1, p.2) (fails_as c.in_err-key.field-0.0 (annotation_of c.args.cursor.now) (annotation_steps c.args.cursor.now) (annotation_is c.args.cursor.now) (rw (c.in_ok-expect.ensures) (first_fails c.in_err-key.field-0.0 (ident_of c.expect.new.self) _ c.in_err-key.ensures)))

pub returns-in_err-value : goal.returns-in_err-value
returns-in_err-value c =
    let p = err_from_is_err_and c.from_residual-in_err-value.result c.from_residual-in_err-value.ensures.1 in
    rw (p.1, p.2) (fails_as c.in_err-value.field-0.0 (annotation_of c.args.cursor.now) (annotation_steps c.args.cursor.now) (annotation_is c.args.cursor.now) (rw (c.in_ok-expect.ensures, c.in_ok-key.ensures) (first_fails c.in_err-value.field-0.0 (value_of c.ident.new.self) _ c.in_err-value.ensures)))

pub returns : goal.returns
returns c = annotation_is c.args.cursor.now ∙ rw (c.in_ok-expect.ensures, c.in_ok-key.ensures, c.in_ok-value.ensures) (ap (λ o. Ok (o, c.value.new.cursor)) (sym (seen loose.missing_annotation view_annotation c.in_ok-node.field-0 _ c.in_ok-node.ensures)))
