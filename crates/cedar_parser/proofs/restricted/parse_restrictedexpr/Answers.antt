-- The text has this tree alone: too high for the limit, kept as restricted, or refused for a part of it.
use Rattle.std.proofs.Common.{rules, ◌≡◌, Err, ap, subst, sym}
use Rattle.cedar_trees.specs.Bare.{bare}
use Rattle.cedar_parser.specs.Errors.{cause_of}
use Rattle.cedar_parser.specs.Strict.{IsUnread}
use Rattle.cedar_parser.specs.declared.restricted.RestrictedExpressionParseError.TheVariants as parse
use Rattle.cedar_parser.proofs.Bodies.{tree_refused, too_high, tree_kept, offence_told}
use Rattle.cedar_parser.proofs.Callers.{kept_calls}
use Rattle.cedar_parser.proofs.Faults.{one_tells, kept_tells}
use Rattle.cedar_parser.proofs.restricted.parse_restrictedexpr.Goals as goal

pub returns-in_err-expr-clause-body : goal.returns-in_err-expr-clause-body
returns-in_err-expr-clause-body c =
    let same : c.from_residual.result ≡ Err (parse.Parse c.in_err-expr.field-0.0) = search rules in
    let errors = c.in_err-expr.field-0.0 in
    rw same (tree_refused c.args.styles.now c.args.depth c.args.text.now (cause_of errors.0.head) c.in_err-expr.ensures.tree)

pub returns-then-not-is_low-clause-body : goal.returns-then-not-is_low-clause-body
returns-then-not-is_low-clause-body c =
    subst (IsUnread c.args.styles.now c.args.depth c.args.text.now) (sym (ap cause_of c.one-errors.ensures.first))
    (too_high c.args.styles.now c.args.depth c.args.text.now (bare c.in_ok-expr.expr) c.in_ok-expr.ensures.tree (search rules))

pub returns-clause-body : goal.returns-clause-body
returns-clause-body c =
    tree_kept c.args.styles.now c.args.depth c.args.text.now (bare c.in_ok-expr.expr) c.in_ok-expr.ensures.tree (search rules) c.restricted.result c.restricted.ensures

pub returns-clause-offence : goal.returns-clause-offence
returns-clause-offence c =
    offence_told c.args.styles.now c.args.depth c.args.text.now (bare c.in_ok-expr.expr) c.in_ok-expr.ensures.tree (search rules) c.restricted.result c.restricted.ensures

pub returns-clause-calls : goal.returns-clause-calls
returns-clause-calls c =
    kept_calls (bare c.in_ok-expr.expr) c.restricted.result c.restricted.ensures c.in_ok-expr.ensures.calls

pub returns-in_err-expr-clause-shown : goal.returns-in_err-expr-clause-shown
returns-in_err-expr-clause-shown c =
    let same : c.from_residual.result ≡ Err (parse.Parse c.in_err-expr.field-0.0) = search rules in
    rw same c.in_err-expr.ensures.shown

pub returns-then-not-is_low-clause-shown : goal.returns-then-not-is_low-clause-shown
returns-then-not-is_low-clause-shown c = one_tells c.one-errors.result _ _ c.one-errors.ensures.first (λ h. cc) c.one-errors.ensures.alone

pub returns-clause-shown : goal.returns-clause-shown
returns-clause-shown c = kept_tells (bare c.in_ok-expr.expr) c.restricted.result _ c.restricted.ensures
