-- Within no nesting nothing is read; else policies are read a level further in, and no token may be left.
use Rattle.std.proofs.Common.{◌-◌, Ok, map, sym, ap, ◌∙◌}
use Rattle.std.proofs.lemmas.Result.{err_from_is_err_and}
use Rattle.cedar_grammar.specs.Steps.{is_more}
use Rattle.cedar_grammar.specs.Loose as loose
use Rattle.cedar_grammar.specs.LooseReading.{◌>>◌, mapped, whole, each_of, policy_of, read_policies}
use Rattle.cedar_cst.specs.View.{shown_policy, view_policies}
use Rattle.cedar_cst.proofs.Views.{seen}
use Rattle.cedar_loose.proofs.Loops.{first_fails, mapped_fails}
use Rattle.cedar_loose.proofs.Cases.{fails_as}
use Rattle.cedar_loose.proofs.Limits.{all_read, not_all_read, policies_within, policies_zero}
use Rattle.cedar_loose.proofs.parse.policies_of.Goals as goal

pub returns-in_err-parts : goal.returns-in_err-parts
returns-in_err-parts c =
    let p = err_from_is_err_and c.from_residual.result c.from_residual.ensures.1 in
    rw (p.1, p.2, sym c.new-cursor.ensures) (fails_as c.in_err-parts.field-0.0 (read_policies c.args.depth c.new-cursor.result) ((mapped loose.policies (each_of is_more (policy_of (c.args.depth - 1)) c.new-cursor.result)) >> whole) (policies_within c.args.depth c.if-depth-eq0.false c.new-cursor.result) (first_fails c.in_err-parts.field-0.0 (mapped loose.policies (each_of is_more (policy_of (c.args.depth - 1)) c.new-cursor.result)) whole (mapped_fails c.in_err-parts.field-0.0 (each_of is_more (policy_of (c.args.depth - 1)) c.new-cursor.result) loose.policies c.in_err-parts.ensures)))

pub returns-in_err-finish : goal.returns-in_err-finish
returns-in_err-finish c =
    let p = err_from_is_err_and c.from_residual-in_err-finish.result c.from_residual-in_err-finish.ensures.1 in
    rw (p.1, p.2, sym c.new-cursor.ensures) (fails_as c.in_err-finish.field-0.0 (read_policies c.args.depth c.new-cursor.result) ((mapped loose.policies (each_of is_more (policy_of (c.args.depth - 1)) c.new-cursor.result)) >> whole) (policies_within c.args.depth c.if-depth-eq0.false c.new-cursor.result) (not_all_read (mapped loose.policies (each_of is_more (policy_of (c.args.depth - 1)) c.new-cursor.result)) (loose.policies (map shown_policy c.in_ok-parts.parts.items)) c.policies.new.cursor (ap (mapped loose.policies) c.in_ok-parts.ensures) c.in_err-finish.field-0.0 c.in_err-finish.ensures))

pub returns : goal.returns
returns c = rw (sym c.new-cursor.ensures) (policies_within c.args.depth c.if-depth-eq0.false c.new-cursor.result ∙ all_read (mapped loose.policies (each_of is_more (policy_of (c.args.depth - 1)) c.new-cursor.result)) (loose.policies (map shown_policy c.in_ok-parts.parts.items)) c.policies.new.cursor (ap (mapped loose.policies) c.in_ok-parts.ensures) c.in_ok-finish.ensures ∙ ap (λ x. Ok x) (sym (seen loose.missing_policies view_policies c.in_ok-node.field-0 _ c.in_ok-node.ensures)))

pub returns-then-depth-eq0 : goal.returns-then-depth-eq0
returns-then-depth-eq0 c = rw c.if-depth-eq0.true (policies_zero c.args.tokens.left)
