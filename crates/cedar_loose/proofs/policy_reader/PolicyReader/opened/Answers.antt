-- Nothing was given of the tokens yet; within no nesting nothing is read.
use Rattle.std.proofs.Common.{◌-◌, Result, Err, refl}
use Rattle.std.proofs.lemmas.Result.{err_from_is_err_and}
use Rattle.cedar_grammar.specs.Loose as loose
use Rattle.cedar_grammar.specs.Steps.{is_more}
use Rattle.cedar_grammar.specs.LooseReading.{policy_of, read_policies}
use Rattle.cedar_loose.specs.declared.error.ReadError.{ReadError}
use Rattle.cedar_loose.specs.declared.error.ReadError.TheVariants.{Depth}
use Rattle.cedar_loose.proofs.Limits.{is_refused, no_tokens, policies_zero}
use Rattle.cedar_loose.proofs.Loops.{each_start}
use Rattle.cedar_loose.proofs.policy_reader.PolicyReader.opened.Goals as goal

pub returns-in_err-tokens-clause-refused : goal.returns-in_err-tokens-clause-refused
returns-in_err-tokens-clause-refused c =
    let p = err_from_is_err_and c.from_residual.result c.from_residual.ensures.1 in
    rw p.1 (no_tokens read_policies c.args.depth c.args.text.now c.in_err-tokens.field-0.0 p.0 c.in_err-tokens.ensures.refused p.2)

pub returns-then-depth-eq0-clause-refused : goal.returns-then-depth-eq0-clause-refused
returns-then-depth-eq0-clause-refused c =
    let are = c.in_ok-tokens.ensures.tokens in
    let limits = c.limits_are_met_where_constructs_open.ensures in
    let failed : Result loose.Policies ReadError = Err Depth in
    is_refused read_policies c.args.text.now _ are c.args.depth c.wider_limits_change_nothing.ensures.policies limits.policies (limits.texts c.args.text.now _ are) (λ x. x) failed (rw c.if-depth-eq0.true (policies_zero c.in_ok-tokens.tokens.left))

pub returns-clause-first : goal.returns-clause-first
returns-clause-first c =
    let left = c.new-2.ensures in
    record {
      tokens = c.in_ok-tokens.tokens.left;
      are = c.in_ok-tokens.ensures.tokens;
      within = refl;
      left = rw left (each_start is_more (policy_of (c.args.depth - 1)) c.in_ok-tokens.tokens.left);
    }
