-- As policies_in does, by what the laws of limits say of primaries.
use Rattle.std.proofs.lemmas.Result.{err_from_is_err_and}
use Rattle.cedar_cst.specs.View.{shown_primary}
use Rattle.cedar_grammar.specs.LooseReading.{read_primary}
use Rattle.cedar_loose.proofs.Limits.{is_read, is_refused, no_tokens}
use Rattle.cedar_loose.proofs.parse.primary_in.Goals as goal

pub returns-clause-read : goal.returns-clause-read
returns-clause-read c = is_read read_primary c.args.text.now _ c.in_ok-tokens.ensures.tokens shown_primary c.args.depth c.primary_of.result c.primary_of.ensures

pub returns-clause-refused : goal.returns-clause-refused
returns-clause-refused c =
    let are = c.in_ok-tokens.ensures.tokens in
    is_refused read_primary c.args.text.now _ are c.args.depth c.wider_limits_change_nothing.ensures.primaries c.limits_are_met_where_constructs_open.ensures.primaries (c.limits_are_met_where_constructs_open.ensures.texts c.args.text.now _ are) shown_primary c.primary_of.result c.primary_of.ensures

pub returns-in_err-tokens-clause-refused : goal.returns-in_err-tokens-clause-refused
returns-in_err-tokens-clause-refused c =
    let p = err_from_is_err_and c.from_residual.result c.from_residual.ensures.1 in
    rw p.1 (no_tokens read_primary c.args.depth c.args.text.now c.in_err-tokens.field-0.0 p.0 c.in_err-tokens.ensures.refused p.2)
