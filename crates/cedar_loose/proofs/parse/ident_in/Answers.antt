-- As ref_in does: nothing nests in an identifier.
use Rattle.std.proofs.lemmas.Result.{err_from_is_err_and}
use Rattle.cedar_cst.specs.LeafView.{shown_ident}
use Rattle.cedar_grammar.specs.LooseReading.{read_ident}
use Rattle.cedar_loose.specs.Texts.{flat}
use Rattle.cedar_loose.proofs.Limits.{is_read, is_outside, no_tokens_outside, ident_never}
use Rattle.cedar_loose.proofs.parse.ident_in.Goals as goal

pub returns-clause-read : goal.returns-clause-read
returns-clause-read c = is_read (flat read_ident) c.args.text.now _ c.in_ok-tokens.ensures.tokens shown_ident 0 c.ident_of.result c.ident_of.ensures

pub returns-clause-refused : goal.returns-clause-refused
returns-clause-refused c = is_outside read_ident c.args.text.now _ c.in_ok-tokens.ensures.tokens (ident_never _) shown_ident c.ident_of.result c.ident_of.ensures

pub returns-in_err-tokens-clause-refused : goal.returns-in_err-tokens-clause-refused
returns-in_err-tokens-clause-refused c =
    let p = err_from_is_err_and c.from_residual.result c.from_residual.ensures.1 in
    rw p.1 (no_tokens_outside (flat read_ident) c.args.text.now c.in_err-tokens.field-0.0 p.0 c.in_err-tokens.ensures.refused p.2)
