-- White space in front changes no token.
use Rattle.std.proofs.Common.{sym, subst}
use Rattle.cedar_data.specs.Takes.{Skips}
use Rattle.cedar_data.proofs.Tokens.{skips}
use Rattle.cedar_data.proofs.texts.skip_blank.Goals as goal

pub returns : goal.returns
returns c = subst (Skips c.args.text.now) (sym c.split_run.ensures.back) (skips c.args.text.now c.utf8.text)
