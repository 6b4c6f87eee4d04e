-- A text that is tokens throughout has all of them left in its reader.
use Rattle.std.proofs.Common.{sym, ap, subst}
use Rattle.std.specs.Str.{chars}
use Rattle.cedar_grammar.specs.Tokens.{AreTokens}
use Rattle.cedar_tokens.proofs.Unread.{are_tokens}
use Rattle.cedar_tokens.proofs.reader.Tokens.new.Goals as goal

pub returns-clause-tokens : goal.returns-clause-tokens
returns-clause-tokens c = let cs = chars c.args.text.now in subst (AreTokens cs) (sym (ap (λ u. u.left) c.of.ensures)) (are_tokens cs c.in_ok-check.ensures.readable)
