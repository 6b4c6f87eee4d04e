-- Only the spellings `when` and `unless` begin a clause; any other is no beginning.
use Rattle.std.proofs.Common.{sym}
use Rattle.cedar_policy_conversion.proofs.Words.{no_clause_word}
use Rattle.cedar_policy_conversion.proofs.clauses.clause_word_named.Goals as goal

pub returns-in_default : goal.returns-in_default
returns-in_default c = sym (no_clause_word c.args.text.now c.in_default.not-when c.in_default.not-unless)
