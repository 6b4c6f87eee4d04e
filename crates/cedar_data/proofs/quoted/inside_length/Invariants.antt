-- The closing quote is so many bytes further behind those that were passed.
use Rattle.std.proofs.Common.{◌≡◌, false, drop}
use Rattle.cedar_data.proofs.Insides.{quote_at, further}
use Rattle.cedar_data.proofs.quoted.inside_length.Given as goal

abbrev pub invariant-loop-i : goal.invariant-loop-i
invariant-loop-i l = quote_at false l.text ≡ further l.i (quote_at l.is_escaped (drop l.i l.text))
