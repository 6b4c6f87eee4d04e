-- The bytes tell whether a quote closes the string, and where.
use Rattle.std.proofs.Common.{◌≡◌, ◌<◌, ◌≤◌, length, get_or, arith}
use Rattle.cedar_grammar.specs.Tokens.{quote, line_feed}
use Rattle.cedar_data.proofs.Insides.{never_closed, closed_at, fed, quoted, ended}
use Rattle.cedar_data.proofs.quoted.inside_length.Goals as goal

pub returns-then-byte-eq10-clause-open : goal.returns-then-byte-eq10-clause-open
returns-then-byte-eq10-clause-open c =
    let bs = c.args.text.now in
    let within : c.loop-i.i < length bs = grind arith in
    let feed : get_or bs c.loop-i.i 0 ≡ line_feed = grind arith in
    never_closed bs c.utf8.text (fed bs c.loop-i.i c.loop-i.is_escaped c.loop-i.invariant within c.if-is_escaped.true feed)

pub returns-then-byte-eq34-clause-closed : goal.returns-then-byte-eq34-clause-closed
returns-then-byte-eq34-clause-closed c =
    let bs = c.args.text.now in
    let within : c.loop-i.i < length bs = grind arith in
    let closing : get_or bs c.loop-i.i 0 ≡ quote = grind arith in
    closed_at bs c.loop-i.i c.utf8.text (quoted bs c.loop-i.i c.loop-i.is_escaped c.loop-i.invariant within c.if-is_escaped.false closing)

pub returns-clause-open : goal.returns-clause-open
returns-clause-open c =
    let bs = c.args.text.now in
    let past : length bs ≤ c.loop-i.i = grind arith in
    never_closed bs c.utf8.text (ended bs c.loop-i.i c.loop-i.is_escaped c.loop-i.invariant past)
