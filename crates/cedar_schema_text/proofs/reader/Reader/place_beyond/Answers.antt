-- At each token either more than the limit are open, or nowhere so far.
use Rattle.std.proofs.Common.{◌+◌}
use Rattle.cedar_schema_text.specs.View.{kind_view}
use Rattle.cedar_schema_text.specs.Gives.{left}
use Rattle.cedar_schema_text.proofs.Nested.{gone_none, goes_on, goes_beyond}
use Rattle.cedar_schema_text.proofs.Positions.{fewer_next, next_left}
use Rattle.cedar_schema_text.proofs.reader.Reader.place_beyond.Goals as goal

pub tokens-init : goal.tokens-init
tokens-init c = gone_none c.args.limit (left c.args.self.now 0)

pub tokens-preserved : goal.tokens-preserved
tokens-preserved c =
    goes_on c.args.limit (left c.args.self.now 0) (left c.args.self.now c.tokens.at) (kind_view c.in-Some.kind) (left c.args.self.now (c.tokens.at + 1)) (next_left c.args.self.now c.tokens.at (kind_view c.in-Some.kind) c.in-Some.ensures) c.tokens.count c.open_behind-count.result
    c.tokens.invariant c.open_behind-count.ensures c.if-count-limit.false

pub returns-then-count-limit : goal.returns-then-count-limit
returns-then-count-limit c =
    goes_beyond c.args.limit (left c.args.self.now 0) (left c.args.self.now c.tokens.at) (kind_view c.in-Some.kind) (left c.args.self.now (c.tokens.at + 1)) (next_left c.args.self.now c.tokens.at (kind_view c.in-Some.kind) c.in-Some.ensures) c.tokens.count c.open_behind-count.result
    c.tokens.invariant c.open_behind-count.ensures c.if-count-limit.true

pub tokens-smaller : goal.tokens-smaller
tokens-smaller c = fewer_next c.args.self.now c.tokens.at (kind_view c.in-Some.kind) (left c.args.self.now (c.tokens.at + 1)) (next_left c.args.self.now c.tokens.at (kind_view c.in-Some.kind) c.in-Some.ensures)
